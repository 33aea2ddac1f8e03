-- Refusals.
--
--   rule_number r   the number of a rule, 1 to 10
--   numbered r      the number of a refusal, 1 to 11
--   refusal_shown r the text of a refusal: its number, and what it carries
--   before_entries r the refusal r of a range, before its first entry
use Rattle.std.specs.Prelude.{ℕ, List, ◌++◌, codes, decimal}
use Rattle.store.specs.Faults.{fault_shown}
use Rattle.tree.specs.declared.rule.Rule.{Rule}
use Rattle.tree.specs.declared.rule.Rule.TheVariants.{HeadNumbers, Tag, Count, Keys, Links, Bounds, MetOnce, Chain, FreeList, KeyCount}
use Rattle.tree.specs.declared.refusal.RangeRefusal.{RangeRefusal}
use Rattle.tree.specs.declared.refusal.Refusal.{Refusal}
use Rattle.tree.specs.declared.refusal.Refusal.TheVariants.{Unfit, Crossed, ShortList, Unreadable, NoLetters, OtherVersion, OtherKind, Broken, KeyThere, KeyAbsent, NoRoom}

abbrev pub rule_number : Rule → ℕ
rule_number HeadNumbers = 1
rule_number Tag = 2
rule_number Count = 3
rule_number Keys = 4
rule_number Links = 5
rule_number Bounds = 6
rule_number MetOnce = 7
rule_number Chain = 8
rule_number FreeList = 9
rule_number KeyCount = 10

abbrev pub numbered : Refusal → ℕ
numbered Unfit = 1
numbered Crossed = 2
numbered ShortList = 3
numbered (Unreadable f) = 4
numbered NoLetters = 5
numbered OtherVersion = 6
numbered OtherKind = 7
numbered (Broken r b) = 8
numbered KeyThere = 9
numbered KeyAbsent = 10
numbered NoRoom = 11

abbrev pub refusal_shown : Refusal → List ℕ
refusal_shown Unfit = decimal 1
refusal_shown Crossed = decimal 2
refusal_shown ShortList = decimal 3
refusal_shown (Unreadable f) = decimal 4 ++ (codes " " ++ fault_shown f)
refusal_shown NoLetters = decimal 5
refusal_shown OtherVersion = decimal 6
refusal_shown OtherKind = decimal 7
refusal_shown (Broken r b) = decimal 8 ++ (codes " rule=" ++ (decimal (rule_number r) ++ (codes " block=" ++ decimal b)))
refusal_shown KeyThere = decimal 9
refusal_shown KeyAbsent = decimal 10
refusal_shown NoRoom = decimal 11

abbrev pub before_entries : Refusal → RangeRefusal
before_entries r = record { refusal = r; entries = 0 }
