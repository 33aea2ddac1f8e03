-- What the tool calls things.
--
--   kind_name k         the name of the kind of keys k
--   complaint_text c    what is said of a line that has c wrong with it
use Rattle.std.specs.Prelude.{ℕ, List, codes}
use Rattle.pix.specs.declared.complaint.Complaint.{Complaint}
use Rattle.pix.specs.declared.complaint.Complaint.TheVariants.{UnknownCommand, NoCard, BadNumber, BadKey, NoSuchBlock, NoSuchByte, NoMarks, NoPoke, CannotOpen, CannotSave}
use Rattle.pix.specs.declared.kind.KeyKind.{KeyKind}
use Rattle.pix.specs.declared.kind.KeyKind.TheVariants.{Lot, Moment, Name}

abbrev pub kind_name : KeyKind → List ℕ
kind_name Lot = codes "lot"
kind_name Moment = codes "moment"
kind_name Name = codes "name"

abbrev pub complaint_text : Complaint → List ℕ
complaint_text UnknownCommand = codes "unknown command"
complaint_text NoCard = codes "no card"
complaint_text BadNumber = codes "bad number"
complaint_text BadKey = codes "bad key"
complaint_text NoSuchBlock = codes "no such block"
complaint_text NoSuchByte = codes "no such byte"
complaint_text NoMarks = codes "no marks"
complaint_text NoPoke = codes "no poke"
complaint_text CannotOpen = codes "cannot open"
complaint_text CannotSave = codes "cannot save"
