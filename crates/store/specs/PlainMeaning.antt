-- What the plain store means, and what its own calls change.
--
--   marked_by x b         the mark of block b whose mark byte is x
--   view c n xs ms t      c blocks of n bytes that lie one after another in xs, the mark bytes ms, t reads
--   plain s               the meaning of the plain store s
--   made xs ms n          what is made of the bytes xs, the mark bytes ms and the block length n
--   absent m b            the fault of naming block b
--   outside m b at n      the fault of naming n bytes of block b from `at` on
--   remarked m b o        m with the mark o on block b
--   refilled m b xs       m with xs as the contents of block b; its mark stays
--   patched m b at xs     m with xs in block b from `at` on; its mark stays
use Rattle.std.specs.Prelude.{ℕ, ◌+◌, ◌*◌, ◌/◌, min, cond, ◌&&◌, List, length, take, drop, Some, None, vec_items, Option, ◌==◌, nat_le, nat_lt, slice_index}
use Rattle.store.specs.declared.fault.Cause.TheVariants.{NoSuchBlock, WrongBuffer, BadBlock}
use Rattle.store.specs.declared.fault.Fault.{Fault}
use Rattle.store.specs.declared.plain.PlainStore.{PlainStore}
use Rattle.store.specs.Bytes.{overlaid}
use Rattle.store.specs.Faults.{fault}
use Rattle.store.specs.Meaning.{Meaning}

abbrev pub marked_by : ℕ → ℕ → Option Fault
marked_by x b = cond (x == 0) None (Some (fault BadBlock b))

abbrev pub view : ℕ → ℕ → List ℕ → List ℕ → ℕ → Meaning
view c n xs ms t = record {
  count = c;
  size = n;
  contents = λ b. take n (drop (b * n) xs);
  mark = λ b. marked_by (slice_index ms b) b;
  tally = t;
}

abbrev pub plain : PlainStore → Meaning
plain s = view s.count s.size (vec_items s.bytes) (vec_items s.marks) s.tally

-- a block length outside 16 to 512 makes no blocks
abbrev pub made : List ℕ → List ℕ → ℕ → Meaning
made xs ms n =
    cond (nat_le 16 n && nat_le n 512) (view (min (min (length xs / n) (length ms)) 1024) n xs ms 0) (view 0 0 xs ms 0)

abbrev pub absent : Meaning → ℕ → Option Fault
absent m b = cond (nat_lt b m.count) None (Some (fault NoSuchBlock b))

abbrev pub outside : Meaning → ℕ → ℕ → ℕ → Option Fault
outside m b at n =
    cond (nat_lt b m.count) (cond (nat_le (at + n) m.size) None (Some (fault WrongBuffer b))) (Some (fault NoSuchBlock b))

abbrev pub remarked : Meaning → ℕ → Option Fault → Meaning
remarked m b o = record {
  count = m.count;
  size = m.size;
  contents = m.contents;
  mark = λ k. cond (k == b) o (m.mark k);
  tally = m.tally;
}

abbrev pub refilled : Meaning → ℕ → List ℕ → Meaning
refilled m b xs = record {
  count = m.count;
  size = m.size;
  contents = λ k. cond (k == b) xs (m.contents k);
  mark = m.mark;
  tally = m.tally;
}

abbrev pub patched : Meaning → ℕ → ℕ → List ℕ → Meaning
patched m b at xs = refilled m b (overlaid (m.contents b) at xs)
