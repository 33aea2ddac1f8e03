-- When two meanings are the same.
use Rattle.std.proofs.Common.{◌≡◌, ℕ}
use Rattle.store.specs.Meaning.{Meaning}

pub same_meaning : (m n : Meaning) → m.count ≡ n.count → m.size ≡ n.size
    → ((k : ℕ) → m.contents k ≡ n.contents k) → ((k : ℕ) → m.mark k ≡ n.mark k) → m.tally ≡ n.tally → m ≡ n
same_meaning m n a b c d e = λ i. record { count = a i; size = b i; contents = λ k. c k i; mark = λ k. d k i; tally = e i }
