-- Laws of the look-up: behind the last clause there is none.
use Rattle.std.proofs.Common.{◌≡◌, refl, ℕ, zero, suc, ◌+◌, ◌-◌, ◌<◌, ◌≤◌, List, [], arith, sym, ◌∙◌, add_assoc, length, drop, drop-drop, ℤ}
use Rattle.tables.specs.LookUp.{clause_length, start_of}
use Rattle.std.proofs.Common.{zero-add}
use Rattle.std.proofs.Math.ListN.{drop_of_length-le}

start_of_nil : (k : ℕ) → start_of k [] ≡ 0
unfolding start_of clause_length
start_of_nil zero = refl
start_of_nil (suc k) = simp zero-add (start_of_nil k)

pub start_of_end : (k i : ℕ) (t : List ℤ) → length t ≤ i → start_of k (drop i t) ≡ 0
start_of_end k i t h = rw (drop_of_length-le t h) (start_of_nil k)

-- One clause more, of length r, is passed.
pub start_of_turn : (k i s r : ℕ) (t : List ℤ) → i < k → r ≡ clause_length (drop s t) → start_of k t ≡ s + start_of (k - i) (drop s t)
    → start_of k t ≡ s + r + start_of (k - (i + 1)) (drop (s + r) t)
unfolding start_of
start_of_turn k i s r t h e f =
    let more : k - i ≡ suc (k - (i + 1)) = omega arith in
    f ∙ rw (more, ← e, drop-drop r s t) (sym (add_assoc s r _))
