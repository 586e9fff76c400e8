-- What the test of an entry against zero says.
use Rattle.std.proofs.Common.{◌≡◌, ◌∙◌, sym, ap, ℤ, pos, SFits, w32, to_z, of_z}
use Rattle.std.proofs.lemmas.Int.{to_z-of_z}

pub is_end : (z : ℤ) → SFits w32 z → of_z w32 z ≡ 0 → z ≡ pos 0
is_end z f e = sym (to_z-of_z w32 z f) ∙ ap (to_z w32) e

pub no_end : (z : ℤ) → (of_z w32 z ≡ 0 → ⊥) → z ≡ pos 0 → ⊥
no_end z h e = h (ap (of_z w32) e)
