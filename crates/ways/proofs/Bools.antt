-- Laws of tests that are joined by "and" and "or", beside those of the library.
use Rattle.std.proofs.Common.{◌≡◌, Bool, true, false, ◌&&◌, refl, true≢false}
use Rattle.std.proofs.lemmas.Bool.Decides.{same_from_decides}

pub clash_of : {A : Type 0} → true ≡ false → A
clash_of e = absurd (true≢false e)

-- A second test that follows from the first adds nothing to it.
pub and_idle : (p q : Bool) → (p ≡ true → q ≡ true) → (p && q) ≡ p
and_idle true q f = f refl
and_idle false q f = refl

-- Two tests that follow from each other are equal.
pub agree : (p q : Bool) → (p ≡ true → q ≡ true) → (q ≡ true → p ≡ true) → p ≡ q
agree p q f g = same_from_decides p q (f, g) (λ e. e, λ e. e)
