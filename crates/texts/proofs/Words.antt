-- The words of written text: a literal's number, written with its sign, is solid and is read back.
use Prim.Native.Nat.{ℕ, ◌+◌, ◌*◌, ◌^◌, ◌≤◌, ◌<◌}
use mathlib.Core.Path.{◌≡◌, refl, sym, ap, ◌∙◌}
use mathlib.Core.Bool.{true}
use mathlib.Core.List.{List, ◌∷◌}
use mathlib.Core.Logic.{⊎_elim}
use native.Mathlib.Omega.{arith}
use lib.ListN.{length, get_or}
use borrow.Author.Tests.{ne_eqb}
use Rattle.std.specs.Prelude.{Some}
use Rattle.std.specs.List.{list_all}
use Rattle.std.specs.Option.{option_and_then}
use Rattle.std.proofs.lemmas.Bool.{and_from}
use Rattle.tables.specs.Literal.{var, neg}
use Rattle.tables.proofs.Literals.{neg_pos, neg-neg, two_forms}
use Rattle.texts.specs.Bytes.{blank, solid}
use Rattle.texts.specs.Numbers.{natural, plain, minus, number}
use Rattle.texts.specs.Decimal.{decimal, signed}
use Rattle.texts.proofs.Digits.{digits_first, decimal_right, decimal_pass, natural-decimal}

-- Bytes from 33 on are solid.
solid_high : (b : ℕ) → 33 ≤ b → solid b ≡ true
unfolding solid blank
solid_high b h = rw (ne_eqb b 32 (λ p. omega arith), ne_eqb b 9 (λ p. omega arith), ne_eqb b 13 (λ p. omega arith), ne_eqb b 10 (λ p. omega arith))

pub solid_decimal : (v : ℕ) → list_all solid (decimal v) ≡ true
solid_decimal v = decimal_pass solid (λ b h. solid_high b (omega arith)) v

pub some_decimal : (v : ℕ) → 1 ≤ length (decimal v)
some_decimal v = (decimal_right v).some

-- A literal's word.
signed_pos : (l : ℕ) → l ≡ 2 * var l → signed l ≡ decimal (var l)
unfolding signed
signed_pos l e = rw (signed, ap neg e ∙ neg_pos (var l))

signed-neg : (l : ℕ) → l ≡ 2 * var l + 1 → signed l ≡ 45 ∷ decimal (var l)
unfolding signed
signed-neg l e = rw (signed, ap neg e ∙ neg-neg (var l))

pub solid_signed : (l : ℕ) → list_all solid (signed l) ≡ true
solid_signed l = ⊎_elim
    (λ p. rw (signed_pos l p.0) (solid_decimal (var l)))
    (λ p. rw (signed-neg l p.0) (and_from (solid 45) (list_all solid (decimal (var l))) (solid_high 45 (omega arith)) (solid_decimal (var l))))
    (two_forms l)

pub some_signed : (l : ℕ) → 1 ≤ length (signed l)
some_signed l = ⊎_elim (λ p. rw (signed_pos l p.0) (some_decimal (var l))) (λ p. rw (signed-neg l p.0) (omega arith)) (two_forms l)

-- It is read back, where its variable has at most 9 digits and it is not 1, the number of "-0".
number_plain : (bs : List ℕ) → (get_or bs 0 0 ≡ 45 → ⊥) → number bs ≡ plain (natural bs)
unfolding number
number_plain bs h = rw (number, ne_eqb (get_or bs 0 0) 45 h)

number-minus : (bs : List ℕ) → number (45 ∷ bs) ≡ minus (natural bs)
unfolding number
number-minus bs = refl

minus_some : (v : ℕ) → (v ≡ 0 → ⊥) → minus (Some v) ≡ Some (2 * v + 1)
unfolding minus
minus_some v h = rw (option_and_then, ne_eqb v 0 h)

no-minus : (v : ℕ) → get_or (decimal v) 0 0 ≡ 45 → ⊥
no-minus v e = let h = digits_first 0 v (decimal v) (some_decimal v) (decimal_right v).says in omega arith

pub number-signed : (l : ℕ) → var l < 10 ^ 9 → (l ≡ 1 → ⊥) → number (signed l) ≡ Some l
unfolding plain
number-signed l h n = ⊎_elim
    (λ p. rw (signed_pos l p.0, number_plain (decimal (var l)) (no-minus (var l)), natural-decimal (var l) h) (ap (λ (k : ℕ). Some k) (sym p.0)))
    (λ p. rw (signed-neg l p.0, number-minus (decimal (var l)), natural-decimal (var l) h, minus_some (var l) (λ z. n (p.0 ∙ ap (λ k. 2 * k + 1) z))) (ap (λ (k : ℕ). Some k) (sym p.0)))
    (two_forms l)
