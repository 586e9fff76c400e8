-- Decimal digits, one after another from the last.
use Rattle.std.proofs.Common.{◌≡◌, refl, sym, ap, ◌∙◌, ℕ, zero, suc, ◌+◌, ◌-◌, ◌/◌, ◌%◌, ◌^◌, ◌<◌, ◌≤◌, Bool, true, false, List, [], ◌∷◌, ◌++◌, length, drop, set, ltb, arith, append_assoc, length-append}
use borrow.Author.Tests.{lt-ltb, le-ltb, ltb-true, ltb-false}
use Rattle.std.proofs.lemmas.List.{drop-set}
use Rattle.std.proofs.lemmas.Grind.{pow_more}
use Rattle.texts.specs.Decimal.{digits_of, decimal}

-- A number below 10 is one digit, and v digits are enough for every other.
one_digit : (f v : ℕ) → v < 10 → digits_of f v ≡ (48 + v) ∷ []
unfolding digits_of
one_digit zero v h = refl
one_digit (suc f) v h = rw (digits_of, lt-ltb v 10 h)

enough : (f g v : ℕ) → v ≤ f → v ≤ g → digits_of f v ≡ digits_of g v
unfolding digits_of
enough zero g v h k = sym (one_digit g v (omega arith))
enough (suc f) zero v h k = one_digit (suc f) v (omega arith)
enough (suc f) (suc g) v h k = go (ltb v 10) refl (enough f g (v / 10))
  where
    go : (b : Bool) → ltb v 10 ≡ b → (v / 10 ≤ f → v / 10 ≤ g → digits_of f (v / 10) ≡ digits_of g (v / 10))
        → digits_of (suc f) v ≡ digits_of (suc g) v
    go true q e = rw (digits_of, q)
    go false q e = let l = ltb-false v 10 q in rw (digits_of, q) (ap (λ ds. ds ++ ((48 + v % 10) ∷ [])) (e (omega arith) (omega arith)))

step : (v : ℕ) → 10 ≤ v → decimal v ≡ decimal (v / 10) ++ ((48 + v % 10) ∷ [])
unfolding decimal digits_of
step zero h = absurd (omega arith)
step (suc v) h = rw (digits_of, le-ltb (suc v) 10 h) (ap (λ ds. ds ++ ((48 + suc v % 10) ∷ [])) (enough v (suc v / 10) (suc v / 10) (omega arith) (omega arith)))

-- A digit written in front of others.
digit_put : (d i : ℕ) (digits : List ℕ) → 1 ≤ i → i ≤ length digits → drop (i - 1) (set digits (i - 1) d) ≡ d ∷ drop i digits
digit_put d i digits h k = let e : i - 1 + 1 ≡ i = omega arith in rw (drop-set digits (i - 1) d (omega arith), e)

pub decimal_one : (v i : ℕ) (digits : List ℕ) → v < 10 → 1 ≤ i → i ≤ length digits
    → drop (i - 1) (set digits (i - 1) (48 + v)) ≡ decimal v ++ drop i digits
unfolding decimal
decimal_one v i digits h j k = digit_put (48 + v) i digits j k ∙ rw (one_digit v v h) refl

pub decimal_more : (v i : ℕ) (digits : List ℕ) → 10 ≤ v → 1 ≤ i → i ≤ length digits
    → decimal v ++ drop i digits ≡ decimal (v / 10) ++ drop (i - 1) (set digits (i - 1) (48 + v % 10))
decimal_more v i digits h j k = rw (digit_put (48 + v % 10) i digits j k, step v h) (append_assoc (decimal (v / 10)) ((48 + v % 10) ∷ []) (drop i digits))

pub tenth_fits : (v i : ℕ) → 1 ≤ i → v < 10 ^ i → v / 10 < 10 ^ (i - 1)
tenth_fits v i h k = let e : i - 1 + 1 ≡ i = omega arith in let l : v < 10 ^ (i - 1 + 1) = rw e k in omega (arith, pow_more 10 (i - 1))

pub two_left : (v i : ℕ) → 10 ≤ v → v < 10 ^ i → 2 ≤ i
two_left v zero h k = absurd (omega arith)
two_left v (suc zero) h k = absurd (omega arith)
two_left v (suc (suc i)) h k = omega arith

-- So many digits has a number below that power of ten.
pub decimal_few : (k v : ℕ) → v < 10 ^ suc k → length (decimal v) ≤ suc k
unfolding decimal
decimal_few zero v h = let e : decimal v ≡ (48 + v) ∷ [] = one_digit v v (omega arith) in rw e (omega arith)
decimal_few (suc k) v h = go (ltb v 10) refl (decimal_few k (v / 10))
  where
    go : (b : Bool) → ltb v 10 ≡ b → (v / 10 < 10 ^ suc k → length (decimal (v / 10)) ≤ suc k) → length (decimal v) ≤ suc (suc k)
    go true q more = let e : decimal v ≡ (48 + v) ∷ [] = one_digit v v (ltb-true v 10 q) in rw e (omega arith)
    go false q more =
        let one : suc (suc k) - 1 ≡ suc k = omega arith in
        let fits : v / 10 < 10 ^ suc k = rw one at (tenth_fits v (suc (suc k)) (omega arith) h) in
        rw (step v (ltb-false v 10 q)) (omega (arith, length-append (decimal (v / 10)) ((48 + v % 10) ∷ []), more fits))
