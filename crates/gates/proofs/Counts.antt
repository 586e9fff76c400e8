-- Counting the true inputs gives what each kind's rule says.
use Rattle.std.proofs.Common.{◌≡◌, ℕ, zero, suc, ◌+◌, ◌%◌, ◌<◌, ◌≤◌, Bool, true, false, cond, not, ◌&&◌, ◌||◌, eqb, ltb, List, [], ◌∷◌, length, sym, refl, ap, ◌∙◌, arith, lt-ltb, ne_eqb}
use Rattle.std.proofs.Math.Bool.{xor}
use Rattle.std.specs.List.{list_any, list_all, count_by}
use Rattle.std.proofs.lemmas.Bool.Decides.{nat_tests}
use Rattle.std.proofs.lemmas.List.Sums.{count_by-le-length, sum_by-cons}
use Rattle.ways.specs.Ways.{oddly}
use Rattle.tables.specs.Literal.{var, holds}
use Rattle.rules.specs.Kinds.{rule}
use Rattle.gates.specs.Counting.{counts, by_count}

all_step : (b : Bool) (n m : ℕ) → n ≤ m → (b && eqb n m) ≡ eqb (cond b 1 0 + n) (suc m)
all_step true n m h = grind (arith, nat_tests)
all_step false n m h = sym (ne_eqb (0 + n) (suc m) (λ e. omega arith))

any_step : (b : Bool) (n : ℕ) → (b || ltb 0 n) ≡ ltb 0 (cond b 1 0 + n)
any_step true n = grind (arith, nat_tests)
any_step false n = grind (arith, nat_tests)

none_step : (n : ℕ) → not (ltb 0 n) ≡ eqb n 0
none_step zero = refl
none_step (suc n) = ap not (lt-ltb 0 (suc n) (omega arith)) ∙ sym (ne_eqb (suc n) 0 (λ e. omega arith))

odd_step : (b : Bool) (n : ℕ) → xor b (eqb (n % 2) 1) ≡ eqb ((cond b 1 0 + n) % 2) 1
unfolding xor
odd_step true n = grind (arith, nat_tests)
odd_step false n = grind (arith, nat_tests)

module _ {X : Type 0} (p : X → Bool) where
  pub all_count : (xs : List X) → list_all p xs ≡ eqb (count_by p xs) (length xs)
  all_count [] = refl
  all_count (x ∷ xs) = rw (all_count xs, sum_by-cons (λ y. cond (p y) 1 0) x xs) (all_step (p x) (count_by p xs) (length xs) (count_by-le-length p xs))

  pub any_count : (xs : List X) → list_any p xs ≡ ltb 0 (count_by p xs)
  any_count [] = refl
  any_count (x ∷ xs) = rw (any_count xs, sum_by-cons (λ y. cond (p y) 1 0) x xs) (any_step (p x) (count_by p xs))

  pub odd_count : (xs : List X) → oddly p xs ≡ eqb (count_by p xs % 2) 1
  odd_count [] = refl
  odd_count (x ∷ xs) = rw (odd_count xs, sum_by-cons (λ y. cond (p y) 1 0) x xs) (odd_step (p x) (count_by p xs))

module _ (a : ℕ → Bool) (ls : List ℕ) where
  pub counted : (k : ℕ) → k < 8 → by_count k (count_by (counts k a) ls) (length ls) ≡ rule k a ls
  unfolding by_count rule
  counted zero h = sym (all_count (λ l. a (var l)) ls)
  counted (suc zero) h = sym (ap not (any_count (λ l. a (var l)) ls) ∙ none_step (count_by (λ l. a (var l)) ls))
  counted (suc (suc zero)) h = sym (all_count (holds a) ls)
  counted (suc (suc (suc zero))) h = sym (any_count (λ l. a (var l)) ls)
  counted (suc (suc (suc (suc zero)))) h = sym (ap not (all_count (λ l. a (var l)) ls))
  counted (suc (suc (suc (suc (suc zero))))) h = sym (any_count (holds a) ls)
  counted (suc (suc (suc (suc (suc (suc zero)))))) h = sym (odd_count (λ l. a (var l)) ls)
  counted (suc (suc (suc (suc (suc (suc (suc zero))))))) h = sym (ap not (odd_count (λ l. a (var l)) ls))
  counted (suc (suc (suc (suc (suc (suc (suc (suc k)))))))) h = absurd (omega arith)
