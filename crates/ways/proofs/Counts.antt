-- Counting what passes a test.
use Rattle.std.proofs.Common.{◌≡◌, ℕ, ◌<◌, ◌≤◌, Bool, true, false, not, eqb, List, [], ◌∷◌, length, filter, sym, refl, ap, arith, ne_eqb}
use mathlib.Core.List.Memᴰ
use mathlib.Core.List.{Memᴰ}
use Rattle.std.proofs.lemmas.Bool.{false_from_ne_true}

module _ {X : Type 0} (p : X → Bool) where
  -- A test that nothing passes keeps nothing, and a test that all pass keeps all.
  pub filter_none : (xs : List X) → ((x : X) → Memᴰ x xs → p x ≡ true → ⊥) → filter p xs ≡ []
  filter_none [] h = refl
  filter_none (x ∷ xs) h = rw (false_from_ne_true (p x) (h x (Memᴰ.head refl))) (filter_none xs (λ y i. h y (Memᴰ.tail i)))

  pub filter_all : (xs : List X) → ((x : X) → Memᴰ x xs → p x ≡ true) → filter p xs ≡ xs
  filter_all [] h = refl
  filter_all (x ∷ xs) h = rw (h x (Memᴰ.head refl), filter_all xs (λ y i. h y (Memᴰ.tail i)))

-- Without a number that does not stand in it a row is as it was.
pub filter_other : (xs : List ℕ) (o : ℕ) → (Memᴰ o xs → ⊥) → filter (λ x. not (eqb x o)) xs ≡ xs
filter_other xs o h = filter_all (λ x. not (eqb x o)) xs (λ x i. ap not (ne_eqb x o (λ e. h (Memᴰ.cast (sym e) i))))

-- A test that passes less counts less.
module _ {X : Type 0} (p q : X → Bool) (less : (x : X) → q x ≡ true → p x ≡ true) where
  pub count_le : (xs : List X) → length (filter q xs) ≤ length (filter p xs)
  count_le [] = omega arith
  count_le (x ∷ xs) = grind (arith, count_le xs, less x)

  pub count_less : (xs : List X) (y : X) → Memᴰ y xs → p y ≡ true → q y ≡ false → length (filter q xs) < length (filter p xs)
  count_less [] y i e f = elim i [ ]
  count_less (x ∷ xs) y (Memᴰ.head r) e f = grind (arith, count_le xs, r, e, f)
  count_less (x ∷ xs) y (Memᴰ.tail i) e f = grind (arith, count_less xs y i e f, less x)
