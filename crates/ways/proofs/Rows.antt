-- Laws of tests over a row: turn by turn for loops, and by membership for theorems.
use Rattle.std.proofs.Common.{◌≡◌, Bool, true, false, not, List, [], ◌∷◌, map, filter, sym, refl, ap, ◌∙◌, ⊎_elim, rules}
use mathlib.Core.List.Memᴰ
use mathlib.Core.List.{Memᴰ}
use Rattle.std.specs.List.{list_any, list_all}
use Rattle.std.proofs.lemmas.Bool.{and_parts, and_from, or_cases, or_left, or_right, cond_both, false_from_ne_true, both_ways}
use Rattle.ways.specs.Ways.{oddly}
use Rattle.ways.proofs.Bools.{clash_of}

module _ {X : Type 0} (p : X → Bool) where
  -- By membership.
  pub list_all-mem : (xs : List X) → list_all p xs ≡ true → (x : X) → Memᴰ x xs → p x ≡ true
  list_all-mem [] e x i = elim i [ ]
  list_all-mem (y ∷ xs) e x (Memᴰ.head q) = ap p q ∙ (and_parts (p y) (list_all p xs) e).0
  list_all-mem (y ∷ xs) e x (Memᴰ.tail m) = list_all-mem xs (and_parts (p y) (list_all p xs) e).1 x m

  pub mem-list_all : (xs : List X) → ((x : X) → Memᴰ x xs → p x ≡ true) → list_all p xs ≡ true
  mem-list_all [] h = refl
  mem-list_all (y ∷ xs) h = and_from (p y) (list_all p xs) (h y (Memᴰ.head refl)) (mem-list_all xs (λ x m. h x (Memᴰ.tail m)))

  pub list_any-mem : (xs : List X) → list_any p xs ≡ true → (x : X) × Memᴰ x xs × (p x ≡ true)
  list_any-mem [] e = clash_of (sym e)
  list_any-mem (y ∷ xs) e = ⊎_elim (λ q. (y, Memᴰ.head refl, q)) (λ q. let (x, m, r) = list_any-mem xs q in (x, Memᴰ.tail m, r)) (or_cases (p y) (list_any p xs) e)

  pub mem-list_any : (xs : List X) (x : X) → Memᴰ x xs → p x ≡ true → list_any p xs ≡ true
  mem-list_any [] x i e = elim i [ ]
  mem-list_any (y ∷ xs) x (Memᴰ.head q) e = or_left (p y) (list_any p xs) (ap p (sym q) ∙ e)
  mem-list_any (y ∷ xs) x (Memᴰ.tail m) e = or_right (p y) (list_any p xs) (mem-list_any xs x m e)

  pub none_of : (xs : List X) → list_any p xs ≡ false → (x : X) → Memᴰ x xs → p x ≡ false
  none_of xs e x i = false_from_ne_true (p x) (λ q. both_ways (list_any p xs) e (mem-list_any xs x i q))

  -- What is kept passed the test and was there.
  pub filter-mem : (xs : List X) (x : X) → Memᴰ x (filter p xs) → Memᴰ x xs × (p x ≡ true)
  filter-mem [] x m = absurd (Memᴰ.not-nil m)
  filter-mem (y ∷ xs) x m =
      let later : Memᴰ x (filter p xs) → Memᴰ x (y ∷ xs) × (p x ≡ true) = λ k. let (i, t) = filter-mem xs x k in (Memᴰ.tail i, t) in
      cond_both (p y) (y ∷ filter p xs) (filter p xs) (λ zs. Memᴰ x zs → Memᴰ x (y ∷ xs) × (p x ≡ true))
      (λ e k. ⊎_elim (λ q. (Memᴰ.head q, ap p q ∙ e)) later (Memᴰ.cases_cons k)) (λ e. later) m

  pub mem-filter : (xs : List X) (x : X) → Memᴰ x xs → p x ≡ true → Memᴰ x (filter p xs)
  mem-filter [] x i e = elim i [ ]
  mem-filter (y ∷ xs) x (Memᴰ.head q) e = rw (ap p (sym q) ∙ e) (Memᴰ.head q)
  mem-filter (y ∷ xs) x (Memᴰ.tail i) e = cond_both (p y) _ _ (Memᴰ x) (λ _. Memᴰ.tail (mem-filter xs x i e)) (λ _. mem-filter xs x i e)

-- Tests that agree on a row's elements agree on the row.
module _ {X : Type 0} (p q : X → Bool) where
  abbrev pub Alike : List X → Type 0
  Alike xs = (x : X) → Memᴰ x xs → p x ≡ q x

  pub list_all_alike : (xs : List X) → Alike xs → list_all p xs ≡ list_all q xs
  list_all_alike [] h = refl
  list_all_alike (x ∷ xs) h = rw (h x (Memᴰ.head refl), list_all_alike xs (λ y i. h y (Memᴰ.tail i)))

  pub list_any_alike : (xs : List X) → Alike xs → list_any p xs ≡ list_any q xs
  list_any_alike [] h = refl
  list_any_alike (x ∷ xs) h = rw (h x (Memᴰ.head refl), list_any_alike xs (λ y i. h y (Memᴰ.tail i)))

  pub oddly_alike : (xs : List X) → Alike xs → oddly p xs ≡ oddly q xs
  oddly_alike [] h = refl
  oddly_alike (x ∷ xs) h = rw (h x (Memᴰ.head refl), oddly_alike xs (λ y i. h y (Memᴰ.tail i)))

-- Tests of a mapped row.
module _ {X Y : Type 0} (f : X → Y) (p : Y → Bool) where
  pub list_any-map : (xs : List X) → list_any p (map f xs) ≡ list_any (λ x. p (f x)) xs
  list_any-map [] = refl
  list_any-map (x ∷ xs) = rw (list_any-map xs)

  pub oddly-map : (xs : List X) → oddly p (map f xs) ≡ oddly (λ x. p (f x)) xs
  oddly-map [] = refl
  oddly-map (x ∷ xs) = rw (oddly-map xs)

-- "Not some" is "every not", and the other way round.
module _ {X : Type 0} (p : X → Bool) where
  pub list_all-not : (xs : List X) → list_all (λ x. not (p x)) xs ≡ not (list_any p xs)
  list_all-not [] = refl
  list_all-not (x ∷ xs) = rw (list_all-not xs) (search rules)

  pub list_any-not : (xs : List X) → list_any (λ x. not (p x)) xs ≡ not (list_all p xs)
  list_any-not [] = refl
  list_any-not (x ∷ xs) = rw (list_any-not xs) (search rules)
