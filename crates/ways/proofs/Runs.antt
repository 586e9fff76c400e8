-- Laws of folds and of passes: what a step keeps the whole keeps, and when passes end by themselves.
use Rattle.std.proofs.Common.{◌≡◌, ℕ, zero, suc, ◌+◌, ◌<◌, ◌≤◌, Bool, ◌&&◌, ◌||◌, ◌⊎◌, List, [], ◌∷◌, fold, sym, refl, ap, ◌∙◌, subst, inl, ⊎_elim, arith}
use mathlib.Core.List.{Memᴰ}
use Rattle.std.specs.Fn.{iterate}
use Rattle.std.specs.List.{list_any, list_all}
use Rattle.std.proofs.Math.Bool.{and-true, or-false, and_assoc, or_assoc}

module _ {S X : Type 0} (step : S → X → S) where
  -- What each step keeps, the whole keeps.
  pub fold_keeps : (P : S → Type 0) (xs : List X) → ((s : S) (x : X) → Memᴰ x xs → P s → P (step s x)) → (s : S) → P s → P (fold step s xs)
  fold_keeps P [] h s p = p
  fold_keeps P (x ∷ xs) h s p = fold_keeps P xs (λ s y m. h s y (Memᴰ.tail m)) (step s x) (h s x (Memᴰ.head refl) p)

  -- A test that each step joins by "and" (by "or") is joined so by the whole.
  module _ (f : S → Bool) (g : X → Bool) where
    pub fold-list_all : ((s : S) (x : X) → f (step s x) ≡ (f s && g x)) → (s : S) (xs : List X) → f (fold step s xs) ≡ (f s && list_all g xs)
    fold-list_all h s [] = sym (and-true (f s))
    fold-list_all h s (x ∷ xs) = fold-list_all h (step s x) xs ∙ ap (λ t. t && list_all g xs) (h s x) ∙ and_assoc (f s) (g x) (list_all g xs)

    pub fold-list_any : ((s : S) (x : X) → f (step s x) ≡ (f s || g x)) → (s : S) (xs : List X) → f (fold step s xs) ≡ (f s || list_any g xs)
    fold-list_any h s [] = sym (or-false (f s))
    fold-list_any h s (x ∷ xs) = fold-list_any h (step s x) xs ∙ ap (λ t. t || list_any g xs) (h s x) ∙ or_assoc (f s) (g x) (list_any g xs)

  -- Where each step changes nothing or makes a size grow, so does the whole; and a whole that changed nothing changed
  -- nothing at any step.
  module _ (size : S → ℕ) (grows : (s : S) (x : X) → (step s x ≡ s) ⊎ (size s < size (step s x))) where
    pub fold_grows : (xs : List X) (s : S) → (fold step s xs ≡ s) ⊎ (size s < size (fold step s xs))
    fold_grows [] s = inl refl
    fold_grows (x ∷ xs) s = grind (arith, grows s x, fold_grows xs (step s x))

    first_still : (y : X) (xs : List X) (s : S) → fold step (step s y) xs ≡ s → step s y ≡ s
    first_still y xs s e = grind (arith, grows s y, fold_grows xs (step s y), e)

    pub fold_still : (xs : List X) (s : S) → fold step s xs ≡ s → (x : X) → Memᴰ x xs → step s x ≡ s
    fold_still [] s e x i = elim i [ ]
    fold_still (y ∷ xs) s e x (Memᴰ.head q) = ap (step s) q ∙ first_still y xs s e
    fold_still (y ∷ xs) s e x (Memᴰ.tail i) = fold_still xs s (subst (λ t. fold step t xs ≡ s) (first_still y xs s e) e) x i

module _ {S : Type 0} (pass : S → S) where
  pub iterate_stays : (k : ℕ) (s : S) → pass s ≡ s → iterate pass k s ≡ s
  iterate_stays zero s e = refl
  iterate_stays (suc k) s e = rw e (iterate_stays k s e)

  pub iterate_keeps : (P : S → Type 0) → ((s : S) → P s → P (pass s)) → (k : ℕ) (s : S) → P s → P (iterate pass k s)
  iterate_keeps P h zero s p = p
  iterate_keeps P h (suc k) s p = iterate_keeps P h k (pass s) (h s p)

  -- Passes that each change nothing or make a bounded size grow come to an end where a further pass changes nothing.
  pub iterate_closed :
      (I : S → Type 0) → ((s : S) → I s → I (pass s)) → (size : S → ℕ) (top : ℕ) → ((s : S) → I s → size s ≤ top)
      → ((s : S) → (pass s ≡ s) ⊎ (size s < size (pass s))) → (k : ℕ) (s : S) → I s → top ≤ k + size s → pass (iterate pass k s) ≡ iterate pass k s
  iterate_closed I keep size top b g zero s i h = ⊎_elim (λ e. e) (λ l. absurd (omega (arith, b (pass s) (keep s i), l, h))) (g s)
  iterate_closed I keep size top b g (suc k) s i h =
      ⊎_elim
      (λ e. let a = iterate_stays k (pass s) (ap pass e) in ap pass a ∙ ap pass e ∙ sym a)
      (λ l. iterate_closed I keep size top b g k (pass s) (keep s i) (omega arith))
      (g s)
