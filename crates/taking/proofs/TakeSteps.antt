-- Taking the first of some candidates that is allowed, whatever the rule that allows.
use Rattle.std.proofs.Common.{◌≡◌, ◌∙◌, refl, sym, ap, ℕ, Bool, true, false, cond, ◌||◌, List, [], ◌∷◌, ◌++◌, map, length, ltb, true≢false}
use Rattle.std.specs.List.{list_any}
use Rattle.std.proofs.lemmas.List.Elements.{filter-append}
use Rattle.rules.specs.Patterns.{Gate, parity, and_form, anchors, found}
use Rattle.rules.specs.Taking.{candidates, place, take_first, take_at}
use Rattle.taking.specs.Anchors.{groups, forms}

module _ (may : List Gate → Gate → Bool) (n : ℕ) (gs : List Gate) where
  pub first_turn : (g : Gate) (more : List Gate) → take_first may n gs (g ∷ more) ≡ cond (may gs g) (place n gs g) (take_first may n gs more)
  unfolding take_first
  first_turn g more = go (may gs g)
    where
      go : (b : Bool) → (elim b [ true ↦ place n gs g | false ↦ take_first may n gs more ]) ≡ cond b (place n gs g) (take_first may n gs more)
      go true = refl
      go false = refl

  -- No candidate that is allowed: nothing is taken.
  pub first_none : (xs : List Gate) → list_any (may gs) xs ≡ false → take_first may n gs xs ≡ gs
  unfolding take_first
  first_none [] e = refl
  first_none (g ∷ xs) e = first_turn g xs ∙ go (may gs g) e (first_none xs)
    where
      go : (b : Bool) → (b || list_any (may gs) xs) ≡ false → (list_any (may gs) xs ≡ false → take_first may n gs xs ≡ gs)
          → cond b (place n gs g) (take_first may n gs xs) ≡ gs
      go true e f = absurd (true≢false e)
      go false e f = f e

  -- Two runs of candidates: the second counts where none of the first is allowed.
  pub first_append : (xs ys : List Gate) → take_first may n gs (xs ++ ys) ≡ cond (list_any (may gs) xs) (take_first may n gs xs) (take_first may n gs ys)
  first_append [] ys = refl
  first_append (g ∷ xs) ys =
      first_turn g (xs ++ ys) ∙ ap (λ hs. cond (may gs g) (place n gs g) hs) (first_append xs ys)
      ∙ go (may gs g) ∙ ap (λ hs. cond (may gs g || list_any (may gs) xs) hs (take_first may n gs ys)) (sym (first_turn g xs))
    where
      go : (b : Bool) → cond b (place n gs g) (cond (list_any (may gs) xs) (take_first may n gs xs) (take_first may n gs ys))
          ≡ cond (b || list_any (may gs) xs) (cond b (place n gs g) (take_first may n gs xs)) (take_first may n gs ys)
      go true = refl
      go false = refl

  -- One clause.
  module _ (cs : List (List ℕ)) (c : List ℕ) where
    pub narrow_passed : ltb 2 (length c) ≡ false → take_at may n cs gs c ≡ gs
    unfolding take_at
    narrow_passed e = rw (take_at, e) refl

    pub wide_turn : ltb 2 (length c) ≡ true → take_at may n cs gs c ≡ take_first may n gs (groups cs c ++ forms cs c)
    unfolding take_at candidates
    wide_turn e = rw (take_at, e) (ap (take_first may n gs) (filter-append (found cs) (cond (anchors cs c) (map (parity c) c) []) (map (and_form c) c)))
