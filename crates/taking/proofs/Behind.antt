-- A gate that none depends on is put behind the others.
use Rattle.std.proofs.Common.{◌≡◌, ◌∙◌, refl, sym, ap, ℕ, ◌+◌, ◌<◌, Bool, true, false, not, ◌||◌, List, [], ◌∷◌, ◌++◌, filter, length, take, set, true≢false}
use Rattle.std.specs.List.{list_any}
use Rattle.std.proofs.lemmas.List.{take_more_set}
use Rattle.tables.specs.Literal.{var}
use Rattle.rules.specs.Forced.{marked}
use Rattle.gates.specs.declared.site.Site.{Site}
use Rattle.taking.specs.Placing.{placed}

module _ {X : Type 0} (p : X → Bool) where
  neither : (b c : Bool) → (b || c) ≡ false → (b ≡ false) × (c ≡ false)
  neither true c e = absurd (true≢false e)
  neither false c e = (refl, e)

  none_apart : (xs : List X) (x : X) → list_any p xs ≡ false → filter (λ y. not (p y)) xs ++ (x ∷ filter p xs) ≡ xs ++ (x ∷ [])
  none_apart [] x e = refl
  none_apart (y ∷ xs) x e = let (h, t) = neither (p y) (list_any p xs) e in rw (h) (ap (λ ys. y ∷ ys) (none_apart xs x t))

pub placed_behind : (m : List ℕ) (sites : List Site) (count : ℕ) (s : Site) → count < length sites → list_any (λ t. marked m (var t.output)) (take count sites) ≡ false
    → take (count + 1) (set sites count s) ≡ placed m (take count sites) s
placed_behind m sites count s h e = take_more_set sites count s h ∙ sym (none_apart (λ (t : Site). marked m (var t.output)) (take count sites) s e)
