-- A row laid over a buffer.
use Rattle.std.proofs.Common.{◌≡◌, refl, ap, ◌∙◌, ℕ, suc, ◌+◌, ◌≤◌, List, [], ◌∷◌, length, set, arith, add-one, length-set}
use Rattle.std.proofs.lemmas.List.{set_past, length-map}
use lib.IntN.{ℤ}
use Rattle.texts.specs.Tokens.{Token}
use Rattle.texts.specs.Body.{entry_of, entries}
use Rattle.texts.specs.Buffer.{front, overlay}

module _ {X : Type 0} where
  -- What passes the buffer's end is lost.
  pub overlay_past : (old xs : List X) (p : ℕ) → length old ≤ p → overlay old p xs ≡ old
  unfolding overlay
  overlay_past old [] p h = refl
  overlay_past old (x ∷ xs) p h = overlay_past (set old p x) xs (p + 1) (omega (arith, length-set old p x)) ∙ set_past old p x h

  overlay_behind : (y : X) (old xs : List X) (p : ℕ) → overlay (y ∷ old) (suc p) xs ≡ y ∷ overlay old p xs
  unfolding overlay
  overlay_behind y old [] p = refl
  overlay_behind y old (x ∷ xs) p = rw (add-one, add-one) (overlay_behind y (set old p x) xs (suc p))

  -- What fits is the buffer's front.
  pub overlay_front : (xs old : List X) → length xs ≤ length old → overlay old 0 xs ≡ front xs old
  unfolding overlay front
  overlay_front [] old h = refl
  overlay_front (x ∷ xs) [] h = absurd (omega arith)
  overlay_front (x ∷ xs) (y ∷ old) h = overlay_behind x old xs 0 ∙ ap (λ r. x ∷ r) (overlay_front xs old (omega arith))

-- The entries of a text laid over a row that holds them.
pub entries_front : (ts : List Token) (row : List ℤ) → length ts ≤ length row → overlay row 0 (entries ts) ≡ front (entries ts) row
entries_front ts row h = overlay_front (entries ts) row (omega (arith, length-map ts entry_of))
