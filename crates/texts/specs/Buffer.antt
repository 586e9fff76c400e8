-- Lent result buffers.
use Rattle.std.specs.Prelude.{ℕ, ◌+◌, List, [], ◌∷◌, ◌++◌, length, drop, set, Result, Ok, Err}
use Rattle.tables.specs.declared.numbers.Refusal.{Refusal}

module _ {X : Type 0} where
  -- "An accepted call writes the front of its result buffer and nothing behind it".
  unfoldable pub front : List X → List X → List X
  front new old = new ++ drop (length new) old

  -- "A refusal leaves result buffers .. as found." What a call with this answer leaves in a buffer, where it has this to write.
  unfoldable pub leaves : {T : Type 0} → Result T Refusal → List X → List X → List X
  leaves (Ok value) new old = front new old
  leaves (Err why) new old = old

  -- A row laid over a buffer from a place on, element by element; what passes the buffer's end is lost.
  unfoldable pub overlay : List X → ℕ → List X → List X
  overlay old p [] = old
  overlay old p (x ∷ xs) = overlay (set old p x) (p + 1) xs
