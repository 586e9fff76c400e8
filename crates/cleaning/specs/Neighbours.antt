-- Opposites side by side.
use Rattle.std.specs.Prelude.{ℕ, Bool, false, ◌||◌, List, [], ◌∷◌, eqb}
use Rattle.tables.specs.Literal.{opp}

-- Does a literal of the clause stand right behind its opposite? before: the one before the clause.
unfoldable pub opposed_from : ℕ → List ℕ → Bool
opposed_from before [] = false
opposed_from before (x ∷ xs) = eqb (opp before) x || opposed_from x xs
