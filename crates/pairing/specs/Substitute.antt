-- What an entry of a row is replaced by.
use Rattle.std.specs.Prelude.{ℕ, ◌≤◌, cond, List, ℤ, eqb}
use Rattle.tables.specs.Literal.{literal, entry}
use Rattle.rules.specs.Pairs.{replace}

abbrev pub substituted : List ℕ → ℤ → ℤ
substituted s e = cond (eqb (literal e) 0) e (entry (replace s (literal e)))

-- The literal of an entry stands for a literal, and for no value.
abbrev pub Live : List ℕ → ℤ → Type 0
Live s e = 2 ≤ literal e → 2 ≤ replace s (literal e)
