-- The pieces of written text.
use Rattle.std.specs.Prelude.{ℕ, List, [], ◌∷◌, ◌++◌, ℤ}
use Rattle.tables.specs.Literal.{literal}
use Rattle.texts.specs.Decimal.{signed}
use Rattle.texts.specs.Writing.{parting}

-- An entry, and what parts it from the next.
abbrev pub piece : ℤ → List ℕ
piece e = signed (literal e) ++ (parting (literal e) ∷ [])
