-- A line's fields.
use Rattle.std.specs.Prelude.{ℕ, List, ◌++◌, codes}
use Rattle.std.specs.List.{flat_map}

-- "fields parted by tabs": each with the tab before it.
abbrev pub field : List ℕ → List ℕ
field f = codes "\t" ++ f

abbrev pub fields : List (List ℕ) → List ℕ
fields fs = flat_map field fs

-- A line, with its letter as bytes.
abbrev pub lined : List ℕ → List (List ℕ) → List ℕ
lined letter fs = letter ++ (fields fs ++ codes "\n")
