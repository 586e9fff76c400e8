-- The ways of going through a row. Nearly every other definition is made of the library's words for them, `fold`, `iterate`,
-- `filter`, `list_any`, `list_all`, `range_with_len`, `map` and `flat_map`, and has no recursion of its own. Here are the
-- few that the library lacks.
use Rattle.std.specs.Prelude.{ℕ, Bool, false, List, [], ◌∷◌, eqb}
use Rattle.std.specs.Bool.{xor}
use Rattle.std.specs.List.{list_any}
use Rattle.std.specs.Cmp.Lexicographic.{pointwise}

-- Does an odd number of elements pass a test?
module _ {X : Type 0} (test : X → Bool) where
  abbrev pub oddly : List X → Bool
  oddly [] = false
  oddly (x ∷ xs) = xor (test x) (oddly xs)

-- Does a number stand in a row?
abbrev pub has : ℕ → List ℕ → Bool
has x xs = list_any (eqb x) xs

-- Are two rows the same, number by number?
abbrev pub same : List ℕ → List ℕ → Bool
same xs ys = pointwise eqb xs ys

-- Does a row stand among others?
abbrev pub among : List ℕ → List (List ℕ) → Bool
among c cs = list_any (same c) cs
