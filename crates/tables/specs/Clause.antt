-- Clauses, and the table as a row of them.
use Rattle.std.specs.Prelude.{ℕ, suc, Bool, cond, true, false, List, [], ◌∷◌, ◌++◌, ℤ, eqb}
use Rattle.std.specs.List.{list_any, list_all}
use Rattle.ways.specs.Ways.{has}
use Rattle.tables.specs.Literal.{literal, opp, holds}

-- "A table is a row of signed 32-bit entries; 0 ends each clause."
-- before: the literals of a clause that is not yet ended.
unfoldable pub clauses_from : List ℕ → List ℤ → List (List ℕ)
clauses_from before [] = []
clauses_from before (z ∷ zs) =
    elim (eqb (literal z) 0) [ true ↦ before ∷ clauses_from [] zs | false ↦ clauses_from (before ++ (literal z ∷ [])) zs ]

unfoldable pub clauses : List ℤ → List (List ℕ)
clauses t = clauses_from [] t

-- "One holding v and −v is void."
abbrev pub void : List ℕ → Bool
void c = list_any (λ l. has (opp l) c) c

-- "A clause is taken as its set of literals": how many it has, each counted once.
unfoldable pub width : List ℕ → ℕ
width [] = 0
width (l ∷ c) = cond (has l c) (width c) (suc (width c))

-- An assignment satisfies a clause if one of its literals is true, and a row of clauses if it satisfies each.
abbrev pub satisfies : (ℕ → Bool) → List ℕ → Bool
satisfies a c = list_any (holds a) c

abbrev pub satisfies_all : (ℕ → Bool) → List (List ℕ) → Bool
satisfies_all a cs = list_all (satisfies a) cs
