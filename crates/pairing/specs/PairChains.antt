-- The clauses of two literals of a row of entries, chained by their first literal.
use Rattle.std.specs.Prelude.{ℕ, ◌≡◌, ◌-◌, ◌<◌, cond, ◌&&◌, List, [], ◌∷◌, ℤ, pos, length, get_or, eqb}
use Rattle.std.specs.List.{fold}
use Rattle.std.specs.Coded.{Π_prop, le_prop, Coded-set, coded_ℕ}
use mathlib.Core.HLevel.{×₃_prop}
use Rattle.tables.specs.Literal.{literal}
use Rattle.tables.specs.Clause.{clauses}

-- The second literals of the clauses of two literals that begin with x, the latest clause first.
unfoldable pub after : ℕ → List ℕ → List ℕ → List ℕ
after x ys c = cond (eqb (length c) 2 && eqb x (get_or c 0 0)) (get_or c 1 0 ∷ ys) ys

-- A cell h, one more than the place where a clause begins, whose second literal is y.
abbrev pub Cell : List ℤ → ℕ → ℕ → Type 0
Cell row h y = (0 < h) × (h < length row) × (y ≡ literal (get_or row h (pos 0)))

-- A chain from a cell on with these second literals: 0 at the chain's end.
unfoldable pub Chain : List ℤ → List ℕ → ℕ → List ℕ → Type 0
Chain row next h [] = h ≡ 0
Chain row next h (y ∷ ys) = Cell row h y × (get_or next (h - 1) 0 < h) × Chain row next (get_or next (h - 1) 0) ys

-- The chain of each literal has all the row's clauses that begin with it.
abbrev pub Indexed : List ℤ → List ℕ → List ℕ → Type 0
Indexed row head next = (x : ℕ) → Chain row next (get_or head x 0) (fold (after x) [] (clauses row))

-- A fact of which there is one proof at most, as a struct's field has to be.
Chain-prop : (row : List ℤ) (next : List ℕ) (h : ℕ) (ys : List ℕ) → IsProp (Chain row next h ys)
unfolding Chain
Chain-prop row next h [] = Coded-set coded_ℕ h 0
Chain-prop row next h (y ∷ ys) = ×₃_prop (×₃_prop le_prop le_prop (Coded-set coded_ℕ _ _)) le_prop (Chain-prop row next (get_or next (h - 1) 0) ys)

pub Indexed-prop : (row : List ℤ) (head next : List ℕ) → IsProp (Indexed row head next)
Indexed-prop row head next = Π_prop (λ x. Chain-prop row next (get_or head x 0) (fold (after x) [] (clauses row)))
