-- The clauses of a row, chained by their keys. A cell is one more than the place where a clause starts, or 0 at a chain's end.
use Rattle.std.specs.Prelude.{ℕ, ◌≡◌, ◌-◌, ◌<◌, ◌≤◌, cond, List, [], ◌∷◌, ℤ, drop, length, get_or, eqb}
use Rattle.std.specs.List.{fold}
use Rattle.tables.specs.Clause.{clauses}
use Rattle.chains.specs.Key.{key}

-- The clauses of a key, the latest first, with one clause more.
unfoldable pub after : ℕ → List (List ℕ) → List ℕ → List (List ℕ)
after k cs c = cond (eqb (key c) k) (c ∷ cs) cs

-- The clause that starts at a place of a row, if one does.
abbrev pub clause_at : List ℤ → ℕ → List ℕ
clause_at row at = get_or (clauses (drop at row)) 0 []

abbrev pub Starts : List ℤ → ℕ → Type 0
Starts row at = 0 < length (clauses (drop at row))

-- The cell of a clause.
abbrev pub Cell : List ℤ → ℕ → List ℕ → Type 0
Cell row h c = (0 < h) × (h ≤ length row) × Starts row (h - 1) × (clause_at row (h - 1) ≡ c)

-- A chain from a cell on with these clauses, each before the one that is ahead of it in the chain.
unfoldable pub Chain : List ℤ → List ℕ → ℕ → List (List ℕ) → Type 0
Chain row links h [] = h ≡ 0
Chain row links h (c ∷ cs) = Cell row h c × (get_or links (h - 1) 0 < h) × Chain row links (get_or links (h - 1) 0) cs

-- The chain of each key has all the row's clauses of that key.
abbrev pub Chained : List ℤ → List ℕ → List ℕ → Type 0
Chained row heads links = (k : ℕ) → k < 2048 → Chain row links (get_or heads k 0) (fold (after k) [] (clauses row))
