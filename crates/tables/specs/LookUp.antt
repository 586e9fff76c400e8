-- The look-up of one clause.
use Rattle.std.specs.Prelude.{ℕ, zero, suc, ◌+◌, true, false, List, [], ◌∷◌, ℤ, length, take, drop, eqb, Ok, Err}
use Rattle.tables.specs.Numbers.{Verdict}
use Rattle.tables.specs.Literal.{literal}
use Rattle.tables.specs.Check.{checked}

-- The length of the first clause of a row, with its ending zero.
unfoldable pub clause_length : List ℤ → ℕ
clause_length [] = 0
clause_length (z ∷ zs) = elim (eqb (literal z) 0) [ true ↦ 1 | false ↦ suc (clause_length zs) ]

-- Where clause number k, from 0, starts: at the row's end where there is no such clause.
unfoldable pub start_of : ℕ → List ℤ → ℕ
start_of zero t = 0
start_of (suc k) t = clause_length t + start_of k (drop (clause_length t) t)

-- "Asked for clause number k, from 0, the look-up returns that stretch itself with its ending zero; for no such clause or
-- a table that 2 or 3 refuses, the empty stretch at the table's end."
unfoldable pub start_in : List ℤ → ℕ → Verdict → ℕ
start_in t k (Ok _) = start_of k t
start_in t k (Err why) = length t

unfoldable pub look_start : ℕ → List ℤ → ℕ → ℕ
look_start n t k = start_in t k (checked n t)

unfoldable pub look_up : ℕ → List ℤ → ℕ → List ℤ
look_up n t k = take (clause_length (drop (look_start n t k) t)) (drop (look_start n t k) t)
