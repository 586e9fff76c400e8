-- The table check: 2 and 3 over a lent table, with the entry place.
use Rattle.std.specs.Prelude.{ℕ, ◌+◌, true, false, List, [], ◌∷◌, ℤ, length, eqb, leb, ltb, Ok, Err}
use Rattle.tables.specs.Sizes.{most_variables, most_clauses, most_entries, most_literals}
use Rattle.tables.specs.Numbers.{Verdict}
use Rattle.tables.specs.Literal.{literal, var}
use Rattle.tables.specs.declared.numbers.Refusal.TheVariants.{TooLarge, Undeclared}

-- "then the earliest bad entry. At one entry 2 (a 65th literal, a 4,097th zero) goes before 3. An unfinished clause is 3
-- at the table's length." p: the place; l: the literals of the open clause before it; z: the zeros before it.
unfoldable pub check_from : ℕ → ℕ → ℕ → ℕ → List ℤ → Verdict
check_from n p l z [] = elim (eqb l 0) [ true ↦ Ok tt | false ↦ Err (Undeclared p) ]
check_from n p l z (e ∷ es) =
    elim (eqb (literal e) 0) [
      | true ↦ elim (leb most_clauses z) [ true ↦ Err (TooLarge p) | false ↦ check_from n (p + 1) 0 (z + 1) es ]
      | false ↦ elim (leb most_literals l) [
        | true ↦ Err (TooLarge p)
        | false ↦ elim (ltb n (var (literal e))) [ true ↦ Err (Undeclared p) | false ↦ check_from n (p + 1) (l + 1) z es ]
      ]
    ]

-- "Table check: n above 1,024 is 2 at place 0; more than 16,384 entries is 2 at 16,384; .."
unfoldable pub checked : ℕ → List ℤ → Verdict
checked n t =
    elim (ltb most_variables n) [
      | true ↦ Err (TooLarge 0)
      | false ↦ elim (ltb most_entries (length t)) [ true ↦ Err (TooLarge most_entries) | false ↦ check_from n 0 0 0 t ]
    ]
