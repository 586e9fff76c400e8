-- Written clause text.
use Rattle.std.specs.Prelude.{ℕ, true, false, List, [], ◌∷◌, ◌++◌, ℤ, length, eqb, ltb, Result, Ok, codes}
use Rattle.std.specs.Result.{result_and}
use Rattle.tables.specs.Numbers.{refuse, first_refusal}
use Rattle.tables.specs.Literal.{literal}
use Rattle.tables.specs.Clause.{clauses}
use Rattle.tables.specs.Check.{checked}
use Rattle.tables.specs.declared.numbers.Refusal.{Refusal}
use Rattle.tables.specs.declared.numbers.Refusal.TheVariants.{ShortBuffer}
use Rattle.texts.specs.Buffer.{leaves}
use Rattle.texts.specs.Decimal.{decimal, signed}

-- "Written text: `p cnf V C`, LF, .."
unfoldable pub first_line : ℕ → ℕ → List ℕ
first_line v c = codes "p cnf " ++ (decimal v ++ (codes " " ++ decimal c))

-- ".. then one clause a line, single spaces, ` 0` and LF; an empty clause is `0`."
-- So behind a literal comes a space, and behind the 0 that ends a clause comes LF.
unfoldable pub parting : ℕ → ℕ
parting l = elim (eqb l 0) [ true ↦ 10 | false ↦ 32 ]

unfoldable pub clause_lines : List ℤ → List ℕ
clause_lines [] = []
clause_lines (e ∷ es) = signed (literal e) ++ (parting (literal e) ∷ clause_lines es)

unfoldable pub written : ℕ → List ℤ → List ℕ
written n t = first_line n (length (clauses t)) ++ (10 ∷ clause_lines t)

-- "Writing text: 2, 3, 8." What is returned is the number of bytes; room: the bytes that the lent buffer holds.
unfoldable pub writing : ℕ → List ℤ → ℕ → Result ℕ Refusal
writing n t room =
    let bytes = length (written n t) in result_and (first_refusal (checked n t ∷ refuse (ltb room bytes) (ShortBuffer bytes) ∷ [])) (Ok bytes)

-- The buffer afterwards.
unfoldable pub buffer_after : ℕ → List ℤ → List ℕ → List ℕ
buffer_after n t out = leaves (writing n t (length out)) (written n t) out
