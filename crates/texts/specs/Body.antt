-- The numbers after the header.
use Rattle.std.specs.Prelude.{ℕ, ◌+◌, true, false, List, [], ◌∷◌, map, ℤ, eqb, leb, ltb, Some, None, Ok, Err}
use Rattle.std.specs.Option.{unwrap_or}
use Rattle.tables.specs.Sizes.{most_entries, most_literals}
use Rattle.tables.specs.Numbers.{Verdict}
use Rattle.tables.specs.Literal.{entry, var}
use Rattle.tables.specs.declared.numbers.Refusal.TheVariants.{Unreadable, TooLarge, Undeclared}
use Rattle.texts.specs.Tokens.{Token}
use Rattle.texts.specs.Numbers.{number}

-- "at one place 1 before 2 before 3. Code 2: .. a 65th literal, a 16,385th entry (every number after the header counts).
-- Code 3: a literal beyond V, any token after the C-th zero, .."
-- What is wrong with the next number x at place p, a literal's or 0, after m entries, z zeros and l literals of an open
-- clause.
unfoldable pub judged_number : ℕ → ℕ → ℕ → ℕ → ℕ → ℕ → ℕ → Verdict
judged_number v c m z l p x =
    elim (leb most_entries m) [
      | true ↦ Err (TooLarge p)
      | false ↦ elim (eqb x 0) [
        | true ↦ elim (leb c z) [ true ↦ Err (Undeclared p) | false ↦ Ok tt ]
        | false ↦ elim (leb most_literals l) [
          | true ↦ Err (TooLarge p)
          | false ↦ elim (leb c z) [ true ↦ Err (Undeclared p) | false ↦ elim (ltb v (var x)) [ true ↦ Err (Undeclared p) | false ↦ Ok tt ] ]
        ]
      ]
    ]

-- "After the header every token is a number; a comment there is 1." ".. or too few zeros or an open clause, at the text's
-- length." n: the text's length.
unfoldable pub body_from : ℕ → ℕ → ℕ → ℕ → ℕ → ℕ → List Token → Verdict
body_from v c n m z l [] =
    elim (eqb z c) [ true ↦ elim (eqb l 0) [ true ↦ Ok tt | false ↦ Err (Undeclared n) ] | false ↦ Err (Undeclared n) ]
body_from v c n m z l (t ∷ ts) =
    elim (number t.bytes) [
      | None ↦ Err (Unreadable t.place)
      | Some x ↦ elim (judged_number v c m z l t.place x) [
        | Err why ↦ Err why
        | Ok _ ↦ elim (eqb x 0) [ true ↦ body_from v c n (m + 1) (z + 1) 0 ts | false ↦ body_from v c n (m + 1) z (l + 1) ts ]
      ]
    ]

-- The entries that the tokens say; a token that is no number says 0.
unfoldable pub entry_of : Token → ℤ
entry_of t = entry (unwrap_or (number t.bytes) 0)

abbrev pub entries : List Token → List ℤ
entries ts = map entry_of ts
