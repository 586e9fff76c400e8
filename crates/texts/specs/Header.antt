-- The lines before the header, and the header line.
use Rattle.std.specs.Prelude.{ℕ, suc, ◌+◌, Bool, true, false, List, [], ◌∷◌, length, get_or, take, drop, eqb, ltb, Some, None, Result, Ok, Err, codes}
use Rattle.ways.specs.Ways.{same}
use Rattle.tables.specs.Sizes.{most_variables, most_clauses}
use Rattle.texts.specs.Bytes.{line}
use Rattle.texts.specs.Tokens.{Token, tokens_at}
use Rattle.texts.specs.Numbers.{natural}
use Rattle.tables.specs.declared.numbers.Refusal.{Refusal}
use Rattle.tables.specs.declared.numbers.Refusal.TheVariants.{Unreadable, TooLarge}
use Rattle.texts.specs.declared.header.Header.{Header}

-- "Lines before the header start with byte `c` and are skipped to their LF."
-- The bytes of those lines; inside: is the next byte inside such a line?
unfoldable pub remarks : Bool → List ℕ → ℕ
remarks inside [] = 0
remarks false (b ∷ bs) = elim (eqb b 99) [ true ↦ suc (remarks true bs) | false ↦ 0 ]
remarks true (b ∷ bs) = elim (eqb b 10) [ true ↦ suc (remarks false bs) | false ↦ suc (remarks true bs) ]

-- "The header line starts with byte `p` and holds exactly the tokens p, cnf, V, C; a missing token is 1 at the LF or the
-- end, a surplus one is 1." e: the place where the line ends. "Code 2: V or C too large".
unfoldable pub no_more : ℕ → ℕ → ℕ → List Token → Result Header Refusal
no_more e v c [] = Ok (record { variables = v; clauses = c; end = e })
no_more e v c (t ∷ ts) = Err (Unreadable t.place)

unfoldable pub size_c : ℕ → ℕ → List Token → Result Header Refusal
size_c e v [] = Err (Unreadable e)
size_c e v (t ∷ ts) =
    elim (natural t.bytes) [
      | None ↦ Err (Unreadable t.place)
      | Some c ↦ elim (ltb most_clauses c) [ true ↦ Err (TooLarge t.place) | false ↦ no_more e v c ts ]
    ]

unfoldable pub size_v : ℕ → List Token → Result Header Refusal
size_v e [] = Err (Unreadable e)
size_v e (t ∷ ts) =
    elim (natural t.bytes) [
      | None ↦ Err (Unreadable t.place)
      | Some v ↦ elim (ltb most_variables v) [ true ↦ Err (TooLarge t.place) | false ↦ size_c e v ts ]
    ]

unfoldable pub word_cnf : ℕ → List Token → Result Header Refusal
word_cnf e [] = Err (Unreadable e)
word_cnf e (t ∷ ts) = elim (same t.bytes (codes "cnf")) [ true ↦ size_v e ts | false ↦ Err (Unreadable t.place) ]

unfoldable pub word_p : ℕ → List Token → Result Header Refusal
word_p e [] = Err (Unreadable e)
word_p e (t ∷ ts) = elim (same t.bytes (codes "p")) [ true ↦ word_cnf e ts | false ↦ Err (Unreadable t.place) ]

-- "Any other first byte there is 1, also on an empty line; a text that ends before a header is 1 at its length."
-- The header line that starts at place h.
unfoldable pub header_at : List ℕ → ℕ → Result Header Refusal
header_at t h =
    elim (ltb h (length t)) [
      | false ↦ Err (Unreadable (length t))
      | true ↦ elim (eqb (get_or t h 0) 112) [
        | false ↦ Err (Unreadable h)
        | true ↦ word_p (h + line (drop h t)) (tokens_at h (take (h + line (drop h t)) t))
      ]
    ]

unfoldable pub header : List ℕ → Result Header Refusal
header t = header_at t (remarks false t)
