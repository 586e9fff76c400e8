-- The written header line is read back: it is one line of four tokens, and says V and C.
use Prim.Native.Nat.{ℕ, ◌+◌, ◌≤◌}
use mathlib.Core.Path.{◌≡◌, refl, ap, ◌∙◌}
use mathlib.Core.Bool.{Bool, true, false, not}
use mathlib.Core.List.{List, [], ◌∷◌, ◌++◌}
use native.Mathlib.Nat.{zero-add}
use native.Mathlib.Omega.{arith}
use lib.ListN.{length, take, get_or}
use borrow.Author.Tests.{eq-eqb, ne_eqb, le-ltb, lt-ltb}
use Rattle.std.specs.Prelude.{Ok, Some, codes}
use Rattle.std.specs.List.{list_all}
use Rattle.std.proofs.lemmas.List.{take_at}
use Rattle.std.proofs.lemmas.List.Folds.{list_all-append}
use Rattle.tables.specs.Sizes.{most_variables, most_clauses}
use Rattle.texts.specs.Bytes.{blank, solid, feed, line}
use Rattle.texts.specs.Tokens.{Token, tokens_from}
use Rattle.texts.specs.Numbers.{natural}
use Rattle.texts.specs.Header.{remarks, no_more, size_c, size_v, word_cnf, word_p, header_at, header}
use Rattle.texts.specs.Decimal.{decimal}
use Rattle.texts.specs.Writing.{first_line}
use Rattle.texts.proofs.Spans.{prefix_len_until, word_then, word_last}
use Rattle.texts.proofs.Digits.{decimal_pass, natural-decimal}
use Rattle.texts.proofs.Words.{solid_decimal, some_decimal}

-- No line feed stands in the line.
flat : ℕ → Bool
flat b = not (feed b)

flat_high : (b : ℕ) → 48 ≤ b → flat b ≡ true
unfolding flat feed
flat_high b h = rw (ne_eqb b 10 (λ p. omega arith))

first_flat : (v c : ℕ) → list_all flat (first_line v c) ≡ true
unfolding first_line flat feed
first_flat v c = list_all-append flat (decimal v) (32 ∷ decimal c) ∙ rw (decimal_pass flat flat_high v, decimal_pass flat flat_high c)

line_first : (v c : ℕ) (r : List ℕ) → line (first_line v c ++ (10 ∷ r)) ≡ length (first_line v c)
unfolding flat feed
line_first v c r = prefix_len_until flat (first_line v c) 10 r (first_flat v c) refl

-- Its tokens.
first_tokens : (v c : ℕ)
    → tokens_from 0 0 (first_line v c)
    ≡ record { place = 0; bytes = codes "p" } ∷ record { place = 2; bytes = codes "cnf" } ∷ record { place = 6; bytes = decimal v } ∷ record { place = 6 + length (decimal v) + 1; bytes = decimal c } ∷ []
unfolding first_line solid blank
first_tokens v c =
    word_then 0 (codes "p") 32 (codes "cnf" ++ (32 ∷ (decimal v ++ (32 ∷ decimal c)))) (omega arith) refl refl
    ∙ ap (λ (ts : List Token). record { place = 0; bytes = codes "p" } ∷ ts)
    (word_then 2 (codes "cnf") 32 (decimal v ++ (32 ∷ decimal c)) (omega arith) refl refl
    ∙ ap (λ (ts : List Token). record { place = 2; bytes = codes "cnf" } ∷ ts)
    (word_then 6 (decimal v) 32 (decimal c) (some_decimal v) (solid_decimal v) refl
    ∙ ap (λ (ts : List Token). record { place = 6; bytes = decimal v } ∷ ts) (word_last (6 + length (decimal v) + 1) (decimal c) (some_decimal c) (solid_decimal c))))

-- What they say.
reads_v : (e v : ℕ) (t : Token) (ts : List Token) → natural t.bytes ≡ Some v → v ≤ most_variables → size_v e (t ∷ ts) ≡ size_c e v ts
unfolding size_v
reads_v e v t ts q h = rw (size_v, q, le-ltb most_variables v h)

reads_c : (e v c : ℕ) (t : Token) → natural t.bytes ≡ Some c → c ≤ most_clauses → size_c e v (t ∷ []) ≡ Ok (record { variables = v; clauses = c; end = e })
unfolding size_c no_more
reads_c e v c t q h = rw (size_c, q, le-ltb most_clauses c h)

reads_words : (e p q : ℕ) (ts : List Token) → word_p e (record { place = p; bytes = codes "p" } ∷ record { place = q; bytes = codes "cnf" } ∷ ts) ≡ size_v e ts
unfolding word_p word_cnf
reads_words e p q ts = refl

first_read : (e v c : ℕ) → v ≤ most_variables → c ≤ most_clauses → word_p e (tokens_from 0 0 (first_line v c)) ≡ Ok (record { variables = v; clauses = c; end = e })
first_read e v c h k =
    ap (word_p e) (first_tokens v c)
    ∙ reads_words e 0 2 _
    ∙ reads_v e v _ _ (natural-decimal v (omega arith)) h
    ∙ reads_c e v c _ (natural-decimal c (omega arith)) k

-- No line of remarks stands before it, since its first byte is `p`.
begins : (t : List ℕ) → remarks false t ≡ 0 → 1 ≤ length t → get_or t 0 0 ≡ 112 → header t ≡ word_p (line t) (tokens_from 0 0 (take (line t) t))
unfolding header header_at
begins t e l q = ap (header_at t) e ∙ rw (header_at, lt-ltb 0 (length t) (omega arith), eq-eqb (get_or t 0 0) 112 q, zero-add)

first_begins : (v c : ℕ) (r : List ℕ) → (remarks false (first_line v c ++ r) ≡ 0) × (1 ≤ length (first_line v c ++ r)) × (get_or (first_line v c ++ r) 0 0 ≡ 112)
unfolding remarks first_line
first_begins v c r = (refl, omega arith, refl)

-- "Written text: `p cnf V C`, LF": its header is V and C.
pub header_first : (v c : ℕ) (r : List ℕ) → v ≤ most_variables → c ≤ most_clauses
    → header (first_line v c ++ (10 ∷ r)) ≡ Ok (record { variables = v; clauses = c; end = length (first_line v c) })
header_first v c r h k =
    let (e, l, q) = first_begins v c (10 ∷ r) in
    begins (first_line v c ++ (10 ∷ r)) e l q ∙ rw (line_first v c r, take_at (first_line v c) (10 ∷ r) (length (first_line v c)) refl) (first_read (length (first_line v c)) v c h k)
