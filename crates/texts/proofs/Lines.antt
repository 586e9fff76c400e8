-- The written clause lines of a table that the check accepts are read back: each entry is a token, and none is refused.
use Prim.Native.Nat.{ℕ, ◌+◌, ◌^◌, ◌≤◌, ◌<◌}
use mathlib.Core.Path.{◌≡◌, refl, ap, ◌∙◌}
use mathlib.Core.Bool.{Bool, true, false}
use mathlib.Core.List.{List, [], ◌∷◌, ◌++◌}
use native.Mathlib.Omega.{arith}
use lib.IntN.{ℤ}
use lib.ListN.{length}
use lib.Dec.{eqb}
use borrow.Author.Tests.{eq-eqb, ne_eqb, le-ltb, lt-leb}
use Rattle.std.specs.Prelude.{Ok, Some}
use Rattle.tables.specs.Sizes.{most_entries, most_literals}
use Rattle.tables.specs.Literal.{literal, var}
use Rattle.tables.specs.Clause.{clauses_from}
use Rattle.tables.proofs.Literals.{entry-literal, literal_one, low_var}
use Rattle.tables.proofs.Clauses.{clause_ends, clause_grows}
use Rattle.tables.proofs.Checked.{Sound, ended, nought, lettered}
use Rattle.texts.specs.Bytes.{blank}
use Rattle.texts.specs.Tokens.{Token, tokens_from}
use Rattle.texts.specs.Numbers.{number}
use Rattle.texts.specs.Body.{judged_number, body_from, entry_of, entries}
use Rattle.texts.specs.Decimal.{signed}
use Rattle.texts.specs.Writing.{parting, clause_lines}
use Rattle.texts.proofs.Spans.{tokens_nil, word_then}
use Rattle.texts.proofs.Words.{solid_signed, some_signed, number-signed}

-- What stands behind an entry's word is a blank.
parting_blank : (l : ℕ) → blank (parting l) ≡ true
unfolding parting blank
parting_blank l = go (eqb l 0)
  where
    go : (b : Bool) → blank (elim b [ true ↦ 10 | false ↦ 32 ]) ≡ true
    go true = refl
    go false = refl

-- The token of an entry, and the place behind it.
abbrev word_of : ℤ → List ℕ
word_of z = signed (literal z)

abbrev past : ℕ → ℤ → ℕ
past p z = p + length (word_of z) + 1

tokens_lines : (p : ℕ) (z : ℤ) (zs : List ℤ) → tokens_from 0 p (clause_lines (z ∷ zs)) ≡ record { place = p; bytes = word_of z } ∷ tokens_from 0 (past p z) (clause_lines zs)
unfolding clause_lines
tokens_lines p z zs = word_then p (word_of z) (parting (literal z)) (clause_lines zs) (some_signed (literal z)) (solid_signed (literal z)) (parting_blank (literal z))

tokens_ended : (p : ℕ) → tokens_from 0 p (clause_lines []) ≡ []
unfolding clause_lines
tokens_ended p = tokens_nil p

-- Its number is the literal's, and says the entry.
module _ (n : ℕ) (few : n < 10 ^ 9) (z : ℤ) (in_range : var (literal z) ≤ n) where
  number-word : number (word_of z) ≡ Some (literal z)
  number-word = number-signed (literal z) (omega arith) (literal_one z)

  entry_word : (p : ℕ) → entry_of (record { place = p; bytes = word_of z }) ≡ z
  unfolding entry_of
  entry_word p = rw number-word (entry-literal z)

zero_in : (n l : ℕ) → l ≡ 0 → var l ≤ n
zero_in n l e = let h = low_var l (omega arith) in omega arith

-- The entries that the lines say are the table's.
pub entries-lines : (n : ℕ) → n < 10 ^ 9 → {l : ℕ} {zs : List ℤ} → Sound n l zs → (p : ℕ) → entries (tokens_from 0 p (clause_lines zs)) ≡ zs
entries-lines n few ended p = ap entries (tokens_ended p)
entries-lines n few (nought {z = z} {zs = zs} e s) p =
    ap entries (tokens_lines p z zs) ∙ rw (entry_word n few z (zero_in n (literal z) e) p, entries-lines n few s (past p z))
entries-lines n few (lettered {z = z} {zs = zs} e f g s) p =
    ap entries (tokens_lines p z zs) ∙ rw (entry_word n few z g p, entries-lines n few s (past p z))

-- Where no entry is left, no clause ends; and an open clause is ended by a later zero.
none_end : (before : List ℕ) → length (clauses_from before []) ≡ 0
unfolding clauses_from
none_end before = refl

open_ends : (n : ℕ) {l : ℕ} {zs : List ℤ} → Sound n l zs → (before : List ℕ) → 1 ≤ l → 1 ≤ length (clauses_from before zs)
open_ends n ended before h = absurd (omega arith)
open_ends n (nought {z = z} {zs = zs} e s) before h = rw (clause_ends before z zs e) (omega arith)
open_ends n (lettered {z = z} {zs = zs} e f g s) before h = rw (clause_grows before z zs e) (open_ends n s (before ++ (literal z ∷ [])) (omega arith))

-- A number of an accepted table is not refused, and the judgement goes on behind it.
module _ (v c m k l p : ℕ) where
  zero_fine : (x : ℕ) → m < most_entries → x ≡ 0 → k < c → judged_number v c m k l p x ≡ Ok tt
  unfolding judged_number
  zero_fine x g e h = rw (judged_number, lt-leb most_entries m g, eq-eqb x 0 e, lt-leb c k h)

  literal_fine : (x : ℕ) → m < most_entries → (x ≡ 0 → ⊥) → l < most_literals → k < c → var x ≤ v → judged_number v c m k l p x ≡ Ok tt
  unfolding judged_number
  literal_fine x g e f h i = rw (judged_number, lt-leb most_entries m g, ne_eqb x 0 e, lt-leb most_literals l f, lt-leb c k h, le-ltb v (var x) i)

module _ (v c n m k l : ℕ) (t : Token) (ts : List Token) (x : ℕ) (q : number t.bytes ≡ Some x) (fine : judged_number v c m k l t.place x ≡ Ok tt) where
  body_zero : x ≡ 0 → body_from v c n m k l (t ∷ ts) ≡ body_from v c n (m + 1) (k + 1) 0 ts
  unfolding body_from
  body_zero e = rw (body_from, q, fine, eq-eqb x 0 e)

  body_literal : (x ≡ 0 → ⊥) → body_from v c n m k l (t ∷ ts) ≡ body_from v c n (m + 1) k (l + 1) ts
  unfolding body_from
  body_literal e = rw (body_from, q, fine, ne_eqb x 0 e)

body_ended : (v c n m k : ℕ) → k ≡ c → body_from v c n m k 0 [] ≡ Ok tt
unfolding body_from
body_ended v c n m k e = rw (body_from, eq-eqb k c e)

-- None of them is refused: m entries, k zeros and l literals went before.
pub body_lines : (v : ℕ) → v < 10 ^ 9 → {l : ℕ} {zs : List ℤ} → Sound v l zs → (before : List ℕ) (c n m k p : ℕ) → m + length zs ≤ most_entries → k + length (clauses_from before zs) ≡ c
    → body_from v c n m k l (tokens_from 0 p (clause_lines zs)) ≡ Ok tt
body_lines v few ended before c n m k p g h = ap (body_from v c n m k 0) (tokens_ended p) ∙ body_ended v c n m k (omega (arith, none_end before))
body_lines v few (nought {l = l} {z = z} {zs = zs} e s) before c n m k p g h =
    let ends : k + length (before ∷ clauses_from [] zs) ≡ c = rw (clause_ends before z zs e) at h in
    ap (body_from v c n m k l) (tokens_lines p z zs)
    ∙ body_zero v c n m k l _ _ (literal z) (number-word v few z (zero_in v (literal z) e)) (zero_fine v c m k l p (literal z) (omega arith) e (omega arith)) e
    ∙ body_lines v few s [] c n (m + 1) (k + 1) (past p z) (omega arith) (omega arith)
body_lines v few (lettered {l = l} {z = z} {zs = zs} e f i s) before c n m k p g h =
    let grows : k + length (clauses_from (before ++ (literal z ∷ [])) zs) ≡ c = rw (clause_grows before z zs e) at h in
    let more = open_ends v s (before ++ (literal z ∷ [])) (omega arith) in
    ap (body_from v c n m k l) (tokens_lines p z zs)
    ∙ body_literal v c n m k l _ _ (literal z) (number-word v few z i) (literal_fine v c m k l p (literal z) (omega arith) e f (omega arith) i) e
    ∙ body_lines v few s (before ++ (literal z ∷ [])) c n (m + 1) k (past p z) (omega arith) grows
