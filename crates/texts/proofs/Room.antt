-- A text that is accepted says no more entries than a table may have.
use Rattle.std.proofs.Common.{◌≡◌, ◌∙◌, refl, sym, ap, ℕ, ◌+◌, ◌<◌, ◌≤◌, Bool, true, false, List, [], ◌∷◌, length, leb, ltb, eqb, leb-false, ltb-false, le-ltb, take, drop, ℤ, Option, Some, None, Result, Ok, Err, arith}
use Rattle.std.specs.Result.{result_and}
use Rattle.std.proofs.lemmas.List.{take_at, length-map}
use Rattle.tables.specs.Sizes.{most_bytes, most_entries, most_literals}
use Rattle.tables.specs.Numbers.{Verdict, refuse, first_refusal}
use Rattle.tables.specs.Check.{checked}
use Rattle.tables.specs.Literal.{var}
use Rattle.tables.specs.declared.numbers.Refusal.{Refusal}
use Rattle.tables.specs.declared.numbers.Refusal.TheVariants.{Unreadable, TooLarge, Undeclared, ShortBuffer}
use Rattle.tables.proofs.Verdicts.{never, answered, refuse_accepts}
use Rattle.texts.specs.Tokens.{Token, tokens_at}
use Rattle.texts.specs.Numbers.{number}
use Rattle.texts.specs.Header.{header}
use Rattle.texts.specs.Body.{judged_number, body_from, entries, entry_of}
use Rattle.texts.specs.Buffer.{front, leaves}
use Rattle.texts.specs.Writing.{written, writing}
use Rattle.texts.specs.Reading.{behind, judged, verdict, roomed, reading, row_after}
use Rattle.texts.specs.declared.header.Header.{Header}
use Rattle.texts.specs.declared.reading.Reading.{Reading}

judged_short : (v c m z l p x : ℕ) → judged_number v c m z l p x ≡ Ok tt → m < most_entries
unfolding judged_number
judged_short v c m z l p x e = go (leb most_entries m) refl e
  where
    rest : Verdict
    rest =
        elim (eqb x 0) [
          | true ↦ elim (leb c z) [ true ↦ Err (Undeclared p) | false ↦ Ok tt ]
          | false ↦ elim (leb most_literals l) [
            | true ↦ Err (TooLarge p)
            | false ↦ elim (leb c z) [ true ↦ Err (Undeclared p) | false ↦ elim (ltb v (var x)) [ true ↦ Err (Undeclared p) | false ↦ Ok tt ] ]
          ]
        ]

    go : (b : Bool) → leb most_entries m ≡ b → ◌≡◌ {A = Verdict} (elim b [ true ↦ Err (TooLarge p) | false ↦ rest ]) (Ok tt) → m < most_entries
    go true q e = never tt (TooLarge p) e
    go false q e = leb-false most_entries m q

body_short : (v c n m z l : ℕ) (ts : List Token) → body_from v c n m z l ts ≡ Ok tt → m ≤ most_entries → m + length ts ≤ most_entries
unfolding body_from
body_short v c n m z l [] e h = omega arith
body_short v c n m z l (t ∷ ts) e h = by_number (number t.bytes) e (body_short v c n (m + 1) (z + 1) 0 ts) (body_short v c n (m + 1) z (l + 1) ts)
  where
    Rest : Verdict → Type 0
    Rest w = w ≡ Ok tt → m + 1 ≤ most_entries → m + 1 + length ts ≤ most_entries

    zero_or : ℕ → Verdict
    zero_or x = elim (eqb x 0) [ true ↦ body_from v c n (m + 1) (z + 1) 0 ts | false ↦ body_from v c n (m + 1) z (l + 1) ts ]

    by_zero : (b : Bool) → ◌≡◌ {A = Verdict} (elim b [ true ↦ body_from v c n (m + 1) (z + 1) 0 ts | false ↦ body_from v c n (m + 1) z (l + 1) ts ]) (Ok tt)
        → m < most_entries → Rest (body_from v c n (m + 1) (z + 1) 0 ts) → Rest (body_from v c n (m + 1) z (l + 1) ts) → m + length (t ∷ ts) ≤ most_entries
    by_zero true e h f g = let r = f e (omega arith) in omega arith
    by_zero false e h f g = let r = g e (omega arith) in omega arith

    by_verdict : (x : ℕ) (w : Verdict) → judged_number v c m z l t.place x ≡ w → ◌≡◌ {A = Verdict} (elim w [ Err why ↦ Err why | Ok _ ↦ zero_or x ]) (Ok tt)
        → Rest (body_from v c n (m + 1) (z + 1) 0 ts) → Rest (body_from v c n (m + 1) z (l + 1) ts) → m + length (t ∷ ts) ≤ most_entries
    by_verdict x (Err why) q e f g = never tt why e
    by_verdict x (Ok _) q e f g = by_zero (eqb x 0) e (judged_short v c m z l t.place x q) f g

    by_number : (o : Option ℕ) → ◌≡◌ {A = Verdict} (elim o [ None ↦ Err (Unreadable t.place) | Some x ↦ elim (judged_number v c m z l t.place x) [ Err why ↦ Err why | Ok _ ↦ zero_or x ] ]) (Ok tt)
        → Rest (body_from v c n (m + 1) (z + 1) 0 ts) → Rest (body_from v c n (m + 1) z (l + 1) ts) → m + length (t ∷ ts) ≤ most_entries
    by_number None e f g = never tt (Unreadable t.place) e
    by_number (Some x) e f g = by_verdict x (judged_number v c m z l t.place x) refl e f g

-- So a row of that many entries is never short.
judged_fits : (t : List ℕ) (h : Result Header Refusal) (r : Reading) → judged t h ≡ Ok r → (r.entries ≤ most_entries) × (length (behind t h) ≡ r.entries)
unfolding judged behind
judged_fits t (Err why) r e = never r why e
judged_fits t (Ok h) r e =
    let w = answered (body_from h.variables h.clauses (length t) 0 0 0 (tokens_at h.end t)) _ r e in
    let s = body_short h.variables h.clauses (length t) 0 0 0 (tokens_at h.end t) w.0 (omega arith) in
    let q : length (tokens_at h.end t) ≡ r.entries = ap (λ (x : Reading). x.entries) w.1 in
    ((omega (arith, q, s)), q)

pub verdict_fits : (t : List ℕ) (r : Reading) → verdict t ≡ Ok r → (r.entries ≤ most_entries) × (length (behind t (header t)) ≡ r.entries)
unfolding verdict
verdict_fits t r e = judged_fits t (header t) r (passed (refuse (ltb most_bytes (length t)) (TooLarge most_bytes)) e)
  where
    passed : (v : Verdict) → result_and v (judged t (header t)) ≡ Ok r → judged t (header t) ≡ Ok r
    passed (Ok _) e = e
    passed (Err why) e = never r why e

pub reading_whole : (t : List ℕ) → reading t most_entries ≡ verdict t
unfolding reading roomed refuse
reading_whole t = go (verdict t) refl
  where
    go : (v : Result Reading Refusal) → verdict t ≡ v → roomed most_entries v ≡ v
    go (Ok r) e = rw (le-ltb most_entries r.entries (verdict_fits t r e).0) refl
    go (Err why) e = refl

-- The table of a text, read into a row that has room for every table.
module _ (text : List ℕ) (r : Reading) (ok : reading text most_entries ≡ Ok r) where
  pub verdict_is : verdict text ≡ Ok r
  verdict_is = sym (reading_whole text) ∙ ok

  table_long : length (entries (behind text (header text))) ≡ r.entries
  table_long = length-map (behind text (header text)) entry_of ∙ (verdict_fits text r verdict_is).1

  pub entries_fit : r.entries ≤ most_entries
  entries_fit = (verdict_fits text r verdict_is).0

  pub table_read : (row : List ℤ) → length row ≡ most_entries → take r.entries (row_after text row) ≡ entries (behind text (header text))
  unfolding row_after leaves front
  table_read row long =
      let table = entries (behind text (header text)) in rw (long, ok) (take_at table (drop (length table) row) r.entries table_long)

  pub table_is : (row after part : List ℤ) → length row ≡ most_entries → after ≡ row_after text row → part ≡ take r.entries after → part ≡ entries (behind text (header text))
  table_is row after part long a p = p ∙ ap (take r.entries) a ∙ table_read row long

-- What an accepted reading or writing has room for.
pub read_within : (text : List ℕ) (room : ℕ) (r : Reading) → reading text room ≡ Ok r → r.entries ≤ room
unfolding reading roomed
read_within text room r e = go (verdict text) e
  where
    go : (v : Result Reading Refusal) → roomed room v ≡ Ok r → r.entries ≤ room
    go (Err why) e = never r why e
    go (Ok s) e =
        let (k, q) = answered (refuse (ltb room s.entries) (ShortBuffer s.entries)) s r e in
        rw q at (ltb-false room s.entries (refuse_accepts (ltb room s.entries) (ShortBuffer s.entries) k))

-- So has a writing in the buffer.
pub written_within : (n : ℕ) (t : List ℤ) (room bytes : ℕ) → writing n t room ≡ Ok bytes → bytes ≤ room
unfolding writing first_refusal
written_within n t room bytes e = go (checked n t) e
  where
    size : ℕ
    size = length (written n t)

    go : (v : Verdict) → result_and (result_and v (result_and (refuse (ltb room size) (ShortBuffer size)) (Ok (tt {0})))) (Ok size) ≡ Ok bytes → bytes ≤ room
    go (Err why) e = never bytes why e
    go (Ok _) e =
        let (k, q) = answered (result_and (refuse (ltb room size) (ShortBuffer size)) (Ok (tt {0}))) size bytes e in
        let (h, w) = answered (refuse (ltb room size) (ShortBuffer size)) (tt {0}) (tt {0}) k in
        rw q at (ltb-false room size (refuse_accepts (ltb room size) (ShortBuffer size) h))

pub writing_is : (n : ℕ) (t : List ℤ) (room : ℕ) → checked n t ≡ Ok tt → length (written n t) ≤ room → writing n t room ≡ Ok (length (written n t))
unfolding writing first_refusal refuse
writing_is n t room good h = rw (good, le-ltb room (length (written n t)) h) refl
