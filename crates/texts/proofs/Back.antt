-- Reading written text gives back n and the table.
use Prim.Native.Nat.{ℕ, ◌+◌, ◌≤◌}
use mathlib.Core.Path.{◌≡◌, refl, sym, ap, ◌∙◌}
use mathlib.Core.Bool.{Bool, false}
use mathlib.Core.List.{List, [], ◌∷◌}
use native.Mathlib.Omega.{arith}
use lib.IntN.{ℤ}
use lib.ListN.{length}
use lib.Dec.{ltb}
use borrow.Author.Tests.{le-ltb}
use Rattle.std.specs.Prelude.{Result, Ok}
use Rattle.std.specs.Result.{result_and}
use Rattle.std.proofs.lemmas.List.{length-map, drop_at}
use Rattle.tables.specs.Sizes.{most_bytes}
use Rattle.tables.specs.Numbers.{refuse}
use Rattle.tables.specs.declared.numbers.Refusal.{Refusal}
use Rattle.tables.specs.declared.numbers.Refusal.TheVariants.{TooLarge, ShortBuffer}
use Rattle.tables.specs.Clause.{clauses}
use Rattle.tables.specs.Check.{checked}
use Rattle.tables.proofs.Checked.{accepted_good}
use Rattle.tables.proofs.Few.{accepted_few}
use Rattle.texts.specs.Bytes.{blank}
use Rattle.texts.specs.Tokens.{tokens_from, tokens_at}
use Rattle.texts.specs.Header.{header}
use Rattle.texts.specs.Body.{body_from, entry_of, entries}
use Rattle.texts.specs.Buffer.{front, leaves}
use Rattle.texts.specs.Reading.{behind, judged, verdict, roomed, reading, row_after}
use Rattle.texts.specs.Writing.{first_line, clause_lines, written}
use Rattle.texts.specs.declared.header.Header.{Header}
use Rattle.texts.proofs.Spans.{tokens_blank}
use Rattle.texts.proofs.HeaderLine.{header_first}
use Rattle.texts.proofs.Lines.{entries-lines, body_lines}

-- A test that does not refuse lets the answer through.
passes : {T : Type 0} (b : Bool) (why : Refusal) (r : Result T Refusal) → b ≡ false → result_and (refuse b why) r ≡ r
unfolding refuse
passes b why r e = rw (refuse, e)

module _ (n : ℕ) (t : List ℤ) (good : checked n t ≡ Ok tt) where
  -- The text, where its header line ends, and what the header says.
  abbrev text : List ℕ
  text = written n t

  abbrev over : ℕ
  over = length (first_line n (length (clauses t)))

  abbrev said : Header
  said = record { variables = n; clauses = length (clauses t); end = over }

  header_back : header text ≡ Ok said
  unfolding written
  header_back = header_first n (length (clauses t)) (clause_lines t) (accepted_good n t good).few (accepted_few n t good)

  -- The tokens behind the header line are those of the clause lines.
  tokens_back : tokens_at over text ≡ tokens_from 0 (over + 1) (clause_lines t)
  unfolding written blank
  tokens_back =
      ap (tokens_from 0 over) (drop_at (first_line n (length (clauses t))) (10 ∷ clause_lines t) over refl) ∙ tokens_blank over 10 (clause_lines t) refl

  said_back : entries (tokens_at over text) ≡ t
  said_back = ap entries tokens_back ∙ entries-lines n (omega (arith, (accepted_good n t good).few)) (accepted_good n t good).sound (over + 1)

  pub entries_back : entries (behind text (header text)) ≡ t
  unfolding behind
  entries_back = rw header_back said_back

  count_back : length (tokens_at over text) ≡ length t
  count_back = sym (length-map (tokens_at over text) entry_of) ∙ ap length said_back

  body_back : body_from n (length (clauses t)) (length text) 0 0 0 (tokens_at over text) ≡ Ok tt
  unfolding clauses
  body_back =
      let g = accepted_good n t good in
      let few = g.few in
      let short = g.short in
      ap (body_from n (length (clauses t)) (length text) 0 0 0) tokens_back
      ∙ body_lines n (omega arith) g.sound [] (length (clauses t)) (length text) 0 0 (over + 1) (omega arith) (omega arith)

  judged_back : judged text (Ok said) ≡ Ok (record { variables = n; entries = length t })
  unfolding judged
  judged_back = rw (body_back, count_back)

  pub verdict_back : length text ≤ most_bytes → verdict text ≡ Ok (record { variables = n; entries = length t })
  unfolding verdict
  verdict_back h = passes (ltb most_bytes (length text)) (TooLarge most_bytes) (judged text (header text)) (le-ltb most_bytes (length text) h) ∙ ap (judged text) header_back ∙ judged_back

  -- Into a lent row that holds the table.
  module _ (h : length text ≤ most_bytes) (row : List ℤ) (room : length t ≤ length row) where
    pub reading_back : reading text (length row) ≡ Ok (record { variables = n; entries = length t })
    unfolding reading roomed
    reading_back = ap (roomed (length row)) (verdict_back h) ∙ passes (ltb (length row) (length t)) (ShortBuffer (length t)) _ (le-ltb (length row) (length t) room)

    pub row_back : row_after text row ≡ front t row
    unfolding row_after leaves
    row_back = rw (reading_back, entries_back)
