-- The reading of a clause text.
use Rattle.std.specs.Prelude.{ℕ, List, [], ℤ, length, ltb, Result, Ok, Err}
use Rattle.std.specs.Result.{result_and}
use Rattle.tables.specs.Sizes.{most_bytes}
use Rattle.tables.specs.Numbers.{refuse}
use Rattle.tables.specs.declared.numbers.Refusal.{Refusal}
use Rattle.tables.specs.declared.numbers.Refusal.TheVariants.{TooLarge, ShortBuffer}
use Rattle.texts.specs.Tokens.{Token, tokens_at}
use Rattle.texts.specs.Header.{header}
use Rattle.texts.specs.Body.{body_from, entries}
use Rattle.texts.specs.Buffer.{leaves}
use Rattle.texts.specs.declared.header.Header.{Header}
use Rattle.texts.specs.declared.reading.Reading.{Reading}

-- The tokens behind the header line.
unfoldable pub behind : List ℕ → Result Header Refusal → List Token
behind t (Err why) = []
behind t (Ok h) = tokens_at h.end t

-- The judgement of a text: of its header, then of the tokens behind it. Each of these is an entry.
unfoldable pub judged : List ℕ → Result Header Refusal → Result Reading Refusal
judged t (Err why) = Err why
judged t (Ok h) =
    result_and (body_from h.variables h.clauses (length t) 0 0 0 (tokens_at h.end t)) (Ok (record { variables = h.variables; entries = length (tokens_at h.end t) }))

-- "Text over 65,536 bytes is 2 at 65,536, before all else. Then the earliest place decides".
unfoldable pub verdict : List ℕ → Result Reading Refusal
verdict t = result_and (refuse (ltb most_bytes (length t)) (TooLarge most_bytes)) (judged t (header t))

-- "Last comes 8." room: the entries that the lent row holds.
unfoldable pub roomed : ℕ → Result Reading Refusal → Result Reading Refusal
roomed room (Err why) = Err why
roomed room (Ok r) = result_and (refuse (ltb room r.entries) (ShortBuffer r.entries)) (Ok r)

unfoldable pub reading : List ℕ → ℕ → Result Reading Refusal
reading t room = roomed room (verdict t)

-- The row afterwards: "a reading [writes] the table".
unfoldable pub row_after : List ℕ → List ℤ → List ℤ
row_after t row = leaves (reading t (length row)) (entries (behind t (header t))) row
