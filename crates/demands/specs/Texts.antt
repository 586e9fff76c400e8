-- Clause text, there and back: reading what was written of a table gives the table back.
use Rattle.std.specs.Prelude.{ℕ, ◌≤◌, ◌≡◌, List, ℤ, length, Ok}
use Rattle.tables.specs.Sizes.{most_bytes}
use Rattle.tables.specs.Check.{checked}
use Rattle.texts.specs.Header.{header}
use Rattle.texts.specs.Body.{entries}
use Rattle.texts.specs.Buffer.{front}
use Rattle.texts.specs.Reading.{behind, verdict, reading, row_after}
use Rattle.texts.specs.Writing.{written}

-- "Reading written text gives back n and the table, provided the text has at most 65,536 bytes."
abbrev pub ReadsBack : Type 0
ReadsBack =
    (n : ℕ) (t : List ℤ) → checked n t ≡ Ok tt → length (written n t) ≤ most_bytes
    → (verdict (written n t) ≡ Ok (record { variables = n; entries = length t }))
    × (entries (behind (written n t) (header (written n t))) ≡ t)

-- READ INTO A LENT ROW that holds the table: the call is accepted, the front of the row is the table, and nothing behind it
-- is written.
abbrev pub ReadsBackInto : Type 0
ReadsBackInto =
    (n : ℕ) (t : List ℤ) → checked n t ≡ Ok tt → length (written n t) ≤ most_bytes → (row : List ℤ) → length t ≤ length row
    → (reading (written n t) (length row) ≡ Ok (record { variables = n; entries = length t }))
    × (row_after (written n t) row ≡ front t row)
