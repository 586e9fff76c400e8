-- The build program: clause text in, the listing or one line with X out.
use Rattle.std.specs.Prelude.{ℕ, List, Result, Ok, Err}
use Rattle.tables.specs.Sizes.{most_bytes, work_room}
use Rattle.tables.specs.declared.numbers.Refusal.{Refusal}
use Rattle.texts.specs.Header.{header}
use Rattle.texts.specs.Body.{entries}
use Rattle.texts.specs.Reading.{behind, verdict}
use Rattle.texts.specs.declared.reading.Reading.{Reading}
use Rattle.rules.specs.Listing.{line_x}
use Rattle.rules.specs.Pins.{empty_book}
use Rattle.rules.specs.Calls.{outcome_of, listed, build}

-- "The build program reads clause text on standard input and prints the listing, or one such line with `X`, number, place.
-- Its listing buffer has 65,536 bytes; a longer listing gives X with 8."
unfoldable pub printed : {T : Type 0} → List ℕ → Result T Refusal → List ℕ
printed bytes (Ok value) = bytes
printed bytes (Err why) = line_x why

unfoldable pub program_on : List ℕ → Result Reading Refusal → List ℕ
program_on text (Err why) = line_x why
program_on text (Ok r) =
    let n = r.variables in let t = entries (behind text (header text)) in
    printed (listed n (outcome_of n t empty_book)) (build n t empty_book work_room most_bytes)

unfoldable pub program : List ℕ → List ℕ
program text = program_on text (verdict text)
