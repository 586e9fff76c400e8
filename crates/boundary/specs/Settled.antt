-- The rounds by themselves: the tests before them, and what they leave.
use Rattle.std.specs.Prelude.{ℕ, ◌+◌, List, [], ◌∷◌, ℤ, leb, take, Result, Ok, Err}
use Rattle.tables.specs.Numbers.{Verdict, refuse, first_refusal}
use Rattle.tables.specs.Check.{checked}
use Rattle.tables.specs.declared.numbers.Refusal.{Refusal}
use Rattle.tables.specs.declared.numbers.Refusal.TheVariants.{ShortBuffer}
use Rattle.rules.specs.Pins.{book_long}
use Rattle.rules.specs.Calls.{work_short, held_bad, contradiction, outcome_of}
use Rattle.rules.specs.declared.book.Book.{Book}
use Rattle.rounds.specs.Rounds.{Settles}
use Rattle.rounds.specs.declared.settle.Settled.{Settled}

-- The tests that every call begins with; 8 where the row has no place for each variable and place 0; then 4. room, places: the
-- lengths of the row that the table is settled in and of the row of what each variable stands for.
unfoldable pub settle_verdict : ℕ → List ℤ → Book → ℕ → ℕ → Verdict
settle_verdict n t b room places =
    first_refusal (checked n t ∷ work_short room ∷ book_long b ∷ held_bad n b ∷ refuse (leb places n) (ShortBuffer (n + 1)) ∷ contradiction (outcome_of n t b) ∷ [])

abbrev pub judged : Result Settled Refusal → Verdict
judged (Ok s) = Ok tt
judged (Err why) = Err why

-- So many rounds are run; so many entries of the row are the settled table, and the front of the other row says what each
-- variable stands for.
abbrev pub Leaves : ℕ → List ℤ → Book → ℕ → ℕ → List ℤ → List ℕ → Type 0
Leaves n t b rounds entries row stands = Settles (outcome_of n t b) (Ok (record { rounds = rounds; entries = entries })) (take (n + 1) stands) row
