-- From a call's answer to what it means: an accepted build is a settled evening, so that all that Demands says of one holds of
-- it; number 4 is a contradiction and nothing else; a refusal changes nothing.
use Rattle.std.specs.Prelude.{ℕ, ◌≡◌, List, ℤ, length, Ok, Err}
use Rattle.tables.specs.Numbers.{number_of, place_of}
use Rattle.tables.specs.declared.numbers.Refusal.{Refusal}
use Rattle.texts.specs.Reading.{reading, row_after}
use Rattle.texts.specs.Writing.{writing, buffer_after}
use Rattle.rules.specs.Rounds.{impossible, outcome, pinned}
use Rattle.rules.specs.Pins.{in_force, take_back, book_after}
use Rattle.rules.specs.Calls.{build_verdict, build, build_listing, fill_verdict, fill_values, pin}
use Rattle.rules.specs.declared.book.Book.{Book}
use Rattle.rules.specs.declared.built.Built.{Built}
use Rattle.demands.specs.Evening.{Lent, Settles}

-- ACCEPTED: the rounds that a build returns are those of the evening with the pins in force.
abbrev pub AcceptedSettles : Type 0
AcceptedSettles =
    (n : ℕ) (t : List ℤ) (b : Book) (work room : ℕ) (built : Built) → build n t b work room ≡ Ok built
    → (st : List ℕ) × (cs : List (List ℕ)) × Settles n t (in_force b) built.rounds st cs

-- IMPOSSIBLE: where a build answers 4, the table and the pins are in the sizes, and the rounds end in a contradiction in the
-- round that is its place. With NonePossible: no assignment satisfies them.
abbrev pub FourIsContradiction : Type 0
FourIsContradiction =
    (n : ℕ) (t : List ℤ) (b : Book) (work room : ℕ) (why : Refusal) → build n t b work room ≡ Err why → number_of why ≡ 4
    → Lent n t (in_force b) × (outcome n (pinned t (in_force b)) ≡ impossible (place_of why))

-- DEMAND 1: "A refusal changes neither the pin book nor any result buffer".
abbrev pub RefusalKeeps : Type 0
RefusalKeeps =
    (n : ℕ) (t : List ℤ) (b : Book) (work : ℕ) (given buffer text : List ℕ) (x : ℤ) (why : Refusal)
    → (build_verdict n t b work (length buffer) ≡ Err why → build_listing n t b work buffer ≡ buffer)
    × (fill_verdict n t b work given (length buffer) ≡ Err why → fill_values n t b work given buffer ≡ buffer)
    × (pin n t b work x ≡ Err why → book_after b (pin n t b work x) ≡ b)
    × (take_back b ≡ Err why → book_after b (take_back b) ≡ b)
    × (writing n t (length buffer) ≡ Err why → buffer_after n t buffer ≡ buffer)
    × (reading text (length t) ≡ Err why → row_after text t ≡ t)
