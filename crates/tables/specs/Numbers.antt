-- The numbers that the builder returns, and what the calls answer with.
use Rattle.std.specs.Prelude.{ℕ, Bool, true, false, List, [], ◌∷◌, Result, Ok, Err, ⊤}
use Rattle.std.specs.Result.{result_and}
use Rattle.tables.specs.Sizes.{most_pins, work_room}
use Rattle.tables.specs.declared.numbers.Refusal.{Refusal}
use Rattle.tables.specs.declared.numbers.Refusal.TheVariants.{Unreadable, TooLarge, Undeclared, Contradiction, OutOfRange, BookFull, NothingHeld, ShortBuffer, ShortWork, BadValue}

-- "1 | text not of the format"; "2 | a size above is passed"; "3 | literal beyond n, unfinished clause, clause number not as
-- declared"; "4 | contradiction"; "5 | pin or asked variable out of range"; "6 | pin book full, or its length is above 64";
-- "7 | nothing to take back"; "8 | result or value buffer short"; "9 | work buffer short"; "10 | value of a free variable
-- neither 0 nor 1".
abbrev pub number_of : Refusal → ℕ
number_of (Unreadable place) = 1
number_of (TooLarge place) = 2
number_of (Undeclared place) = 3
number_of (Contradiction round) = 4
number_of OutOfRange = 5
number_of BookFull = 6
number_of NothingHeld = 7
number_of (ShortBuffer room) = 8
number_of ShortWork = 9
number_of (BadValue variable) = 10

-- The place returned: of 1 the "byte place", of 2 and 3 the "byte or entry place", of 4 "the round, from 1", of 5 and 7 "0",
-- of 6 "64", of 8 "room needed", of 9 "16,384", of 10 "the lowest such variable".
abbrev pub place_of : Refusal → ℕ
place_of (Unreadable place) = place
place_of (TooLarge place) = place
place_of (Undeclared place) = place
place_of (Contradiction round) = round
place_of OutOfRange = 0
place_of BookFull = most_pins
place_of NothingHeld = 0
place_of (ShortBuffer room) = room
place_of ShortWork = work_room
place_of (BadValue variable) = variable

-- What a test says: that the call goes on, or why it refuses.
abbrev pub Verdict : Type 0
Verdict = Result ⊤ Refusal

-- A test that refuses; and tests in their order, of which the first that refuses decides.
unfoldable pub refuse : Bool → Refusal → Verdict
refuse true why = Err why
refuse false why = Ok tt

unfoldable pub first_refusal : List Verdict → Verdict
first_refusal [] = Ok tt
first_refusal (v ∷ vs) = result_and v (first_refusal vs)

-- The numbers of an answer: "0 | accepted", at place 0.
abbrev pub answer_number : {T : Type 0} → Result T Refusal → ℕ
answer_number (Ok value) = 0
answer_number (Err why) = number_of why

abbrev pub answer_place : {T : Type 0} → Result T Refusal → ℕ
answer_place (Ok value) = 0
answer_place (Err why) = place_of why
