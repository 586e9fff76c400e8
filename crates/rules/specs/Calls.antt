-- What each public call answers, for every input, and what the lent memory holds afterwards: the refusals in the rules' order,
-- each with its number and place. The calls on clause text stand beside its definitions.
use Rattle.std.specs.Prelude.{ℕ, ◌-◌, Bool, ◌&&◌, ◌||◌, List, [], ◌∷◌, ◌++◌, ℤ, pos, length, get_or, replicate, eqb, leb, ltb, Result, Ok, Err}
use Rattle.std.specs.List.{list_any, filter, range_with_len}
use Rattle.std.specs.Result.{result_and}
use Rattle.tables.specs.Sizes.{most_pins, work_room}
use Rattle.tables.specs.Numbers.{Verdict, refuse, first_refusal, answer_number, answer_place}
use Rattle.tables.specs.Check.{checked}
use Rattle.tables.specs.declared.numbers.Refusal.{Refusal}
use Rattle.tables.specs.declared.numbers.Refusal.TheVariants.{Contradiction, OutOfRange, BookFull, ShortBuffer, ShortWork, BadValue}
use Rattle.texts.specs.Buffer.{leaves}
use Rattle.rules.specs.Rounds.{Outcome, impossible, settled, outcome, pinned}
use Rattle.rules.specs.Patterns.{Gate}
use Rattle.rules.specs.Taking.{taken}
use Rattle.rules.specs.Circuit.{free}
use Rattle.rules.specs.Fill.{bit, filled}
use Rattle.rules.specs.Ask.{asked}
use Rattle.rules.specs.Listing.{listing}
use Rattle.rules.specs.Pins.{in_force, out_of_range, with_pin, book_long}
use Rattle.rules.specs.declared.book.Book.{Book}
use Rattle.rules.specs.declared.built.Built.{Built}

-- "9; 6 if the lent book's length is above 64; 5 if a held pin is 0 or beyond n"
unfoldable pub work_short : ℕ → Verdict
work_short room = refuse (ltb room work_room) ShortWork

unfoldable pub held_bad : ℕ → Book → Verdict
held_bad n b = refuse (list_any (out_of_range n) (in_force b)) OutOfRange

-- "4": the outcome of the table with the pins in force.
unfoldable pub outcome_of : ℕ → List ℤ → Book → Outcome
outcome_of n t b = outcome n (pinned t (in_force b))

unfoldable pub contradiction : Outcome → Verdict
contradiction (impossible r) = Err (Contradiction r)
contradiction (settled r st cs) = Ok tt

-- What an outcome gives: the rounds, what each variable stands for, the gates taken, the listing.
unfoldable pub rounds_in : Outcome → ℕ
rounds_in (impossible r) = r
rounds_in (settled r st cs) = r

unfoldable pub stands_in : Outcome → List ℕ
stands_in (impossible r) = []
stands_in (settled r st cs) = st

unfoldable pub gates_in : ℕ → Outcome → List Gate
gates_in n (impossible r) = []
gates_in n (settled r st cs) = taken n cs

unfoldable pub listed : ℕ → Outcome → List ℕ
listed n (impossible r) = []
listed n (settled r st cs) = listing n r st cs (taken n cs)

-- "Every lent work buffer is all zero after every call."
unfoldable pub wiped : List ℤ → List ℤ
wiped work = replicate (length work) (pos 0)

-- "Order for a build: 2 and 3 over the table; 9; 6 if the lent book's length is above 64; 5 if a held pin is 0 or beyond n;
-- 4; 8." work, room: the lengths of the work buffer and of the listing's.
unfoldable pub build_verdict : ℕ → List ℤ → Book → ℕ → ℕ → Verdict
build_verdict n t b work room =
    let bytes = length (listed n (outcome_of n t b)) in
    first_refusal (checked n t ∷ work_short work ∷ book_long b ∷ held_bad n b ∷ contradiction (outcome_of n t b) ∷ refuse (ltb room bytes) (ShortBuffer bytes) ∷ [])

unfoldable pub build : ℕ → List ℤ → Book → ℕ → ℕ → Result Built Refusal
build n t b work room =
    let o = outcome_of n t b in result_and (build_verdict n t b work room) (Ok (record { rounds = rounds_in o; bytes = length (listed n o) }))

unfoldable pub build_listing : ℕ → List ℤ → Book → ℕ → List ℕ → List ℕ
build_listing n t b work buffer = leaves (build_verdict n t b work (length buffer)) (listed n (outcome_of n t b)) buffer

-- "10 | value of a free variable neither 0 nor 1 | the lowest such variable"
unfoldable pub bad_values : ℕ → Outcome → List ℕ → List ℕ
bad_values n o given = filter (λ v. free (stands_in o) (gates_in n o) v && ltb 1 (get_or given (v - 1) 0)) (range_with_len 1 n)

unfoldable pub bad_value : List ℕ → Verdict
bad_value vs = refuse (ltb 0 (length vs)) (BadValue (get_or vs 0 0))

-- "Fill: as a build up to 4, then 8 (given values or result under n bytes, room n), then 10."
unfoldable pub fill_verdict : ℕ → List ℤ → Book → ℕ → List ℕ → ℕ → Verdict
fill_verdict n t b work given room =
    first_refusal (checked n t ∷ work_short work ∷ book_long b ∷ held_bad n b ∷ contradiction (outcome_of n t b)
    ∷ refuse (ltb (length given) n || ltb room n) (ShortBuffer n) ∷ bad_value (bad_values n (outcome_of n t b) given) ∷ [])

unfoldable pub fill_values : ℕ → List ℤ → Book → ℕ → List ℕ → List ℕ → List ℕ
fill_values n t b work given buffer =
    let o = outcome_of n t b in
    leaves (fill_verdict n t b work given (length buffer)) (filled n (stands_in o) (gates_in n o) given) buffer

-- "Ask: as fill without a result buffer, with 5 for variable 0 or beyond n after 3."
unfoldable pub ask_verdict : ℕ → List ℤ → Book → ℕ → List ℕ → ℕ → Verdict
ask_verdict n t b work given v =
    first_refusal (checked n t ∷ refuse (eqb v 0 || ltb n v) OutOfRange ∷ work_short work ∷ book_long b ∷ held_bad n b ∷ contradiction (outcome_of n t b)
    ∷ refuse (ltb (length given) n) (ShortBuffer n) ∷ bad_value (bad_values n (outcome_of n t b) given) ∷ [])

unfoldable pub ask : ℕ → List ℤ → Book → ℕ → List ℕ → ℕ → Result Bool Refusal
ask n t b work given v =
    let o = outcome_of n t b in result_and (ask_verdict n t b work given v) (Ok (asked (stands_in o) (gates_in n o) given v))

-- "A pin: 2, 3, 9, 6 for a length above 64, 5 for held pins, 5 for the new one, 6 if 64 are held, 4."
unfoldable pub pin_verdict : ℕ → List ℤ → Book → ℕ → ℤ → Verdict
pin_verdict n t b work x =
    first_refusal (checked n t ∷ work_short work ∷ book_long b ∷ held_bad n b ∷ refuse (out_of_range n x) OutOfRange ∷ refuse (leb most_pins b.held) BookFull
    ∷ contradiction (outcome n (pinned t (in_force b ++ (x ∷ [])))) ∷ [])

unfoldable pub pin : ℕ → List ℤ → Book → ℕ → ℤ → Result Book Refusal
pin n t b work x = result_and (pin_verdict n t b work x) (Ok (with_pin b x))

-- What is returned beside the number and the place: two values of an accepted answer, and "0 each on a refusal".
pub record Numbers : Type 0 where
  pub number : ℕ
  pub place : ℕ
  pub first : ℕ
  pub second : ℕ

unfoldable pub returned : {T : Type 0} → (T → ℕ) → Result T Refusal → ℕ
returned value (Ok x) = value x
returned value (Err why) = 0

unfoldable pub numbers : {T : Type 0} → (T → ℕ) → (T → ℕ) → Result T Refusal → Numbers
numbers first second answer =
    record { number = answer_number answer; place = answer_place answer; first = returned first answer; second = returned second answer }

-- A build: the rounds and the bytes. An ask: the value. A pin and a take-back: nothing else.
unfoldable pub built_numbers : Result Built Refusal → Numbers
built_numbers = numbers (λ built. built.rounds) (λ built. built.bytes)

unfoldable pub asked_numbers : Result Bool Refusal → Numbers
asked_numbers = numbers bit (λ value. 0)

unfoldable pub booked_numbers : Result Book Refusal → Numbers
booked_numbers = numbers (λ book. 0) (λ book. 0)
