-- What a call over a lent book answers has the numbers of what the same call answers by value.
use Rattle.std.proofs.Common.{◌≡◌, refl}
use Rattle.std.specs.Prelude.{Result, Ok, Err}
use Rattle.tables.specs.declared.numbers.Refusal.{Refusal}
use Rattle.rules.specs.Calls.{numbers, returned, booked_numbers}
use Rattle.rules.specs.declared.book.Book.{Book}
use Rattle.book.specs.Answers.{answered}
use Rattle.boundary.specs.Answers.{plain_numbers}

pub answered_numbers : (answer : Result Book Refusal) → plain_numbers (answered answer) ≡ booked_numbers answer
unfolding plain_numbers booked_numbers numbers returned
answered_numbers (Ok book) = refl
answered_numbers (Err why) = refl
