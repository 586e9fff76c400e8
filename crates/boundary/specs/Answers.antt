-- What the calls return over the boundary: the rules' numbers, and the book as it crosses.
use Rattle.std.specs.Prelude.{ℕ, Result}
use Rattle.tables.specs.declared.numbers.Refusal.{Refusal}
use Rattle.tables.specs.Numbers.{number_of, place_of}
use Rattle.texts.specs.declared.reading.Reading.{Reading}
use Rattle.rules.specs.Calls.{Numbers, numbers}
use Rattle.rules.specs.declared.book.Book.{Book}
use Rattle.boundary.specs.declared.answer.Answer.{Answer}
use Rattle.boundary.specs.declared.desk.LentBook.{LentBook}

-- The rules' numbers, as a record that crosses.
unfoldable pub told : Numbers → Answer
told x = record { number = x.number; place = x.place; first = x.first; second = x.second }

-- An accepted call with what is also returned; a refusal, with 0 each.
unfoldable pub accepted : ℕ → ℕ → Answer
accepted x y = record { number = 0; place = 0; first = x; second = y }

unfoldable pub refused : Refusal → Answer
refused why = record { number = number_of why; place = place_of why; first = 0; second = 0 }

-- A table check returns nothing else, a reading n and the entries, a writing the bytes.
unfoldable pub plain_numbers : {T : Type 0} → Result T Refusal → Numbers
plain_numbers = numbers (λ value. 0) (λ value. 0)

unfoldable pub read_numbers : Result Reading Refusal → Numbers
read_numbers = numbers (λ read. read.variables) (λ read. read.entries)

unfoldable pub written_numbers : Result ℕ Refusal → Numbers
written_numbers = numbers (λ bytes. bytes) (λ bytes. 0)

-- The pin book as it crosses, and as the rules have it.
unfoldable pub held_as : LentBook → Book
held_as b = record { pins = b.pins; held = b.held }

unfoldable pub lent_as : Book → LentBook
lent_as b = record { pins = b.pins; held = b.held }
