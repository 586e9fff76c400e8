-- What a call over a lent book answers: the book itself comes back in the caller's memory.
use Rattle.std.specs.Prelude.{Result, Ok, Err}
use Rattle.tables.specs.Numbers.{Verdict}
use Rattle.tables.specs.declared.numbers.Refusal.{Refusal}
use Rattle.rules.specs.declared.book.Book.{Book}

abbrev pub answered : Result Book Refusal → Verdict
answered (Ok book) = Ok tt
answered (Err why) = Err why
