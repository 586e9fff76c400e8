-- The pin book.
use Rattle.std.specs.Prelude.{ℕ, ◌+◌, ◌-◌, Bool, ◌||◌, List, [], ◌∷◌, ℤ, pos, set, take, replicate, eqb, ltb, Result, Ok}
use Rattle.std.specs.Result.{result_and, result_unwrap_or}
use Rattle.tables.specs.Sizes.{most_pins}
use Rattle.tables.specs.Numbers.{Verdict, refuse, first_refusal}
use Rattle.tables.specs.Literal.{literal, var}
use Rattle.tables.specs.declared.numbers.Refusal.{Refusal}
use Rattle.tables.specs.declared.numbers.Refusal.TheVariants.{BookFull, NothingHeld}
use Rattle.rules.specs.declared.book.Book.{Book}

-- "The pin book is one record that a pin or a take-back changes." The pins in force are its first places.
unfoldable pub in_force : Book → List ℤ
in_force b = take b.held b.pins

unfoldable pub empty_book : Book
empty_book = record { pins = replicate most_pins (pos 0); held = 0 }

-- "5 | pin or asked variable out of range": a pin that is 0 or beyond n.
unfoldable pub out_of_range : ℕ → ℤ → Bool
out_of_range n x = eqb (literal x) 0 || ltb n (var (literal x))

-- "A pin put twice is held twice. .. a pin writes the first place past the length."
unfoldable pub with_pin : Book → ℤ → Book
with_pin b x = record { pins = set b.pins b.held x; held = b.held + 1 }

-- "A take-back sets the freed place to 0"
unfoldable pub without_last : Book → Book
without_last b = record { pins = set b.pins (b.held - 1) (pos 0); held = b.held - 1 }

-- "6 | .. its length is above 64"
unfoldable pub book_long : Book → Verdict
book_long b = refuse (ltb most_pins b.held) BookFull

-- "A take-back reads the book only: 7 at length 0, 6 above 64." A pin and a take-back answer with the book that comes back.
unfoldable pub take_back : Book → Result Book Refusal
take_back b = result_and (first_refusal (refuse (eqb b.held 0) NothingHeld ∷ book_long b ∷ [])) (Ok (without_last b))

-- "A refusal leaves .. pin book as found."
abbrev pub book_after : Book → Result Book Refusal → Book
book_after b answer = result_unwrap_or answer b
