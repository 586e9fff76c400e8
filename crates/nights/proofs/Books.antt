-- The book of a night, without its stack.
use Rattle.std.proofs.Common.{◌≡◌, ◌∙◌, ℕ, ◌≤◌, List, [], ◌∷◌, length, map, drop, fold, refl, sym}
use Rattle.std.proofs.lemmas.List.{drop_all}
use Rattle.rules.specs.Pins.{in_force, empty_book, book_after}
use Rattle.rules.specs.declared.book.Book.{Book}
use Rattle.demands.specs.Night.{Move, answer, Desk, opening, move, after}
use Rattle.demands.proofs.Night.{stack_held}

abbrev pub book_by : Book → Move → Book
book_by b m = book_after b (answer b m)

-- The stack decides nothing about the book.
book_of : (ms : List Move) (d : Desk) → (fold move d ms).book ≡ fold book_by d.book ms
unfolding move
book_of [] d = refl
book_of (m ∷ ms) d = book_of ms (move d m)

book_after_all : (ms : List Move) → (after ms).book ≡ fold book_by empty_book ms
unfolding after opening
book_after_all ms = book_of ms opening

-- Where no move is to come, the book is that of the night, and its pins those of the stack.
module _ {X : Type 0} (turned : X → Move) (made : List X) (i : ℕ) (b : Book) (end : length made ≤ i) where
  pub night_book : fold book_by empty_book (map turned made) ≡ fold book_by b (map turned (drop i made)) → b ≡ (after (map turned made)).book
  night_book e = sym (book_after_all (map turned made) ∙ (rw (drop_all i made end) at e))

  pub night_stack : fold book_by empty_book (map turned made) ≡ fold book_by b (map turned (drop i made)) → in_force b ≡ (after (map turned made)).stack
  night_stack e = rw (night_book e) (stack_held (map turned made))
