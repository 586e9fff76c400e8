-- A night at the desk: any run of pins and take-backs from an empty book, beside a plain stack of the accepted pins.
use Rattle.std.specs.Prelude.{ℕ, ◌-◌, ◌≡◌, List, [], ◌∷◌, ◌++◌, length, take, ℤ, Result, Ok, Err}
use Rattle.std.specs.List.{fold}
use Rattle.tables.specs.declared.numbers.Refusal.{Refusal}
use Rattle.rules.specs.Pins.{in_force, empty_book, take_back, book_after}
use Rattle.rules.specs.Calls.{build, build_listing, fill_verdict, fill_values, ask, pin}
use Rattle.rules.specs.declared.book.Book.{Book}

-- A pin of a literal, with the table and the length of the work buffer that are lent for it; or a take-back.
pub data Move : Type 0 where
  put : ℕ → List ℤ → ℕ → ℤ → Move
  back : Move

unfoldable pub answer : Book → Move → Result Book Refusal
answer b (put n t work x) = pin n t b work x
answer b back = take_back b

-- "the pins in force are those that a plain stack of the accepted ones holds": an accepted pin is laid on top, an accepted
-- take-back takes the top away, and what is refused changes nothing.
unfoldable pub stacked : List ℤ → Move → Result Book Refusal → List ℤ
stacked pins m (Err why) = pins
stacked pins (put n t work x) (Ok b) = pins ++ (x ∷ [])
stacked pins back (Ok b) = take (length pins - 1) pins

pub record Desk : Type 0 where
  pub book : Book
  pub stack : List ℤ

unfoldable pub opening : Desk
opening = record { book = empty_book; stack = [] }

unfoldable pub move : Desk → Move → Desk
move d m = record { book = book_after d.book (answer d.book m); stack = stacked d.stack m (answer d.book m) }

unfoldable pub after : List Move → Desk
after ms = fold move opening ms

-- THE STACK: after any run the pins in force are those of the stack.
abbrev pub StackHeld : Type 0
StackHeld = (ms : List Move) → in_force (after ms).book ≡ (after ms).stack

-- THE TAKE-BACK: two runs that leave the same pins on the stack give the same build, listing and all, the same fill and the same
-- answer to every question, of every table. So after a take-back the plan is the one without the pin.
abbrev pub StackDecides : Type 0
StackDecides =
    (ms ks : List Move) → (after ms).stack ≡ (after ks).stack → (n : ℕ) (t : List ℤ) (work : ℕ) (given buffer : List ℕ) (v : ℕ)
    → (build n t (after ms).book work (length buffer) ≡ build n t (after ks).book work (length buffer))
    × (build_listing n t (after ms).book work buffer ≡ build_listing n t (after ks).book work buffer)
    × (fill_verdict n t (after ms).book work given (length buffer) ≡ fill_verdict n t (after ks).book work given (length buffer))
    × (fill_values n t (after ms).book work given buffer ≡ fill_values n t (after ks).book work given buffer)
    × (ask n t (after ms).book work given v ≡ ask n t (after ks).book work given v)

abbrev pub TakeBackUndoes : Type 0
TakeBackUndoes =
    (ms : List Move) (n : ℕ) (t : List ℤ) (work : ℕ) (x : ℤ) (b : Book) → pin n t (after ms).book work x ≡ Ok b
    → (after (ms ++ (put n t work x ∷ back ∷ []))).stack ≡ (after ms).stack
