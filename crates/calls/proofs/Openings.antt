-- Laws of the tests in their order.
use Rattle.std.proofs.Common.{◌≡◌, ◌∙◌, refl, ap, ℕ, ◌≤◌, List, [], ◌∷◌, ℤ, true, not, ltb, ltb-false}
use Rattle.std.specs.Prelude.{Ok, Err}
use Rattle.std.specs.Result.{result_and}
use mathlib.Core.List.{Memᴰ}
use Rattle.std.specs.List.{list_all, list_any}
use Rattle.ways.proofs.Rows.{list_all-not}
use Rattle.tables.specs.Numbers.{Verdict, first_refusal}
use Rattle.tables.proofs.Verdicts.{all_accept, refuse_accepts, tests-append}
use Rattle.tables.specs.Check.{checked}
use Rattle.tables.specs.declared.numbers.Refusal.{Refusal}
use Rattle.tables.specs.declared.numbers.Refusal.TheVariants.{OutOfRange, ShortWork}
use Rattle.rules.specs.Pins.{in_force, out_of_range, book_long}
use Rattle.rules.specs.Calls.{work_short, held_bad}
use Rattle.rules.specs.declared.book.Book.{Book}

-- The opening of a call with this table, book and room.
module _ (n : ℕ) (t : List ℤ) (b : Book) (room : ℕ) where
  abbrev pub opening : List Verdict
  opening = checked n t ∷ work_short room ∷ book_long b ∷ held_bad n b ∷ []

  -- A refused opening refuses the call; after one that is passed the other tests decide.
  pub opening_refuses : (why : Refusal) (more : List Verdict) → first_refusal opening ≡ Err why
      → first_refusal (checked n t ∷ work_short room ∷ book_long b ∷ held_bad n b ∷ more) ≡ Err why
  opening_refuses why more e = tests-append opening more ∙ ap (λ v. result_and v (first_refusal more)) e

  pub opening_passes : (more : List Verdict) → first_refusal opening ≡ Ok tt
      → first_refusal (checked n t ∷ work_short room ∷ book_long b ∷ held_bad n b ∷ more) ≡ first_refusal more
  opening_passes more e = tests-append opening more ∙ ap (λ v. result_and v (first_refusal more)) e

  -- What a passed opening says.
  pub record Opened : Type 0 where
    pub table : checked n t ≡ Ok tt
    pub room_is : work_short room ≡ Ok tt
    pub pins : list_all (λ x. not (out_of_range n x)) (in_force b) ≡ true

  pub opened : first_refusal opening ≡ Ok tt → Opened
  unfolding held_bad
  opened e =
      let each = all_accept opening e in
      record {
        table = each (checked n t) (Memᴰ.head refl);
        room_is = each (work_short room) (Memᴰ.tail (Memᴰ.head refl));
        pins = list_all-not (out_of_range n) (in_force b) ∙ ap not (refuse_accepts (list_any (out_of_range n) (in_force b)) OutOfRange (each (held_bad n b) (Memᴰ.tail (Memᴰ.tail (Memᴰ.tail (Memᴰ.head refl))))));
      }

-- A work buffer that is not short has its room.
pub room_of : (room : ℕ) → work_short room ≡ Ok tt → 16384 ≤ room
unfolding work_short
room_of room e = ltb-false room 16384 (refuse_accepts (ltb room 16384) ShortWork e)
