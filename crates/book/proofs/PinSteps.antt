-- Laws of a pin.
use Rattle.std.proofs.Common.{◌≡◌, ◌∙◌, refl, sym, ap, ℕ, ◌<◌, ◌≤◌, true, false, not, leb, ltb, ltb-false, List, [], ◌∷◌, ◌++◌, length, arith, ℤ, le-leb, add-one}
use Rattle.std.specs.List.{list_all}
use Rattle.std.specs.Result.{result_and}
use Rattle.std.proofs.lemmas.Bool.{lt-leb}
use Rattle.std.proofs.lemmas.List.Folds.{list_all-append}
use Rattle.std.proofs.Math.Seq.{take-suc-set}
use Rattle.std.specs.Prelude.{Result, Ok, Err}
use Rattle.tables.specs.declared.numbers.Refusal.{Refusal}
use Rattle.tables.specs.declared.numbers.Refusal.TheVariants.{Contradiction, OutOfRange, BookFull, ShortWork}
use Rattle.tables.specs.Numbers.{Verdict, refuse, first_refusal}
use Rattle.rules.specs.Rounds.{Outcome, impossible, settled, outcome, pinned}
use Rattle.rules.specs.Pins.{in_force, out_of_range, with_pin}
use Rattle.rules.specs.declared.book.Book.{Book}
use Rattle.calls.proofs.Openings.{opening, opening_refuses, opening_passes, opened}
use Rattle.rules.specs.Calls.{work_short, contradiction, pin_verdict, pin}

-- A pin's tests, one after another.
module _ (n : ℕ) (t : List ℤ) (b : Book) (room : ℕ) (x : ℤ) where
  pub open_refuses : (why : Refusal) → first_refusal (opening n t b room) ≡ Err why → pin n t b room x ≡ Err why
  unfolding pin pin_verdict
  open_refuses why e = rw (opening_refuses n t b room why (refuse (out_of_range n x) OutOfRange ∷ refuse (leb 64 b.held) BookFull ∷ contradiction (outcome n (pinned t (in_force b ++ (x ∷ [])))) ∷ []) e) refl

  module _ (passed : first_refusal (opening n t b room) ≡ Ok tt) where
    rest : pin n t b room x ≡ result_and (first_refusal (refuse (out_of_range n x) OutOfRange ∷ refuse (leb 64 b.held) BookFull ∷ contradiction (outcome n (pinned t (in_force b ++ (x ∷ [])))) ∷ [])) (Ok (with_pin b x))
    unfolding pin pin_verdict
    rest = rw (opening_passes n t b room (refuse (out_of_range n x) OutOfRange ∷ refuse (leb 64 b.held) BookFull ∷ contradiction (outcome n (pinned t (in_force b ++ (x ∷ [])))) ∷ []) passed) refl

    pub out_refuses : out_of_range n x ≡ true → pin n t b room x ≡ Err OutOfRange
    unfolding first_refusal refuse
    out_refuses o = rest ∙ rw o refl

    module _ (inside : out_of_range n x ≡ false) where
      pub full_refuses : 64 ≤ b.held → pin n t b room x ≡ Err BookFull
      unfolding first_refusal refuse
      full_refuses f = rest ∙ rw (inside, le-leb 64 b.held f) refl

      pub rounds_decide : b.held < 64 → pin n t b room x ≡ result_and (contradiction (outcome n (pinned t (in_force b ++ (x ∷ []))))) (Ok (with_pin b x))
      unfolding first_refusal refuse
      rounds_decide l = rest ∙ rw (inside, lt-leb 64 b.held l) (last (contradiction (outcome n (pinned t (in_force b ++ (x ∷ []))))))
        where
          last : (v : Verdict) → result_and {T = Unit {0}} (result_and v (Ok (tt {0}))) (Ok (with_pin b x)) ≡ result_and v (Ok (with_pin b x))
          last (Ok _) = refl
          last (Err why) = refl

      -- The pins with the new one behind them are in range.
      pub pins_inside : list_all (λ y. not (out_of_range n y)) (in_force b ++ (x ∷ [])) ≡ true
      pins_inside = list_all-append (λ y. not (out_of_range n y)) (in_force b) (x ∷ []) ∙ rw ((opened n t b room passed).pins, inside) refl

-- The pins in force of a book with one pin more.
pub in_force_with : (b : Book) (x : ℤ) → length b.pins ≡ 64 → b.held < 64 → in_force (with_pin b x) ≡ in_force b ++ (x ∷ [])
unfolding in_force with_pin
in_force_with b x e l = rw (add-one b.held) (take-suc-set b.pins b.held x (omega (arith, e)))
