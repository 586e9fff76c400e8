-- Laws of the rounds behind the tests.
use Rattle.std.proofs.Common.{◌≡◌, ◌∙◌, refl, ℕ, ◌+◌, ◌<◌, ◌≤◌, leb, List, [], ◌∷◌, ℤ, le-leb, arith}
use Rattle.std.specs.Prelude.{Result, Ok, Err, take, IfOk}
use Rattle.std.specs.Result.{result_and}
use Rattle.std.proofs.lemmas.Bool.{lt-leb}
use Rattle.tables.specs.Numbers.{Verdict, refuse, first_refusal, number_of}
use Rattle.tables.specs.declared.numbers.Refusal.{Refusal}
use Rattle.tables.specs.declared.numbers.Refusal.TheVariants.{Unreadable, TooLarge, Undeclared, Contradiction, OutOfRange, BookFull, NothingHeld, ShortBuffer, ShortWork, BadValue}
use Rattle.rules.specs.Rounds.{outcome, pinned}
use Rattle.rules.specs.Pins.{in_force}
use Rattle.rules.specs.Calls.{contradiction, outcome_of}
use Rattle.rules.specs.declared.book.Book.{Book}
use Rattle.calls.proofs.Openings.{opening, opening_refuses, opening_passes}
use Rattle.rounds.specs.Rounds.{Settles}
use Rattle.rounds.specs.declared.settle.Settled.{Settled}
use Rattle.rounds.proofs.Outcomes.{accepted_verdict, refused_verdict}
use Rattle.boundary.specs.Settled.{settle_verdict, judged, Leaves}

-- What the rounds answer, as the outcome says it.
module _ (n : ℕ) (t pins : List ℤ) (b : Book) (row : List ℤ) (stands : List ℕ) (held : pins ≡ in_force b) where
  pub rounds_judged : (answer : Result Settled Refusal) → Settles (outcome n (pinned t pins)) answer (take (n + 1) stands) row
      → judged answer ≡ contradiction (outcome_of n t b)
  unfolding outcome_of
  rounds_judged (Ok s) h = accepted_verdict (outcome n (pinned t (in_force b))) s (take (n + 1) stands) row (rw held at h)
  rounds_judged (Err why) h = refused_verdict (outcome n (pinned t (in_force b))) why (take (n + 1) stands) row (rw held at h)

  pub rounds_leave : (answer : Result Settled Refusal) → Settles (outcome n (pinned t pins)) answer (take (n + 1) stands) row
      → IfOk answer (λ s. Leaves n t b s.rounds s.entries row stands)
  unfolding outcome_of
  rounds_leave (Ok s) h = rw held at h
  rounds_leave (Err why) h = tt

-- The tests, one after another.
module _ (n : ℕ) (t : List ℤ) (b : Book) (room places : ℕ) where
  pub open_refuses : (why : Refusal) → first_refusal (opening n t b room) ≡ Err why → settle_verdict n t b room places ≡ Err why
  unfolding settle_verdict
  open_refuses why e = opening_refuses n t b room why (refuse (leb places n) (ShortBuffer (n + 1)) ∷ contradiction (outcome_of n t b) ∷ []) e

  module _ (passed : first_refusal (opening n t b room) ≡ Ok tt) where
    rest : settle_verdict n t b room places ≡ first_refusal (refuse (leb places n) (ShortBuffer (n + 1)) ∷ contradiction (outcome_of n t b) ∷ [])
    unfolding settle_verdict
    rest = opening_passes n t b room (refuse (leb places n) (ShortBuffer (n + 1)) ∷ contradiction (outcome_of n t b) ∷ []) passed

    pub short_refuses : places ≤ n → settle_verdict n t b room places ≡ Err (ShortBuffer (n + 1))
    unfolding first_refusal refuse
    short_refuses short = rest ∙ rw (le-leb places n short) refl

    pub rounds_decide : n < places → settle_verdict n t b room places ≡ contradiction (outcome_of n t b)
    unfolding first_refusal refuse
    rounds_decide long = rest ∙ rw (lt-leb places n long) (last (contradiction (outcome_of n t b)))
      where
        last : (v : Verdict) → result_and v (Ok (tt {0})) ≡ v
        last (Ok _) = refl
        last (Err why) = refl

-- A refusal's number is not 0.
pub no_zero : (why : Refusal) → number_of why ≡ 0 → ⊥
no_zero (Unreadable place) e = omega (arith, e)
no_zero (TooLarge place) e = omega (arith, e)
no_zero (Undeclared place) e = omega (arith, e)
no_zero (Contradiction round) e = omega (arith, e)
no_zero OutOfRange e = omega (arith, e)
no_zero BookFull e = omega (arith, e)
no_zero NothingHeld e = omega (arith, e)
no_zero (ShortBuffer room) e = omega (arith, e)
no_zero ShortWork e = omega (arith, e)
no_zero (BadValue variable) e = omega (arith, e)
