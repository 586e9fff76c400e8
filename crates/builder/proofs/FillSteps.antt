-- A fill, step after step.
use Rattle.std.proofs.Common.{◌≡◌, ◌∙◌, refl, sym, ap, ℕ, ◌||◌, List, [], ◌∷◌, ℤ, length, ltb}
use Rattle.std.specs.Prelude.{Ok, Err}
use Rattle.tables.specs.Check.{checked}
use Rattle.tables.specs.Numbers.{Verdict, refuse, first_refusal}
use Rattle.tables.specs.declared.numbers.Refusal.{Refusal}
use Rattle.tables.specs.declared.numbers.Refusal.TheVariants.{ShortBuffer}
use Rattle.texts.specs.Buffer.{leaves}
use Rattle.rules.specs.Rounds.{Outcome}
use Rattle.rules.specs.Fill.{filled}
use Rattle.rules.specs.Calls.{outcome_of, stands_in, gates_in, bad_value, bad_values, fill_verdict, fill_values}
use Rattle.rules.specs.declared.book.Book.{Book}
use Rattle.gates.specs.TakenGates as Taken
use Rattle.builder.specs.Evenings.{IsEvening, tests}
use Rattle.builder.specs.Values.{bad_in}
use Rattle.listing.specs.declared.evening.Evening.{Evening}
use Rattle.builder.proofs.Tests.{whole, tests_pass}
use Rattle.builder.proofs.Evenings.{gates_are, stands_are, bad_are}

module _ (n : ℕ) (t : List ℤ) (b : Book) (work : ℕ) (given values : List ℕ) where
  -- The tests behind the evening.
  abbrev pub more : List Verdict
  more = refuse (ltb (length given) n || ltb (length values) n) (ShortBuffer n) ∷ bad_value (bad_values n (outcome_of n t b) given) ∷ []

  -- A fill that is refused by the table check or by the tests of the evening.
  pub fill_refused : (why : Refusal) → first_refusal (whole n t b work more) ≡ Err why
      → (Err why ≡ fill_verdict n t b work given (length values)) × (values ≡ fill_values n t b work given values)
  unfolding fill_verdict fill_values leaves
  fill_refused why e = (sym e, rw e refl)

  -- One that has its evening.
  pub fill_decided : checked n t ≡ Ok tt → first_refusal (tests n t b work) ≡ Ok tt → (e : Evening) → IsEvening n (outcome_of n t b) e → (answer : Verdict) (after : List ℕ)
      → answer ≡ first_refusal (refuse (ltb (length given) e.n || ltb (length values) e.n) (ShortBuffer e.n) ∷ bad_value (bad_in e given) ∷ [])
      → after ≡ leaves answer (filled e.n e.stands.now (Taken.gates_in e.taken) given) values
      → (answer ≡ fill_verdict n t b work given (length values)) × (after ≡ fill_values n t b work given values)
  unfolding fill_verdict fill_values
  fill_decided good passed e is answer after a v =
      let o : Outcome = outcome_of n t b in
      let w : answer ≡ fill_verdict n t b work given (length values) =
      a ∙ rw (sym (bad_are n o e is given), is.variables) (sym (tests_pass n t b work more good passed)) in
      (w, v ∙ rw (sym (stands_are n o e is), sym (gates_are n o e is), is.variables) (ap (λ x. leaves x (filled n (stands_in o) (gates_in n o) given) values) w))
