-- An ask, step after step.
use Rattle.std.proofs.Common.{◌≡◌, ◌∙◌, refl, sym, ap, ℕ, ◌||◌, List, [], ◌∷◌, ◌++◌, ℤ, Bool, length, eqb, ltb}
use Rattle.std.specs.Prelude.{Result, Ok, Err}
use Rattle.std.specs.Result.{result_and}
use Rattle.tables.specs.Check.{checked}
use Rattle.tables.specs.Numbers.{Verdict, refuse, first_refusal}
use Rattle.tables.specs.declared.numbers.Refusal.{Refusal}
use Rattle.tables.specs.declared.numbers.Refusal.TheVariants.{OutOfRange, ShortBuffer}
use Rattle.tables.proofs.Verdicts.{tests-append}
use Rattle.rules.specs.Rounds.{Outcome}
use Rattle.rules.specs.Ask.{asked}
use Rattle.rules.specs.Calls.{outcome_of, stands_in, gates_in, bad_value, bad_values, ask_verdict, ask}
use Rattle.rules.specs.declared.book.Book.{Book}
use Rattle.gates.specs.TakenGates as Taken
use Rattle.builder.specs.Evenings.{IsEvening, tests}
use Rattle.builder.specs.Values.{bad_in}
use Rattle.listing.specs.declared.evening.Evening.{Evening}
use Rattle.builder.proofs.Evenings.{gates_are, stands_are, bad_are}

module _ (n : ℕ) (t : List ℤ) (b : Book) (work : ℕ) (given : List ℕ) (v : ℕ) where
  -- The test of the variable, and the tests behind the evening.
  abbrev pub range : Verdict
  range = refuse (eqb v 0 || ltb n v) OutOfRange

  abbrev more : List Verdict
  more = refuse (ltb (length given) n) (ShortBuffer n) ∷ bad_value (bad_values n (outcome_of n t b) given) ∷ []

  abbrev whole : Verdict
  whole = first_refusal (checked n t ∷ range ∷ (tests n t b work ++ more))

  refuses : (why : Refusal) → whole ≡ Err why → Err why ≡ ask n t b work given v
  unfolding ask ask_verdict
  refuses why e = sym (ap (λ x. result_and x (Ok (asked (stands_in (outcome_of n t b)) (gates_in n (outcome_of n t b)) given v))) e)

  pub table_refuses : (why : Refusal) → checked n t ≡ Err why → Err why ≡ ask n t b work given v
  unfolding first_refusal
  table_refuses why e = refuses why (rw e refl)

  module _ (good : checked n t ≡ Ok tt) where
    pub range_refuses : (why : Refusal) → range ≡ Err why → Err why ≡ ask n t b work given v
    unfolding first_refusal
    range_refuses why e = refuses why (rw (good, e) refl)

    module _ (fits : range ≡ Ok tt) where
      pub tests_refuse : (why : Refusal) → first_refusal (tests n t b work) ≡ Err why → Err why ≡ ask n t b work given v
      unfolding first_refusal
      tests_refuse why e = refuses why (rw (good, fits) (tests-append (tests n t b work) more ∙ ap (λ x. result_and x (first_refusal more)) e))

      pub ask_decided : first_refusal (tests n t b work) ≡ Ok tt → (e : Evening) → IsEvening n (outcome_of n t b) e → (answer : Result Bool Refusal)
          → answer ≡ result_and (first_refusal (refuse (ltb (length given) e.n) (ShortBuffer e.n) ∷ bad_value (bad_in e given) ∷ [])) (Ok (asked e.stands.now (Taken.gates_in e.taken) given v))
          → answer ≡ ask n t b work given v
      unfolding ask ask_verdict first_refusal
      ask_decided passed e is answer a =
          let o : Outcome = outcome_of n t b in
          let w : whole ≡ first_refusal more = rw (good, fits) (tests-append (tests n t b work) more ∙ ap (λ x. result_and x (first_refusal more)) passed) in
          a ∙ rw (sym (bad_are n o e is given), sym (stands_are n o e is), sym (gates_are n o e is), is.variables)
          (sym (ap (λ x. result_and x (Ok (asked (stands_in o) (gates_in n o) given v))) w))
