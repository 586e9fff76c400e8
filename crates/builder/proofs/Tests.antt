-- The tests of a call in their order: what they come to where one of them refuses, and where they are passed.
use Rattle.std.proofs.Common.{◌≡◌, ◌∙◌, refl, ap, ℕ, ◌≤◌, List, [], ◌∷◌, ◌++◌, ℤ, true, not}
use Rattle.std.specs.Prelude.{Result, Ok, Err}
use Rattle.std.specs.List.{list_all}
use Rattle.std.specs.Result.{result_and}
use Rattle.tables.specs.Check.{checked}
use Rattle.tables.specs.Numbers.{Verdict, first_refusal}
use Rattle.tables.specs.declared.numbers.Refusal.{Refusal}
use Rattle.tables.proofs.Verdicts.{tests-append}
use Rattle.rules.specs.Rounds.{outcome, pinned}
use Rattle.rules.specs.Pins.{in_force, out_of_range, book_long}
use Rattle.rules.specs.Calls.{work_short, held_bad, contradiction, outcome_of}
use Rattle.rules.specs.declared.book.Book.{Book}
use Rattle.calls.proofs.Openings.{opening, opened, room_of}
use Rattle.builder.specs.Evenings.{Comes, Begins, tests}
use Rattle.builder.proofs.Evenings.{evaluates}
use Rattle.listing.specs.declared.evening.Evening.{Evening}

last : (v : Verdict) → result_and v (Ok (tt {0})) ≡ v
last (Ok _) = refl
last (Err why) = refl

module _ (n : ℕ) (t : List ℤ) (b : Book) (work : ℕ) where
  -- Those of the work buffer and the book.
  abbrev pub book_tests : List Verdict
  book_tests = work_short work ∷ book_long b ∷ held_bad n b ∷ []

  pub tests_refused : (why : Refusal) → first_refusal book_tests ≡ Err why → first_refusal (tests n t b work) ≡ Err why
  tests_refused why e = tests-append book_tests (contradiction (outcome_of n t b) ∷ []) ∙ ap (λ v. result_and v (first_refusal (contradiction (outcome_of n t b) ∷ []))) e

  module _ (passed : first_refusal book_tests ≡ Ok tt) where
    pub tests_decided : first_refusal (tests n t b work) ≡ contradiction (outcome_of n t b)
    unfolding first_refusal
    tests_decided =
        tests-append book_tests (contradiction (outcome_of n t b) ∷ []) ∙ ap (λ v. result_and v (first_refusal (contradiction (outcome_of n t b) ∷ []))) passed
        ∙ last (contradiction (outcome_of n t b))

    module _ (good : checked n t ≡ Ok tt) where
      opening_passed : first_refusal (opening n t b work) ≡ Ok tt
      unfolding first_refusal
      opening_passed = rw good passed

      pub work_fits : 16384 ≤ work
      work_fits = room_of work (opened n t b work opening_passed).room_is

      pub pins_fit : list_all (λ x. not (out_of_range n x)) (in_force b) ≡ true
      pins_fit = (opened n t b work opening_passed).pins

      -- With what the rounds come to.
      pub comes_begins : (answer : Result Evening Refusal) → Comes n (outcome n (pinned t (in_force b))) answer → Begins n t b work answer
      unfolding outcome_of contradiction
      comes_begins (Ok e) is =
          (tests_decided ∙ ap contradiction is.comes, is, evaluates n t (in_force b) good pins_fit e is)
      comes_begins (Err why) h = tests_decided ∙ h

  -- The whole of a call's tests. more: those behind the evening.
  module _ (more : List Verdict) where
    abbrev pub whole : List Verdict
    whole = checked n t ∷ (tests n t b work ++ more)

    pub table_refuses : (why : Refusal) → checked n t ≡ Err why → first_refusal whole ≡ Err why
    unfolding first_refusal
    table_refuses why e = rw e refl

    module _ (good : checked n t ≡ Ok tt) where
      pub tests_refuse : (why : Refusal) → first_refusal (tests n t b work) ≡ Err why → first_refusal whole ≡ Err why
      unfolding first_refusal
      tests_refuse why e = rw good (tests-append (tests n t b work) more ∙ ap (λ v. result_and v (first_refusal more)) e)

      pub tests_pass : first_refusal (tests n t b work) ≡ Ok tt → first_refusal whole ≡ first_refusal more
      unfolding first_refusal
      tests_pass e = rw good (tests-append (tests n t b work) more ∙ ap (λ v. result_and v (first_refusal more)) e)
