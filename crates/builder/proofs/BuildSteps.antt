-- A build, step after step.
use Rattle.std.proofs.Common.{◌≡◌, ◌∙◌, refl, sym, ap, ℕ, List, [], ◌∷◌, ℤ, length, ltb}
use Rattle.std.specs.Prelude.{Result, Ok, Err}
use Rattle.std.specs.Result.{result_and}
use Rattle.tables.specs.Check.{checked}
use Rattle.tables.specs.Numbers.{Verdict, refuse, first_refusal}
use Rattle.tables.specs.declared.numbers.Refusal.{Refusal}
use Rattle.tables.specs.declared.numbers.Refusal.TheVariants.{ShortBuffer}
use Rattle.texts.specs.Buffer.{leaves}
use Rattle.rules.specs.Rounds.{Outcome}
use Rattle.rules.specs.Calls.{outcome_of, rounds_in, listed, build_verdict, build, build_listing}
use Rattle.rules.specs.declared.book.Book.{Book}
use Rattle.rules.specs.declared.built.Built.{Built}
use Rattle.builder.specs.Evenings.{IsEvening, tests}
use Rattle.builder.specs.Builds.{listing_of}
use Rattle.listing.specs.declared.evening.Evening.{Evening}
use Rattle.builder.proofs.Tests.{whole, tests_pass}
use Rattle.builder.proofs.Evenings.{rounds_are, listed_is}

module _ (n : ℕ) (t : List ℤ) (b : Book) (work : ℕ) (out : List ℕ) where
  -- The bytes of the listing, and the test behind the evening.
  abbrev bytes : ℕ
  bytes = length (listed n (outcome_of n t b))

  abbrev pub more : List Verdict
  more = refuse (ltb (length out) bytes) (ShortBuffer bytes) ∷ []

  -- A build that is refused by the table check or by the tests of the evening.
  pub build_refused : (why : Refusal) → first_refusal (whole n t b work more) ≡ Err why
      → (Err why ≡ build n t b work (length out)) × (out ≡ build_listing n t b work out)
  unfolding build build_verdict build_listing leaves
  build_refused why e = (sym (ap (λ v. result_and v (Ok (record { rounds = rounds_in (outcome_of n t b); bytes = bytes }))) e), rw e refl)

  last : (v : Verdict) → first_refusal (v ∷ []) ≡ v
  unfolding first_refusal
  last (Ok _) = refl
  last (Err why) = refl

  leaves_as : (v : Verdict) (built : Built) (new : List ℕ) → leaves (result_and v (Ok built)) new out ≡ leaves v new out
  unfolding leaves
  leaves_as (Ok _) built new = refl
  leaves_as (Err why) built new = refl

  -- One that has its evening.
  pub build_decided : checked n t ≡ Ok tt → first_refusal (tests n t b work) ≡ Ok tt → (e : Evening) → IsEvening n (outcome_of n t b) e → (answer : Result Built Refusal) (after : List ℕ)
      → answer ≡ result_and (refuse (ltb (length out) (length (listing_of e))) (ShortBuffer (length (listing_of e)))) (Ok (record { rounds = e.rounds; bytes = length (listing_of e) }))
      → after ≡ leaves answer (listing_of e) out
      → (answer ≡ build n t b work (length out)) × (after ≡ build_listing n t b work out)
  unfolding build build_verdict build_listing
  build_decided good passed e is answer after a l =
      let o : Outcome = outcome_of n t b in
      let v : Verdict = refuse (ltb (length out) bytes) (ShortBuffer bytes) in
      let decided : first_refusal (whole n t b work more) ≡ v = tests_pass n t b work more good passed ∙ last v in
      let w : answer ≡ result_and v (Ok (record { rounds = rounds_in o; bytes = bytes })) = a ∙ rw (sym (listed_is n o e is), sym (rounds_are n o e is)) refl in (
        w ∙ ap (λ x. result_and x (Ok (record { rounds = rounds_in o; bytes = bytes }))) (sym decided),
        l ∙ rw (sym (listed_is n o e is)) (ap (λ x. leaves x (listed n o) out) w ∙ leaves_as v (record { rounds = rounds_in o; bytes = bytes }) (listed n o)
            ∙ ap (λ x. leaves x (listed n o) out) (sym decided)),
      )
