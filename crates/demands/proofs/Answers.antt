-- The proofs of the statements in specs/Answers.
use Rattle.std.proofs.Common.{◌≡◌, ℕ, Bool, true, false, not, ltb, List, [], ◌∷◌, length, ℤ, Ok, Err, sym, refl, ap, ◌∙◌, ⊎_elim, arith}
use mathlib.Core.List.{Memᴰ}
use Rattle.std.specs.List.{list_all}
use Rattle.ways.proofs.Rows.{list_all-not}
use Rattle.tables.specs.Numbers.{Verdict, number_of, place_of, refuse, first_refusal}
use Rattle.tables.specs.Check.{checked}
use Rattle.tables.specs.declared.numbers.Refusal.{Refusal}
use Rattle.tables.specs.declared.numbers.Refusal.TheVariants.{Contradiction, OutOfRange, BookFull, ShortBuffer, ShortWork}
use Rattle.tables.proofs.Checked.{refused_number}
use Rattle.texts.specs.Buffer.{leaves}
use Rattle.texts.specs.Reading.{reading, row_after}
use Rattle.texts.specs.Writing.{writing, buffer_after}
use Rattle.std.specs.Prelude.{Result}
use Rattle.rules.specs.Rounds.{Outcome, impossible, settled}
use Rattle.rules.specs.Pins.{in_force, out_of_range, book_long}
use Rattle.rules.specs.Calls.{work_short, held_bad, outcome_of, contradiction, rounds_in, listed, build_verdict, build, build_listing, fill_verdict, fill_values}
use Rattle.rules.specs.declared.book.Book.{Book}
use Rattle.rules.specs.declared.built.Built.{Built}
use Rattle.demands.specs.Answers.{AcceptedSettles, FourIsContradiction, RefusalKeeps}
use Rattle.tables.proofs.Verdicts.{never, answered, refused, same_place, all_accept, refuse_accepts, refuse_number}

module _ (n : ℕ) (t : List ℤ) (b : Book) (work room : ℕ) where
  -- The tests of a build, by their places in the order of refusals.
  abbrev tests : List Verdict
  tests =
      checked n t ∷ work_short work ∷ book_long b ∷ held_bad n b ∷ contradiction (outcome_of n t b)
      ∷ refuse (ltb room (length (listed n (outcome_of n t b)))) (ShortBuffer (length (listed n (outcome_of n t b)))) ∷ []

  pub held_range : held_bad n b ≡ Ok tt → list_all (λ x. not (out_of_range n x)) (in_force b) ≡ true
  unfolding held_bad
  held_range e = list_all-not (out_of_range n) (in_force b) ∙ ap not (refuse_accepts _ OutOfRange e)

  pub no_clash : contradiction (outcome_of n t b) ≡ Ok tt → (st : List ℕ) × (cs : List (List ℕ)) × (outcome_of n t b ≡ settled (rounds_in (outcome_of n t b)) st cs)
  unfolding contradiction rounds_in
  no_clash e = go (outcome_of n t b) e
    where
      go : (o : Outcome) → contradiction o ≡ Ok tt → (st : List ℕ) × (cs : List (List ℕ)) × (o ≡ settled (rounds_in o) st cs)
      go (impossible r) e = never tt (Contradiction r) e
      go (settled r st cs) e = (st, cs, refl)

pub accepted_settles : AcceptedSettles
unfolding build build_verdict outcome_of
accepted_settles n t b work room built e =
    let (ok, same) = answered (build_verdict n t b work room) _ built e in
    let rounds = ap (λ (built : Built). built.rounds) same in
    let each = all_accept (tests n t b work room) ok in
    let (st, cs, q) = no_clash n t b work room (each _ (Memᴰ.tail (Memᴰ.tail (Memᴰ.tail (Memᴰ.tail (Memᴰ.head refl)))))) in (
      st,
      cs,
      record {
        lent = record { good = each _ (Memᴰ.head refl); in_range = held_range n t b work room (each _ (Memᴰ.tail (Memᴰ.tail (Memᴰ.tail (Memᴰ.head refl))))) };
        comes = q ∙ ap (λ k. settled k st cs) rounds;
      },
    )

-- A test that does not refuse so is passed, and the others decide.
past : (v : Verdict) (vs : List Verdict) (why : Refusal) → (v ≡ Err why → ⊥) → first_refusal (v ∷ vs) ≡ Err why
    → (v ≡ Ok tt) × (first_refusal vs ≡ Err why)
unfolding first_refusal
past (Ok _) vs why k e = (refl, e)
past (Err r) vs why k e = absurd (k e)

other : (b : Bool) (r why : Refusal) → (number_of r ≡ number_of why → ⊥) → refuse b r ≡ Err why → ⊥
other b r why k e = k (refuse_number b r why e)

module _ (why : Refusal) (four : number_of why ≡ 4) where
  no_table : (n : ℕ) (t : List ℤ) → checked n t ≡ Err why → ⊥
  no_table n t e = ⊎_elim (λ (q : number_of why ≡ 2). omega (arith, q, four)) (λ (q : number_of why ≡ 3). omega (arith, q, four)) (refused_number n t why e)

  last : (o : Outcome) (full : Bool) (p : ℕ) → first_refusal (contradiction o ∷ refuse full (ShortBuffer p) ∷ []) ≡ Err why → o ≡ impossible (place_of why)
  unfolding contradiction first_refusal refuse
  last (impossible s) full p k = ap impossible (same_place (Err (Contradiction s)) why k)
  last (settled s st cs) true p k = absurd (other true (ShortBuffer p) why (λ q. omega (arith, q, four)) k)
  last (settled s st cs) false p k = never tt why (sym k)

pub four_is_contradiction : FourIsContradiction
unfolding build build_verdict outcome_of work_short book_long held_bad
four_is_contradiction n t b work room why e four =
    let bytes : ℕ = length (listed n (outcome_of n t b)) in
    let k : build_verdict n t b work room ≡ Err why = refused (build_verdict n t b work room) _ why e in
    let (good, k1) = past (checked n t) _ why (no_table why four n t) k in
    let (roomy, k2) = past (work_short work) _ why (other _ ShortWork why (λ q. omega (arith, q, four))) k1 in
    let (short, k3) = past (book_long b) _ why (other _ BookFull why (λ q. omega (arith, q, four))) k2 in
    let (held, k4) = past (held_bad n b) _ why (other _ OutOfRange why (λ q. omega (arith, q, four))) k3 in
    (record { good = good; in_range = held_range n t b work room held }, last why four (outcome_of n t b) (ltb room bytes) bytes k4)

-- A refusal leaves a buffer and a book as they were.
left : {T X : Type 0} (answer : Result T Refusal) (new buffer : List X) (why : Refusal) → answer ≡ Err why → leaves answer new buffer ≡ buffer
unfolding leaves
left answer new buffer why e = rw e

pub refusal_keeps : RefusalKeeps
unfolding build_listing fill_values buffer_after row_after
refusal_keeps n t b work given buffer text x why = (
  left (build_verdict n t b work (length buffer)) _ buffer why,
  left (fill_verdict n t b work given (length buffer)) _ buffer why,
  λ e. rw e,
  λ e. rw e,
  left (writing n t (length buffer)) _ buffer why,
  left (reading text (length t)) _ t why,
)
