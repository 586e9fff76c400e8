-- The proofs of the statements in specs/Plans.
use Rattle.std.proofs.Common.{◌≡◌, ◌∙◌, refl, sym, ap, subst, ℕ, ◌≤◌, Bool, true, false, not, ◌||◌, eqb, ltb, ltb-false, le-ltb, List, [], ◌∷◌, ◌++◌, length, take, drop, ℤ, Ok, Err, arith}
use mathlib.Core.List.{Memᴰ}
use Rattle.std.specs.List.{list_all}
use Rattle.std.specs.Result.{result_and}
use Rattle.std.proofs.lemmas.Bool.{or_parts, eqb-false}
use Rattle.std.proofs.lemmas.List.{take_at}
use Rattle.tables.specs.Literal.{valued}
use Rattle.tables.specs.Check.{checked}
use Rattle.tables.specs.Numbers.{Verdict, refuse, first_refusal}
use Rattle.tables.specs.declared.numbers.Refusal.TheVariants.{Contradiction, OutOfRange, ShortBuffer}
use Rattle.tables.proofs.Verdicts.{answered, all_accept, refuse_accepts}
use Rattle.texts.specs.Buffer.{front, leaves}
use Rattle.rules.specs.Rounds.{settled}
use Rattle.rules.specs.Taking.{taken}
use Rattle.rules.specs.Fill.{filled}
use Rattle.rules.specs.Ask.{asked}
use Rattle.rules.specs.Listing.{listing}
use Rattle.rules.specs.Pins.{in_force, book_long}
use Rattle.rules.specs.Calls.{work_short, held_bad, outcome_of, contradiction, rounds_in, stands_in, gates_in, listed, build_verdict, build, build_listing, bad_value, bad_values, fill_verdict, fill_values, ask_verdict, ask}
use Rattle.rules.specs.declared.book.Book.{Book}
use Rattle.rules.specs.declared.built.Built.{Built}
use Rattle.circuits.proofs.Whole.{filled_long}
use Rattle.demands.specs.Evening.{Settles}
use Rattle.demands.specs.Plans.{ListedCircuit, ImpossiblePlan, FilledPlan, OwnPlan, AskedPlace}
use Rattle.demands.proofs.Demands.{give_back_exact, filled_satisfies, own_filling, none_possible, asked_is_filled}
use Rattle.demands.proofs.Answers.{held_range, no_clash, accepted_settles, four_is_contradiction}

-- The first n places of a buffer that n values were written to.
front_of : (n : ℕ) (new old : List ℕ) → length new ≡ n → take n (front new old) ≡ new
unfolding front
front_of n new old e = take_at new (drop (length new) old) n e

module _ (n : ℕ) (t : List ℤ) (b : Book) (work : ℕ) (given : List ℕ) where
  -- What an accepted fill, or ask, has passed.
  record Passed : Type 0 where
    pub st : List ℕ
    pub cs : List (List ℕ)
    pub settles : Settles n t (in_force b) (rounds_in (outcome_of n t b)) st cs
    pub outcome_is : outcome_of n t b ≡ settled (rounds_in (outcome_of n t b)) st cs
    pub long : n ≤ length given

  passed : checked n t ≡ Ok tt → held_bad n b ≡ Ok tt → contradiction (outcome_of n t b) ≡ Ok tt → n ≤ length given → Passed
  unfolding outcome_of
  passed good held clash long =
      let (st, cs, q) = no_clash n t b work 0 clash in
      record { st = st; cs = cs; settles = record { lent = record { good = good; in_range = held_range n t b work 0 held }; comes = q }; outcome_is = q; long = long }

  module _ (p : Passed) where
    stands_is : stands_in (outcome_of n t b) ≡ p.st
    unfolding stands_in
    stands_is = ap stands_in p.outcome_is

    gates_is : gates_in n (outcome_of n t b) ≡ taken n p.cs
    unfolding gates_in
    gates_is = ap (gates_in n) p.outcome_is

    module _ (buffer : List ℕ) (ok : fill_verdict n t b work given (length buffer) ≡ Ok tt) where
      -- The values that a fill writes.
      written : take n (fill_values n t b work given buffer) ≡ filled n p.st (taken n p.cs) given
      unfolding fill_values leaves
      written =
          rw (ok, stands_is, gates_is) (front_of n (filled n p.st (taken n p.cs) given) buffer (filled_long n p.st (taken n p.cs) given))

  module _ (room : ℕ) where
    abbrev fill_tests : List Verdict
    fill_tests =
        checked n t ∷ work_short work ∷ book_long b ∷ held_bad n b ∷ contradiction (outcome_of n t b) ∷ refuse (ltb (length given) n || ltb room n) (ShortBuffer n)
        ∷ bad_value (bad_values n (outcome_of n t b) given) ∷ []

    fill_passed : fill_verdict n t b work given room ≡ Ok tt → Passed
    unfolding fill_verdict
    fill_passed e =
        let each = all_accept fill_tests e in
        let short = refuse_accepts (ltb (length given) n || ltb room n) (ShortBuffer n) (each _ (Memᴰ.tail (Memᴰ.tail (Memᴰ.tail (Memᴰ.tail (Memᴰ.tail (Memᴰ.head refl))))))) in
        passed (each _ (Memᴰ.head refl)) (each _ (Memᴰ.tail (Memᴰ.tail (Memᴰ.tail (Memᴰ.head refl))))) (each _ (Memᴰ.tail (Memᴰ.tail (Memᴰ.tail (Memᴰ.tail (Memᴰ.head refl))))))
        (ltb-false (length given) n (or_parts _ _ short).0)

pub filled_plan : FilledPlan
filled_plan n t b work given buffer ok =
    let p = fill_passed n t b work given (length buffer) ok in
    (_, p.st, p.cs, p.settles, rw (written n t b work given p buffer ok) (filled_satisfies n t (in_force b) _ p.st p.cs p.settles given p.long))

pub own_plan : OwnPlan
own_plan n t b work given buffer ok plan size bits holds same =
    let p = fill_passed n t b work given (length buffer) ok in
    written n t b work given p buffer ok
    ∙ own_filling n t (in_force b) _ p.st p.cs p.settles plan size bits holds given p.long (rw (stands_is n t b work given p, gates_is n t b work given p) at same)

-- A build that is refused by 4.
pub impossible_plan : ImpossiblePlan
impossible_plan n t b work room r e =
    let (lent, q) = four_is_contradiction n t b work room (Contradiction r) e refl in none_possible n t (in_force b) r lent q

-- One that is accepted.
module _ (n : ℕ) (t : List ℤ) (b : Book) (work : ℕ) (buffer : List ℕ) (built : Built) (ok : build n t b work (length buffer) ≡ Ok built) where
  listed_as : (st : List ℕ) (cs : List (List ℕ)) → Settles n t (in_force b) built.rounds st cs → listed n (outcome_of n t b) ≡ listing n built.rounds st cs (taken n cs)
  unfolding listed outcome_of
  listed_as st cs s = ap (listed n) s.comes

pub listed_circuit : ListedCircuit
unfolding build build_listing leaves
listed_circuit n t b work buffer built ok =
    let (st, cs, s) = accepted_settles n t b work (length buffer) built ok in
    let l = listed_as n t b work buffer built ok st cs s in
    let (v, same) = answered (build_verdict n t b work (length buffer)) _ built ok in
    (st, cs, s, sym (ap (λ (x : Built). x.bytes) same) ∙ ap length l, rw (v, l) refl, λ c. (give_back_exact n t (in_force b) built.rounds st cs s c).0)

-- An ask that is accepted.
module _ (n : ℕ) (t : List ℤ) (b : Book) (work : ℕ) (given : List ℕ) (v : ℕ) where
  abbrev ask_tests : List Verdict
  ask_tests =
      checked n t ∷ refuse (eqb v 0 || ltb n v) OutOfRange ∷ work_short work ∷ book_long b ∷ held_bad n b ∷ contradiction (outcome_of n t b)
      ∷ refuse (ltb (length given) n) (ShortBuffer n) ∷ bad_value (bad_values n (outcome_of n t b) given) ∷ []

  record Asked : Type 0 where
    pub table : checked n t ≡ Ok tt
    pub work_is : work_short work ≡ Ok tt
    pub book_is : book_long b ≡ Ok tt
    pub held : held_bad n b ≡ Ok tt
    pub clash : contradiction (outcome_of n t b) ≡ Ok tt
    pub values : bad_value (bad_values n (outcome_of n t b) given) ≡ Ok tt
    pub long : n ≤ length given
    pub low : 1 ≤ v
    pub high : v ≤ n

  some : (v : ℕ) → eqb v 0 ≡ false → 1 ≤ v
  some v e = let k : v ≡ 0 → ⊥ = eqb-false v 0 e in omega (arith, k)

  ask_passed : ask_verdict n t b work given v ≡ Ok tt → Asked
  unfolding ask_verdict
  ask_passed e =
      let each = all_accept ask_tests e in
      let range = or_parts _ _ (refuse_accepts (eqb v 0 || ltb n v) OutOfRange (each _ (Memᴰ.tail (Memᴰ.head refl)))) in
      record {
        table = each _ (Memᴰ.head refl);
        work_is = each _ (Memᴰ.tail (Memᴰ.tail (Memᴰ.head refl)));
        book_is = each _ (Memᴰ.tail (Memᴰ.tail (Memᴰ.tail (Memᴰ.head refl))));
        held = each _ (Memᴰ.tail (Memᴰ.tail (Memᴰ.tail (Memᴰ.tail (Memᴰ.head refl)))));
        clash = each _ (Memᴰ.tail (Memᴰ.tail (Memᴰ.tail (Memᴰ.tail (Memᴰ.tail (Memᴰ.head refl))))));
        values = each _ (Memᴰ.tail (Memᴰ.tail (Memᴰ.tail (Memᴰ.tail (Memᴰ.tail (Memᴰ.tail (Memᴰ.tail (Memᴰ.head refl))))))));
        long = ltb-false (length given) n (refuse_accepts (ltb (length given) n) (ShortBuffer n) (each _ (Memᴰ.tail (Memᴰ.tail (Memᴰ.tail (Memᴰ.tail (Memᴰ.tail (Memᴰ.tail (Memᴰ.head refl)))))))));
        low = some v range.0;
        high = ltb-false n v range.1;
      }

  -- A fill with room for its values passes the same tests.
  fill_accepted : Asked → (room : ℕ) → n ≤ room → fill_verdict n t b work given room ≡ Ok tt
  unfolding fill_verdict first_refusal refuse
  fill_accepted a room h = rw (a.table, a.work_is, a.book_is, a.held, a.clash, a.values, le-ltb (length given) n a.long, le-ltb room n h) refl

pub asked_place : AskedPlace
unfolding ask
asked_place n t b work given v x ok buffer room =
    let (verdict, same) = answered (ask_verdict n t b work given v) _ x ok in
    let a = ask_passed n t b work given v verdict in
    let p = passed n t b work given a.table a.held a.clash a.long in
    let full = fill_accepted n t b work given v a (length buffer) room in
    let known : asked (stands_in (outcome_of n t b)) (gates_in n (outcome_of n t b)) given v ≡ asked p.st (taken n p.cs) given v =
    ap (λ s. asked s (gates_in n (outcome_of n t b)) given v) (stands_is n t b work given p) ∙ ap (λ g. asked p.st g given v) (gates_is n t b work given p) in
    (full, rw (written n t b work given p buffer full) (sym (asked_is_filled n t (in_force b) _ p.st p.cs p.settles given p.long v a.low a.high) ∙ sym known ∙ same))
