-- The proofs of the statements in specs/Demands.
use Rattle.std.proofs.Common.{◌≡◌, ℕ, zero, suc, ◌*◌, ◌<◌, ◌≤◌, Bool, true, false, ◌&&◌, List, length, ℤ, flat_map, sym, refl, ap, ◌∙◌, subst, ⊎_elim, arith, eq-eqb}
use mathlib.Core.List.{Memᴰ}
use Rattle.std.specs.Cmp.{booleans_Decides}
use Rattle.std.specs.List.{list_all, range_with_len}
use Rattle.std.proofs.Math.Bool.{beq}
use Rattle.std.proofs.lemmas.Bool.{and_from, and_parts, false_from_ne_true, both_ways, cases_lt}
use Rattle.std.proofs.lemmas.Bool.Decides.{same_from_decides}
use Rattle.std.proofs.lemmas.List.{get_or_past}
use Rattle.ways.specs.Ways.{among}
use Rattle.ways.proofs.Bools.{agree}
use Rattle.ways.proofs.Rows.{list_all-mem, mem-list_all, mem-list_any, filter-mem}
use Rattle.ways.proofs.Members.{among-mem, mem-range, flat_mem, mem-among}
use Rattle.tables.specs.Literal.{holds, valued}
use Rattle.tables.specs.Clause.{satisfies, satisfies_all}
use Rattle.tables.proofs.Literals.{holds_pos}
use Rattle.tables.proofs.Checked.{Inside}
use Rattle.rules.specs.Pairs.{stands, root}
use Rattle.rules.specs.Rounds.{pinned}
use Rattle.rules.specs.Kinds.{rule}
use Rattle.rules.specs.Patterns.{Gate, found, written_out}
use Rattle.rules.specs.Taking.{allowed, taken_by, taken}
use Rattle.rules.specs.Circuit.{in_pattern, residue, free}
use Rattle.rules.specs.Fill.{filled}
use Rattle.settling.proofs.Links.{Agrees}
use Rattle.settling.proofs.Bound.{Settled}
use Rattle.circuits.proofs.Patterns.{Meets}
use Rattle.circuits.proofs.Levels.{level_is, level_rises, levels_low}
use Rattle.circuits.proofs.Taken.{Taken}
use Rattle.circuits.proofs.Shared.{shared_once, give_back, residue_apart}
use Rattle.circuits.proofs.Whole.{settled_inside, are_taken, gates_within, one_part, through, through_zero, through_agrees, through_meets, through_free, filled_holds, through_is, filled_long, filled_bits, filled_value, filled_alike, filled_row, asked_value}
use Rattle.demands.specs.Evening.{Settles}
use Rattle.demands.specs.Demands.{agrees, SettlingExact, RoundsBounded, RefusalBounded, LinksToRoots, OnePart, LevelsRise, NoneShared, PatternSays, GiveBack, FilledSatisfies, OwnFilling, OthersIgnored, NonePossible, AskedIsFilled}
use Rattle.demands.proofs.Settled.{lent_inside, impossible_ends, impossible_means, settled_ends, settled_means}

zero_value : (values : List ℕ) → valued values 0 ≡ false
zero_value values = refl

stands_beyond : (n : ℕ) (st : List ℕ) → length st ≡ suc n → (u : ℕ) → n < u → stands st u ≡ 2 * u
unfolding stands
stands_beyond n st e u h = get_or_past st u (2 * u) (rw e (omega arith))

module _ (n : ℕ) (st : List ℕ) (cs : List (List ℕ)) (set : Settled n st cs) (values : List ℕ) where
  -- Agreement on the variables 1 to n is agreement on all: 0 and what is beyond n stand for themselves.
  all_agree : list_all (agrees st values) (range_with_len 1 n) ≡ true → Agrees (valued values) st
  unfolding agrees
  all_agree e zero = ap (holds (valued values)) set.good.none ∙ holds_pos (valued values) 0
  all_agree e (suc v) =
      ⊎_elim (λ h. ap (holds (valued values)) (stands_beyond n st set.good.size (suc v) h) ∙ holds_pos (valued values) (suc v))
      (λ h. sym ((booleans_Decides _ _).0 (list_all-mem (agrees st values) (range_with_len 1 n) e (suc v) (mem-range 1 n (suc v) (omega arith) (omega arith)))))
      (cases_lt n (suc v))

  agree_all : Agrees (valued values) st → list_all (agrees st values) (range_with_len 1 n) ≡ true
  unfolding agrees
  agree_all h = mem-list_all (agrees st values) (range_with_len 1 n) (λ v i. (booleans_Decides _ _).1 (sym (h v)))

pub settling_exact : SettlingExact
settling_exact n t pins r st cs s values =
    let ends = settled_ends n t pins s.lent r st cs s.comes in
    let means = settled_means n t pins s.lent r st cs s.comes (valued values) (zero_value values) in
    agree _ _
    (λ e. let (p, q) = means.0 e in and_from (satisfies_all (valued values) cs) (list_all (agrees st values) (range_with_len 1 n)) p (agree_all n st cs ends.2 values q))
    (λ e. means.1 (
      (and_parts (satisfies_all (valued values) cs) (list_all (agrees st values) (range_with_len 1 n)) e).0,
      all_agree n st cs ends.2 values (and_parts (satisfies_all (valued values) cs) (list_all (agrees st values) (range_with_len 1 n)) e).1,
    ))

pub rounds_bounded : RoundsBounded
rounds_bounded n t pins r st cs s = let (a, b, c) = settled_ends n t pins s.lent r st cs s.comes in (a, omega arith)

pub refusal_bounded : RefusalBounded
refusal_bounded n t pins r h e = let (a, b) = impossible_ends n t pins h r e in (a, omega arith)

pub links_to_roots : LinksToRoots
unfolding root
links_to_roots n t pins r st cs s v e = let ends = settled_ends n t pins s.lent r st cs s.comes in eq-eqb _ _ (ends.2.good.rooted v)

-- The rules' own test allows what it allows.
strict : (n : ℕ) (gs : List Gate) (g : Gate) → allowed n gs g ≡ true → allowed n gs g ≡ true
strict n gs g e = e

module _ (n : ℕ) (t pins : List ℤ) (r : ℕ) (st : List ℕ) (cs : List (List ℕ)) (s : Settles n t pins r st cs) where
  abbrev set : Settled n st cs
  set = (settled_ends n t pins s.lent r st cs s.comes).2

pub one_part_each : OnePart
unfolding taken
one_part_each n t pins r st cs s v h = one_part n st cs (set n t pins r st cs s) (allowed n) (strict n) v h

pub levels_rise : LevelsRise
unfolding taken
levels_rise n t pins r st cs s g i =
    let k = set n t pins r st cs s in
    let order = (are_taken n st cs k (allowed n) (strict n)).order in
    let inside : (h : Gate) → Memᴰ h (taken_by (allowed n) n cs) → h.output ≤ n = λ h j. (gates_within n st cs k (allowed n) (strict n) h j).1 in
    let e = level_is n order inside g i in
    (omega (arith, e), (λ x j. level_rises n order inside g i x j), levels_low n (taken_by (allowed n) n cs) g.output)

pub none_shared : NoneShared
unfolding taken
none_shared n t pins r st cs s c =
    let k = are_taken n st cs (set n t pins r st cs s) (allowed n) (strict n) in shared_once k.order (λ g i. (k.valid g i).speaks) c

pub pattern_says : PatternSays
unfolding taken
pattern_says n t pins r st cs s g i a =
    let v = (are_taken n st cs (set n t pins r st cs s) (allowed n) (strict n)).valid g i in
    ap (satisfies_all a) v.written ∙ same_from_decides _ (beq (a g.output) (rule g.kind a g.inputs)) (v.meets a) (booleans_Decides (a g.output) (rule g.kind a g.inputs))

pub give_back_exact : GiveBack
unfolding taken in_pattern
give_back_exact n t pins r st cs s c =
    (give_back gs cs (λ g i. (k.valid g i).there) (λ g i. (k.valid g i).written) c, false_from_ne_true _ apart)
  where
    gs : List Gate
    gs = taken_by (allowed n) n cs

    k : Taken n cs gs
    k = are_taken n st cs (set n t pins r st cs s) (allowed n) (strict n)

    apart : (among c (flat_map written_out gs) && among c (residue gs cs)) ≡ true → ⊥
    apart e =
        let (g, i, j) = flat_mem written_out gs c (among-mem c _ (and_parts (among c (flat_map written_out gs)) (among c (residue gs cs)) e).0) in
        let left = among-mem c (residue gs cs) (and_parts (among c (flat_map written_out gs)) (among c (residue gs cs)) e).1 in
        both_ways (in_pattern gs c) (residue_apart gs cs (λ g i. (k.valid g i).there) (λ g i. (k.valid g i).written) c left)
        (mem-list_any (λ h. among c h.pattern) gs g i (mem-among c g.pattern (subst (Memᴰ c) (k.valid g i).written j)))

-- Demand 3.
module _ (n : ℕ) (t pins : List ℤ) (r : ℕ) (st : List ℕ) (cs : List (List ℕ)) (s : Settles n t pins r st cs) (given : List ℕ) (long : n ≤ length given) where
  abbrev k : Settled n st cs
  k = set n t pins r st cs s

  abbrev plan : ℕ → Bool
  plan = through n st cs k (allowed n) (strict n) given long

  residue_inside : Inside n (residue (taken_by (allowed n) n cs) cs)
  unfolding residue
  residue_inside c i l j = settled_inside n st cs k (allowed n) (strict n) c (filter-mem _ cs c i).0 l j

  plan_exact : satisfies_all plan (pinned t pins) ≡ satisfies_all plan (residue (taken_by (allowed n) n cs) cs)
  plan_exact =
      let f = filled_holds n st cs k (allowed n) (strict n) given long in
      let m = settled_means n t pins s.lent r st cs s.comes plan (through_zero n st cs k (allowed n) (strict n) given long) in
      agree _ _ (λ e. f.0 (m.0 e).0) (λ e. m.1 (f.1 e, through_agrees n st cs k (allowed n) (strict n) given long))

  alike_to : (ds : List (List ℕ)) → Inside n ds → satisfies_all (valued (filled n st (taken_by (allowed n) n cs) given)) ds ≡ satisfies_all plan ds
  alike_to = filled_alike n st cs k (allowed n) (strict n) given long

pub filled_satisfies : FilledSatisfies
unfolding taken
filled_satisfies n t pins r st cs s given long =
    alike_to n t pins r st cs s given long (pinned t pins) (lent_inside n t pins s.lent)
    ∙ plan_exact n t pins r st cs s given long
    ∙ sym (alike_to n t pins r st cs s given long _ (residue_inside n t pins r st cs s given long))

-- Every gate has its value in an assignment that satisfies the settled table.
all_meet : (n : ℕ) (st : List ℕ) (cs : List (List ℕ)) (k : Settled n st cs) (a : ℕ → Bool) → satisfies_all a cs ≡ true
    → (g : Gate) → Memᴰ g (taken_by (allowed n) n cs) → Meets a g
unfolding found
all_meet n st cs k a e g i =
    let v = (are_taken n st cs k (allowed n) (strict n)).valid g i in
    (v.meets a).0 (mem-list_all (satisfies a) g.pattern (λ c j. list_all-mem (satisfies a) cs e c (among-mem c cs (list_all-mem _ g.pattern v.there c j))))

pub own_filling : OwnFilling
unfolding taken
own_filling n t pins r st cs s plan size bits e given long same =
    let k = set n t pins r st cs s in
    let (holds_settled, agreed) = (settled_means n t pins s.lent r st cs s.comes (valued plan) (zero_value plan)).0 e in
    filled_row n st cs k (allowed n) (strict n) given long plan size bits
    (λ v lo hi. through_is n st cs k (allowed n) (strict n) given long (valued plan) (zero_value plan) agreed (all_meet n st cs k (valued plan) holds_settled) same v hi)

pub none_possible : NonePossible
none_possible n t pins r h e values = false_from_ne_true _ (impossible_means n t pins h r e (valued values) (zero_value values))

pub asked_is_filled : AskedIsFilled
unfolding taken
asked_is_filled n t pins r st cs s given long v lo hi =
    let k = set n t pins r st cs s in
    asked_value n st cs k (allowed n) (strict n) given long v hi ∙ sym (filled_value n st cs k (allowed n) (strict n) given long v lo hi)

-- The values filled in from other given ones, as an assignment, agree with the links and give every gate its value: so they are
-- filled in from any values that agree with them on the free variables.
pub others_ignored : OthersIgnored
unfolding taken
others_ignored n t pins r st cs s given other long long' same =
    filled_row n st cs k (allowed n) (strict n) given long row (filled_long n st gs other) (filled_bits n st gs other)
    (λ v lo hi. through_is n st cs k (allowed n) (strict n) given long plan' (through_zero n st cs k (allowed n) (strict n) other long')
    (through_agrees n st cs k (allowed n) (strict n) other long') (through_meets n st cs k (allowed n) (strict n) other long') same' v hi
    ∙ sym (filled_value n st cs k (allowed n) (strict n) other long' v lo hi))
  where
    k : Settled n st cs
    k = set n t pins r st cs s

    gs : List Gate
    gs = taken_by (allowed n) n cs

    row : List ℕ
    row = filled n st gs other

    plan' : ℕ → Bool
    plan' = through n st cs k (allowed n) (strict n) other long'

    same' : (v : ℕ) → free st gs v ≡ true → valued given v ≡ plan' v
    same' v f = same v f ∙ sym (through_free n st cs k (allowed n) (strict n) other long' v f)
