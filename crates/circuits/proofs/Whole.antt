-- A settled table with its gates taken: filled in from any values it is satisfied exactly where the residue is; an assignment
-- that satisfies it is the one filled in from its own free values; and every variable has exactly one part.
use Rattle.std.proofs.Common.{◌≡◌, ℕ, zero, suc, ◌+◌, ◌*◌, ◌<◌, ◌≤◌, Bool, true, false, not, ◌&&◌, eqb, ltb, ◌↔◌, List, length, get_or, fold, filter, sym, refl, ap, ◌∙◌, subst, ⊎_elim, arith, ext_get_or, le-ltb, eq-eqb, eqb-true}
use mathlib.Core.List.Memᴰ
use mathlib.Core.List.{Memᴰ}
use Rattle.std.specs.List.{list_all, range_with_len}
use Rattle.std.proofs.lemmas.Bool.{eqb-false, not-true, and_parts, false_from_ne_true, both_ways, cases_Bool}
use Rattle.std.proofs.lemmas.List.FromFn.{get_or-map-range_with_len, length-map-range_with_len}
use Rattle.ways.specs.Ways.{among}
use Rattle.ways.proofs.Rows.{list_all-mem, mem-list_all, filter-mem, mem-filter}
use Rattle.ways.proofs.Members.{among-mem, get_or-mem}
use Rattle.tables.specs.Literal.{var, holds, valued}
use Rattle.tables.specs.Clause.{satisfies, satisfies_all}
use Rattle.tables.proofs.Literals.{holds_pos, holds_alike}
use Rattle.tables.proofs.Clauses.{alikes_hold}
use Rattle.tables.proofs.Checked.{Inside}
use Rattle.rules.specs.Pairs.{stands, fixed, root, linked}
use Rattle.rules.specs.Patterns.{Gate, found}
use Rattle.rules.specs.Taking.{is_output, allowed, taken_by}
use Rattle.rules.specs.Circuit.{in_pattern, residue, free}
use Rattle.rules.specs.Fill.{bit, fill_step, fill_gates, filled}
use Rattle.rules.specs.Ask.{ask_root, asked}
use Rattle.settling.proofs.Links.{Agrees}
use Rattle.settling.proofs.Roots.{Root}
use Rattle.settling.proofs.Bound.{Settled}
use Rattle.circuits.proofs.Values.{rule_alike}
use Rattle.circuits.proofs.Patterns.{Meets}
use Rattle.circuits.proofs.Filled.{Within, bit_is, fill_other, fill_rules}
use Rattle.circuits.proofs.Taken.{Taken, taken_is}
use Rattle.circuits.proofs.Shared.{in_pattern_gate}
use Rattle.circuits.proofs.Only.{NoOutput, fill_only}
use Rattle.circuits.proofs.Asked.{gate_of_output, no_output, asked_is}

-- The settled clauses hold exactly where the residue does and every taken gate's pattern does, since these are among them.
split : (a : ℕ → Bool) (gs : List Gate) (cs : List (List ℕ)) → ((g : Gate) → Memᴰ g gs → found cs g ≡ true)
    → (satisfies_all a cs ≡ true) ↔ ((satisfies_all a (residue gs cs) ≡ true) × ((g : Gate) → Memᴰ g gs → satisfies_all a g.pattern ≡ true))
unfolding residue found
split a gs cs there = (
  (λ h. (
    mem-list_all (satisfies a) (filter (λ c. not (in_pattern gs c)) cs) (λ c i. list_all-mem (satisfies a) cs h c (filter-mem _ cs c i).0),
    λ g i. mem-list_all (satisfies a) g.pattern (λ c j. list_all-mem (satisfies a) cs h c (among-mem c cs (list_all-mem (λ c. among c cs) g.pattern (there g i) c j))),
  )),
  (λ h. mem-list_all (satisfies a) cs (λ c i. ⊎_elim (in_gate c h.1) (in_residue c i h.0) (cases_Bool (in_pattern gs c)))),
)
  where
    in_gate : (c : List ℕ) → ((g : Gate) → Memᴰ g gs → list_all (satisfies a) g.pattern ≡ true) → in_pattern gs c ≡ true → satisfies a c ≡ true
    in_gate c p e = let (g, j, t) = in_pattern_gate gs c e in list_all-mem (satisfies a) g.pattern (p g j) c (among-mem c g.pattern t)

    in_residue : (c : List ℕ) → Memᴰ c cs → list_all (satisfies a) (filter (λ c. not (in_pattern gs c)) cs) ≡ true → in_pattern gs c ≡ false → satisfies a c ≡ true
    in_residue c i r e = list_all-mem (satisfies a) _ r c (mem-filter (λ c. not (in_pattern gs c)) cs c i (ap not e))

-- A filled-in row has n values, each 0 or 1.
pub filled_long : (n : ℕ) (st : List ℕ) (gs : List Gate) (given : List ℕ) → length (filled n st gs given) ≡ n
unfolding filled
filled_long n st gs given = length-map-range_with_len (λ v. bit (holds (valued (fill_gates gs given)) (stands st v))) 1 n

bit_low : (b : Bool) → bit b ≤ 1
unfolding bit
bit_low true = omega arith
bit_low false = omega arith

pub filled_bits : (n : ℕ) (st : List ℕ) (gs : List Gate) (given : List ℕ) (x : ℕ) → Memᴰ x (filled n st gs given) → x ≤ 1
unfolding filled
filled_bits n st gs given x i =
    let (v, j, e) = Memᴰ.of_map (λ v. bit (holds (valued (fill_gates gs given)) (stands st v))) (range_with_len 1 n) i in
    subst (λ y. y ≤ 1) e (bit_low (holds (valued (fill_gates gs given)) (stands st v)))

-- A value 0 or 1 comes back from its truth.
bit_back : (x : ℕ) → x ≤ 1 → bit (eqb x 1) ≡ x
unfolding bit
bit_back zero h = refl
bit_back (suc zero) h = refl
bit_back (suc (suc x)) h = absurd (omega arith)

free_is : (st : List ℕ) (gs : List Gate) (v : ℕ) → Root st v → is_output gs v ≡ false → free st gs v ≡ true
unfolding free root
free_is st gs v r e = rw (eq-eqb _ _ r, e)

module _ (n : ℕ) (st : List ℕ) (cs : List (List ℕ)) (set : Settled n st cs) (may : List Gate → Gate → Bool)
    (strict : (gs : List Gate) (g : Gate) → may gs g ≡ true → allowed n gs g ≡ true) where
  abbrev pub gates : List Gate
  gates = taken_by may n cs

  pub settled_inside : Inside n cs
  settled_inside c i l k = let (r, lo, hi) = set.good.over c i l k in (lo, hi)

  pub are_taken : Taken n cs gates
  are_taken = taken_is n cs settled_inside set.proper may strict

  pub gates_within : Within n gates
  gates_within g i = let v = are_taken.valid g i in (v.low, v.high)

  -- Inputs and outputs are roots.
  output_root : (g : Gate) → Memᴰ g gates → Root st g.output
  output_root g i =
      let v = are_taken.valid g i in let (l, j, q) = v.output_of in
      subst (Root st) q (set.good.over v.anchor v.anchored l j).0

  -- The roots that the settled table can speak of.
  abbrev Live : ℕ → Type 0
  Live u = Root st u × (1 ≤ u) × (u ≤ n)

  input_live : (g : Gate) → Memᴰ g gates → (x : ℕ) → Memᴰ x g.inputs → Live (var x)
  input_live g i x k =
      let v = are_taken.valid g i in let (l, j, q) = v.input_of x k in
      subst Live q (set.good.over v.anchor v.anchored l j)

  -- Every variable has exactly one part.
  pub one_part : (v : ℕ) → 1 ≤ v → bit (fixed st v) + bit (linked st v) + bit (is_output gates v) + bit (free st gates v) ≡ 1
  unfolding fixed linked root free bit
  one_part v h = go (eqb (stands st v) (2 * v)) refl (ltb (stands st v) 2) refl (is_output gates v) refl
    where
      go : (r : Bool) → eqb (stands st v) (2 * v) ≡ r → (f : Bool) → ltb (stands st v) 2 ≡ f → (o : Bool) → is_output gates v ≡ o
          → bit f + bit (not f && not r) + bit o + bit (r && not o) ≡ 1
      go true e true k o q = let w : stands st v ≡ 2 * v = eqb-true _ _ e in absurd (both_ways _ (le-ltb (stands st v) 2 (omega arith)) k)
      go true e false k true q = refl
      go true e false k false q = refl
      go false e f k true q = let (g, i, w) = gate_of_output gates v q in absurd (eqb-false (stands st v) (2 * v) e (subst (Root st) w (output_root g i)))
      go false e true k false q = refl
      go false e false k false q = refl

  module _ (given : List ℕ) (long : n ≤ length given) where
    abbrev end : ℕ → Bool
    end = valued (fold fill_step given gates)

    -- The value of every variable: what it stands for, in the values in the end.
    unfoldable pub through : ℕ → Bool
    through v = holds end (stands st v)

    on_root : (v : ℕ) → Root st v → through v ≡ end v
    unfolding through
    on_root v e = ap (holds end) e ∙ holds_pos end v

    end_zero : end 0 ≡ false
    end_zero = refl

    pub through_zero : through 0 ≡ false
    through_zero = on_root 0 set.good.none ∙ end_zero

    pub through_agrees : Agrees through st
    unfolding through
    through_agrees v = holds_alike through end (stands st v) (on_root (var (stands st v)) (set.good.rooted v))

    alike : (ds : List (List ℕ)) → ((c : List ℕ) → Memᴰ c ds → Memᴰ c cs) → satisfies_all through ds ≡ satisfies_all end ds
    alike ds sub = alikes_hold through end ds (λ c i l k. on_root (var l) (set.good.over c (sub c i) l k).0)

    -- The settled table holds exactly where the residue does.
    pub filled_holds : (satisfies_all through cs ≡ true) ↔ (satisfies_all through (residue gates cs) ≡ true)
    unfolding residue
    filled_holds =
        let k = split end gates cs (λ g i. (are_taken.valid g i).there) in
        let p = alike cs (λ c i. i) in let q = alike (residue gates cs) (λ c i. (filter-mem _ cs c i).0) in
        ((λ h. q ∙ (k.0 (sym p ∙ h)).0), (λ h. p ∙ k.1 (sym q ∙ h, λ g i. ((are_taken.valid g i).meets end).1 (fill_rules n are_taken.order gates_within given long g i))))

    -- An assignment that gives every gate its value and agrees on the free variables is the filled-in one.
    module _ (a : ℕ → Bool) (zero_is : a 0 ≡ false) (agrees : Agrees a st) (meets : (g : Gate) → Memᴰ g gates → Meets a g)
        (same : (v : ℕ) → free st gates v ≡ true → valued given v ≡ a v) where
      end_is : (u : ℕ) → Live u → end u ≡ a u
      end_is u p = fill_only Live n a are_taken.order gates_within input_live meets given long (λ v q k. same v (is_free v q.0 k)) u p
        where
          is_free : (v : ℕ) → Root st v → NoOutput gates v → free st gates v ≡ true
          is_free v r k = free_is st gates v r (false_from_ne_true (is_output gates v) (λ e. let (g, i, q) = gate_of_output gates v e in k g i (sym q)))

      pub through_is : (v : ℕ) → v ≤ n → through v ≡ a v
      unfolding through
      through_is v h = holds_alike end a (stands st v) (root_value (var (stands st v)) (set.good.rooted v) (set.good.within v h)) ∙ agrees v
        where
          root_value : (u : ℕ) → Root st u → u ≤ n → end u ≡ a u
          root_value zero r h = end_zero ∙ sym zero_is
          root_value (suc u) r h = end_is (suc u) (r, omega arith, h)

    -- The filled-in values give every gate its value, and free variables the given one.
    pub through_meets : (g : Gate) → Memᴰ g gates → Meets through g
    through_meets g i =
        on_root g.output (output_root g i) ∙ fill_rules n are_taken.order gates_within given long g i
        ∙ rule_alike end through g.kind g.inputs (λ x j. sym (on_root (var x) (input_live g i x j).0))

    pub through_free : (v : ℕ) → free st gates v ≡ true → through v ≡ valued given v
    unfolding free root
    through_free v e =
        on_root v (eqb-true _ _ (and_parts (eqb (stands st v) (2 * v)) (not (is_output gates v)) e).0)
        ∙ fill_other n gates gates_within given v (no_output gates v (not-true _ (and_parts (eqb (stands st v) (2 * v)) (not (is_output gates v)) e).1))

    -- What a fill writes, as an assignment.
    pub filled_value : (v : ℕ) → 1 ≤ v → v ≤ n → valued (filled n st gates given) v ≡ through v
    unfolding filled fill_gates through
    filled_value zero h k = absurd (omega arith)
    filled_value (suc v) h k =
        ap (λ t. eqb t 1) (get_or-map-range_with_len (λ v. bit (holds end (stands st v))) 1 n v (suc v) 0 (omega arith) (omega arith)) ∙ bit_is (holds end (stands st (suc v)))

    pub filled_alike : (ds : List (List ℕ)) → Inside n ds → satisfies_all (valued (filled n st gates given)) ds ≡ satisfies_all through ds
    filled_alike ds inside = alikes_hold (valued (filled n st gates given)) through ds (λ c i l k. let (lo, hi) = inside c i l k in filled_value (var l) lo hi)

    -- A row of n values that has the values of the filled-in row is it.
    pub filled_row : (values : List ℕ) → length values ≡ n → ((v : ℕ) → Memᴰ v values → v ≤ 1) → ((v : ℕ) → 1 ≤ v → v ≤ n → through v ≡ valued values v) → filled n st gates given ≡ values
    unfolding filled fill_gates through
    filled_row values size bits same =
        let long : length (filled n st gates given) ≡ n = filled_long n st gates given in
        ext_get_or 0 (filled n st gates given) values (long ∙ sym size)
        (λ i h. let k : i < n = rw long at h in
        get_or-map-range_with_len (λ v. bit (holds end (stands st v))) 1 n i (suc i) 0 k (omega arith) ∙ ap bit (same (suc i) (omega arith) (omega arith))
        ∙ bit_back (get_or values i 0) (bits (get_or values i 0) (get_or-mem values i 0 (omega arith))))

    -- Asking gives the filled-in value.
    pub asked_value : (v : ℕ) → v ≤ n → asked st gates given v ≡ through v
    unfolding asked through
    asked_value v h = holds_alike (ask_root (length gates) gates (valued given)) end (stands st v) (asked_is n are_taken.order gates_within given long (var (stands st v)))
