-- Laws of an evening: what the theorems about the rounds say of one.
use Rattle.std.proofs.Common.{◌≡◌, ◌∙◌, refl, sym, ap, subst, ℕ, zero, suc, ◌+◌, ◌*◌, ◌<◌, ◌≤◌, List, [], ◌∷◌, length, get_or, eqb, arith, ℤ, true, not, eq-eqb}
use Rattle.std.specs.Prelude.{Ok}
use mathlib.Core.List.Memᴰ
use mathlib.Core.List.{Memᴰ}
use Rattle.std.specs.List.{All, list_all, filter, range_with_len}
use Rattle.tables.specs.Literal.{literal, var}
use Rattle.tables.specs.Clause.{clauses}
use Rattle.tables.proofs.Clauses.{All as EachLiteral}
use Rattle.tables.specs.Check.{checked}
use Rattle.rules.specs.Pins.{out_of_range}
use Rattle.rules.specs.Rounds.{Outcome, settled, outcome, pinned}
use Rattle.settling.proofs.Inside.{pinned_inside}
use Rattle.settling.proofs.Bound.{Settled, Ends, outcome_ends}
use Rattle.circuits.proofs.Order.{Ordered, next}
use Rattle.circuits.proofs.Whole.{are_taken, gates_within}
use Rattle.rules.specs.Patterns.{Gate}
use Rattle.rules.specs.Taking.{allowed, taken}
use Rattle.rules.specs.Listing.{listing}
use Rattle.chains.specs.Ended.{Ended}
use Rattle.cleaning.proofs.LastEntries.{inside_entries, ended_last}
use Rattle.rounds.proofs.RoundSteps.{all_inside}
use Rattle.taking.specs.Settled.{IsSettled}
use Rattle.taking.proofs.FromRounds.{settled_is}
use Rattle.rules.specs.Calls.{rounds_in, stands_in, gates_in, listed, bad_values}
use Rattle.ways.proofs.Rows.{mem-list_any}
use Rattle.ways.proofs.Members.{get_or-mem, among-mem}
use Rattle.gates.specs.Sites.{gate_of, gates_of}
use Rattle.gates.specs.TakenGates as Taken
use Rattle.gates.specs.declared.site.Site.{Site}
use Rattle.gates.proofs.SiteLaws.{output_at}
use Rattle.filling.specs.Outputs.{Apart, Speaking}
use Rattle.builder.specs.Evenings.{IsEvening, Evaluates}
use Rattle.builder.specs.Builds.{listing_of}
use Rattle.builder.specs.Values.{is_bad, bad_in}
use Rattle.listing.specs.declared.evening.Evening.{Evening}

-- Gates that stand in order have different outputs.
ordered_apart : (row : List ℤ) (sites : List Site) → Ordered (gates_of row sites) → Apart sites
ordered_apart row [] o i j d h k e = omega arith
ordered_apart row (s ∷ sites) (next self before o) zero (suc j) d h k e =
    (before (gate_of row (get_or sites j d)) (Memᴰ.map (gate_of row) (get_or-mem sites j d (omega arith)))).other
    (output_at row s ∙ e ∙ sym (output_at row (get_or sites j d)))
ordered_apart row (s ∷ sites) (next self before o) (suc i) (suc j) d h k e = ordered_apart row sites o i j d (omega arith) (omega arith) e
ordered_apart row (s ∷ sites) o i zero d h k e = absurd (omega arith)

-- The table that the rounds leave of one that the check accepts, with pins in range.
module _ (n : ℕ) (t pins : List ℤ) (good : checked n t ≡ Ok tt) (in_range : list_all (λ x. not (out_of_range n x)) pins ≡ true) (r : ℕ) (st : List ℕ) (cs : List (List ℕ))
    (comes : outcome n (pinned t pins) ≡ settled r st cs) where
  ends : Ends n 1 (n + 1) (settled r st cs)
  ends = subst (Ends n 1 (n + 1)) comes (outcome_ends n (pinned t pins) (pinned_inside n t pins good in_range))

  pub rounds_low : r ≤ n + 1
  rounds_low = let h = ends.1 in omega arith

  pub left_settled : Settled n st cs
  left_settled = ends.2

  pub left_proper : IsSettled n cs
  left_proper = settled_is n st cs left_settled

  pub stands_long : length st ≡ n + 1
  stands_long = let s = left_settled.good.size in omega (arith, s)

  -- Each variable stands for a literal of one of the variables, or for a value.
  pub stands_inside : All (λ l. var l ≤ n) st
  stands_inside k d h = under (get_or st k d) (all_inside n st cs left_settled.good k d h)
    where
      under : (l : ℕ) → l < 2 * (n + 1) → var l ≤ n
      under l w = grind arith

  -- The entries of a row that holds the settled table.
  pub row_inside : (row : List ℤ) → clauses row ≡ cs → Ended row → All (λ x. var (literal x) ≤ n) row
  row_inside row e ends k d h =
      let w = inside_entries n row (ended_last row ends) (subst (EachLiteral (λ l. var l ≤ n)) (sym e) (λ c i l j. (left_proper.inside c i l j).1)) k d h in omega arith

  -- The gates taken from it.
  pub gates_ordered : Ordered (taken n cs)
  unfolding taken
  gates_ordered = (are_taken n st cs left_settled (allowed n) (λ gs g e. e)).order

  pub gates_inside : (g : Gate) → Memᴰ g (taken n cs) → (1 ≤ g.output) × (g.output ≤ n)
  unfolding taken
  gates_inside = gates_within n st cs left_settled (allowed n) (λ gs g e. e)

  gates_speak : (g : Gate) → Memᴰ g (taken n cs) → (c : List ℕ) → Memᴰ c g.pattern → (l : ℕ) × Memᴰ l c × (var l ≡ g.output)
  unfolding taken
  gates_speak g i = ((are_taken n st cs left_settled (allowed n) (λ gs g e. e)).valid g i).speaks.output_in

  -- Where these gates stand.
  module _ (row : List ℤ) (sites : List Site) (are : gates_of row sites ≡ taken n cs) where
    pub sites_inside : All (λ s. var s.output ≤ n) sites
    sites_inside k d h =
        let site : Site = get_or sites k d in
        let out = (gates_inside (gate_of row site) (subst (Memᴰ (gate_of row site)) are (Memᴰ.map (gate_of row) (get_or-mem sites k d h)))).1 in
        omega (arith, out, output_at row site)

    pub sites_apart : Apart sites
    sites_apart = ordered_apart row sites (rw are gates_ordered)

    pub sites_speak : Speaking row sites
    sites_speak s i c a =
        let (l, j, q) = gates_speak (gate_of row s) (subst (Memᴰ (gate_of row s)) are (Memᴰ.map (gate_of row) i)) c (among-mem c (gate_of row s).pattern a) in
        mem-list_any (λ l. eqb (var s.output) (var l)) c l j (eq-eqb (var s.output) (var l) (sym (output_at row s) ∙ sym q))

-- The evening of a table and pins.
module _ (n : ℕ) (t pins : List ℤ) (good : checked n t ≡ Ok tt) (in_range : list_all (λ x. not (out_of_range n x)) pins ≡ true) (e : Evening)
    (is : IsEvening n (outcome n (pinned t pins)) e) where
  pub evaluates : Evaluates e
  evaluates =
      record {
        ordered = rw is.gates (gates_ordered n t pins good in_range _ _ _ is.comes);
        outputs = rw (is.gates, is.variables) (gates_inside n t pins good in_range _ _ _ is.comes);
      }

-- What the definitions say of an outcome that is an evening.
module _ (n : ℕ) (o : Outcome) (e : Evening) (is : IsEvening n o e) where
  pub rounds_are : rounds_in o ≡ e.rounds
  unfolding rounds_in
  rounds_are = rw is.comes refl

  pub stands_are : stands_in o ≡ e.stands.now
  unfolding stands_in
  stands_are = rw is.comes refl

  pub gates_are : gates_in n o ≡ Taken.gates_in e.taken
  unfolding gates_in
  gates_are = rw is.comes (sym is.gates)

  pub bad_are : (given : List ℕ) → bad_values n o given ≡ bad_in e given
  unfolding bad_values
  bad_are given = rw (stands_are, gates_are) (ap (λ k. filter (is_bad e given) (range_with_len 1 k)) (sym is.variables))

  pub listed_is : listed n o ≡ listing_of e
  unfolding listed
  listed_is =
      rw is.comes (ap (λ gs. listing n e.rounds e.stands.now (clauses e.taken.row.now) gs) (sym is.gates)
      ∙ ap (λ k. listing k e.rounds e.stands.now (clauses e.taken.row.now) (Taken.gates_in e.taken)) (sym is.variables))
