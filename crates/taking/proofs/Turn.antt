-- An anchor's turn: its parity group, and then its and-forms.
use Rattle.std.proofs.Common.{◌≡◌, ◌∙◌, sym, ap, subst, ℕ, ◌<◌, ◌≤◌, Bool, true, false, List, ◌++◌, length, slice_range, ltb, ℤ, arith}
use Rattle.std.proofs.lemmas.Bool.{lt-ltb}
use Rattle.std.proofs.lemmas.List.{length-map}
use Rattle.tables.specs.Literal.{literal}
use Rattle.tables.specs.Clause.{clauses}
use Rattle.rules.specs.Patterns.{Gate}
use Rattle.rules.specs.Taking.{take_first, take_at}
use Rattle.taking.specs.declared.anchor.Anchor.{Anchor}
use Rattle.taking.specs.declared.offer.Taking.{Taking}
use Rattle.taking.specs.Anchors.{literals, groups, forms}
use Rattle.taking.specs.Offered.{Offered, row, table, gates, may}
use Rattle.taking.proofs.TakeSteps.{narrow_passed, wide_turn}
use Rattle.taking.proofs.Offers.{offered_more, offered_done}

module _ (s : Taking) (a : Anchor) (entries : List ℤ) (e : entries ≡ slice_range (row s) a.start a.end) where
  abbrev Turn : List Gate → Type 0
  Turn gs = gs ≡ take_at (may s) s.n (table s) (gates s) (literals (row s) a)

  size : length entries ≡ length (literals (row s) a)
  size = ap length e ∙ sym (length-map (slice_range (row s) a.start a.end) literal)

  narrow : (k : ℕ) → k < 3 → ltb 2 k ≡ false
  narrow k h = grind arith

  pub at_narrow : length entries < 3 → Turn (gates s)
  at_narrow h = sym (narrow_passed (may s) s.n (gates s) (table s) (literals (row s) a) (narrow _ (subst (λ k. k < 3) size h)))

  module _ (h : 3 ≤ length entries) where
    wide : take_at (may s) s.n (table s) (gates s) (literals (row s) a) ≡ take_first (may s) s.n (gates s) (groups (table s) (literals (row s) a) ++ forms (table s) (literals (row s) a))
    wide = wide_turn (may s) s.n (gates s) (table s) (literals (row s) a) (lt-ltb _ _ (subst (λ k. 3 ≤ k) size h))

    pub at_group : (t : Taking) → Offered s t true (groups (table s) (literals (row s) a)) → Turn (gates t)
    at_group t o = (offered_done s t (groups (table s) (literals (row s) a)) (forms (table s) (literals (row s) a)) o).gates ∙ sym wide

    pub at_forms : (t u : Taking) (b : Bool) → Offered s t false (groups (table s) (literals (row s) a)) → Offered t u b (forms (table t) (literals (row t) a)) → Turn (gates u)
    at_forms t u b o p =
        (offered_more s t u b (groups (table s) (literals (row s) a)) (forms (table s) (literals (row s) a)) o
        (subst (λ r. Offered t u b (forms (clauses r) (literals r a))) o.row p)).gates
        ∙ sym wide
