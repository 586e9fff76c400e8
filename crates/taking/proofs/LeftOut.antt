-- Variables that no gate taken speaks of: none but itself depends on such a one, and none has it as its output.
use Rattle.std.proofs.Common.{◌≡◌, ◌∙◌, refl, sym, ap, ℕ, ◌+◌, Bool, true, false, cond, not, ⊎_elim, eqb, get_or, List, [], ◌∷◌, map, fold, set, length, replicate, ℤ, get_or-set_same, ne_eqb}
use Rattle.std.specs.List.{All, list_any}
use Rattle.std.proofs.lemmas.Bool.{cases_lt, or_parts, or_from, both_ways, false_from_ne_true}
use Rattle.std.proofs.lemmas.List.{get_or_past, set_past}
use Rattle.std.proofs.lemmas.List.Elements.{All-head, All-tail, All-weaker}
use Rattle.ways.proofs.Members.{set_cases}
use Rattle.tables.specs.Literal.{literal, var}
use Rattle.rules.specs.Forced.{marked}
use Rattle.rules.specs.Patterns.{others}
use Rattle.rules.specs.Taking.{depend_step, dependents, is_output}
use Rattle.settling.proofs.Forced.{set_was, none_marked}
use Rattle.gates.specs.declared.site.Site.{Site}
use Rattle.gates.specs.Sites.{entries_of, gate_of, gates_of}
use Rattle.gates.proofs.SiteLaws.{output_at, touched_at}
use Rattle.taking.specs.Fresh.{leave, leave_all, IsOut}
use Rattle.taking.specs.Placing.{placed}
use Rattle.taking.proofs.Placed.{all_placed}

-- What is taken out is out, and stays so.
out_own : (m : List ℕ) (v : ℕ) → marked (set m v 0) v ≡ false
out_own m v =
    ap (λ x. eqb x 1)
    (⊎_elim (get_or-set_same m v 0 0) (λ h. ap (λ zs. get_or zs v 0) (set_past m v 0 h) ∙ get_or_past m v 0 h) (cases_lt v (length m)))

out_stays : (m : List ℕ) (b v : ℕ) → marked m v ≡ false → marked (set m b 0) v ≡ false
out_stays m b v e = ⊎_elim (λ q. ap (λ x. eqb x 1) q) (λ q. ap (λ x. eqb x 1) q ∙ e) (set_cases m b v 0 0)

all_stay : (es : List ℤ) (m : List ℕ) (v : ℕ) → marked m v ≡ false → marked (fold leave m es) v ≡ false
all_stay [] m v e = e
all_stay (z ∷ es) m v e = all_stay es (leave m z) v (out_stays m (var (literal z)) v e)

all_own : (es : List ℤ) (m : List ℕ) → list_any (λ e. marked (fold leave m es) (var (literal e))) es ≡ false
all_own [] m = refl
all_own (z ∷ es) m = or_from _ _ (all_stay es (leave m z) (var (literal z)) (out_own m (var (literal z)))) (all_own es (leave m z))

-- What is not marked in one row is not in the other.
module _ (m d : List ℕ) (f : (v : ℕ) → marked m v ≡ false → marked d v ≡ false) where
  any_fewer : (es : List ℤ) → list_any (λ e. marked m (var (literal e))) es ≡ false → list_any (λ e. marked d (var (literal e))) es ≡ false
  any_fewer [] e = refl
  any_fewer (z ∷ es) e = let (h, t) = or_parts _ _ e in or_from _ _ (f (var (literal z)) h) (any_fewer es t)

  others_fewer : (o : ℕ) (es : List ℤ) → list_any (λ e. marked m (var (literal e))) es ≡ false → list_any (λ l. marked d (var l)) (others o (map literal es)) ≡ false
  unfolding others
  others_fewer o [] e = refl
  others_fewer o (z ∷ es) e = let (h, t) = or_parts _ _ e in go (not (eqb (literal z) o)) (f (var (literal z)) h) (others_fewer o es t)
    where
      go : (b : Bool) → marked d (var (literal z)) ≡ false → list_any (λ l. marked d (var l)) (others o (map literal es)) ≡ false
          → list_any (λ l. marked d (var l)) (cond b (literal z ∷ others o (map literal es)) (others o (map literal es))) ≡ false
      go true p q = or_from _ _ p q
      go false p q = q

  out_fewer : (row : List ℤ) (s : Site) → IsOut row m s → IsOut row d s
  out_fewer row s h = (f (var s.output) h.0, any_fewer (entries_of row s) h.1)

-- A gate more is taken.
module _ (row : List ℤ) (m : List ℕ) (s : Site) where
  leave_stays : (v : ℕ) → marked m v ≡ false → marked (leave_all row m s) v ≡ false
  leave_stays v e = out_stays _ (var s.output) v (all_stay (entries_of row s) m v e)

  leave_own : IsOut row (leave_all row m s) s
  leave_own = (
    out_own _ (var s.output),
    any_fewer (fold leave m (entries_of row s)) (leave_all row m s) (out_stays (fold leave m (entries_of row s)) (var s.output)) (entries_of row s) (all_own (entries_of row s) m),
  )

  pub all_out : (marks : List ℕ) (sites : List Site) → All (IsOut row m) sites → All (IsOut row (leave_all row m s)) (placed marks sites s)
  all_out marks sites h =
      all_placed (IsOut row (leave_all row m s)) marks sites s (All-weaker (IsOut row m) (IsOut row (leave_all row m s)) (out_fewer m (leave_all row m s) leave_stays row) sites h) leave_own

-- A variable that none of the gates speaks of.
module _ (row : List ℤ) (m : List ℕ) (o : ℕ) (e : marked m o ≡ true) where
  not_it : (v : ℕ) → marked m v ≡ false → v ≡ o → ⊥
  not_it v h q = both_ways (marked m o) (ap (marked m) (sym q) ∙ h) e

  -- It is the output of none.
  pub no_output : (sites : List Site) → All (IsOut row m) sites → is_output (gates_of row sites) o ≡ false
  unfolding is_output
  no_output [] h = refl
  no_output (s ∷ sites) h =
      or_from _ _ (ne_eqb _ o (λ q. not_it (var s.output) (All-head (IsOut row m) s sites h).0 (sym (output_at row s) ∙ q))) (no_output sites (All-tail (IsOut row m) s sites h))

  module _ (n : ℕ) where
    abbrev own : List ℕ
    own = set (replicate (n + 1) 0) o 1

    own_only : (v : ℕ) → marked m v ≡ false → marked own v ≡ false
    own_only v h = false_from_ne_true _ (λ t. ⊎_elim (not_it v h) (λ u. both_ways _ (none_marked (n + 1) v) u) (set_was (replicate (n + 1) 0) o v t))

    step_idle : (s : Site) → IsOut row m s → depend_step own (gate_of row s) ≡ own
    unfolding depend_step
    step_idle s h = ap (λ b. cond b (set own (gate_of row s).output 1) own) (touched_at row s own ∙ others_fewer m own own_only s.output (entries_of row s) h.1)

    walk_idle : (sites : List Site) → All (IsOut row m) sites → fold depend_step own (gates_of row sites) ≡ own
    walk_idle [] h = refl
    walk_idle (s ∷ sites) h =
        ap (λ k. fold depend_step k (gates_of row sites)) (step_idle s (All-head (IsOut row m) s sites h)) ∙ walk_idle sites (All-tail (IsOut row m) s sites h)

    -- Nothing but itself depends on it.
    pub only_own : (sites : List Site) → All (IsOut row m) sites → own ≡ dependents n (gates_of row sites) o
    unfolding dependents
    only_own sites h = sym (walk_idle sites h)

    none_own : (sites : List Site) → All (IsOut row m) sites → list_any (λ s. marked own (var s.output)) sites ≡ false
    none_own [] h = refl
    none_own (s ∷ sites) h = or_from _ _ (own_only (var s.output) (All-head (IsOut row m) s sites h).0) (none_own sites (All-tail (IsOut row m) s sites h))

    -- None of the gates' outputs does.
    pub none_depends : (sites : List Site) → All (IsOut row m) sites → (marks : List ℕ) → marks ≡ dependents n (gates_of row sites) o → list_any (λ s. marked marks (var s.output)) sites ≡ false
    none_depends sites h marks q = ap (λ k. list_any (λ s. marked k (var s.output)) sites) (q ∙ sym (only_own sites h)) ∙ none_own sites h
