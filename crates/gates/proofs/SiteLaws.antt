-- What a gate is at its site, field by field.
use Rattle.std.proofs.Common.{◌≡◌, ◌∙◌, sym, refl, ap, ℕ, ◌*◌, Bool, true, false, cond, List, [], ◌∷◌, map, ℤ, slice_range}
use Rattle.std.specs.List.{list_any}
use Rattle.ways.proofs.Rows.{list_any-map}
use Rattle.tables.specs.Literal.{literal, var, neg, opp}
use Rattle.tables.proofs.Literals.{var-opp, var_pos}
use Rattle.rules.specs.Forced.{marked}
use Rattle.rules.specs.Patterns.{others, and_inputs, and_form, parity}
use Rattle.rules.specs.Taking.{touched}
use Rattle.gates.specs.declared.site.Site.{Site}
use Rattle.gates.specs.Sites.{anchor_of, gate_of}

vars_opp : (xs : List ℕ) → map var (map opp xs) ≡ map var xs
vars_opp [] = refl
vars_opp (x ∷ xs) = rw (var-opp x, vars_opp xs) refl

vars_double : (xs : List ℕ) → map var (map (λ x. 2 * var x) xs) ≡ map var xs
vars_double [] = refl
vars_double (x ∷ xs) = rw (var_pos (var x), vars_double xs) refl

module _ (c : List ℕ) (o : ℕ) where
  and_vars : map var (and_inputs c o) ≡ map var (others o c)
  unfolding and_inputs
  and_vars = go (neg o)
    where
      go : (b : Bool) → map var (cond b (others o c) (map opp (others o c))) ≡ map var (others o c)
      go true = refl
      go false = vars_opp (others o c)

  either_output : (b : Bool) → (cond b (parity c o) (and_form c o)).output ≡ var o
  unfolding parity and_form
  either_output true = refl
  either_output false = refl

  either_vars : (b : Bool) → map var (cond b (parity c o) (and_form c o)).inputs ≡ map var (others o c)
  unfolding parity and_form
  either_vars true = vars_double (others o c)
  either_vars false = and_vars

module _ (row : List ℤ) (s : Site) where
  pub output_at : (gate_of row s).output ≡ var s.output
  unfolding gate_of
  output_at = either_output (anchor_of row s) s.output s.parity

  pub vars_at : map var (gate_of row s).inputs ≡ map var (others s.output (anchor_of row s))
  unfolding gate_of
  vars_at = either_vars (anchor_of row s) s.output s.parity

  pub touched_at : (m : List ℕ) → touched m (gate_of row s) ≡ list_any (λ l. marked m (var l)) (others s.output (map literal (slice_range row s.start s.end)))
  unfolding touched
  touched_at m = sym (list_any-map var (marked m) (gate_of row s).inputs) ∙ ap (list_any (marked m)) vars_at ∙ list_any-map var (marked m) (others s.output (anchor_of row s))

pub group_at : (row : List ℤ) (start end o : ℕ) → gate_of row (record { start = start; end = end; output = o; parity = true }) ≡ parity (map literal (slice_range row start end)) o
unfolding gate_of
group_at row start end o = refl

pub form_at : (row : List ℤ) (start end o : ℕ) → gate_of row (record { start = start; end = end; output = o; parity = false }) ≡ and_form (map literal (slice_range row start end)) o
unfolding gate_of
form_at row start end o = refl
