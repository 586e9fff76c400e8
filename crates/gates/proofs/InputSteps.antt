-- The inputs, one after another.
use Rattle.std.proofs.Common.{◌≡◌, ◌∙◌, refl, sym, ap, ℕ, zero, suc, ◌+◌, ◌-◌, ◌<◌, ◌≤◌, not, List, [], ◌∷◌, map, length, get_or, take, take_all, drop, eqb, ℤ, pos, arith, eq-eqb, ne_eqb}
use Rattle.std.proofs.lemmas.List.{length-map, length-drop}
use Rattle.std.proofs.lemmas.List.Sums.{length-filter, count_by-le-length}
use Rattle.std.specs.Iterator.{YieldsFirst}
use Rattle.std.proofs.lemmas.Iterator.{YieldsList}
use Rattle.std.proofs.lemmas.Iterator.Consumers.{YieldsList-from_first}
use Rattle.tables.specs.Literal.{literal}
use Rattle.rules.specs.Patterns.{others}
use Rattle.gates.specs.declared.site.Site.{Site}
use Rattle.gates.specs.declared.inputs.Inputs.{Inputs}
use Rattle.gates.specs.Sites.{entries_of}
use Rattle.gates.specs.Inputs.{input, inputs, to_come}

others_none : (o : ℕ) (zs : List ℤ) → ((k : ℕ) → k < length zs → literal (get_or zs k (pos 0)) ≡ o) → others o (map literal zs) ≡ []
unfolding others
others_none o [] h = refl
others_none o (z ∷ zs) h = rw (eq-eqb (literal z) o (h 0 (omega arith))) (others_none o zs (λ j m. h (suc j) (omega arith)))

others_first : (o : ℕ) (zs : List ℤ) (p : ℕ) → p < length zs → (literal (get_or zs p (pos 0)) ≡ o → ⊥)
    → ((k : ℕ) → k < p → literal (get_or zs k (pos 0)) ≡ o)
    → others o (map literal zs) ≡ literal (get_or zs p (pos 0)) ∷ others o (map literal (drop (suc p) zs))
unfolding others
others_first o [] p k n h = absurd (omega arith)
others_first o (z ∷ zs) zero k n h = rw (ne_eqb (literal z) o n) refl
others_first o (z ∷ zs) (suc p) k n h =
    rw (eq-eqb (literal z) o (h 0 (omega arith))) (others_first o zs p (omega arith) n (λ j m. h (suc j) (omega arith)))

module _ (site : Site) (zs : List ℤ) where
  -- Where every literal is the output, no input is left.
  pub no_input : ((k : ℕ) → k < length zs → literal (get_or zs k (pos 0)) ≡ site.output) → map (input site) (others site.output (map literal zs)) ≡ []
  no_input h = ap (map (input site)) (others_none site.output zs h)

  -- The first literal that is not the output gives the next input; what is left is lent.
  pub next_input : (p : ℕ) → p < length zs → (literal (get_or zs p (pos 0)) ≡ site.output → ⊥)
      → ((k : ℕ) → k < p → literal (get_or zs k (pos 0)) ≡ site.output)
      → map (input site) (others site.output (map literal zs))
      ≡ input site (literal (get_or zs p (pos 0))) ∷ map (input site) (others site.output (map literal (take (length zs - (p + 1)) (drop (p + 1) zs))))
  next_input p k n h =
      let e : suc p ≡ p + 1 = omega arith in
      ap (map (input site)) (others_first site.output zs p k n h)
      ∙ ap (λ ys. input site (literal (get_or zs p (pos 0))) ∷ map (input site) (others site.output (map literal ys)))
      (ap (λ i. drop i zs) e ∙ sym (take_all (length zs - (p + 1)) (drop (p + 1) zs) (omega (arith, length-drop (p + 1) zs))))

-- No more come than literals are left.
pub few_come : (i : Inputs) → length (to_come i) ≤ length i.rest.now
unfolding to_come others
few_come i =
    omega (
      arith,
      length-map (others i.site.output (map literal i.rest.now)) (input i.site),
      length-filter (λ x. not (eqb x i.site.output)) (map literal i.rest.now),
      count_by-le-length (λ x. not (eqb x i.site.output)) (map literal i.rest.now),
      length-map i.rest.now literal,
    )

pub inputs_begin : (row : List ℤ) (site : Site) (i : Inputs) → i.site ≡ site → i.rest.now ≡ entries_of row site → to_come i ≡ inputs row site
unfolding to_come inputs
inputs_begin row site i e h = rw (e, h) refl

-- What the iterator gives.
pub inputs_given : (row : List ℤ) (site : Site) (i : Inputs) → to_come i ≡ inputs row site → YieldsList (YieldsFirst to_come) (λ l. l) i (inputs row site)
inputs_given row site i e = YieldsList-from_first (λ (l : ℕ). l) to_come (inputs row site) e
