-- A site's gate: its kind and its inputs, as the code finds them.
use Rattle.std.proofs.Common.{◌≡◌, ℕ, ◌+◌, ◌*◌, ◌<◌, Bool, true, false, cond, List, ℤ, map, length, sym, refl, ap, ◌∙◌, map-id}
use Rattle.std.specs.List.{count_by}
use Rattle.tables.specs.Literal.{var, neg, opp}
use Rattle.rules.specs.Kinds.{signs, and_kind, parity_kind, rule}
use Rattle.rules.specs.Patterns.{others, and_inputs, and_form, odd, parity}
use Rattle.gates.specs.declared.site.Site.{Site}
use Rattle.gates.specs.Sites.{anchor_of, gate_of}
use Rattle.gates.specs.Inputs.{input, inputs}
use Rattle.gates.specs.Counting.{counts, by_count}
use Rattle.gates.proofs.Counts.{counted}

and_inputs_are : (c : List ℕ) (o : ℕ) → and_inputs c o ≡ map (λ x. cond (neg o) x (opp x)) (others o c)
unfolding and_inputs
and_inputs_are c o = go (neg o)
  where
    go : (b : Bool) → cond b (others o c) (map opp (others o c)) ≡ map (λ x. cond b x (opp x)) (others o c)
    go true = sym (map-id (others o c))
    go false = refl

module _ (row : List ℤ) (site : Site) where
  pub inputs_are : (gate_of row site).inputs ≡ inputs row site
  unfolding gate_of inputs input parity and_form
  inputs_are = go site.parity
    where
      go : (p : Bool) → (cond p (parity (anchor_of row site) site.output) (and_form (anchor_of row site) site.output)).inputs
          ≡ map (λ x. cond p (2 * var x) (cond (neg site.output) x (opp x))) (others site.output (anchor_of row site))
      go true = refl
      go false = and_inputs_are (anchor_of row site) site.output

  inputs_of_and : site.parity ≡ false → inputs row site ≡ and_inputs (anchor_of row site) site.output
  unfolding gate_of inputs input
  inputs_of_and e = rw (e, and_inputs_are (anchor_of row site) site.output)

  pub kind_parity : site.parity ≡ true → (gate_of row site).kind ≡ parity_kind (odd (anchor_of row site))
  unfolding gate_of parity
  kind_parity e = rw e

  and_kind_is : site.parity ≡ false → (gate_of row site).kind ≡ and_kind site.output (and_inputs (anchor_of row site) site.output)
  unfolding gate_of and_form
  and_kind_is e = rw e

  pub kind_and : site.parity ≡ false → (gate_of row site).kind ≡ cond (neg site.output) 3 0 + signs (inputs row site)
  unfolding gate_of and_form and_kind
  kind_and e = and_kind_is e ∙ ap (λ ls. cond (neg site.output) 3 0 + signs ls) (sym (inputs_of_and e))

  -- A gate's value from the numbers of its true inputs and of its inputs.
  pub value_counted : (a : ℕ → Bool) (k t m : ℕ) → k ≡ (gate_of row site).kind → k < 8 → t ≡ count_by (counts k a) (inputs row site) → m ≡ length (inputs row site)
      → by_count k t m ≡ rule (gate_of row site).kind a (gate_of row site).inputs
  value_counted a k t m e h f g = rw (f, g, counted a (inputs row site) k h, e, inputs_are)
