-- The gates of sites in two parts are the rules' order of evaluation.
use Rattle.std.proofs.Common.{◌≡◌, ◌∙◌, sym, refl, ap, ℕ, Bool, true, false, cond, not, List, [], ◌∷◌, ◌++◌, filter, ℤ}
use Rattle.std.proofs.lemmas.List.{map-append}
use Rattle.std.specs.List.{All}
use Rattle.std.proofs.lemmas.List.Elements.{All-append, All-cons, All-filter}
use Rattle.tables.specs.Literal.{var}
use Rattle.rules.specs.Forced.{marked}
use Rattle.rules.specs.Patterns.{Gate}
use Rattle.rules.specs.Taking.{dependents, place}
use Rattle.gates.specs.declared.site.Site.{Site}
use Rattle.gates.specs.Sites.{gate_of, gates_of}
use Rattle.taking.specs.Placing.{depends, stays, placed}
use Rattle.gates.proofs.SiteLaws.{output_at}

module _ (row : List ℤ) (p : ℕ → Bool) where
  filter_gates : (sites : List Site) → gates_of row (filter (λ s. p (var s.output)) sites) ≡ filter (λ h. p h.output) (gates_of row sites)
  filter_gates [] = refl
  filter_gates (s ∷ sites) =
      go (p (var s.output)) (filter_gates sites)
      ∙ ap (λ v. cond (p v) (gate_of row s ∷ filter (λ h. p h.output) (gates_of row sites)) (filter (λ h. p h.output) (gates_of row sites))) (sym (output_at row s))
    where
      go : (b : Bool) → gates_of row (filter (λ s. p (var s.output)) sites) ≡ filter (λ h. p h.output) (gates_of row sites)
          → gates_of row (cond b (s ∷ filter (λ s. p (var s.output)) sites) (filter (λ s. p (var s.output)) sites))
          ≡ cond b (gate_of row s ∷ filter (λ h. p h.output) (gates_of row sites)) (filter (λ h. p h.output) (gates_of row sites))
      go true e = ap (λ gs. gate_of row s ∷ gs) e
      go false e = e

-- A gate between the two parts of others.
abbrev joined : List Gate → Gate → List ℕ → List Gate
joined gs g d = filter (λ h. not (marked d h.output)) gs ++ (g ∷ filter (λ h. marked d h.output) gs)

pub gates_placed : (row : List ℤ) (n : ℕ) (m : List ℕ) (sites : List Site) (s : Site) → m ≡ dependents n (gates_of row sites) (var s.output)
    → gates_of row (placed m sites s) ≡ place n (gates_of row sites) (gate_of row s)
unfolding place
gates_placed row n m sites s e =
    parts m ∙ ap (joined (gates_of row sites) (gate_of row s)) (e ∙ ap (dependents n (gates_of row sites)) (sym (output_at row s)))
  where
    parts : (d : List ℕ) → gates_of row (placed d sites s) ≡ joined (gates_of row sites) (gate_of row s) d
    parts d =
        map-append (gate_of row) (filter (stays d) sites) (s ∷ filter (depends d) sites)
        ∙ ap (λ gs. gs ++ (gate_of row s ∷ gates_of row (filter (depends d) sites))) (filter_gates row (λ v. not (marked d v)) sites)
        ∙ ap (λ gs. filter (λ h. not (marked d h.output)) (gates_of row sites) ++ (gate_of row s ∷ gs)) (filter_gates row (marked d) sites)

-- What holds of each gate and of the new one holds of each afterwards.
pub all_placed : (P : Site → Type 0) (m : List ℕ) (sites : List Site) (s : Site) → All P sites → P s → All P (placed m sites s)
all_placed P m sites s h q =
    All-append P (filter (stays m) sites) (s ∷ filter (depends m) sites) (All-filter (stays m) P sites h)
    (All-cons P s (filter (depends m) sites) q (All-filter (depends m) P sites h))
