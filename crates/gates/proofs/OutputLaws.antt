-- The outputs of the gates are those of their sites.
use Rattle.std.proofs.Common.{◌≡◌, ◌∙◌, sym, refl, ap, ℕ, ◌<◌, Bool, true, false, eqb, ◌||◌, List, [], ◌∷◌, ℤ, length, get_or, set, replicate, ⊎_elim, rules, length-set, get_or-set_same, get_or-set_other, eq-eqb, ne_eqb}
use Rattle.std.proofs.lemmas.Bool.{cases_eq}
use Rattle.std.proofs.lemmas.List.{length-replicate}
use Rattle.std.specs.List.{list_any}
use Rattle.ways.proofs.Members.{get_or_same}
use Rattle.tables.specs.Literal.{var}
use Rattle.rules.specs.Forced.{marked}
use Rattle.rules.specs.Taking.{is_output}
use Rattle.gates.specs.declared.site.Site.{Site}
use Rattle.gates.specs.Sites.{gates_of}
use Rattle.gates.specs.Outputs.{with_outputs}
use Rattle.gates.proofs.SiteLaws.{output_at}

any_site : (row : List ℤ) (sites : List Site) (v : ℕ) → list_any (λ g. eqb g.output v) (gates_of row sites) ≡ list_any (λ s. eqb (var s.output) v) sites
any_site row [] v = refl
any_site row (s ∷ sites) v = rw (output_at row s, any_site row sites v) refl

pub output_any : (row : List ℤ) (sites : List Site) (v : ℕ) → is_output (gates_of row sites) v ≡ list_any (λ s. eqb (var s.output) v) sites
unfolding is_output
output_any row sites v = any_site row sites v

-- A variable is marked that was, or that is an output.
marked_set : (m : List ℕ) (o v : ℕ) → v < length m → marked (set m o 1) v ≡ (eqb o v || marked m v)
marked_set m o v h =
    ⊎_elim
    (λ e. rw (eq-eqb o v e) (eq-eqb _ 1 (ap (λ i. get_or (set m o 1) i 0) (sym e) ∙ get_or-set_same m o 1 0 (rw e h))))
    (λ n. rw (ne_eqb o v n) (ap (λ x. eqb x 1) (get_or-set_other m o v 1 0 (λ q. n (sym q)))))
    (cases_eq o v)

marked_with : (sites : List Site) (m : List ℕ) (v : ℕ) → v < length m → marked (with_outputs m sites) v ≡ (marked m v || list_any (λ s. eqb (var s.output) v) sites)
marked_with [] m v h = search rules
marked_with (s ∷ sites) m v h =
    marked_with sites (set m (var s.output) 1) v (rw (length-set m (var s.output) 1) h)
    ∙ ap (λ b. b || list_any (λ s. eqb (var s.output) v) sites) (marked_set m (var s.output) v h)
    ∙ turn (eqb (var s.output) v) (marked m v) (list_any (λ s. eqb (var s.output) v) sites)
  where
    turn : (a b c : Bool) → ((a || b) || c) ≡ (b || (a || c))
    turn true true c = refl
    turn true false c = refl
    turn false b c = refl

pub outputs_marked : (sites : List Site) (k : ℕ) (row : List ℤ) (v : ℕ) → v < k → marked (with_outputs (replicate k 0) sites) v ≡ is_output (gates_of row sites) v
outputs_marked sites k row v h =
    marked_with sites (replicate k 0) v (let z : ℕ = 0 in rw (length-replicate k z) h) ∙ ap (λ b. b || list_any (λ s. eqb (var s.output) v) sites) (ap (λ x. eqb x 1) (get_or_same {X = ℕ} k v 0)) ∙ sym (output_any row sites v)
