-- The levels, gate by gate.
use Rattle.std.proofs.Common.{◌≡◌, ◌∙◌, refl, ap, ℕ, ◌+◌, ◌-◌, ◌<◌, ◌≤◌, List, [], ◌∷◌, take, ℤ, fold, length, get_or, replicate, arith}
use Rattle.std.proofs.lemmas.List.{take_more, length-map, length-take, map-append}
use Rattle.std.proofs.lemmas.List.Sums.{fold_push}
use Rattle.rules.specs.Circuit.{highest, level_step, levels}
use Rattle.circuits.proofs.Levels as Circuits
use Rattle.gates.specs.declared.site.Site.{Site}
use Rattle.gates.specs.Sites.{gate_of, gates_of}

pub levels_none : (k : ℕ) → 1 ≤ k → levels (k - 1) [] ≡ replicate k 0
unfolding levels
levels_none k h = let e : k - 1 + 1 ≡ k = omega arith in rw (e) refl

pub levels_more : (n : ℕ) (row : List ℤ) (sites : List Site) (i : ℕ) (d : Site) → i < length sites
    → levels n (gates_of row (take (i + 1) sites)) ≡ level_step (levels n (gates_of row (take i sites))) (gate_of row (get_or sites i d))
unfolding levels
levels_more n row sites i d h =
    ap (λ xs. levels n (gates_of row xs)) (take_more sites i d h)
    ∙ ap (fold level_step (replicate (n + 1) 0)) (map-append (gate_of row) (take i sites) (get_or sites i d ∷ []))
    ∙ fold_push level_step (replicate (n + 1) 0) (gates_of row (take i sites)) (gate_of row (get_or sites i d))

-- No level is higher than the number of gates before.
pub levels_low : (n : ℕ) (row : List ℤ) (sites : List Site) (i : ℕ) (inputs : List ℕ) → highest (levels n (gates_of row (take i sites))) inputs ≤ i
levels_low n row sites i inputs =
    Circuits.highest_below (levels n (gates_of row (take i sites))) inputs i
    (λ v. let q = Circuits.levels_low n (gates_of row (take i sites)) v in omega (arith, length-map (take i sites) (gate_of row), length-take i sites))
