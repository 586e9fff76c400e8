-- There is room for a gate that is allowed: no two gates have one output, and no output is variable 0.
use Rattle.std.proofs.Common.{◌≡◌, ◌∙◌, refl, sym, ℕ, ◌+◌, ◌<◌, ◌≤◌, true, false, List, [], ◌∷◌, map, length, eqb, arith, ne_eqb, eq-eqb}
use mathlib.Core.List.Memᴰ
use mathlib.Core.List.{Memᴰ}
use denote.Struct.Props.{props}
use Rattle.std.proofs.Math.Logic.{∥∥₁_elim}
use Rattle.std.specs.List.{IsDistinct, AllByRecursion}
use Rattle.std.proofs.lemmas.Bool.{not-true, and_parts}
use Rattle.std.proofs.lemmas.List.{length-map}
use Rattle.std.proofs.lemmas.Map.Keys.{IsDistinct-cons}
use Rattle.std.proofs.lemmas.Map.Steps.{length-le_from_distinct_below}
use Rattle.ways.proofs.Bools.{clash_of}
use Rattle.ways.proofs.Members.{has-mem}
use Rattle.ways.proofs.Rows.{none_of}
use Rattle.rules.specs.Patterns.{Gate}
use Rattle.rules.specs.Taking.{is_output, allowed}
use Rattle.circuits.proofs.Order.{Ordered, none, next}
use Rattle.circuits.proofs.Taken.{Valid, Taken}

abbrev outputs : List Gate → List ℕ
outputs gs = map (λ (g : Gate). g.output) gs

others_apart : (v : ℕ) (gs : List Gate) → ((h : Gate) → Memᴰ h gs → v ≡ h.output → ⊥) → AllByRecursion (λ y. eqb v y ≡ false) (outputs gs)
others_apart v [] f = tt
others_apart v (g ∷ gs) f = (ne_eqb v g.output (f g (Memᴰ.head refl)), others_apart v gs (λ h i. f h (Memᴰ.tail i)))

outputs_distinct : {gs : List Gate} → Ordered gs → IsDistinct eqb (outputs gs)
unfolding IsDistinct
outputs_distinct none = tt
outputs_distinct (next {g = g} {gs = gs} self before o) = IsDistinct-cons eqb g.output (outputs gs) (others_apart g.output gs (λ h i. (before h i).other)) (outputs_distinct o)

module _ (n : ℕ) {gs : List Gate} (g : Gate) (order : Ordered gs) (inside : (h : Gate) → Memᴰ h gs → (1 ≤ h.output) × (h.output ≤ n)) (low : 1 ≤ g.output) (high : g.output ≤ n) (ok : allowed n gs g ≡ true) where
  fresh : (h : Gate) → Memᴰ h gs → g.output ≡ h.output → ⊥
  unfolding allowed is_output
  fresh h i e = clash_of (sym (eq-eqb h.output g.output (sym e)) ∙ none_of _ gs (not-true _ (and_parts _ _ ok).0) h i)

  all : List ℕ
  all = 0 ∷ g.output ∷ outputs gs

  all_distinct : IsDistinct eqb all
  unfolding all
  all_distinct =
      IsDistinct-cons eqb 0 (g.output ∷ outputs gs) (ne_eqb 0 g.output (λ e. omega arith), others_apart 0 gs (λ h i e. let q = (inside h i).0 in omega arith))
      (IsDistinct-cons eqb g.output (outputs gs) (others_apart g.output gs fresh) (outputs_distinct order))

  all_below : (q : ℕ) → Memᴰ q all → q < n + 1
  unfolding all
  all_below q (Memᴰ.head e) = omega arith
  all_below q (Memᴰ.tail (Memᴰ.head e)) = omega arith
  all_below q (Memᴰ.tail (Memᴰ.tail i)) = let (h, j, e) = Memᴰ.of_map (λ (g : Gate). g.output) gs i in let k = (inside h j).1 in omega (arith, e)

  allowed_room : length gs < n
  unfolding all
  allowed_room =
      let h : length all ≤ n + 1 = length-le_from_distinct_below all (n + 1) all_distinct (λ q e. all_below q (has-mem q all e)) in
      omega (arith, h, length-map gs (λ (g : Gate). g.output))

-- Where the gates are those taken from clauses.
pub room : (n : ℕ) (cs : List (List ℕ)) (gs : List Gate) (g : Gate) → ∥ Taken n cs gs ∥₁ → ∥ Valid n cs g ∥₁ → allowed n gs g ≡ true → length gs < n
room n cs gs g t v ok =
    ∥∥₁_elim t (search props) (λ t. ∥∥₁_elim v (search props) (λ v. allowed_room n g t.order (λ h i. let w = t.valid h i in (w.low, w.high)) v.low v.high ok))
