-- A table that the check accepts, with pins in range behind it, speaks of the variables 1 to n.
use Rattle.std.proofs.Common.{◌≡◌, ℕ, ◌≤◌, true, false, not, eqb, ltb, List, [], ◌∷◌, ℤ, sym, subst, ⊎_elim, ltb-false}
use Rattle.std.specs.Prelude.{Ok}
use mathlib.Core.List.Memᴰ
use mathlib.Core.List.{Memᴰ}
use Rattle.std.specs.List.{list_all}
use Rattle.std.proofs.lemmas.Bool.{eqb-false, not-true, or_parts}
use Rattle.ways.proofs.Rows.{list_all-mem}
use Rattle.tables.specs.Literal.{literal, var}
use Rattle.tables.specs.Clause.{clauses}
use Rattle.tables.specs.Check.{checked}
use Rattle.tables.proofs.Literals.{var_one, literal_one}
use Rattle.tables.proofs.Checked.{Inside, accepted_inside}
use Rattle.rules.specs.Rounds.{pinned}
use Rattle.rules.specs.Pins.{out_of_range}

pin_inside : (n : ℕ) (x : ℤ) → out_of_range n x ≡ false → (1 ≤ var (literal x)) × (var (literal x) ≤ n)
unfolding out_of_range
pin_inside n x e =
    let (p, q) = or_parts (eqb (literal x) 0) (ltb n (var (literal x))) e in
    (var_one (literal x) (eqb-false (literal x) 0 p) (literal_one x), ltb-false n (var (literal x)) q)

-- The table with its pins speaks of the variables 1 to n.
pub pinned_inside : (n : ℕ) (t pins : List ℤ) → checked n t ≡ Ok tt → list_all (λ x. not (out_of_range n x)) pins ≡ true → Inside n (pinned t pins)
unfolding pinned
pinned_inside n t pins good in_range c i l k =
    ⊎_elim
    (λ j. accepted_inside n t good c j l k)
    (λ j. let (x, o, q) = Memᴰ.of_map (λ p. literal p ∷ []) pins j in
    subst (λ y. (1 ≤ var y) × (var y ≤ n)) (sym (Memᴰ.eq_of_singleton (subst (Memᴰ l) (sym q) k)))
    (pin_inside n x (not-true (out_of_range n x) (list_all-mem (λ x. not (out_of_range n x)) pins in_range x o))))
    (Memᴰ.append_cases (clauses t) i)
