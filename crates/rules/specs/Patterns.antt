-- And-forms and parity groups: the patterns of clauses that say what a gate says.
use Rattle.std.specs.Prelude.{ℕ, ◌+◌, ◌*◌, Bool, true, false, cond, not, ◌&&◌, List, [], ◌∷◌, ◌++◌, map, length, eqb, ltb}
use Rattle.std.specs.List.{list_all, filter}
use Rattle.ways.specs.Ways.{oddly, same, among}
use Rattle.tables.specs.Literal.{var, neg, opp}
use Rattle.rules.specs.Clean.{insert}
use Rattle.rules.specs.Kinds.{and_kind, parity_kind}

-- kind: the row of the kind table; output: a variable; inputs: literals by rising variable; pattern: the gate's clauses.
pub record Gate : Type 0 where
  pub kind : ℕ
  pub output : ℕ
  pub inputs : List ℕ
  pub pattern : List (List ℕ)

unfoldable pub others : ℕ → List ℕ → List ℕ
others o c = filter (λ x. not (eqb x o)) c

-- "And-form. For a literal o and literals a1..am, m at least 2: the anchor (o −a1 .. −am) and every (−o ai)." x is the −ai
-- of the anchor.
unfoldable pub side : ℕ → ℕ → List ℕ
side o x = insert (opp o) (insert (opp x) [])

-- "With o = v: .. the ai. With o = −v: the inputs are the opposites of the ai"
unfoldable pub and_inputs : List ℕ → ℕ → List ℕ
and_inputs c o = cond (neg o) (others o c) (map opp (others o c))

unfoldable pub and_form : List ℕ → ℕ → Gate
and_form c o = record { kind = and_kind o (and_inputs c o); output = var o; inputs = and_inputs c o; pattern = c ∷ map (side o) (others o c) }

-- "Parity. Over 3 to 5 variables, k of them: all 2^(k−1) clauses of width k that agree in the number of negative literals,
-- odd or even."
unfoldable pub signings : List ℕ → Bool → List (List ℕ)
signings [] false = [] ∷ []
signings [] true = []
signings (v ∷ vs) odd = map (λ c. (2 * v) ∷ c) (signings vs odd) ++ map (λ c. (2 * v + 1) ∷ c) (signings vs (not odd))

unfoldable pub odd : List ℕ → Bool
odd c = oddly neg c

unfoldable pub group : List ℕ → List (List ℕ)
group c = signings (map var c) (odd c)

unfoldable pub parity : List ℕ → ℕ → Gate
parity c o = record { kind = parity_kind (odd c); output = var o; inputs = map (λ x. 2 * var x) (others o c); pattern = group c }

-- "The anchor is the group's first clause in the table."
unfoldable pub first_of : List (List ℕ) → List (List ℕ) → List ℕ
first_of ds [] = []
first_of ds (c ∷ cs) = cond (among c ds) c (first_of ds cs)

unfoldable pub anchors : List (List ℕ) → List ℕ → Bool
anchors cs c = ltb (length c) 6 && same (first_of (group c) cs) c

-- All of a gate's clauses are in the table.
unfoldable pub found : List (List ℕ) → Gate → Bool
found cs g = list_all (λ c. among c cs) g.pattern

-- "each gate written out again as clauses": from its kind, output and inputs alone. The output literal is positive for the
-- kinds and, nor, cg, and negative for or, nand, dg; with it the anchor has the opposites of the ai.
unfoldable pub output_literal : Gate → ℕ
output_literal g = cond (ltb g.kind 3) (2 * g.output) (2 * g.output + 1)

unfoldable pub anchor_rest : Gate → List ℕ
anchor_rest g = cond (ltb g.kind 3) (map opp g.inputs) g.inputs

unfoldable pub written_out : Gate → List (List ℕ)
written_out g =
    cond (ltb g.kind 6) (insert (output_literal g) (anchor_rest g) ∷ map (side (output_literal g)) (anchor_rest g))
    (signings (insert g.output (map var g.inputs)) (eqb g.kind 6))
