-- Taking gates. The gates taken are kept in an order of evaluation: each stands behind the gates that its inputs depend on.
-- So what depends on a variable is found in one way through them.
use Rattle.std.specs.Prelude.{ℕ, ◌+◌, Bool, true, false, cond, not, ◌&&◌, List, [], ◌∷◌, ◌++◌, map, length, set, replicate, eqb, ltb}
use Rattle.std.specs.List.{fold, list_any, filter}
use Rattle.tables.specs.Literal.{var}
use Rattle.rules.specs.Forced.{marked}
use Rattle.rules.specs.Patterns.{Gate, and_form, parity, anchors, found}

-- "At each, try the parity group it anchors, each variable as output from the lowest up; then the and-form, each literal as
-- o, lowest variable first." The literals of a cleaned clause stand by rising variable.
unfoldable pub candidates : List (List ℕ) → List ℕ → List Gate
candidates cs c = filter (found cs) (cond (anchors cs c) (map (parity c) c) [] ++ map (and_form c) c)

-- The variables that depend on o through the gates taken, o itself among them: a gate's output does if one of its inputs
-- does.
unfoldable pub touched : List ℕ → Gate → Bool
touched m g = list_any (λ x. marked m (var x)) g.inputs

unfoldable pub depend_step : List ℕ → Gate → List ℕ
depend_step m g = cond (touched m g) (set m g.output 1) m

unfoldable pub dependents : ℕ → List Gate → ℕ → List ℕ
dependents n gs o = fold depend_step (set (replicate (n + 1) 0) o 1) gs

-- "Allowed: the output is not yet an output, and no input depends on it through gates already taken."
unfoldable pub is_output : List Gate → ℕ → Bool
is_output gs v = list_any (λ g. eqb g.output v) gs

unfoldable pub allowed : ℕ → List Gate → Gate → Bool
allowed n gs g = not (is_output gs g.output) && not (touched (dependents n gs g.output) g)

-- A gate is put behind those that do not depend on its output, and before those that do.
unfoldable pub place : ℕ → List Gate → Gate → List Gate
place n gs g =
    let after : Gate → Bool = λ h. marked (dependents n gs g.output) h.output in
    filter (λ h. not (after h)) gs ++ (g ∷ filter after gs)

-- "Take the first candidate that is allowed and go on." may: the rule that says which gate is allowed.
unfoldable pub take_first : (List Gate → Gate → Bool) → ℕ → List Gate → List Gate → List Gate
take_first may n gs [] = gs
take_first may n gs (g ∷ more) = elim (may gs g) [ true ↦ place n gs g | false ↦ take_first may n gs more ]

-- "Go through the settled clauses in order, those of width 3 or more."
unfoldable pub take_at : (List Gate → Gate → Bool) → ℕ → List (List ℕ) → List Gate → List ℕ → List Gate
take_at may n cs gs c = elim (ltb 2 (length c)) [ true ↦ take_first may n gs (candidates cs c) | false ↦ gs ]

unfoldable pub taken_by : (List Gate → Gate → Bool) → ℕ → List (List ℕ) → List Gate
taken_by may n cs = fold (take_at may n cs) [] cs

unfoldable pub taken : ℕ → List (List ℕ) → List Gate
taken n cs = taken_by (allowed n) n cs
