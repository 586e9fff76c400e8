-- A kind's rule of value from two numbers: how many of the inputs are true, and how many there are.
use Rattle.std.specs.Prelude.{ℕ, ◌%◌, Bool, cond, not, ◌||◌, eqb, ltb}
use Rattle.tables.specs.Literal.{var, holds}

-- Only the inputs of cg and dg carry signs: the others count as true by their variables.
abbrev pub counts : ℕ → (ℕ → Bool) → ℕ → Bool
counts kind a input = cond (eqb kind 2 || eqb kind 5) (holds a input) (a (var input))

unfoldable pub by_count : ℕ → ℕ → ℕ → Bool
by_count kind trues inputs =
    cond (eqb kind 0) (eqb trues inputs)
    (cond (eqb kind 1) (eqb trues 0)
    (cond (eqb kind 2) (eqb trues inputs)
    (cond (eqb kind 3) (ltb 0 trues)
    (cond (eqb kind 4) (not (eqb trues inputs))
    (cond (eqb kind 5) (ltb 0 trues)
    (cond (eqb kind 6) (eqb (trues % 2) 1)
    (not (eqb (trues % 2) 1))))))))
