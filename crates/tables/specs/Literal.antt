-- Literals and their values. A table's entry v is written here as the number 2v, and −v as 2v + 1: so the number of a
-- literal tells its variable and its sign, and the order of the numbers is the order of the variables. There is no
-- variable 0; its two numbers 0 and 1 are used for the values 0 and 1 themselves.
use Rattle.std.specs.Prelude.{ℕ, zero, suc, ◌+◌, ◌-◌, ◌*◌, ◌/◌, ◌%◌, Bool, false, cond, not, List, ℤ, pos, negsuc, neg_ℤ, get_or, eqb}

-- "A literal is v or −v."
abbrev pub literal : ℤ → ℕ
literal (pos v) = 2 * v
literal (negsuc v) = 2 * suc v + 1

abbrev pub var : ℕ → ℕ
var l = l / 2

abbrev pub neg : ℕ → Bool
neg l = eqb (l % 2) 1

-- The entry that a literal's number stands for.
abbrev pub entry : ℕ → ℤ
entry l = cond (neg l) (neg_ℤ (pos (var l))) (pos (var l))

-- The opposite: the same variable with the other sign.
abbrev pub opp : ℕ → ℕ
opp l = cond (neg l) (l - 1) (l + 1)

-- Is a literal true, where a says which variables are?
abbrev pub holds : (ℕ → Bool) → ℕ → Bool
holds a l = cond (neg l) (not (a (var l))) (a (var l))

-- An assignment is a row of values, 0 or 1, the first for variable 1.
abbrev pub valued : List ℕ → ℕ → Bool
valued values zero = false
valued values (suc v) = eqb (get_or values v 0) 1
