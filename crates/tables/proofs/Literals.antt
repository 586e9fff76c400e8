-- Laws of literals: variable, sign, opposite and truth. Nobody else opens these definitions.
use Rattle.std.proofs.Common.{◌≡◌, ℕ, suc, ◌+◌, ◌-◌, ◌*◌, ◌%◌, ◌<◌, ◌≤◌, Bool, true, false, cond, not, ◌⊎◌, ℤ, pos, negsuc, nat_abs, sym, refl, ap, ◌∙◌, arith, rules, eq-eqb, ne_eqb}
use Rattle.tables.specs.Literal.{literal, entry, var, neg, opp, holds}

-- The two literals of a variable.
pub var_pos : (v : ℕ) → var (2 * v) ≡ v
var_pos v = omega arith

pub var-neg : (v : ℕ) → var (2 * v + 1) ≡ v
var-neg v = omega arith

pub neg_pos : (v : ℕ) → neg (2 * v) ≡ false
neg_pos v = ne_eqb ((2 * v) % 2) 1 (λ e. omega arith)

pub neg-neg : (v : ℕ) → neg (2 * v + 1) ≡ true
neg-neg v = eq-eqb ((2 * v + 1) % 2) 1 (omega arith)

-- Each literal is one of the two, and its opposite the other.
pub two_forms : (l : ℕ) → ((l ≡ 2 * var l) × (opp l ≡ 2 * var l + 1)) ⊎ ((l ≡ 2 * var l + 1) × (opp l ≡ 2 * var l))
two_forms l = grind arith

-- The opposite in arithmetic, as a program computes it.
pub opp_is : (l : ℕ) → opp l ≡ l + 1 - 2 * (l % 2)
opp_is l = grind arith

pub var-opp : (l : ℕ) → var (opp l) ≡ var l
var-opp l = rw (opp_is l) (omega arith)

pub neg-opp : (l : ℕ) → neg (opp l) ≡ not (neg l)
neg-opp l = grind arith

pub opp-opp : (l : ℕ) → opp (opp l) ≡ l
opp-opp l = grind arith

pub opp_differs : (l : ℕ) → l ≡ opp l → ⊥
opp_differs l e = grind arith

-- Two literals of one variable are equal or opposite.
pub same_var : (l k : ℕ) → var l ≡ var k → (l ≡ k) ⊎ (l ≡ opp k)
same_var l k e = grind arith

-- The numbers of a variable from 1 to n.
pub low_var : (l : ℕ) → l < 2 → var l ≡ 0
low_var l h = omega arith

pub var_one : (l : ℕ) → (l ≡ 0 → ⊥) → (l ≡ 1 → ⊥) → 1 ≤ var l
var_one l h k = omega arith

pub var_mono : (x y : ℕ) → x < y → var x ≤ var y
var_mono x y h = omega arith

pub high_literal : (l n : ℕ) → var l ≤ n → l < 2 * n + 2
high_literal l n h = omega arith

-- Truth.
module _ (a : ℕ → Bool) where
  pub holds_pos : (v : ℕ) → holds a (2 * v) ≡ a v
  holds_pos v = rw (neg_pos v, var_pos v)

  pub holds-neg : (v : ℕ) → holds a (2 * v + 1) ≡ not (a v)
  holds-neg v = rw (neg-neg v, var-neg v)

  pub holds-opp : (l : ℕ) → holds a (opp l) ≡ not (holds a l)
  holds-opp l = rw (neg-opp l, var-opp l) (search rules)

  pub holds_by : (l : ℕ) → holds a l ≡ cond (neg l) (not (a (var l))) (a (var l))
  holds_by l = refl

  -- The numbers 0 and 1, where variable 0 has the value 0.
  pub holds_zero : a 0 ≡ false → holds a 0 ≡ false
  holds_zero z = z

  pub holds_one : a 0 ≡ false → holds a 1 ≡ true
  holds_one z = rw z

pub holds_alike : (a b : ℕ → Bool) (l : ℕ) → a (var l) ≡ b (var l) → holds a l ≡ holds b l
holds_alike a b l e = rw e

-- Entries and the numbers of literals.
pub entry-literal : (z : ℤ) → entry (literal z) ≡ z
entry-literal (pos v) = rw (neg_pos v, var_pos v)
entry-literal (negsuc v) = rw (neg-neg (suc v), var-neg (suc v))

pub literal-entry : (l : ℕ) → (l ≡ 1 → ⊥) → literal (entry l) ≡ l
literal-entry l h = grind (arith, two_forms l)

pub var-literal : (z : ℤ) → var (literal z) ≡ nat_abs z
var-literal (pos v) = var_pos v
var-literal (negsuc v) = var-neg (suc v)

-- Only the entry 0 has the number 0, and no entry has the number 1.
pub literal_zero : (z : ℤ) → literal z ≡ 0 → z ≡ pos 0
literal_zero z e = sym (entry-literal z) ∙ ap entry e

pub literal_one : (z : ℤ) → literal z ≡ 1 → ⊥
literal_one (pos v) e = omega arith
literal_one (negsuc v) e = omega arith
