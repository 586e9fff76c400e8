-- An accepted table has at most 4,096 clauses.
use Prim.Native.Nat.{ℕ, ◌+◌, ◌≤◌}
use mathlib.Core.Path.{◌≡◌, refl}
use mathlib.Core.Bool.{Bool, true, false}
use mathlib.Core.List.{List, [], ◌∷◌, ◌++◌}
use native.Mathlib.Omega.{arith}
use lib.IntN.{ℤ}
use lib.ListN.{length}
use lib.Dec.{eqb, leb, ltb}
use borrow.Author.Tests.{leb-false}
use Rattle.std.specs.Prelude.{Ok, Err}
use Rattle.tables.specs.Sizes.{most_clauses, most_variables, most_entries}
use Rattle.tables.specs.Numbers.{Verdict}
use Rattle.tables.specs.Literal.{literal, var}
use Rattle.tables.specs.Clause.{clauses_from, clauses}
use Rattle.tables.specs.Check.{check_from, checked}
use Rattle.tables.specs.declared.numbers.Refusal.TheVariants.{TooLarge, Undeclared}

-- k zeros went before.
few_from : (n p l k : ℕ) (before : List ℕ) (zs : List ℤ) → k ≤ most_clauses → check_from n p l k zs ≡ Ok tt → k + length (clauses_from before zs) ≤ most_clauses
unfolding check_from clauses_from
few_from n p l k before [] h e = omega arith
few_from n p l k before (z ∷ zs) h e =
    go (eqb (literal z) 0) (leb 4096 k) refl (leb 64 l) (ltb n (var (literal z))) (few_from n (p + 1) 0 (k + 1) [] zs) (few_from n (p + 1) (l + 1) k (before ++ (literal z ∷ [])) zs h) e
  where
    go : (b c : Bool) → leb 4096 k ≡ c → (d e : Bool)
        → (k + 1 ≤ 4096 → check_from n (p + 1) 0 (k + 1) zs ≡ Ok tt → k + 1 + length (clauses_from [] zs) ≤ 4096)
        → (check_from n (p + 1) (l + 1) k zs ≡ Ok tt → k + length (clauses_from (before ++ (literal z ∷ [])) zs) ≤ 4096)
        → ◌≡◌ {A = Verdict} (elim b [
          | true ↦ elim c [ true ↦ Err (TooLarge p) | false ↦ check_from n (p + 1) 0 (k + 1) zs ]
          | false ↦ elim d [ true ↦ Err (TooLarge p) | false ↦ elim e [ true ↦ Err (Undeclared p) | false ↦ check_from n (p + 1) (l + 1) k zs ] ]
        ]) (Ok tt)
        → k + length {A = List ℕ} (elim b [ true ↦ before ∷ clauses_from [] zs | false ↦ clauses_from (before ++ (literal z ∷ [])) zs ]) ≤ 4096
    go true true q d e r s w = cc
    go true false q d e r s w = let i = leb-false 4096 k q in let j = r (omega arith) w in omega arith
    go false c q true e r s w = cc
    go false c q false true r s w = cc
    go false c q false false r s w = s w

pub accepted_few : (n : ℕ) (t : List ℤ) → checked n t ≡ Ok tt → length (clauses t) ≤ most_clauses
unfolding checked clauses
accepted_few n t e = go (ltb most_variables n) (ltb most_entries (length t)) e
  where
    go : (b c : Bool) → ◌≡◌ {A = Verdict} (elim b [ true ↦ Err (TooLarge 0) | false ↦ elim c [ true ↦ Err (TooLarge 16384) | false ↦ check_from n 0 0 0 t ] ]) (Ok tt) → length (clauses_from [] t) ≤ most_clauses
    go true c w = cc
    go false true w = cc
    go false false w = let h = few_from n 0 0 0 [] t (omega arith) w in omega arith
