-- The forced literals of a round, as statements.
use Rattle.std.specs.Prelude.{ℕ, ◌≤◌, ◌≡◌, Bool, true, false, List}
use mathlib.Core.List.{Memᴰ}
use Rattle.tables.specs.Literal.{var, valued}
use Rattle.tables.specs.Clause.{satisfies_all}
use Rattle.rules.specs.Forced.{marked, forced, contradicts}
use Rattle.settling.specs.Sets.{Closed}

-- Clauses of the variables 1 to n.
pub record OfVariables (n : ℕ) (cs : List (List ℕ)) : Type 0 where
  pub each : (c : List ℕ) → Memᴰ c cs → (l : ℕ) → Memᴰ l c → (1 ≤ var l) × (var l ≤ n)

-- FORCED LITERALS: "the least set such that a literal of a non-void clause is in it when the opposites of all the clause's
-- other literals are." The set is closed under that rule, and inside every set that is.
abbrev pub ForcedClosed : Type 0
ForcedClosed = (n : ℕ) (cs : List (List ℕ)) → OfVariables n cs → Closed cs (λ l. marked (forced n cs) l ≡ true)

abbrev pub ForcedLeast : Type 0
ForcedLeast =
    (n : ℕ) (cs : List (List ℕ)) (inside : ℕ → Bool) → Closed cs (λ l. inside l ≡ true)
    → (l : ℕ) → marked (forced n cs) l ≡ true → inside l ≡ true

-- A CONTRADICTION IN A ROUND means that no assignment satisfies the clauses.
abbrev pub ContradictionMeans : Type 0
ContradictionMeans =
    (n : ℕ) (cs : List (List ℕ)) → OfVariables n cs → contradicts n cs ≡ true → (values : List ℕ) → satisfies_all (valued values) cs ≡ false
