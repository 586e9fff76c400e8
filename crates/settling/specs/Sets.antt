-- Sets of literals that are closed under the rule for forced literals.
use Rattle.std.specs.Prelude.{ℕ, ◌≡◌, false}
use mathlib.Core.List.{List, Memᴰ}
use Rattle.tables.specs.Literal.{opp}
use Rattle.tables.specs.Clause.{void}

-- "a literal of a non-void clause is in it when the opposites of all the clause's other literals are."
pub record Closed (cs : List (List ℕ)) (In : ℕ → Type 0) : Type 0 where
  pub rule : (c : List ℕ) → Memᴰ c cs → void c ≡ false → (l : ℕ) → Memᴰ l c → ((x : ℕ) → Memᴰ x c → (x ≡ l → ⊥) → In (opp x)) → In l
