-- What the taking of gates asks of the settled table.
use Rattle.std.specs.Prelude.{ℕ, List}
use mathlib.Core.List.{Memᴰ}
use Rattle.tables.proofs.Checked.{Inside}
use Rattle.settling.proofs.Proper.{Proper}

-- The clauses speak of the variables 1 to n; in each the literals rise, and no variable stands twice.
pub record IsSettled (n : ℕ) (cs : List (List ℕ)) : Type 0 where
  pub inside : Inside n cs
  pub proper : (c : List ℕ) → Memᴰ c cs → Proper c
