-- An evening that is settled: the situation that most statements speak of. It assumes nothing but that the table and the
-- pins are in the sizes, and that the rounds end without a contradiction.
use Rattle.std.specs.Prelude.{ℕ, ◌≡◌, true, not, List, ℤ, Ok}
use Rattle.std.specs.List.{list_all}
use Rattle.tables.specs.Check.{checked}
use Rattle.rules.specs.Rounds.{settled, outcome, pinned}
use Rattle.rules.specs.Pins.{out_of_range}

-- n variables, a table, and pins in range.
pub record Lent (n : ℕ) (table pins : List ℤ) : Type 0 where
  pub good : checked n table ≡ Ok tt
  pub in_range : list_all (λ x. not (out_of_range n x)) pins ≡ true

-- The rounds over the table with its pins are r in number and leave st, what each variable stands for, and cs, the settled
-- table.
pub record Settles (n : ℕ) (table pins : List ℤ) (r : ℕ) (st : List ℕ) (cs : List (List ℕ)) : Type 0 where
  pub lent : Lent n table pins
  pub comes : outcome n (pinned table pins) ≡ settled r st cs
