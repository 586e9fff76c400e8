-- Chains that follow a row as it grows.
use Rattle.std.specs.Prelude.{ℕ, ◌≤◌, List, ℤ, length, take}
use Rattle.chains.specs.declared.chain.Chains.{Chains}
use Rattle.chains.specs.Ended.{Ended}
use Rattle.chains.specs.Links.{Chained}

-- The chains are those of the row's first entries, as many as they cover, whose last clause is ended.
pub record Covers (row : List ℤ) (heads links : List ℕ) (covered : ℕ) : Type 0 where
  pub within : covered ≤ length row
  pub ended : Ended (take covered row)
  pub chained : Chained (take covered row) heads links

abbrev pub Follows : List ℤ → Chains → Type 0
Follows row chains = Covers row chains.heads.now chains.links.now chains.covered
