-- Gates offered, one by one, until one is allowed.
use Rattle.std.specs.Prelude.{◌≡◌, ℕ, Bool, List, ℤ, take}
use Rattle.std.specs.List.{list_any}
use Rattle.tables.specs.Clause.{clauses}
use Rattle.rules.specs.Patterns.{Gate}
use Rattle.rules.specs.Taking.{allowed, take_first}
use Rattle.gates.specs.Sites.{gates_of}
use Rattle.taking.specs.declared.offer.Taking.{Taking}

-- The settled table's row and its clauses, and the gates taken so far.
abbrev pub row : Taking → List ℤ
row taking = taking.index.row.now

abbrev pub table : Taking → List (List ℕ)
table taking = clauses (row taking)

abbrev pub gates : Taking → List Gate
gates taking = gates_of (row taking) (take taking.count taking.sites.now)

-- The rule that says which gate is allowed.
abbrev pub may : Taking → List Gate → Gate → Bool
may taking = allowed taking.n

-- What an offer of some gates makes of the gates taken: the first that is allowed is in its place among them, if one is.
pub record Offered (before after : Taking) (taken : Bool) (offer : List Gate) : Type 0 where
  pub row : row after ≡ row before
  pub n : after.n ≡ before.n
  pub is : taken ≡ list_any (may before (gates before)) offer
  pub gates : gates after ≡ take_first (may before) before.n (gates before) offer
