-- What an evening that is settled gives to all the proofs: clauses of the variables 1 to n, the invariant of the rounds, and the
-- meaning of what is settled.
use Rattle.std.proofs.Common.{◌≡◌, ℕ, ◌+◌, ◌<◌, ◌≤◌, Bool, true, false, ◌↔◌, List, ℤ}
use Rattle.tables.specs.Clause.{satisfies_all}
use Rattle.tables.proofs.Checked.{Inside}
use Rattle.rules.specs.Rounds.{impossible, settled, outcome, pinned}
use Rattle.settling.proofs.Inside.{pinned_inside}
use Rattle.settling.proofs.Models.{Models, Means, outcome_means}
use Rattle.settling.proofs.Bound.{Settled, outcome_ends}
use Rattle.demands.specs.Evening.{Lent}

-- The table with its pins speaks of the variables 1 to n.
pub lent_inside : (n : ℕ) (t pins : List ℤ) → Lent n t pins → Inside n (pinned t pins)
lent_inside n t pins h = pinned_inside n t pins h.good h.in_range

module _ (n : ℕ) (t pins : List ℤ) (h : Lent n t pins) where
  -- A contradiction: its round, and that no assignment satisfies.
  pub impossible_ends : (r : ℕ) → outcome n (pinned t pins) ≡ impossible r → (1 ≤ r) × (r < 1 + (n + 1))
  impossible_ends r e = rw e at (outcome_ends n (pinned t pins) (lent_inside n t pins h))

  pub impossible_means : (r : ℕ) → outcome n (pinned t pins) ≡ impossible r → (a : ℕ → Bool) → a 0 ≡ false → satisfies_all a (pinned t pins) ≡ true → ⊥
  impossible_means r e a z = rw e at (outcome_means n (pinned t pins) (lent_inside n t pins h) a z)

  -- A settled evening: its rounds, the invariant, the meaning.
  module _ (r : ℕ) (st : List ℕ) (cs : List (List ℕ)) (e : outcome n (pinned t pins) ≡ settled r st cs) where
    pub settled_ends : (1 ≤ r) × (r < 1 + (n + 1)) × Settled n st cs
    settled_ends = rw e at (outcome_ends n (pinned t pins) (lent_inside n t pins h))

    pub settled_means : (a : ℕ → Bool) → a 0 ≡ false → (satisfies_all a (pinned t pins) ≡ true) ↔ Models a st cs
    settled_means a z = let m : Means n a (pinned t pins) (settled r st cs) = rw e at (outcome_means n (pinned t pins) (lent_inside n t pins h) a z) in m.1
