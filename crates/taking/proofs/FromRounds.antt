-- What the rounds leave is settled as the taking of gates asks.
use Rattle.std.proofs.Common.{ℕ, List}
use Rattle.settling.proofs.Bound.{Settled}
use Rattle.taking.specs.Settled.{IsSettled}

pub settled_is : (n : ℕ) (st : List ℕ) (cs : List (List ℕ)) → Settled n st cs → IsSettled n cs
settled_is n st cs s = record { inside = λ c i l k. let (root, low, high) = s.good.over c i l k in (low, high); proper = s.proper }
