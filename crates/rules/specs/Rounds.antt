-- The rounds, their count and what they leave.
use Rattle.std.specs.Prelude.{ℕ, zero, suc, ◌+◌, cond, List, [], ◌∷◌, ◌++◌, map, ℤ, length, eqb}
use Rattle.std.specs.List.{list_any}
use Rattle.tables.specs.Literal.{literal}
use Rattle.tables.specs.Clause.{clauses}
use Rattle.rules.specs.Forced.{forced, contradicts}
use Rattle.rules.specs.Clean.{clean}
use Rattle.rules.specs.Pairs.{pairs, replace, starting, leaders, torn}

-- A round ends in a contradiction; or it is the last, with what each variable stands for and the settled table; or it
-- goes on, with the substituted clauses.
pub data Round : Type 0 where
  stuck : Round
  ended goes_on : List ℕ → List (List ℕ) → Round

-- "If no pair was found, the rounds end; else the next round starts on the substituted clauses." st: what each variable
-- stood for before the round; s: what the round made it stand for; cs: the cleaned clauses; ps: their pairs.
unfoldable pub paired : List ℕ → List ℕ → List (List ℕ) → List (List ℕ) → Round
paired st s cs ps =
    cond (eqb (length ps) 0) (ended (map (replace s) st) cs)
    (cond (list_any (torn s) ps) stuck (goes_on (map (replace s) st) (map (map (replace s)) cs)))

unfoldable pub cleaned : ℕ → List ℕ → List ℕ → List (List ℕ) → Round
cleaned n st m cs = paired st (leaders n m (pairs cs)) cs (pairs cs)

unfoldable pub round : ℕ → List ℕ → List (List ℕ) → Round
round n st cs = cond (contradicts n cs) stuck (cleaned n st (forced n cs) (clean (forced n cs) cs))

-- "The result gives the rounds run, as the definition counts them: at most n + 1. The round of a contradiction counts in
-- the same way." r: the round to be run, from 1. What is settled: the rounds run, what each variable stands for, and the
-- settled table.
pub data Outcome : Type 0 where
  impossible : ℕ → Outcome
  settled : ℕ → List ℕ → List (List ℕ) → Outcome

unfoldable pub after : ℕ → (List ℕ → List (List ℕ) → Outcome) → Round → Outcome
after r next stuck = impossible r
after r next (ended st cs) = settled r st cs
after r next (goes_on st cs) = next st cs

unfoldable pub rounds : ℕ → ℕ → ℕ → List ℕ → List (List ℕ) → Outcome
rounds n zero r st cs = settled r st cs
rounds n (suc more) r st cs = after r (rounds n more (r + 1)) (round n st cs)

unfoldable pub outcome : ℕ → List (List ℕ) → Outcome
outcome n cs = rounds n (n + 1) 1 (starting n []) cs

-- "A pin is a one-literal clause put behind the table."
unfoldable pub pinned : List ℤ → List ℤ → List (List ℕ)
pinned t pins = clauses t ++ map (λ p. literal p ∷ []) pins
