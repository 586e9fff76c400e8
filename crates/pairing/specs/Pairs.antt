-- What the code of the pairs promises besides the rules' definitions.
use Rattle.std.specs.Prelude.{ℕ, ◌*◌, ◌<◌, Bool, cond, ◌&&◌, List, map, length, eqb}
use Rattle.std.specs.List.{All, list_any}
use Rattle.ways.specs.Ways.{among}
use Rattle.tables.specs.Literal.{opp}
use Rattle.rules.specs.Pairs.{torn}
use Rattle.pairing.specs.declared.pairs.Pairs.{Pairs}
use Rattle.pairing.specs.declared.pairs.Pairs.TheVariants.{NoPair, Torn, Joined}

-- Each variable of a row stands for a literal of one of the row's variables, or for 0 or 1.
abbrev pub Coded : List ℕ → Type 0
Coded s = All (λ l. l < 2 * length s) s

-- Does a clause have two literals, and the clause of their opposites stand among others?
abbrev pub paired_in : List (List ℕ) → List ℕ → Bool
paired_in cs c = eqb (length c) 2 && among (map opp c) cs

-- What the pairs come to, joined in a row: "If no pair was found, the rounds end"; a contradiction; or the next round.
abbrev pub found : List ℕ → List (List ℕ) → Pairs
found s ps = cond (eqb (length ps) 0) NoPair (cond (list_any (torn s) ps) Torn Joined)
