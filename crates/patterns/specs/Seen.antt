-- Sign patterns of clauses over the same variables, as numbers, and the mask of those that are seen.
use Rattle.std.specs.Prelude.{ℕ, ◌+◌, ◌^◌, cond, List, [], ◌∷◌, length, bit_or}
use Rattle.std.specs.List.{fold}
use Rattle.ways.specs.Ways.{among}
use Rattle.tables.specs.Literal.{neg}
use Rattle.rules.specs.Patterns.{group}

-- A clause's signs: a bit for each literal, the first one's the highest, set where the literal is negative.
unfoldable pub signs : List ℕ → ℕ
signs [] = 0
signs (l ∷ c) = cond (neg l) (2 ^ length c) 0 + signs c

-- The clauses of c's group that are seen: a bit for each one's signs.
unfoldable pub see : List ℕ → ℕ → List ℕ → ℕ
see c seen d = cond (among d (group c)) (bit_or seen (2 ^ signs d)) seen

abbrev pub seen : List (List ℕ) → List ℕ → ℕ
seen cs c = fold (see c) 0 cs
