-- What the gates taken leave: residue, free variables, levels.
use Rattle.std.specs.Prelude.{ℕ, suc, ◌+◌, max, Bool, not, ◌&&◌, List, get_or, set, replicate}
use Rattle.std.specs.List.{fold, list_any, filter}
use Rattle.ways.specs.Ways.{among}
use Rattle.tables.specs.Literal.{var}
use Rattle.rules.specs.Pairs.{root}
use Rattle.rules.specs.Patterns.{Gate}
use Rattle.rules.specs.Taking.{is_output}

-- "The residue is every settled clause in no taken gate's pattern, in order."
unfoldable pub in_pattern : List Gate → List ℕ → Bool
in_pattern gs c = list_any (λ g. among c g.pattern) gs

unfoldable pub residue : List Gate → List (List ℕ) → List (List ℕ)
residue gs cs = filter (λ c. not (in_pattern gs c)) cs

-- "Free variables are the roots that are no output"
unfoldable pub free : List ℕ → List Gate → ℕ → Bool
free st gs v = root st v && not (is_output gs v)

-- "their level is 0. A gate's level is one more than its inputs' highest": the levels by variable, gate after gate.
unfoldable pub highest : List ℕ → List ℕ → ℕ
highest levels inputs = fold (λ high x. max high (get_or levels (var x) 0)) 0 inputs

unfoldable pub level_step : List ℕ → Gate → List ℕ
level_step levels g = set levels g.output (suc (highest levels g.inputs))

unfoldable pub levels : ℕ → List Gate → List ℕ
levels n gs = fold level_step (replicate (n + 1) 0) gs
