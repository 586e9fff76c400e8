-- The inputs of a gate that is found at an anchor: one for each of the anchor's other literals.
use Rattle.std.specs.Prelude.{ℕ, ◌*◌, cond, List, ℤ, map}
use Rattle.tables.specs.Literal.{literal, var, neg, opp}
use Rattle.rules.specs.Patterns.{others}
use Rattle.gates.specs.declared.site.Site.{Site}
use Rattle.gates.specs.declared.inputs.Inputs.{Inputs}
use Rattle.gates.specs.Sites.{anchor_of}

unfoldable pub input : Site → ℕ → ℕ
input site other = cond site.parity (2 * var other) (cond (neg site.output) other (opp other))

unfoldable pub inputs : List ℤ → Site → List ℕ
inputs row site = map (input site) (others site.output (anchor_of row site))

-- What an iterator over the inputs has still to give: those of what is left of the anchor.
unfoldable pub to_come : Inputs → List ℕ
to_come i = map (input i.site) (others i.site.output (map literal i.rest.now))
