-- What the pins from here on force comes to the same as what all do.
use Rattle.std.proofs.Common.{◌≡◌, [], ◌∷◌, map, drop}
use Rattle.std.specs.Bool.{OnFalse}
use Rattle.tables.specs.Literal.{literal}
use Rattle.rules.specs.Forced.{pass}
use Rattle.forcing.proofs.force.pass_pins.Given as goal

abbrev pub invariant-loop-pin : goal.invariant-loop-pin
invariant-loop-pin l =
    (pass (map (λ p. literal p ∷ []) l.pins) l.fn.marks ≡ pass (map (λ p. literal p ∷ []) (drop l.pin-index l.pins)) l.marks)
    × OnFalse l.grown (l.marks ≡ l.fn.marks)
