-- The first bad variable is refused.
use Rattle.std.proofs.Common.{◌∙◌, sym, arith}
use Rattle.builder.specs.Values.{is_bad}
use Rattle.builder.proofs.BadValues.{first_bad}
use Rattle.builder.proofs.values.check_values.Goals as goal

pub returns-then-is_bad : goal.returns-then-is_bad
returns-then-is_bad c =
    first_bad (is_bad c.args.evening.now c.args.given.now) c.args.evening.now.n c.loop-variable.variable
    (omega arith) (omega arith) c.loop-variable.invariant (sym c.is_bad.ensures ∙ c.if-is_bad.true)
