-- The gates are a circuit with the values given.
use Rattle.std.proofs.Common.{refl}
use Rattle.builder.proofs.Asks.{circuit_of}
use Rattle.builder.proofs.ask.ask_evening.Goals as goal

pub ask-requires-clause-circuit : goal.ask-requires-clause-circuit
ask-requires-clause-circuit c = circuit_of c.args.evening.now c.requires.evaluates _ refl c.in_ok-enough_given.ensures.fits
