-- The next input is that of the first literal that is not the output.
use Rattle.std.proofs.Common.{length, ap, rules}
use Rattle.gates.specs.Inputs.{to_come}
use Rattle.gates.proofs.InputSteps.{no_input, next_input}
use Rattle.gates.proofs.inputs.InputsIterator.next.Goals as goal

pub returns-in_err-place-clause-steps : goal.returns-in_err-place-clause-steps
unfolding to_come
returns-in_err-place-clause-steps c =
    let e = no_input c.args.self.now.site c.args.self.now.rest.now (search rules) in
    rw (c.from_residual.ensures) (e, e)

pub returns-clause-steps : goal.returns-clause-steps
unfolding to_come
returns-clause-steps c = search (rules, next_input c.args.self.now.site c.args.self.now.rest.now c.in_ok-place.place (search rules) (search rules) (search rules))

pub returns-clause-goes : goal.returns-clause-goes
unfolding to_come
returns-clause-goes c =
    let shorter = ap length (next_input c.args.self.now.site c.args.self.now.rest.now c.in_ok-place.place (search rules) (search rules) (search rules)) in
    search rules
