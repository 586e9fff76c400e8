-- The line of a refusal stands at the front.
use Rattle.std.proofs.Common.{◌∙◌, sym, arith}
use Rattle.builder.proofs.ProgramSteps.{line_front}
use Rattle.builder.proofs.program.answer.Goals as goal

pub returns-in-Err-clause-is : goal.returns-in-Err-clause-is
returns-in-Err-clause-is c =
    let short = c.put_x.ensures.short in let long = c.build_text.auto.out in
    line_front c.in-Err.why c.build_text.new.out c.put_x.new.out c.put_x.result c.put_x.ensures.is c.put_x.ensures.laid (omega (arith, short, long, c.requires)) ∙ sym c.in-Err.ensures

pub returns-in-Err-clause-within : goal.returns-in-Err-clause-within
returns-in-Err-clause-within c =
    let short = c.put_x.ensures.short in let long = c.build_text.auto.out in let same = c.put_x.auto.out in omega (arith, short, long, same, c.requires)
