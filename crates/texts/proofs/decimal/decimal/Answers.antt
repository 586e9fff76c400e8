-- One digit more.
use Rattle.std.proofs.Common.{◌∙◌, arith}
use Rattle.std.proofs.lemmas.Grind.{common_steps}
use Rattle.texts.proofs.DecimalSteps.{decimal_more, tenth_fits, two_left}
use Rattle.texts.proofs.decimal.decimal.Goals as goal

pub loop-rest-preserved : goal.loop-rest-preserved
loop-rest-preserved c =
    let l = c.loop-rest in
    let two = two_left l.rest l.first c.loop-rest-test.true l.invariant.room in
    record {
      digits = l.invariant.digits ∙ decimal_more l.rest l.first l.digits c.loop-rest-test.true (omega arith) (omega arith);
      room = tenth_fits l.rest l.first (omega arith) l.invariant.room;
      within = grind (arith, common_steps);
    }
