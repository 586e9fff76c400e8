-- Each turn of the loop.
use Rattle.std.proofs.Common.{◌≡◌, ◌∙◌, refl, ◌≤◌, ◌++◌, length, drop, length-append, arith}
use Rattle.std.proofs.lemmas.List.{length-take-le}
use Rattle.rounds.proofs.SettleSteps.{turn_stuck, turn_over, turns_behind, left_on, left_over}
use Rattle.rounds.proofs.settle.run.Goals as goal

pub returns-in-Stuck-clause-is : goal.returns-in-Stuck-clause-is
returns-in-Stuck-clause-is c =
    rw (turn_stuck _ c.loop-number.number _ _ _ c.loop-number.invariant.going c.loop-number-test.true c.round.new.all c.round.new.row c.in-Stuck.ensures.is) refl

pub returns-in-Over-clause-is : goal.returns-in-Over-clause-is
returns-in-Over-clause-is c =
    let front = c.round.new.row in
    let rest = drop c.loop-number.entries c.loop-number.row in
    let within : c.in-Over.left ≤ length front = omega (arith, c.in-Over.ensures.within, c.round.auto.row) in
    let t = turns_behind c.round.new.all front rest _ _ within c.in-Over.ensures.is in
    let (w, e) = turn_over _ c.loop-number.number _ _ _ c.loop-number.invariant.going c.loop-number-test.true c.round.new.all (front ++ rest) c.in-Over.left t in
    rw w (refl, refl, record { are = refl; ended = e })

pub loop-number-preserved : goal.loop-number-preserved
loop-number-preserved c =
    let front = c.round.new.row in
    let rest = drop c.loop-number.entries c.loop-number.row in
    let size : length front ≡ c.loop-number.entries = c.round.auto.row ∙ length-take-le c.loop-number.entries c.loop-number.row c.loop-number.invariant.within in
    let within : c.in-On.left ≤ length front = omega (arith, c.in-On.ensures.within, c.round.auto.row) in
    let whole = length-append front rest in
    let t = turns_behind c.round.new.all front rest _ _ within c.in-On.ensures.is in
    left_on _ c.loop-number.number _ _ _ c.loop-number.invariant.going c.loop-number-test.true c.round.new.all (front ++ rest) c.in-On.left t
    (omega (arith, within, size, c.loop-number.invariant.short)) (omega (arith, within, whole))

pub returns-clause-is : goal.returns-clause-is
returns-clause-is c =
    left_over c.args.n c.loop-number.number c.loop-number.all _ c.loop-number.row c.loop-number.pins.now c.loop-number.entries (length c.loop-number.row) c.loop-number.invariant
    (omega (arith, c.loop-number-test.false, c.loop-number.auto.number, c.loop-number.auto.number-end))
