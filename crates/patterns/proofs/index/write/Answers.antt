-- The index at the row's end, at each place, and at the row's start.
use Rattle.std.proofs.Common.{◌≡◌, length, replicate, arith, rules}
use Rattle.patterns.proofs.Chains.{filled, indexed}
use Rattle.patterns.proofs.index.write.Goals as goal

pub loop-place-init : goal.loop-place-init
loop-place-init c =
    let e : c.fill.new.self ≡ replicate (length c.args.heads.now) (length c.args.row.now) = search rules in
    record { heads = rw (e) (filled c.args.row.now (length c.args.heads.now) c.requires.keys); links = record { room = c.requires.room; next = λ s l m. absurd (omega arith) }; within = omega arith }

pub returns : goal.returns
returns c =
    let z : c.loop-place.place ≡ 0 = omega arith in
    indexed c.args.row.now c.loop-place.key c.loop-place.heads c.loop-place.links (rw (z) at c.loop-place.invariant.heads) c.loop-place.invariant.within (rw (z) at c.loop-place.invariant.links)
