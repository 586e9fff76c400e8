-- One gate more is split off.
use Rattle.std.proofs.Common.{◌∙◌, sym, ◌-◌, ◌<◌, length, arith}
use Rattle.taking.proofs.PlaceSteps.{split_later, split_stays}
use Rattle.taking.proofs.place.split.Goals as goal
use Rattle.taking.proofs.place.split.Goals.{then-depends, else-depends}

pub loop-place-preserved : goal.loop-place-preserved
loop-place-preserved c =
    let l = c.loop-place in
    let below : l.place < length c.args.row.now = omega arith in
    let room : l.place - l.kept < length l.later = omega (arith, c.requires) in
    elim c.if-depends.branch [
      | then-depends w ↦
          rw (w.row-is, w.later-is, w.kept-is)
          (split_later c.args.marks.now c.args.row.now l.row l.later l.place l.kept _ below l.invariant (sym c.depends.ensures ∙ w.if-depends.true) room)
      | else-depends w ↦
          rw (w.row-is, w.later-is, w.kept-is)
          (split_stays c.args.marks.now c.args.row.now l.row l.later l.place l.kept _ below l.invariant (sym c.depends.ensures ∙ w.if-depends.false) (omega arith))
    ]
