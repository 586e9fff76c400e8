-- One gate more is placed.
use Rattle.std.proofs.Common.{◌<◌, length, arith, false}
use Rattle.gates.specs.declared.site.Site.{Site}
use Rattle.filling.proofs.AskPlaces.{placed_at}
use Rattle.filling.proofs.places.place_all.Goals as goal

pub loop-place-preserved : goal.loop-place-preserved
loop-place-preserved c =
    let first : Site = record { start = 0; end = 0; output = 0; parity = false } in
    let room : c.var.result < length c.loop-place.places = omega (arith, c.requires.room c.loop-place.place first c.loop-place-test.true, c.var.ensures) in
    placed_at c.args.sites.now c.loop-place.place c.loop-place.places first c.var.result c.var.ensures c.loop-place-test.true room c.loop-place.invariant
