-- The row's front is within the row.
use Rattle.std.proofs.Common.{sym, arith}
use Rattle.texts.proofs.Room.{read_within}
use Rattle.desk.proofs.open_desk.Goals as goal

pub split_at-requires : goal.split_at-requires
split_at-requires c = let w = read_within c.args.text.now _ c.in-Ok.read (sym c.in-Ok.ensures.is) in omega (arith, w, c.read.auto.row)
