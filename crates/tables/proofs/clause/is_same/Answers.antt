-- Entries of one number are the same.
use Rattle.std.proofs.lemmas.Slice.Eq.{slice_eq-Decides}
use Rattle.std.proofs.lemmas.Bool.Decides.{Decides-int_eq}
use Rattle.tables.proofs.SameEntries.{same_entries}
use Rattle.tables.proofs.clause.is_same.Goals as goal

pub returns : goal.returns
returns c = same_entries c.args.clause.now c.args.other.now _ (slice_eq-Decides Decides-int_eq _ _ _ c.eq.ensures)
