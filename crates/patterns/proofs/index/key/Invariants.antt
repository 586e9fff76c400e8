-- The entries that are still to be read stand before those of the key.
use Rattle.std.proofs.Common.{◌≡◌, ◌<◌, map}
use Rattle.std.specs.Slice.Iter.{iter_rest}
use Rattle.std.specs.Iterator.Adapters.{rev_source}
use Rattle.tables.specs.Literal.{literal}
use Rattle.patterns.specs.Index.{key}
use Rattle.patterns.proofs.Chains.{key_before}
use Rattle.patterns.proofs.index.key.Given as goal

abbrev pub invariant-loop-entry : goal.invariant-loop-entry
invariant-loop-entry l = (key (map literal l.clause) ≡ key_before l.key (iter_rest (rev_source l.entry-iterator))) × (l.key < 1024)
