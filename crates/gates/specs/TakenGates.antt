-- The gates that are taken.
use Rattle.std.specs.Prelude.{List}
use Rattle.rules.specs.Patterns.{Gate}
use Rattle.gates.specs.declared.taken.Taken.{Taken}
use Rattle.gates.specs.Sites.{gates_of}

-- In their order.
abbrev pub gates_in : Taken → List Gate
gates_in taken = gates_of taken.row.now taken.sites.now
