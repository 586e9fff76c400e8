-- The outputs of gates as marks.
use Rattle.std.specs.Prelude.{ℕ, List, set}
use Rattle.std.specs.List.{fold}
use Rattle.tables.specs.Literal.{var}
use Rattle.gates.specs.declared.site.Site.{Site}

-- The marks with those of the gates' outputs.
abbrev pub with_outputs : List ℕ → List Site → List ℕ
with_outputs m sites = fold (λ m s. set m (var s.output) 1) m sites
