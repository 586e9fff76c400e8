-- Gates in two parts: those that depend on an output, by their marks, and the others.
use Rattle.std.specs.Prelude.{ℕ, Bool, not, List, ◌∷◌, ◌++◌}
use Rattle.std.specs.List.{filter}
use Rattle.tables.specs.Literal.{var}
use Rattle.rules.specs.Forced.{marked}
use Rattle.gates.specs.declared.site.Site.{Site}

abbrev pub depends : List ℕ → Site → Bool
depends m s = marked m (var s.output)

abbrev pub stays : List ℕ → Site → Bool
stays m s = not (depends m s)

-- A gate between the two parts.
abbrev pub placed : List ℕ → List Site → Site → List Site
placed m sites s = filter (stays m) sites ++ (s ∷ filter (depends m) sites)
