-- The variables that no gate taken speaks of yet, as a row of marks: 1 where none does. So a number beyond the row is not one of
-- them.
use Rattle.std.specs.Prelude.{◌≡◌, ℕ, false, List, set, ℤ}
use Rattle.std.specs.List.{fold, list_any}
use Rattle.tables.specs.Literal.{literal, var}
use Rattle.rules.specs.Forced.{marked}
use Rattle.gates.specs.declared.site.Site.{Site}
use Rattle.gates.specs.Sites.{entries_of}

-- A gate's output and the variables of its anchor are taken out.
abbrev pub leave : List ℕ → ℤ → List ℕ
leave m entry = set m (var (literal entry)) 0

abbrev pub leave_all : List ℤ → List ℕ → Site → List ℕ
leave_all row m site = set (fold leave m (entries_of row site)) (var site.output) 0

-- They are out.
abbrev pub IsOut : List ℤ → List ℕ → Site → Type 0
IsOut row m site = (marked m (var site.output) ≡ false) × (list_any (λ e. marked m (var (literal e))) (entries_of row site) ≡ false)
