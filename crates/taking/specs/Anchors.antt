-- Where an anchor stands.
use Rattle.std.specs.Prelude.{ℕ, ◌≤◌, true, false, cond, List, [], ℤ, map, length, slice_range}
use mathlib.Core.List.{Memᴰ}
use Rattle.std.specs.List.{filter}
use Rattle.tables.specs.Literal.{literal}
use Rattle.tables.specs.Clause.{clauses}
use Rattle.rules.specs.Patterns.{Gate, and_form, parity, anchors, found}
use Rattle.gates.specs.declared.site.Site.{Site}
use Rattle.taking.specs.declared.anchor.Anchor.{Anchor}

-- Its literals.
abbrev pub literals : List ℤ → Anchor → List ℕ
literals row anchor = map literal (slice_range row anchor.start anchor.end)

-- It is a clause of the row.
pub record IsClause (row : List ℤ) (anchor : Anchor) : Type 0 where
  pub ordered : anchor.start ≤ anchor.end
  pub inside : anchor.end ≤ length row
  pub among : Memᴰ (literals row anchor) (clauses row)

-- What is offered of an anchor c among clauses: its parity group, with each output, and its and-forms, where they are found.
abbrev pub groups : List (List ℕ) → List ℕ → List Gate
groups cs c = filter (found cs) (cond (anchors cs c) (map (parity c) c) [])

abbrev pub forms : List (List ℕ) → List ℕ → List Gate
forms cs c = filter (found cs) (map (and_form c) c)

-- Gates of it: of its parity group, and the and-form.
abbrev pub group_site : Anchor → ℕ → Site
group_site anchor output = record { start = anchor.start; end = anchor.end; output = output; parity = true }

abbrev pub form_site : Anchor → ℕ → Site
form_site anchor output = record { start = anchor.start; end = anchor.end; output = output; parity = false }
