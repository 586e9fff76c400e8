-- Which gate a site is.
use Rattle.std.specs.Prelude.{ℕ, ◌≤◌, cond, List, ℤ, map, length, slice_range}
use Rattle.tables.specs.Literal.{literal}
use Rattle.rules.specs.Patterns.{Gate, and_form, parity}
use Rattle.gates.specs.declared.site.Site.{Site}

-- A site stands within a row.
abbrev pub Within : List ℤ → Site → Type 0
Within row site = (site.start ≤ site.end) × (site.end ≤ length row)

-- The entries of the anchor, and its literals.
abbrev pub entries_of : List ℤ → Site → List ℤ
entries_of row site = slice_range row site.start site.end

abbrev pub anchor_of : List ℤ → Site → List ℕ
anchor_of row site = map literal (entries_of row site)

-- The gate: of parity or an and-form.
unfoldable pub gate_of : List ℤ → Site → Gate
gate_of row site = cond site.parity (parity (anchor_of row site) site.output) (and_form (anchor_of row site) site.output)

abbrev pub gates_of : List ℤ → List Site → List Gate
gates_of row sites = map (gate_of row) sites
