-- What the outputs of gates say of their patterns.
use Rattle.std.specs.Prelude.{◌≡◌, ℕ, ◌<◌, Bool, true, ◌&&◌, List, ℤ, length, get_or, eqb}
use mathlib.Core.List.{Memᴰ}
use Rattle.std.specs.List.{list_any}
use Rattle.ways.specs.Ways.{among}
use Rattle.tables.specs.Literal.{var}
use Rattle.gates.specs.declared.site.Site.{Site}
use Rattle.gates.specs.Sites.{gate_of}

-- No variable is the output of two.
abbrev pub Apart : List Site → Type 0
Apart sites = (i j : ℕ) (d : Site) → i < j → j < length sites → var (get_or sites i d).output ≡ var (get_or sites j d).output → ⊥

-- Each clause of a gate's pattern has a literal of the gate's output.
abbrev pub Speaking : List ℤ → List Site → Type 0
Speaking row sites = (s : Site) → Memᴰ s sites → (c : List ℕ) → among c (gate_of row s).pattern ≡ true → list_any (λ l. eqb (var s.output) (var l)) c ≡ true

-- Is a clause in the pattern of a gate whose output the variable is?
unfoldable pub in_pattern_at : List ℤ → List Site → List ℕ → ℕ → Bool
in_pattern_at row sites c v = list_any (λ s. eqb (var s.output) v && among c (gate_of row s).pattern) sites
