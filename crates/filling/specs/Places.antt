-- Which gate has which variable as its output: by variable the gate's place, counted from 1, or 0.
use Rattle.std.specs.Prelude.{◌≡◌, ℕ, suc, ◌<◌, List, length, get_or, Option, None, Some}
use mathlib.Core.List.{Memᴰ}
use Rattle.tables.specs.Literal.{var}
use Rattle.gates.specs.declared.site.Site.{Site}

-- The first i gates are placed.
pub record IsPlacedTo (sites : List Site) (i : ℕ) (places : List ℕ) : Type 0 where
  pub none : (v : ℕ) → get_or places v 0 ≡ 0 → (k : ℕ) (d : Site) → k < i → v ≡ var (get_or sites k d).output → ⊥
  pub some : (v k : ℕ) (d : Site) → get_or places v 0 ≡ suc k → (k < i) × (var (get_or sites k d).output ≡ v)

abbrev pub IsPlaced : List Site → List ℕ → Type 0
IsPlaced sites places = IsPlacedTo sites (length sites) places

-- A gate with the variable as its output, or that there is none.
abbrev pub IsGateFor : List Site → ℕ → Option Site → Type 0
IsGateFor sites v None = (s : Site) → Memᴰ s sites → v ≡ var s.output → ⊥
IsGateFor sites v (Some s) = Memᴰ s sites × (var s.output ≡ v)
