-- A fill's values stand at the front of the buffer.
use Rattle.std.proofs.Common.{◌≡◌, refl, ℕ, List, ◌++◌, drop}
use Rattle.texts.specs.Buffer.{front}
use Rattle.rules.specs.Patterns.{Gate}
use Rattle.rules.specs.Fill.{filled}
use Rattle.circuits.proofs.Whole.{filled_long}

pub filled_front : (n : ℕ) (st : List ℕ) (gs : List Gate) (given old values rest : List ℕ) → values ≡ filled n st gs given → rest ≡ drop n old
    → values ++ rest ≡ front (filled n st gs given) old
unfolding front
filled_front n st gs given old values rest v r = rw (v, r, filled_long n st gs given) refl
