-- Passes after one another.
use Rattle.std.proofs.Common.{◌≡◌, refl, ℕ, suc, ◌+◌, ◌-◌, ◌<◌, List, ◌++◌, arith}
use Rattle.std.specs.Fn.{iterate}
use Rattle.std.proofs.lemmas.List.Sums.{fold-append}
use Rattle.ways.proofs.Runs.{iterate_stays}
use Rattle.rules.specs.Forced.{force_in, pass}

-- A pass over clauses and more behind them.
pub pass_parts : (cs ds : List (List ℕ)) (m : List ℕ) → pass (cs ++ ds) m ≡ pass ds (pass cs m)
unfolding pass
pass_parts cs ds m = fold-append force_in m cs ds

-- Passes, of which k were to come: one is made; or one changed nothing, and none after it does.
pub passes_turn : (cs : List (List ℕ)) (k i : ℕ) (m : List ℕ) → i < k → iterate (pass cs) (k - i) m ≡ iterate (pass cs) (k - (i + 1)) (pass cs m)
passes_turn cs k i m h = let more : k - i ≡ suc (k - (i + 1)) = omega arith in rw more refl

pub passes_end : (cs : List (List ℕ)) (k : ℕ) (m : List ℕ) → pass cs m ≡ m → iterate (pass cs) k m ≡ m
passes_end cs k m e = iterate_stays (pass cs) k m e
