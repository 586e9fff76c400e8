-- Asking for one variable.
use Rattle.std.specs.Prelude.{ℕ, zero, suc, Bool, true, false, List, length, eqb}
use Rattle.std.specs.List.{fold}
use Rattle.tables.specs.Literal.{holds, valued}
use Rattle.rules.specs.Pairs.{stands}
use Rattle.rules.specs.Kinds.{rule}
use Rattle.rules.specs.Patterns.{Gate}

-- "To ask for one variable, a gate's value asks its inputs, and each input asks its own gate". A variable that is no
-- output has its given value. Each question goes one level down, and no level is above the number of gates.
unfoldable pub ask_root : ℕ → List Gate → (ℕ → Bool) → ℕ → Bool
ask_root zero gs a v = a v
ask_root (suc deep) gs a v =
    fold (λ value g. elim (eqb g.output v) [ true ↦ rule g.kind (ask_root deep gs a) g.inputs | false ↦ value ]) (a v) gs

unfoldable pub asked : List ℕ → List Gate → List ℕ → ℕ → Bool
asked st gs given v = holds (ask_root (length gs) gs (valued given)) (stands st v)
