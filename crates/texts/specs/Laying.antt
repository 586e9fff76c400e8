-- Bytes laid over a buffer, one behind another.
use Rattle.std.specs.Prelude.{ℕ, ◌+◌, ◌-◌, ◌^◌, min, List, set}
use Rattle.std.specs.List.{fold}
use Rattle.texts.specs.declared.pieces.Laying.{Laying}

-- Which buffer is lent, what it holds, and the place behind what was laid.
pub record Laid : Type 0 where
  pub lent : ℕ
  pub buffer : List ℕ
  pub at : ℕ

abbrev pub laid : Laying → Laid
laid laying = record { lent = laying.out.ghost_name; buffer = laying.out.now; at = laying.at }

-- A byte laid behind the others: lost, where the buffer ends before. The place is counted as far as a number goes.
unfoldable pub lay_byte : Laid → ℕ → Laid
lay_byte so_far byte = record { lent = so_far.lent; buffer = set so_far.buffer so_far.at byte; at = min (so_far.at + 1) (2 ^ 64 - 1) }

unfoldable pub lay : Laid → List ℕ → Laid
lay so_far bytes = fold lay_byte so_far bytes
