-- A move of the code, as the demands' night has it: a pin there names the table and the length of the work buffer lent for it.
use Rattle.std.specs.Prelude.{ℕ, List, ℤ}
use Rattle.demands.specs.Night as demands
use Rattle.nights.specs.declared.night.Move.{Move}
use Rattle.nights.specs.declared.night.Move.TheVariants.{Pin, Back}

abbrev pub as_move : ℕ → List ℤ → ℕ → Move → demands.Move
as_move n t work (Pin x) = demands.put n t work x
as_move n t work Back = demands.back
