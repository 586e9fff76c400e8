-- The key of a clause.
use Rattle.std.specs.Prelude.{ℕ, ◌+◌, ◌*◌, ◌%◌, List}
use Rattle.std.specs.List.{fold}

-- The key of a clause that has one literal more behind those of the key.
abbrev pub key_step : ℕ → ℕ → ℕ
key_step k l = (31 * k + l % 2048) % 2048

-- A clause's key: its literals in their order tell it.
unfoldable pub key : List ℕ → ℕ
key c = fold key_step 0 c
