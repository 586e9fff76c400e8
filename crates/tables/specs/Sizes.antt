-- The sizes.
use Rattle.std.specs.Prelude.{ℕ}

-- "Variables n: 0 to 1,024, numbered from 1."
abbrev pub most_variables : ℕ
most_variables = 1024

-- "At most 4,096 clauses, 16,384 entries with the zeros, 64 literals in a clause."
abbrev pub most_clauses : ℕ
most_clauses = 4096

abbrev pub most_entries : ℕ
most_entries = 16384

abbrev pub most_literals : ℕ
most_literals = 64

-- "Text: at most 65,536 bytes. Pins in force: at most 64."
abbrev pub most_bytes : ℕ
most_bytes = 65536

abbrev pub most_pins : ℕ
most_pins = 64

-- "Work buffer: 16,384 signed 32-bit entries."
abbrev pub work_room : ℕ
work_room = 16384
