-- What the build program prints, and where it stands.
use Rattle.std.specs.Prelude.{ℕ, ◌≡◌, ◌≤◌, List, length, take, Result, Ok, Err}
use Rattle.tables.specs.declared.numbers.Refusal.{Refusal}
use Rattle.rules.specs.Listing.{line_x}
use Rattle.rules.specs.Program.{program}

-- The front of the buffer is what is printed, or the line with X of a refusal is.
abbrev pub Prints : List ℕ → Result ℕ Refusal → List ℕ → Type 0
Prints text (Ok bytes) out = (take bytes out ≡ program text) × (bytes ≤ length out)
Prints text (Err why) out = program text ≡ line_x why
