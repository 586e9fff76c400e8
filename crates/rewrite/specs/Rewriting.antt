-- A clause text written anew: it is read, and its table is written. The first that refuses decides.
use Rattle.std.specs.Prelude.{ℕ, List, ℤ, Result, Ok, Err}
use Rattle.tables.specs.declared.numbers.Refusal.{Refusal}
use Rattle.texts.specs.Header.{header}
use Rattle.texts.specs.Body.{entries}
use Rattle.texts.specs.Reading.{behind, verdict}
use Rattle.texts.specs.Writing.{writing, buffer_after}
use Rattle.texts.specs.declared.reading.Reading.{Reading}

-- The table of a text.
abbrev pub table_of : List ℕ → List ℤ
table_of t = entries (behind t (header t))

-- "Also returned: .. a writing's bytes". room: the bytes that the buffer holds.
unfoldable pub rewriting_of : List ℕ → ℕ → Result Reading Refusal → Result ℕ Refusal
rewriting_of t room (Err why) = Err why
rewriting_of t room (Ok r) = writing r.variables (table_of t) room

unfoldable pub rewriting : List ℕ → ℕ → Result ℕ Refusal
rewriting t room = rewriting_of t room (verdict t)

-- The buffer afterwards.
unfoldable pub rewritten_of : List ℕ → List ℕ → Result Reading Refusal → List ℕ
rewritten_of t out (Err why) = out
rewritten_of t out (Ok r) = buffer_after r.variables (table_of t) out

unfoldable pub rewritten : List ℕ → List ℕ → List ℕ
rewritten t out = rewritten_of t out (verdict t)
