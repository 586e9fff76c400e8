-- What a writing leaves at the front of its buffer.
use Rattle.std.proofs.Common.{◌≡◌, ◌∙◌, refl, sym, ap, ℕ, List, length, take, drop, ℤ, Ok, Err, Result}
use Rattle.std.proofs.lemmas.List.{take_at}
use Rattle.tables.specs.declared.numbers.Refusal.{Refusal}
use Rattle.texts.specs.Buffer.{front, leaves}
use Rattle.texts.specs.Writing.{written, writing, buffer_after}

pub value_is : (a b : ℕ) → ◌≡◌ {A = Result ℕ Refusal} (Ok a) (Ok b) → a ≡ b
value_is a b e = ap value e
  where
    value : Result ℕ Refusal → ℕ
    value (Ok x) = x
    value (Err why) = a

pub front_written : (n : ℕ) (t : List ℤ) (old new : List ℕ) (bytes : ℕ) → new ≡ buffer_after n t old → writing n t (length old) ≡ Ok (length (written n t)) → bytes ≡ length (written n t)
    → take bytes new ≡ written n t
unfolding buffer_after leaves front
front_written n t old new bytes e ok size = rw (e, ok) (take_at (written n t) (drop (length (written n t)) old) bytes (sym size))
