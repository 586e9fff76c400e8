-- The header line, one token after another: what is left of its tokens, or why the line is refused.
use Rattle.std.specs.Prelude.{ℕ, true, false, List, [], ◌∷◌, ltb, Some, None, Result, Ok, Err}
use Rattle.ways.specs.Ways.{same}
use Rattle.texts.specs.Tokens.{Token}
use Rattle.texts.specs.Numbers.{natural}
use Rattle.tables.specs.declared.numbers.Refusal.{Refusal}
use Rattle.tables.specs.declared.numbers.Refusal.TheVariants.{Unreadable, TooLarge}

-- This word comes next. e: the place where the line ends.
unfoldable pub after_word : ℕ → List ℕ → List Token → Result (List Token) Refusal
after_word e w [] = Err (Unreadable e)
after_word e w (t ∷ ts) = elim (same t.bytes w) [ true ↦ Ok ts | false ↦ Err (Unreadable t.place) ]

-- A size comes next, and it is at most this.
unfoldable pub after_size : ℕ → ℕ → List Token → Result (ℕ × List Token) Refusal
after_size e most [] = Err (Unreadable e)
after_size e most (t ∷ ts) =
    elim (natural t.bytes) [
      | None ↦ Err (Unreadable t.place)
      | Some v ↦ elim (ltb most v) [ true ↦ Err (TooLarge t.place) | false ↦ Ok (v, ts) ]
    ]
