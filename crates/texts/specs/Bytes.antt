-- The bytes that clause text gives a meaning to, and the search for the next byte of a kind.
use Rattle.std.specs.Prelude.{ℕ, Bool, ◌||◌, not, List, eqb}
use Rattle.std.specs.List.{prefix_len}

-- "space, tab, CR, LF"
unfoldable pub blank : ℕ → Bool
blank b = eqb b 32 || (eqb b 9 || (eqb b 13 || eqb b 10))

unfoldable pub solid : ℕ → Bool
solid b = not (blank b)

unfoldable pub feed : ℕ → Bool
feed b = eqb b 10

-- The bytes before the next token, those of a token, those of a line.
abbrev pub gap : List ℕ → ℕ
gap = prefix_len blank

abbrev pub word : List ℕ → ℕ
word = prefix_len solid

abbrev pub line : List ℕ → ℕ
line = prefix_len (λ b. not (feed b))
