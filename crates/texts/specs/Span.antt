-- A token by where it stands in its text.
use Rattle.std.specs.Prelude.{ℕ, List}
use Rattle.std.specs.List.{slice_range}
use Rattle.texts.specs.Tokens.{Token}
use Rattle.texts.specs.declared.tokens.Span.{Span}

abbrev pub token_in : List ℕ → Span → Token
token_in t s = record { place = s.start; bytes = slice_range t s.start s.end }
