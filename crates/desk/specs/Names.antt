-- The names of the commands, and the words of a line.
use Rattle.std.specs.Prelude.{ℕ, List, map, codes}
use Rattle.texts.specs.Tokens.{Token, tokens_at}
use Rattle.desk.specs.declared.verb.Verb.{Verb}
use Rattle.desk.specs.declared.verb.Verb.TheVariants.{Pin, Back, Show, Fill, Ask, Pins}

abbrev pub name : Verb → List ℕ
name Pin = codes "pin"
name Back = codes "back"
name Show = codes "show"
name Fill = codes "fill"
name Ask = codes "ask"
name Pins = codes "pins"

-- The tokens of a line, by their bytes alone.
abbrev pub words : List ℕ → List (List ℕ)
words line = map (λ (t : Token). t.bytes) (tokens_at 0 line)
