-- The name that a command has, what it wants behind it, and why a line is none.
use Rattle.std.specs.Prelude.{◌≡◌, ◌≢◌, ◌≤◌, ℕ, List, [], length, get_or, Some}
use Rattle.std.specs.Option.{option_map}
use Rattle.tables.specs.Literal.{entry}
use Rattle.texts.specs.Numbers.{natural, number}
use Rattle.desk.specs.Names.{name, words}
use Rattle.desk.specs.declared.verb.Verb.{Verb}
use Rattle.desk.specs.declared.verb.Verb.TheVariants as verbs
use Rattle.desk.specs.declared.command.Words.{Words}
use Rattle.desk.specs.declared.command.Misread.{Misread}
use Rattle.desk.specs.declared.command.Misread.TheVariants.{Unknown, Wants}
use Rattle.desk.specs.declared.command.Command.{Command}
use Rattle.desk.specs.declared.command.Command.TheVariants.{Pin, Back, Show, Fill, Ask, Pins}

abbrev pub verb_in : Command → Verb
verb_in (Pin x) = verbs.Pin
verb_in Back = verbs.Back
verb_in Show = verbs.Show
verb_in (Fill digits) = verbs.Fill
verb_in (Ask v digits) = verbs.Ask
verb_in Pins = verbs.Pins

-- The most words that a name wants behind it.
abbrev pub most_words : Verb → ℕ
most_words verbs.Pin = 1
most_words verbs.Back = 0
most_words verbs.Show = 0
most_words verbs.Fill = 1
most_words verbs.Ask = 2
most_words verbs.Pins = 0

-- The words behind a name begin with what a command wants: a pin's first word is the literal whose entry it is, a fill's
-- its values, and an ask's its variable, the second its values. A word that is not there is the empty one, which is no
-- number; as values it is none.
abbrev pub Begins : Command → List (List ℕ) → Type 0
Begins (Pin x) behind = option_map entry (number (get_or behind 0 [])) ≡ Some x
Begins Back behind = Unit {0}
Begins Show behind = Unit {0}
Begins (Fill digits) behind = digits.now ≡ get_or behind 0 []
Begins (Ask v digits) behind = (natural (get_or behind 0 []) ≡ Some v) × (digits.now ≡ get_or behind 1 [])
Begins Pins behind = Unit {0}

-- The words behind a name are what a command wants, and no more.
abbrev pub Says : Command → List (List ℕ) → Type 0
Says command behind = (length behind ≤ most_words (verb_in command)) × Begins command behind

-- The words that are still to come.
abbrev pub to_come : Words → List (List ℕ)
to_come left = words left.rest.now

-- What holds of a misread line: its first word is the name of no command, or it is a verb's name, and no command of that
-- verb is what the words behind it say.
abbrev pub Misreads : Misread → List ℕ → List (List ℕ) → Type 0
Misreads Unknown word behind = (verb : Verb) → word ≢ name verb
Misreads (Wants verb) word behind = (word ≡ name verb) × ((command : Command) → verb_in command ≡ verb → ¬ (Says command behind))
