-- What is counted while the numbers after the header are judged.
use Rattle.std.specs.Prelude.{ℕ, ◌+◌, true, false, List, eqb, Some, None, Result, Ok, Err}
use Rattle.std.specs.Result.{result_and}
use Rattle.tables.specs.Numbers.{Verdict}
use Rattle.tables.specs.declared.numbers.Refusal.{Refusal}
use Rattle.tables.specs.declared.numbers.Refusal.TheVariants.{Unreadable}
use Rattle.texts.specs.Tokens.{Token}
use Rattle.texts.specs.Numbers.{number}
use Rattle.texts.specs.Body.{judged_number, body_from}
use Rattle.texts.specs.declared.header.Header.{Header}
use Rattle.texts.specs.declared.tally.Tally.{Tally}

-- One number more: a literal's, or 0.
unfoldable pub tallied : Tally → ℕ → Tally
tallied s x =
    elim (eqb x 0) [
      | true ↦ record { entries = s.entries + 1; zeros = s.zeros + 1; literals = 0 }
      | false ↦ record { entries = s.entries + 1; zeros = s.zeros; literals = s.literals + 1 }
    ]

unfoldable pub after_number : Header → Tally → ℕ → ℕ → Result Tally Refusal
after_number h s p x = result_and (judged_number h.variables h.clauses s.entries s.zeros s.literals p x) (Ok (tallied s x))

-- One token more.
unfoldable pub after_token : Header → Tally → Token → Result Tally Refusal
after_token h s t = elim (number t.bytes) [ None ↦ Err (Unreadable t.place) | Some x ↦ after_number h s t.place x ]

-- The judgement of what is left of a text of n bytes.
abbrev pub body_after : Header → ℕ → Tally → List Token → Verdict
body_after h n s ts = body_from h.variables h.clauses n s.entries s.zeros s.literals ts
