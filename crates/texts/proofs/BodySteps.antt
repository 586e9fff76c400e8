-- The judgement of the numbers after the header, one token after another.
use Rattle.std.proofs.Common.{◌≡◌, refl, sym, ap, ◌∙◌, ℕ, ◌+◌, Bool, true, false, List, ◌∷◌, eqb, Option, Some, None, Result, Ok, Err}
use Rattle.std.specs.Result.{result_and}
use Rattle.tables.specs.Numbers.{Verdict}
use Rattle.tables.specs.declared.numbers.Refusal.{Refusal}
use Rattle.tables.specs.declared.numbers.Refusal.TheVariants.{Unreadable}
use Rattle.texts.specs.Tokens.{Token}
use Rattle.texts.specs.Numbers.{number}
use Rattle.texts.specs.Body.{judged_number, body_from}
use Rattle.texts.specs.Tally.{tallied, after_number, after_token, body_after}
use Rattle.texts.specs.declared.header.Header.{Header}
use Rattle.texts.specs.declared.tally.Tally.{Tally}

module _ (h : Header) (n : ℕ) (s : Tally) (t : Token) (ts : List Token) where
  -- The rest is judged with what was counted.
  abbrev goes_on : Result Tally Refusal → Verdict
  goes_on (Ok more) = body_after h n more ts
  goes_on (Err why) = Err why

  body_is : body_after h n s (t ∷ ts) ≡ goes_on (after_token h s t)
  unfolding body_from after_token after_number tallied
  body_is = by_number (number t.bytes)
    where
      by_zero : (b : Bool)
          → ◌≡◌ {A = Verdict} (elim b [ true ↦ body_from h.variables h.clauses n (s.entries + 1) (s.zeros + 1) 0 ts | false ↦ body_from h.variables h.clauses n (s.entries + 1) s.zeros (s.literals + 1) ts ])
          (body_after h n (elim b [ true ↦ record { entries = s.entries + 1; zeros = s.zeros + 1; literals = 0 } | false ↦ record { entries = s.entries + 1; zeros = s.zeros; literals = s.literals + 1 } ]) ts)
      by_zero true = refl
      by_zero false = refl

      by_verdict : (x : ℕ) (v : Verdict)
          → ◌≡◌ {A = Verdict} (elim v [
            | Err why ↦ Err why
            | Ok _ ↦ elim (eqb x 0) [ true ↦ body_from h.variables h.clauses n (s.entries + 1) (s.zeros + 1) 0 ts | false ↦ body_from h.variables h.clauses n (s.entries + 1) s.zeros (s.literals + 1) ts ]
          ]) (goes_on (result_and v (Ok (tallied s x))))
      by_verdict x (Err why) = refl
      by_verdict x (Ok _) = by_zero (eqb x 0)

      by_number : (o : Option ℕ)
          → ◌≡◌ {A = Verdict} (elim o [
            | None ↦ Err (Unreadable t.place)
            | Some x ↦ elim (judged_number h.variables h.clauses s.entries s.zeros s.literals t.place x) [
              | Err why ↦ Err why
              | Ok _ ↦ elim (eqb x 0) [ true ↦ body_from h.variables h.clauses n (s.entries + 1) (s.zeros + 1) 0 ts | false ↦ body_from h.variables h.clauses n (s.entries + 1) s.zeros (s.literals + 1) ts ]
            ]
          ]) (goes_on (elim o [ None ↦ Err (Unreadable t.place) | Some x ↦ after_number h s t.place x ]))
      by_number None = refl
      by_number (Some x) = by_verdict x (judged_number h.variables h.clauses s.entries s.zeros s.literals t.place x)

  pub body_ok : (more : Tally) → after_token h s t ≡ Ok more → body_after h n s (t ∷ ts) ≡ body_after h n more ts
  body_ok more e = body_is ∙ ap goes_on e

  pub body_err : (why : Refusal) → after_token h s t ≡ Err why → body_after h n s (t ∷ ts) ≡ Err why
  body_err why e = body_is ∙ ap goes_on e

-- Each token that is let through counts as one entry.
abbrev entries_or : ℕ → Result Tally Refusal → ℕ
entries_or d (Ok s) = s.entries
entries_or d (Err why) = d

counts : (h : Header) (s : Tally) (t : Token) → entries_or (s.entries + 1) (after_token h s t) ≡ s.entries + 1
unfolding after_token after_number tallied
counts h s t = by_number (number t.bytes)
  where
    by_zero : (b : Bool) → Tally.entries (elim b [ true ↦ record { entries = s.entries + 1; zeros = s.zeros + 1; literals = 0 } | false ↦ record { entries = s.entries + 1; zeros = s.zeros; literals = s.literals + 1 } ]) ≡ s.entries + 1
    by_zero true = refl
    by_zero false = refl

    by_verdict : (x : ℕ) (v : Verdict) → entries_or (s.entries + 1) (result_and v (Ok (tallied s x))) ≡ s.entries + 1
    by_verdict x (Err why) = refl
    by_verdict x (Ok _) = by_zero (eqb x 0)

    by_number : (o : Option ℕ) → entries_or (s.entries + 1) (elim o [ None ↦ Err (Unreadable t.place) | Some x ↦ after_number h s t.place x ]) ≡ s.entries + 1
    by_number None = refl
    by_number (Some x) = by_verdict x (judged_number h.variables h.clauses s.entries s.zeros s.literals t.place x)

pub one_entry : (h : Header) (s more : Tally) (t : Token) → after_token h s t ≡ Ok more → more.entries ≡ s.entries + 1
one_entry h s more t e = sym (ap (entries_or (s.entries + 1)) e) ∙ counts h s t
