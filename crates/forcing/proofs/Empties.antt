-- No pin is an empty clause.
use Rattle.std.proofs.Common.{◌≡◌, ◌∙◌, refl, ap, false, ◌||◌, List, [], ◌∷◌, map, ℤ}
use mathlib.Core.Bool.{or-false}
use Rattle.std.specs.List.{list_any}
use Rattle.std.proofs.lemmas.List.Folds.{list_any-append}
use Rattle.tables.specs.Literal.{literal}
use Rattle.tables.specs.Clause.{clauses}
use Rattle.rules.specs.Forced.{empty}
use Rattle.rules.specs.Rounds.{pinned}

pub empty_pinned : (row pins : List ℤ) → list_any empty (pinned row pins) ≡ list_any empty (clauses row)
unfolding pinned empty
empty_pinned row pins = list_any-append empty (clauses row) (map (λ p. literal p ∷ []) pins) ∙ ap (λ b. list_any empty (clauses row) || b) (none pins) ∙ or-false _
  where
    none : (pins : List ℤ) → list_any empty (map (λ p. literal p ∷ []) pins) ≡ false
    none [] = refl
    none (p ∷ ps) = none ps
