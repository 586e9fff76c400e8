-- Laws of an and-form's clauses of two literals: the opposites of both, in their order.
use Rattle.std.proofs.Common.{◌≡◌, ◌∙◌, sym, ap, ℕ, ◌<◌, ◌≤◌, [], ◌∷◌, arith}
use Rattle.tables.specs.Literal.{opp}
use Rattle.tables.proofs.Literals.{opp-opp}
use Rattle.rules.specs.Clean.{insert}
use Rattle.rules.specs.Patterns.{side}

opp_other : (o x : ℕ) → (o ≡ x → ⊥) → opp o ≡ opp x → ⊥
opp_other o x h e = h (sym (opp-opp o) ∙ ap opp e ∙ opp-opp x)

pub side_rises : (o x : ℕ) → opp o < opp x → side o x ≡ opp o ∷ opp x ∷ []
unfolding side insert
side_rises o x l = grind arith

pub side_falls : (o x : ℕ) → (o ≡ x → ⊥) → opp x ≤ opp o → side o x ≡ opp x ∷ opp o ∷ []
unfolding side insert
side_falls o x h l = let n : opp o ≡ opp x → ⊥ = opp_other o x h in grind arith
