-- A round's first step: forced literals. A set of literals is a row of marks with a place for each literal's number, 1
-- where the literal is in the set.
use Rattle.std.specs.Prelude.{ℕ, ◌+◌, ◌*◌, Bool, cond, ◌&&◌, ◌||◌, List, length, get_or, set, replicate, eqb}
use Rattle.std.specs.List.{fold, list_any, list_all, range_with_len}
use Rattle.std.specs.Fn.{iterate}
use Rattle.tables.specs.Literal.{opp}
use Rattle.tables.specs.Clause.{void}

abbrev pub marked : List ℕ → ℕ → Bool
marked m l = eqb (get_or m l 0) 1

-- "Forced literals: the least set such that a literal of a non-void clause is in it when the opposites of all the clause's
-- other literals are." The set grows from nothing: clause by clause, literal by literal, in passes until no pass adds to
-- it. A pass that adds nothing is followed by none that does, so as many passes as there are places are enough.
unfoldable pub forces : List ℕ → List ℕ → ℕ → Bool
forces m c l = list_all (λ x. eqb x l || marked m (opp x)) c

unfoldable pub force_at : List ℕ → List ℕ → ℕ → List ℕ
force_at c m l = cond (forces m c l) (set m l 1) m

unfoldable pub force_in : List ℕ → List ℕ → List ℕ
force_in m c = cond (void c) m (fold (force_at c) m c)

unfoldable pub pass : List (List ℕ) → List ℕ → List ℕ
pass cs m = fold force_in m cs

unfoldable pub forced : ℕ → List (List ℕ) → List ℕ
forced n cs = iterate (pass cs) (2 * n + 2) (replicate (2 * n + 2) 0)

-- "Contradiction: the set holds a literal and its opposite, or the table holds an empty clause."
unfoldable pub clash : ℕ → List ℕ → Bool
clash n m = list_any (λ v. marked m (2 * v) && marked m (2 * v + 1)) (range_with_len 1 n)

unfoldable pub empty : List ℕ → Bool
empty c = eqb (length c) 0

unfoldable pub contradicts : ℕ → List (List ℕ) → Bool
contradicts n cs = list_any empty cs || clash n (forced n cs)
