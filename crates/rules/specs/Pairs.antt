-- A round's third step: pairs, and what each variable gives way to. One row says for each variable which literal it
-- stands for: itself, another variable's literal, or 0 or 1, its value.
use Rattle.std.specs.Prelude.{ℕ, ◌+◌, ◌*◌, Bool, cond, not, ◌&&◌, List, ◌∷◌, map, length, get_or, eqb, ltb}
use Rattle.std.specs.List.{fold, filter, range_with_len}
use Rattle.ways.specs.Ways.{among}
use Rattle.tables.specs.Literal.{var, neg, opp}
use Rattle.rules.specs.Forced.{marked}

-- "(−a b) with (a −b) says a equals b; (a b) with (−a −b) says a equals −b": a clause of two literals x, y, with the one
-- of their opposites, says that x equals −y.
unfoldable pub pairs : List (List ℕ) → List (List ℕ)
pairs cs = filter (λ c. eqb (length c) 2 && among (map opp c) cs) cs

-- What a variable stands for, and what a literal is replaced by. A variable beyond the row stands for itself.
unfoldable pub stands : List ℕ → ℕ → ℕ
stands s v = get_or s v (2 * v)

unfoldable pub replace : List ℕ → ℕ → ℕ
replace s l = cond (neg l) (opp (stands s (var l))) (stands s (var l))

-- At first a forced variable stands for its value and any other for itself.
unfoldable pub alone : List ℕ → ℕ → ℕ
alone m v = cond (marked m (2 * v)) 1 (cond (marked m (2 * v + 1)) 0 (2 * v))

unfoldable pub starting : ℕ → List ℕ → List ℕ
starting n m = 0 ∷ map (alone m) (range_with_len 1 n)

-- "Close this under chaining. .. each variable gives way to the literal of the lowest variable of its class." For each
-- pair in turn, of the two literals that its sides stand for the one of the higher variable gives way to the other.
unfoldable pub give_way : ℕ → ℕ → ℕ → ℕ
give_way low high l = cond (eqb l high) low (cond (eqb l (opp high)) (opp low) l)

unfoldable pub meet : ℕ → ℕ → List ℕ → List ℕ
meet a b s = cond (eqb (var a) (var b)) s (cond (ltb (var a) (var b)) (map (give_way a b) s) (map (give_way b a) s))

unfoldable pub join : List ℕ → List ℕ → List ℕ
join s c = meet (replace s (get_or c 0 0)) (opp (replace s (get_or c 1 0))) s

unfoldable pub leaders : ℕ → List ℕ → List (List ℕ) → List ℕ
leaders n m ps = fold join (starting n m) ps

-- "Contradiction: a literal equals its opposite." The two sides of a pair, which are opposites, stand for one literal.
unfoldable pub torn : List ℕ → List ℕ → Bool
torn s c = eqb (replace s (get_or c 0 0)) (replace s (get_or c 1 0))

-- "In the end each variable is fixed, or linked to a literal of a variable neither fixed nor linked, or neither; the last
-- are roots."
unfoldable pub fixed : List ℕ → ℕ → Bool
fixed s v = ltb (stands s v) 2

unfoldable pub root : List ℕ → ℕ → Bool
root s v = eqb (stands s v) (2 * v)

unfoldable pub linked : List ℕ → ℕ → Bool
linked s v = not (fixed s v) && not (root s v)
