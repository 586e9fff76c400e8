-- Numbers written out, in clause text and in the listing.
use Rattle.std.specs.Prelude.{ℕ, zero, suc, ◌+◌, ◌/◌, ◌%◌, true, false, List, [], ◌∷◌, ◌++◌, ltb}
use Rattle.tables.specs.Literal.{var, neg}

-- The decimal digits of v as bytes, at most f + 1 of them.
unfoldable pub digits_of : ℕ → ℕ → List ℕ
digits_of zero v = (48 + v) ∷ []
digits_of (suc f) v = elim (ltb v 10) [ true ↦ (48 + v) ∷ [] | false ↦ digits_of f (v / 10) ++ ((48 + v % 10) ∷ []) ]

-- v + 1 digits are always enough.
unfoldable pub decimal : ℕ → List ℕ
decimal v = digits_of v v

-- A literal with its sign.
unfoldable pub signed : ℕ → List ℕ
signed l = elim (neg l) [ true ↦ 45 ∷ decimal (var l) | false ↦ decimal (var l) ]
