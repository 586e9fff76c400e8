-- Numbers in clause text.
use Rattle.std.specs.Prelude.{ℕ, ◌+◌, ◌-◌, ◌*◌, true, false, List, [], ◌∷◌, length, get_or, drop, eqb, ltb, Option, Some, None}
use Rattle.std.specs.Option.{option_map, option_and_then}

-- The digits that are left, after digits that say v.
unfoldable pub digits : ℕ → List ℕ → Option ℕ
digits v [] = Some v
digits v (b ∷ bs) =
    elim (ltb b 48) [
      | true ↦ None
      | false ↦ elim (ltb 57 b) [ true ↦ None | false ↦ digits (10 * v + (b - 48)) bs ]
    ]

-- "A number has 1 to 9 digits, no needless leading 0, .. V and C carry no sign."
unfoldable pub natural : List ℕ → Option ℕ
natural bs =
    elim (eqb (length bs) 0) [
      | true ↦ None
      | false ↦ elim (ltb 9 (length bs)) [
        | true ↦ None
        | false ↦ elim (eqb (get_or bs 0 0) 48) [
          | true ↦ elim (eqb (length bs) 1) [ true ↦ Some 0 | false ↦ None ]
          | false ↦ digits 0 bs
        ]
      ]
    ]

-- ".. and in a clause perhaps a leading `-`; `-0` is 1." In a clause a number is the literal's number: 2v for v and
-- 2v + 1 for −v, so that 0 is 0.
unfoldable pub plain : Option ℕ → Option ℕ
plain number = option_map (λ v. 2 * v) number

unfoldable pub minus : Option ℕ → Option ℕ
minus number = option_and_then (λ v. elim (eqb v 0) [ true ↦ None | false ↦ Some (2 * v + 1) ]) number

unfoldable pub number : List ℕ → Option ℕ
number bs = elim (eqb (get_or bs 0 0) 45) [ true ↦ minus (natural (drop 1 bs)) | false ↦ plain (natural bs) ]
