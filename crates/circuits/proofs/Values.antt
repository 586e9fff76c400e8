-- Each kind's rule of value in terms of its input literals: and-like kinds for every number of inputs, parity for every
-- width; and the kind table's signs.
use Rattle.std.proofs.Common.{◌≡◌, ℕ, ◌+◌, ◌*◌, Bool, true, false, cond, not, eqb, List, map, sym, refl, ap, ◌∙◌}
use mathlib.Core.List.{Memᴰ}
use Rattle.std.specs.List.{list_any, list_all, range_with_len}
use Rattle.std.proofs.lemmas.Bool.{not-true}
use Rattle.ways.specs.Ways.{oddly}
use Rattle.ways.proofs.Rows.{list_all-mem, list_all_alike, list_any_alike, oddly_alike, oddly-map, list_all-not, list_any-not}
use Rattle.tables.specs.Literal.{var, neg, holds}
use Rattle.tables.proofs.Literals.{var_pos, holds_by, holds_alike}
use Rattle.rules.specs.Kinds.{kinds, no_kind, kind_row, signs, and_kind, parity_kind, rule}

-- The rows of the kind table have the signs that the kind numbers are made of.
pub right_row : ℕ → Bool
right_row k = eqb ((kind_row k).output_sign * 3 + (kind_row k).input_signs) k

pub rows_right : list_all right_row (range_with_len 0 6) ≡ true
unfolding right_row kind_row kinds no_kind
rows_right = refl

module _ (a : ℕ → Bool) where
  -- A positive literal has its variable's value, a negative one the opposite.
  plus_is : (ls : List ℕ) → list_all (λ l. not (neg l)) ls ≡ true → (l : ℕ) → Memᴰ l ls → a (var l) ≡ holds a l
  plus_is ls e l i = sym (holds_by a l ∙ rw (not-true (neg l) (list_all-mem (λ k. not (neg k)) ls e l i)))

  minus_is : (ls : List ℕ) → list_all neg ls ≡ true → (l : ℕ) → Memᴰ l ls → not (a (var l)) ≡ holds a l
  minus_is ls e l i = sym (holds_by a l ∙ rw (list_all-mem neg ls e l i))

  -- The and-like kinds: every input literal holds where the output is positive, some input literal where it is negative.
  pub and_rule : (o : ℕ) (ls : List ℕ) → rule (and_kind o ls) a ls ≡ cond (neg o) (list_any (holds a) ls) (list_all (holds a) ls)
  unfolding and_kind signs rule
  and_rule o ls = go (neg o) (list_all (λ l. not (neg l)) ls) refl (list_all neg ls) refl
    where
      go : (b p : Bool) → list_all (λ l. not (neg l)) ls ≡ p → (q : Bool) → list_all neg ls ≡ q
          → rule (cond b 3 0 + cond p 0 (cond q 1 2)) a ls ≡ cond b (list_any (holds a) ls) (list_all (holds a) ls)
      go false true e q f = list_all_alike (λ l. a (var l)) (holds a) ls (plus_is ls e)
      go false false e true f = sym (list_all-not (λ l. a (var l)) ls) ∙ list_all_alike (λ l. not (a (var l))) (holds a) ls (minus_is ls f)
      go false false e false f = refl
      go true true e q f = list_any_alike (λ l. a (var l)) (holds a) ls (plus_is ls e)
      go true false e true f = sym (list_any-not (λ l. a (var l)) ls) ∙ list_any_alike (λ l. not (a (var l))) (holds a) ls (minus_is ls f)
      go true false e false f = refl

  -- The parity kinds.
  pub parity_rule : (p : Bool) (xs : List ℕ) → rule (parity_kind p) a (map (λ x. 2 * var x) xs) ≡ cond p (oddly (λ x. a (var x)) xs) (not (oddly (λ x. a (var x)) xs))
  unfolding rule parity_kind
  parity_rule p xs = go p (oddly-map (λ x. 2 * var x) (λ l. a (var l)) xs ∙ oddly_alike _ _ xs (λ x i. ap a (var_pos (var x))))
    where
      go : (p : Bool) → oddly (λ l. a (var l)) (map (λ x. 2 * var x) xs) ≡ oddly (λ x. a (var x)) xs
          → rule (cond p 6 7) a (map (λ x. 2 * var x) xs) ≡ cond p (oddly (λ x. a (var x)) xs) (not (oddly (λ x. a (var x)) xs))
      go true e = e
      go false e = ap not e

-- A rule looks at its inputs only.
module _ (a b : ℕ → Bool) where
  pub rule_alike : (k : ℕ) (ls : List ℕ) → ((l : ℕ) → Memᴰ l ls → a (var l) ≡ b (var l)) → rule k a ls ≡ rule k b ls
  unfolding rule
  rule_alike k ls h =
      rw (
        list_all_alike (λ l. a (var l)) (λ l. b (var l)) ls h,
        list_any_alike (λ l. a (var l)) (λ l. b (var l)) ls h,
        oddly_alike (λ l. a (var l)) (λ l. b (var l)) ls h,
        list_all_alike (holds a) (holds b) ls (λ l i. holds_alike a b l (h l i)),
        list_any_alike (holds a) (holds b) ls (λ l i. holds_alike a b l (h l i)),
      )
