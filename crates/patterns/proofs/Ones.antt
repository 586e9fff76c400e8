-- Laws of a clause's signs: their ones are the clause's negative literals.
use Rattle.std.proofs.Common.{◌≡◌, ◌∙◌, refl, ap, ℕ, suc, ◌+◌, ◌-◌, ◌*◌, ◌%◌, ◌^◌, ◌<◌, ◌≤◌, ℤ, pos, Bool, true, false, cond, List, [], ◌∷◌, map, length, get_or, drop, eqb, arith, add-one}
use mir.Val.{bool_byte}
use Rattle.std.specs.Int.RustNames.{count_ones}
use Rattle.std.proofs.lemmas.List.{drop_all, drop_more, length-drop, length-map}
use Rattle.std.proofs.lemmas.Nat.{ones_cat}
use Rattle.std.proofs.Math.Bool.{xor}
use Rattle.std.proofs.Math.Pow.{pow_mono}
use Rattle.tables.specs.Literal.{literal, neg}
use Rattle.rules.specs.Patterns.{odd}
use Rattle.patterns.specs.Seen.{signs}

abbrev pub one_if : Bool → ℕ
one_if b = cond b 1 0

pub signs_cons : (l : ℕ) (c : List ℕ) → signs (l ∷ c) ≡ one_if (neg l) * 2 ^ length c + signs c
unfolding signs
signs_cons l c = by (neg l)
  where
    by : (b : Bool) → cond b (2 ^ length c) 0 + signs c ≡ cond b 1 0 * 2 ^ length c + signs c
    by true = omega arith
    by false = omega arith

pub signs_below : (c : List ℕ) → signs c < 2 ^ length c
unfolding signs
signs_below [] = omega arith
signs_below (l ∷ c) = by (neg l) (signs_below c)
  where
    by : (b : Bool) → signs c < 2 ^ length c → cond b (2 ^ length c) 0 + signs c < 2 ^ suc (length c)
    by true h = grind arith
    by false h = grind arith

pub ones_one_if : (b : Bool) → count_ones (one_if b) ≡ one_if b
unfolding count_ones
ones_one_if true = refl
ones_one_if false = refl

pub ones-signs : (l : ℕ) (c : List ℕ) → count_ones (signs (l ∷ c)) ≡ one_if (neg l) + count_ones (signs c)
ones-signs l c = ap count_ones (signs_cons l c) ∙ ones_cat (length c) (one_if (neg l)) (signs c) (signs_below c) ∙ ap (λ n. n + count_ones (signs c)) (ones_one_if (neg l))

one_more : (b : Bool) (n : ℕ) → eqb ((one_if b + n) % 2) 1 ≡ xor b (eqb (n % 2) 1)
unfolding xor
one_more true n = grind arith
one_more false n = grind arith

no_ones : count_ones (signs []) ≡ 0
unfolding signs count_ones
no_ones = refl

-- "agree in the number of negative literals, odd or even"
pub odd_ones : (c : List ℕ) → eqb (count_ones (signs c) % 2) 1 ≡ odd c
unfolding odd
odd_ones [] = ap (λ n. eqb (n % 2) 1) no_ones
odd_ones (l ∷ c) = ap (λ n. eqb (n % 2) 1) (ones-signs l c) ∙ one_more (neg l) (count_ones (signs c)) ∙ ap (xor (neg l)) (odd_ones c)

-- The signs read one by one: those before a place, above the ones that are still to come.
unfoldable pub read : ℕ → ℕ → List ℤ → ℕ
read s i c = s * 2 ^ (length c - i) + signs (map literal (drop i c))

pub read_start : (c : List ℤ) → read 0 0 c ≡ signs (map literal c)
unfolding read
read_start c = omega arith

pub read_all : (s i : ℕ) (c : List ℤ) → length c ≤ i → read s i c ≡ s
unfolding read signs
read_all s i c h = let n : length c - i ≡ 0 = omega arith in rw (n, drop_all i c h) (omega arith)

step : (s b p r : ℕ) → s * (2 * p) + (b * p + r) ≡ (2 * s + b) * p + r
step s b p r = omega arith

twice : (n : ℕ) → 2 ^ suc n ≡ 2 * 2 ^ n
twice n = grind arith

twice_as : (n : ℕ) → 2 ^ (n + 1) ≡ 2 * 2 ^ n
twice_as n = rw (add-one) (twice n)

pub read_more : (c : List ℤ) (s i : ℕ) → i < length c → read s i c ≡ read (2 * s + one_if (neg (literal (get_or c i (pos 0))))) (i + 1) c
unfolding read
read_more c s i h =
    let n : length c - i ≡ suc (length c - (i + 1)) = omega arith in
    let m : length (map literal (drop (i + 1) c)) ≡ length c - (i + 1) = length-map (drop (i + 1) c) literal ∙ length-drop (i + 1) c in
    rw (drop_more c i (pos 0) h, n, twice, signs_cons (literal (get_or c i (pos 0))) (map literal (drop (i + 1) c)), m) (step s (one_if (neg (literal (get_or c i (pos 0))))) (2 ^ (length c - (i + 1))) _)

pub one_if_below : (s i : ℕ) (b : Bool) → s < 2 ^ i → 2 * s + one_if b < 2 ^ (i + 1)
one_if_below s i true h = let t : 2 ^ (i + 1) ≡ 2 * 2 ^ i = twice_as i in omega arith
one_if_below s i false h = let t : 2 ^ (i + 1) ≡ 2 * 2 ^ i = twice_as i in omega arith

pub one_byte : (b : Bool) → bool_byte b ≡ one_if b
one_byte true = refl
one_byte false = refl

pub below_32 : (s i : ℕ) → s < 2 ^ i → i ≤ 5 → s < 32
below_32 s i h k = let p : 2 ^ i ≤ 2 ^ 5 = pow_mono k in omega arith
