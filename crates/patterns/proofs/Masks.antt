-- Masks of sign patterns: a bit for each clause over some variables that passes a test. The ones of a mask are counted once
-- for every width.
use Rattle.std.proofs.Common.{◌≡◌, ◌∙◌, refl, sym, subst, ap, ℕ, ◌+◌, ◌*◌, ◌^◌, ◌<◌, ◌≤◌, Bool, true, false, not, ◌&&◌, ◌||◌, List, [], ◌∷◌, map, length, ⊎_elim, rules, arith, ne_eqb, eq-eqb, add_comm}
use Rattle.std.specs.Int.RustNames.{bit_or, count_ones}
use Rattle.std.specs.List.{count_by}
use Rattle.std.proofs.lemmas.List.{length-map}
use Rattle.std.proofs.lemmas.List.Folds.{fold-map}
use Rattle.std.proofs.lemmas.List.Sums.{sum_by-append}
use Rattle.std.proofs.lemmas.Nat.{pow-add, mul-le, ones_cat, or_block}
use Rattle.std.proofs.Math.Bool.{xor}
use Rattle.ways.specs.Ways.{same}
use Rattle.tables.specs.Literal.{var}
use Rattle.tables.proofs.Literals.{var_pos, var-neg, neg_pos, neg-neg, two_forms}
use Rattle.rules.specs.Patterns.{signings, odd}
use Rattle.rules.proofs.Groups.{signings_cons}
use Rattle.patterns.specs.Seen.{signs}
use Rattle.patterns.proofs.Ones.{one_if, signs_cons}

abbrev pub Test : Type 0
Test = List ℕ → Bool

-- how many sign patterns there are over these variables
abbrev patterns : List ℕ → ℕ
patterns vs = 2 ^ length vs

pub mask : Test → List ℕ → ℕ
mask t [] = one_if (t [])
mask t (v ∷ vs) = mask (λ c. t ((2 * v + 1) ∷ c)) vs * 2 ^ patterns vs + mask (λ c. t ((2 * v) ∷ c)) vs

two_halves : (p a b n : ℕ) → a < p → b < p → p ≡ 2 ^ n → a * p + b < 2 ^ (n + n)
two_halves p a b n h k e = rw (pow-add 2 n n, ← e) (let q : (a + 1) * p ≤ p * p = mul-le (a + 1) p p p (omega arith) (omega arith) in omega arith)

patterns_double : (v : ℕ) (vs : List ℕ) → patterns (v ∷ vs) ≡ patterns vs + patterns vs
patterns_double v vs = grind arith

mask_below : (t : Test) (vs : List ℕ) → mask t vs < 2 ^ patterns vs
unfolding mask
mask_below t [] = by (t [])
  where
    by : (b : Bool) → one_if b < 2 ^ patterns []
    by true = omega arith
    by false = omega arith
mask_below t (v ∷ vs) =
    rw (patterns_double v vs) (two_halves (2 ^ patterns vs) (mask (λ c. t ((2 * v + 1) ∷ c)) vs) (mask (λ c. t ((2 * v) ∷ c)) vs) (patterns vs) (mask_below (λ c. t ((2 * v + 1) ∷ c)) vs) (mask_below (λ c. t ((2 * v) ∷ c)) vs) refl)

-- Tests that agree on the clauses over the variables have one mask.
pub mask_alike : (t u : Test) (vs : List ℕ) → ((c : List ℕ) → map var c ≡ vs → t c ≡ u c) → mask t vs ≡ mask u vs
unfolding mask
mask_alike t u [] h = ap one_if (h [] refl)
mask_alike t u (v ∷ vs) h =
    rw (mask_alike (λ c. t ((2 * v + 1) ∷ c)) (λ c. u ((2 * v + 1) ∷ c)) vs (λ c e. h _ (rw (var-neg v, e))), mask_alike (λ c. t ((2 * v) ∷ c)) (λ c. u ((2 * v) ∷ c)) vs (λ c e. h _ (rw (var_pos v, e)))) refl

pub mask_none : (vs : List ℕ) → mask (λ c. false) vs ≡ 0
unfolding mask
mask_none [] = refl
mask_none (v ∷ vs) = rw (mask_none vs) (omega arith)

-- A clause's own bit.
module _ (d : List ℕ) (w : ℕ) where
  abbrev Own : ℕ → Type 0
  Own l = mask (same (l ∷ d)) (w ∷ map var d) ≡ 2 ^ signs (l ∷ d)

  apart : (l k : ℕ) → (l ≡ k → ⊥) → mask (λ c. same (l ∷ d) (k ∷ c)) (map var d) ≡ 0
  apart l k h = mask_alike (λ c. same (l ∷ d) (k ∷ c)) (λ c. false) (map var d) (λ c e. rw (ne_eqb l k h) refl) ∙ mask_none (map var d)

  together : (l : ℕ) → mask (λ c. same (l ∷ d) (l ∷ c)) (map var d) ≡ mask (same d) (map var d)
  together l = mask_alike (λ c. same (l ∷ d) (l ∷ c)) (same d) (map var d) (λ c e. rw (eq-eqb l l refl) refl)

  own_pos : mask (same d) (map var d) ≡ 2 ^ signs d → Own (2 * w)
  unfolding mask
  own_pos h =
      rw (apart (2 * w) (2 * w + 1) (λ e. omega arith), together (2 * w), h, signs_cons (2 * w) d, neg_pos w) (let z : 0 * 2 ^ length d + signs d ≡ signs d = omega arith in rw (z) (omega arith))

  own-neg : mask (same d) (map var d) ≡ 2 ^ signs d → Own (2 * w + 1)
  unfolding mask
  own-neg h =
      rw (apart (2 * w + 1) (2 * w) (λ e. omega arith), together (2 * w + 1), h, signs_cons (2 * w + 1) d, neg-neg w)
      (let z : 1 * 2 ^ length d + signs d ≡ signs d + 2 ^ length d = omega arith in rw (z, pow-add 2 (signs d) (2 ^ length d), length-map d var) (omega arith))

none_own : mask (same []) [] ≡ 2 ^ signs []
unfolding mask signs
none_own = refl

pub mask_one : (d : List ℕ) → mask (same d) (map var d) ≡ 2 ^ signs d
mask_one [] = none_own
mask_one (l ∷ d) =
    ⊎_elim (λ e. subst (Own d (var l)) (sym e.0) (own_pos d (var l) (mask_one d))) (λ e. subst (Own d (var l)) (sym e.0) (own-neg d (var l) (mask_one d))) (two_forms l)

-- Tests joined.
pub mask_or : (t u : Test) (vs : List ℕ) → bit_or (mask t vs) (mask u vs) ≡ mask (λ c. t c || u c) vs
unfolding mask
mask_or t u [] = by (t []) (u [])
  where
    by : (a b : Bool) → bit_or (one_if a) (one_if b) ≡ one_if (a || b)
    by true true = refl
    by true false = refl
    by false true = refl
    by false false = refl
mask_or t u (v ∷ vs) =
    or_block (patterns vs) (mask (λ c. t ((2 * v + 1) ∷ c)) vs) (mask (λ c. u ((2 * v + 1) ∷ c)) vs) (mask (λ c. t ((2 * v) ∷ c)) vs) (mask (λ c. u ((2 * v) ∷ c)) vs) (mask_below _ vs) (mask_below _ vs)
    ∙ rw (mask_or (λ c. t ((2 * v + 1) ∷ c)) (λ c. u ((2 * v + 1) ∷ c)) vs, mask_or (λ c. t ((2 * v) ∷ c)) (λ c. u ((2 * v) ∷ c)) vs) refl

-- The ones of a mask of the clauses with an odd or even number of negative literals.
count_map : (t : Test) (k : ℕ) (cs : List (List ℕ)) → count_by t (map (λ c. k ∷ c) cs) ≡ count_by (λ c. t (k ∷ c)) cs
count_map t k cs = fold-map (λ n c. n + one_if (t c)) (λ c. k ∷ c) 0 cs

abbrev pub agrees : Bool → Test → Test
agrees b t c = t c && not (xor (odd c) b)

agrees_pos : (b : Bool) (t : Test) (v : ℕ) (c : List ℕ) → agrees b t ((2 * v) ∷ c) ≡ agrees b (λ d. t ((2 * v) ∷ d)) c
unfolding odd xor
agrees_pos b t v c = rw (neg_pos v) (search rules)

agrees-neg : (b : Bool) (t : Test) (v : ℕ) (c : List ℕ) → agrees b t ((2 * v + 1) ∷ c) ≡ agrees (not b) (λ d. t ((2 * v + 1) ∷ d)) c
unfolding odd xor
agrees-neg b t v c = rw (neg-neg v) (search rules)

no_bit : (x : Bool) → count_ones (one_if (x && false)) ≡ 0
unfolding count_ones
no_bit true = refl
no_bit false = refl

own_bit : (x : Bool) → count_ones (one_if (x && true)) ≡ 0 + one_if x
unfolding count_ones
own_bit true = refl
own_bit false = refl

count_none : (t : Test) (b : Bool) → count_ones (mask (agrees b t) []) ≡ count_by t (signings [] b)
unfolding mask odd xor signings
count_none t true = no_bit (t [])
count_none t false = own_bit (t [])

pub ones_mask : (t : Test) (vs : List ℕ) (b : Bool) → count_ones (mask (agrees b t) vs) ≡ count_by t (signings vs b)
unfolding mask
ones_mask t [] b = count_none t b
ones_mask t (v ∷ vs) b =
    ones_cat (patterns vs) (mask (λ c. agrees b t ((2 * v + 1) ∷ c)) vs) _ (mask_below (λ c. agrees b t ((2 * v) ∷ c)) vs)
    ∙ rw
    (mask_alike (λ c. agrees b t ((2 * v + 1) ∷ c)) (agrees (not b) (λ d. t ((2 * v + 1) ∷ d))) vs (λ c e. agrees-neg b t v c), mask_alike (λ c. agrees b t ((2 * v) ∷ c)) (agrees b (λ d. t ((2 * v) ∷ d))) vs (λ c e. agrees_pos b t v c), ones_mask (λ d. t ((2 * v + 1) ∷ d)) vs (not b), ones_mask (λ d. t ((2 * v) ∷ d)) vs b, signings_cons v vs b, sum_by-append (λ c. one_if (t c)) (map (λ c. (2 * v) ∷ c) (signings vs b)) (map (λ c. (2 * v + 1) ∷ c) (signings vs (not b))), count_map t (2 * v) (signings vs b), count_map t (2 * v + 1) (signings vs (not b)))
    (add_comm (count_by (λ c. t ((2 * v + 1) ∷ c)) (signings vs (not b))) _)
