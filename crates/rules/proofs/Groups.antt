-- Laws of parity groups: which clauses are a group's, and how many it has.
use Rattle.std.proofs.Common.{◌≡◌, ◌∙◌, refl, sym, subst, ℕ, suc, ◌+◌, ◌*◌, ◌^◌, Bool, true, false, not, ◌&&◌, ◌||◌, List, [], ◌∷◌, ◌++◌, map, length, eqb, ⊎_elim, rules, arith, ne_eqb, length-append}
use Rattle.std.specs.Cmp.Lexicographic.{bytes_decides}
use Rattle.std.proofs.lemmas.Bool.{and_parts}
use Rattle.std.proofs.lemmas.List.{length-map}
use Rattle.std.proofs.lemmas.List.Folds.{list_any-append}
use Rattle.std.proofs.Math.Bool.{beq, xor}
use Rattle.ways.specs.Ways.{same, among}
use Rattle.tables.specs.Literal.{var, neg}
use Rattle.tables.proofs.Literals.{var_pos, var-neg, neg_pos, neg-neg, two_forms}
use Rattle.rules.specs.Patterns.{signings, odd, group}

-- Is a clause over these variables, with an odd or even number of negative literals?
abbrev pub over : List ℕ → Bool → List ℕ → Bool
over vs b d = same (map var d) vs && not (xor (odd d) b)

none_before : (k : ℕ) (cs : List (List ℕ)) → among [] (map (λ c. k ∷ c) cs) ≡ false
none_before k [] = refl
none_before k (c ∷ cs) = none_before k cs

among_before : (l k : ℕ) (d : List ℕ) (cs : List (List ℕ)) → among (l ∷ d) (map (λ c. k ∷ c) cs) ≡ (eqb l k && among d cs)
among_before l k d [] = search rules
among_before l k d (c ∷ cs) = rw (among_before l k d cs) (search rules)

pub signings_cons : (v : ℕ) (vs : List ℕ) (b : Bool) → signings (v ∷ vs) b ≡ map (λ c. (2 * v) ∷ c) (signings vs b) ++ map (λ c. (2 * v + 1) ∷ c) (signings vs (not b))
unfolding signings
signings_cons v vs b = refl

over_cons : (l : ℕ) (d : List ℕ) (v : ℕ) (vs : List ℕ) (b : Bool) → over (v ∷ vs) b (l ∷ d) ≡ (eqb (var l) v && same (map var d) vs && not (xor (xor (neg l) (odd d)) b))
unfolding odd
over_cons l d v vs b = search rules

doubles : (w v : ℕ) → eqb (2 * w) (2 * v) ≡ eqb w v
doubles w v = grind arith

halves : (w v : ℕ) → eqb (2 * w + 1) (2 * v + 1) ≡ eqb w v
halves w v = grind arith

abbrev Split : ℕ → ℕ → Bool → Bool → Bool → Type 0
Split l v s o b =
    ((eqb l (2 * v) && (s && not (xor o b))) || (eqb l (2 * v + 1) && (s && not (xor o (not b))))) ≡ ((eqb (var l) v && s) && not (xor (xor (neg l) o) b))

split_pos : (w v : ℕ) (s o b : Bool) → Split (2 * w) v s o b
unfolding xor
split_pos w v s o b = rw (doubles w v, ne_eqb (2 * w) (2 * v + 1) (λ e. omega arith), var_pos w, neg_pos w) (search rules)

split-neg : (w v : ℕ) (s o b : Bool) → Split (2 * w + 1) v s o b
unfolding xor
split-neg w v s o b = rw (halves w v, ne_eqb (2 * w + 1) (2 * v) (λ e. omega arith), var-neg w, neg-neg w) (search rules)

by_sign : (l v : ℕ) (s o b : Bool) → Split l v s o b
by_sign l v s o b =
    ⊎_elim (λ e. subst (λ k. Split k v s o b) (sym e.0) (split_pos (var l) v s o b)) (λ e. subst (λ k. Split k v s o b) (sym e.0) (split-neg (var l) v s o b)) (two_forms l)

in_none : (b : Bool) (d : List ℕ) → among d (signings [] b) ≡ over [] b d
unfolding signings xor odd
in_none true [] = refl
in_none false [] = refl
in_none true (l ∷ d) = refl
in_none false (l ∷ d) = refl

double_pow : (n : ℕ) → 2 ^ n + 2 ^ n ≡ 2 ^ suc n
double_pow n = grind arith

size_one : (v : ℕ) (b : Bool) → length (signings (v ∷ []) b) ≡ 1
unfolding signings
size_one v true = refl
size_one v false = refl

pub in_signings : (vs : List ℕ) (b : Bool) (d : List ℕ) → among d (signings vs b) ≡ over vs b d
in_signings [] b d = in_none b d
in_signings (v ∷ vs) b [] = rw (signings_cons v vs b) (list_any-append (same []) (map (λ c. (2 * v) ∷ c) (signings vs b)) _ ∙ rw (none_before (2 * v) (signings vs b), none_before (2 * v + 1) (signings vs (not b))) refl)
in_signings (v ∷ vs) b (l ∷ d) =
    rw (signings_cons v vs b)
    (list_any-append (same (l ∷ d)) (map (λ c. (2 * v) ∷ c) (signings vs b)) _
    ∙ rw (among_before l (2 * v) d (signings vs b), among_before l (2 * v + 1) d (signings vs (not b)), in_signings vs b d, in_signings vs (not b) d) (by_sign l v (same (map var d) vs) (odd d) b ∙ sym (over_cons l d v vs b)))

-- "all 2^(k−1) clauses"
pub group_size : (v : ℕ) (vs : List ℕ) (b : Bool) → length (signings (v ∷ vs) b) ≡ 2 ^ length vs
group_size v [] b = size_one v b
group_size v (w ∷ vs) b =
    rw (signings_cons v (w ∷ vs) b) (length-append (map (λ c. (2 * v) ∷ c) (signings (w ∷ vs) b)) _ ∙ rw (length-map (signings (w ∷ vs) b) (λ c. (2 * v) ∷ c), length-map (signings (w ∷ vs) (not b)) (λ c. (2 * v + 1) ∷ c), group_size w vs b, group_size w vs (not b)) (double_pow (length vs)))

pub in_group : (c d : List ℕ) → among d (group c) ≡ over (map var c) (odd c) d
unfolding group
in_group c d = in_signings (map var c) (odd c) d

pub group_vars : (c d : List ℕ) → among d (group c) ≡ true → map var d ≡ map var c
group_vars c d e = (bytes_decides (map var d) (map var c)).0 (and_parts (same (map var d) (map var c)) (not (xor (odd d) (odd c))) (sym (in_group c d) ∙ e)).0

-- Over the group's variables, the number of negative literals decides.
xor_beq : (p q : Bool) → not (xor p q) ≡ beq p q
unfolding xor
xor_beq p q = search rules

pub group_by_odd : (c d : List ℕ) → same (map var d) (map var c) ≡ true → beq (odd d) (odd c) ≡ among d (group c)
group_by_odd c d h = sym (in_group c d ∙ rw (h) (xor_beq (odd d) (odd c)))

pub other_vars : (c d : List ℕ) → same (map var d) (map var c) ≡ false → among d (group c) ≡ false
other_vars c d h = in_group c d ∙ rw (h) refl
