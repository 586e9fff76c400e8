-- A parity group is whole where the mask of its patterns seen has as many ones as the group has clauses.
use Rattle.std.proofs.Common.{◌≡◌, ◌∙◌, refl, sym, ap, ℕ, suc, ◌+◌, ◌-◌, ◌*◌, ◌%◌, ◌^◌, ◌<◌, ◌≤◌, Bool, true, false, not, ◌&&◌, ◌||◌, List, [], ◌∷◌, map, length, eqb, ⊎_elim, rules, arith, ℤ}
use Rattle.std.specs.Cmp.Lexicographic.{bytes_decides}
use Rattle.std.specs.Int.RustNames.{count_ones}
use Rattle.std.specs.List.{count_by, fold, list_all, list_any}
use Rattle.std.proofs.lemmas.Bool.{cases_Bool}
use Rattle.std.proofs.lemmas.List.{length-map}
use Rattle.std.proofs.lemmas.List.Sums.{sum_by-cons, count_by-le-length}
use Rattle.std.proofs.lemmas.Nat.{one_shl}
use Rattle.std.proofs.Math.Bool.{xor, and-false, or-false, or_assoc}
use Rattle.ways.specs.Ways.{same, among}
use Rattle.tables.specs.Literal.{literal, var}
use Rattle.tables.specs.Clause.{clauses}
use Rattle.tables.proofs.SameEntries.{same_sym}
use Rattle.rules.specs.Patterns.{first_of, signings, odd, group}
use Rattle.rules.proofs.Groups.{group_size, in_group, group_vars}
use Rattle.patterns.specs.Seen.{see, seen}
use Rattle.patterns.proofs.Ones.{one_if}
use Rattle.patterns.proofs.Masks.{Test, mask, mask_alike, mask_none, mask_one, mask_or, agrees, ones_mask}

-- One clause is seen.
see_mask : (c : List ℕ) (t : Test) (d : List ℕ) → see c (mask t (map var c)) d ≡ mask (λ e. t e || (among d (group c) && same d e)) (map var c)
unfolding see
see_mask c t d =
    ⊎_elim
    (λ h. rw (h) (rw (← mask_one d, group_vars c d h) (mask_or t (same d) (map var c))))
    (λ h. rw (h) (mask_alike t (λ e. t e || false) (map var c) (λ e _. sym (or-false (t e)))))
    (cases_Bool (among d (group c)))

seen_from : (c : List ℕ) (t : Test) (cs : List (List ℕ)) → fold (see c) (mask t (map var c)) cs ≡ mask (λ e. t e || list_any (λ d. among d (group c) && same d e) cs) (map var c)
seen_from c t [] = mask_alike t (λ e. t e || false) (map var c) (λ e _. sym (or-false (t e)))
seen_from c t (d ∷ cs) =
    ap (λ m. fold (see c) m cs) (see_mask c t d)
    ∙ seen_from c (λ e. t e || (among d (group c) && same d e)) cs
    ∙ mask_alike (λ e. (t e || (among d (group c) && same d e)) || list_any (λ x. among x (group c) && same x e) cs) (λ e. t e || list_any (λ x. among x (group c) && same x e) (d ∷ cs)) (map var c) (λ e _. or_assoc (t e) (among d (group c) && same d e) (list_any (λ x. among x (group c) && same x e) cs))

table : (x y : Bool) → ((x && true) || (y && x)) ≡ x
table x y = search rules

any_same : (p : Test) (e : List ℕ) (cs : List (List ℕ)) → list_any (λ d. p d && same d e) cs ≡ (among e cs && p e)
any_same p e [] = refl
any_same p e (d ∷ cs) =
    ⊎_elim
    (λ (h : same e d ≡ true). let q : e ≡ d = (bytes_decides e d).0 h in rw (same_sym d e, h, any_same p e cs, ap p q) (table (p d) (among e cs)))
    (λ (h : same e d ≡ false). rw (same_sym d e, h, any_same p e cs) (ap (λ b. b || (among e cs && p e)) (and-false (p d))))
    (cases_Bool (same e d))

seen_mask : (c : List ℕ) (cs : List (List ℕ)) → seen cs c ≡ mask (agrees (odd c) (λ e. among e cs)) (map var c)
seen_mask c cs =
    ap (λ m. fold (see c) m cs) (sym (mask_none (map var c)))
    ∙ seen_from c (λ e. false) cs
    ∙ mask_alike (λ e. list_any (λ d. among d (group c) && same d e) cs) (agrees (odd c) (λ e. among e cs)) (map var c)
    (λ e h. any_same (λ d. among d (group c)) e cs ∙ ap (λ b. among e cs && b) (in_group c e ∙ ap (λ b. b && not (xor (odd e) (odd c))) ((bytes_decides (map var e) (map var c)).1 h)))

-- All pass where as many pass as there are.
count_step : (b : Bool) (n m : ℕ) → n ≤ m → eqb (one_if b + n) (suc m) ≡ (b && eqb n m)
count_step true n m h = grind arith
count_step false n m h = grind arith

count_all : (t : Test) (cs : List (List ℕ)) → eqb (count_by t cs) (length cs) ≡ list_all t cs
count_all t [] = refl
count_all t (c ∷ cs) =
    rw (sum_by-cons (λ d. one_if (t d)) c cs) (count_step (t c) (count_by t cs) (length cs) (count_by-le-length t cs) ∙ ap (λ b. t c && b) (count_all t cs))

pub whole_ones : (cs : List (List ℕ)) (c : List ℕ) → 0 < length c → eqb (count_ones (seen cs c)) (2 ^ (length c - 1)) ≡ list_all (λ d. among d cs) (group c)
unfolding group
whole_ones cs [] h = absurd (omega arith)
whole_ones cs (l ∷ c) h =
    let n : suc (length c) - 1 ≡ length (map var c) = omega (arith, length-map c var) in
    rw (n, ← group_size (var l) (map var c) (odd (l ∷ c)), seen_mask (l ∷ c) cs, ones_mask (λ e. among e cs) (map var (l ∷ c)) (odd (l ∷ c))) (count_all (λ e. among e cs) (signings (map var (l ∷ c)) (odd (l ∷ c))))

pub whole_row : (row c : List ℤ) → 0 < length c → length c ≤ 5
    → eqb (count_ones (seen (clauses row) (map literal c))) (1 * 2 ^ (length c - 1) % 2 ^ 32) ≡ list_all (λ d. among d (clauses row)) (group (map literal c))
whole_row row c h k =
    let n : length (map literal c) ≡ length c = length-map c literal in
    let p : 0 < length (map literal c) = rw (n) h in
    rw (one_shl (length c - 1) 32 (omega arith), ← n) (whole_ones (clauses row) (map literal c) p)

pub first_of_none : (ds : List (List ℕ)) (c : List ℤ) → 0 < length c → same (first_of ds []) (map literal c) ≡ false
unfolding first_of
first_of_none ds [] h = absurd (omega arith)
first_of_none ds (z ∷ c) h = refl
