-- Laws of substitution in a row of entries.
use Rattle.std.proofs.Common.{◌≡◌, refl, sym, ap, subst, ◌∙◌, ℕ, ◌+◌, ⊎_elim, ◌<◌, ◌≤◌, List, [], ◌∷◌, ◌++◌, length, get_or, set, take, drop, map, arith, ℤ, pos, Bool, true, false, eqb}
use borrow.Author.Tests.{eqb-true, eqb-false, eq-eqb, ne_eqb}
use Rattle.std.proofs.lemmas.List.{map_push, length-map, get_or-map, get_or_past}
use Rattle.std.proofs.lemmas.List.Elements.{All-head, All-tail, All-map}
use Rattle.std.proofs.lemmas.Bool.{cases_lt}
use Rattle.std.specs.List.{All}
use Rattle.tables.specs.Literal.{literal, var}
use Rattle.tables.specs.Clause.{clauses_from, clauses}
use Rattle.tables.proofs.Literals.{literal-entry, literal_one}
use Rattle.tables.proofs.Clauses.{clause_ends, clause_grows}
use Rattle.rules.specs.Pairs.{replace}
use Rattle.pairing.specs.Substitute.{substituted, Live}
use Rattle.pairing.specs.Pairs.{Coded}
use Rattle.pairing.proofs.StandSteps.{map_turns, replace_coded}

pub substitute_turns : (r : List ℕ) (s : List ℤ) (i : ℕ) → i < length s
    → take i s ++ map (substituted r) (drop i s)
    ≡ take (i + 1) (set s i (substituted r (get_or s i (pos 0)))) ++ map (substituted r) (drop (i + 1) (set s i (substituted r (get_or s i (pos 0)))))
substitute_turns r s = map_turns (substituted r) (pos 0) s

-- A zero stays, and no other entry becomes one.
substituted_zero : (s : List ℕ) (z : ℤ) → literal z ≡ 0 → substituted s z ≡ z
substituted_zero s z e = rw (eq-eqb (literal z) 0 e) refl

substituted_live : (s : List ℕ) (z : ℤ) → (literal z ≡ 0 → ⊥) → Live s z → literal (substituted s z) ≡ replace s (literal z)
substituted_live s z e w = rw (ne_eqb (literal z) 0 e) (literal-entry (replace s (literal z)) no)
  where
    two : 2 ≤ literal z
    two = let one = literal_one z in omega arith

    no : replace s (literal z) ≡ 1 → ⊥
    no q = let h = w two in omega arith

-- One entry, where b has the literals of the open clause and the rest is substituted.
one_substituted : (s b : List ℕ) (z : ℤ) (zs : List ℤ) → Live s z
    → ((d : List ℕ) → clauses_from (map (replace s) d) (map (substituted s) zs) ≡ map (map (replace s)) (clauses_from d zs))
    → clauses_from (map (replace s) b) (substituted s z ∷ map (substituted s) zs) ≡ map (map (replace s)) (clauses_from b (z ∷ zs))
one_substituted s b z zs w rest = go (eqb (literal z) 0) refl
  where
    go : (t : Bool) → eqb (literal z) 0 ≡ t
        → clauses_from (map (replace s) b) (substituted s z ∷ map (substituted s) zs) ≡ map (map (replace s)) (clauses_from b (z ∷ zs))
    go true q =
        let e = eqb-true (literal z) 0 q in
        rw (substituted_zero s z e, clause_ends (map (replace s) b) z (map (substituted s) zs) e, clause_ends b z zs e, ← rest []) refl
    go false q =
        let e = eqb-false (literal z) 0 q in
        let l = substituted_live s z e w in
        let ne : literal (substituted s z) ≡ 0 → ⊥ = λ n. not_zero e (sym l ∙ n) in
        clause_grows (map (replace s) b) (substituted s z) (map (substituted s) zs) ne
        ∙ rw (l, clause_grows b z zs e, ← rest (b ++ (literal z ∷ [])), map_push) refl
      where
        not_zero : (literal z ≡ 0 → ⊥) → replace s (literal z) ≡ 0 → ⊥
        not_zero e n = let one = literal_one z in let two : 2 ≤ literal z = omega arith in let h = w two in omega arith

from_substituted : (s : List ℕ) (row : List ℤ) → All (Live s) row → (b : List ℕ)
    → clauses_from (map (replace s) b) (map (substituted s) row) ≡ map (map (replace s)) (clauses_from b row)
unfolding clauses_from
from_substituted s [] w b = refl
from_substituted s (z ∷ zs) w b = one_substituted s b z zs (All-head (Live s) z zs w) (from_substituted s zs (All-tail (Live s) z zs w))

pub clauses_substituted : (s : List ℕ) (row : List ℤ) → All (Live s) row → clauses (map (substituted s) row) ≡ map (map (replace s)) (clauses row)
unfolding clauses
clauses_substituted s row w = from_substituted s row w []

pub zero_stays : (s : List ℕ) (row new : List ℤ) → new ≡ map (substituted s) row → (k : ℕ) → get_or row k (pos 0) ≡ pos 0 → get_or new k (pos 0) ≡ pos 0
zero_stays s row new e k z = ap (λ x. get_or x k (pos 0)) e ∙ ⊎_elim below above (cases_lt k (length row))
  where
    below : k < length row → get_or (map (substituted s) row) k (pos 0) ≡ pos 0
    below l = get_or-map (substituted s) row k (pos 0) (pos 0) l ∙ ap (substituted s) z

    above : length row ≤ k → get_or (map (substituted s) row) k (pos 0) ≡ pos 0
    above l = get_or_past (map (substituted s) row) k (pos 0) (omega (arith, length-map row (substituted s)))

-- The entries stay within the row of what each variable stands for.
one_inside : (s : List ℕ) (z : ℤ) → Coded s → var (literal z) < length s → Live s z → var (literal (substituted s z)) < length s
one_inside s z c h w = go (eqb (literal z) 0) refl
  where
    go : (t : Bool) → eqb (literal z) 0 ≡ t → var (literal (substituted s z)) < length s
    go true q = rw (substituted_zero s z (eqb-true (literal z) 0 q)) h
    go false q = rw (substituted_live s z (eqb-false (literal z) 0 q) w) (let r = replace_coded s (literal z) c h in omega arith)

pub row_inside : (s : List ℕ) (row new : List ℤ) → Coded s → All (λ e. var (literal e) < length s) row
    → All (Live s) row → new ≡ map (substituted s) row → All (λ e. var (literal e) < length s) new
row_inside s row new c w v e =
    subst (All (λ e. var (literal e) < length s)) (sym e)
    (All-map (λ e. var (literal e) < length s) (substituted s) row (λ k d i. one_inside s (get_or row k d) c (w k d i) (v k d i)))
