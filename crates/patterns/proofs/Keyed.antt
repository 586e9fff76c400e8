-- What is found among the clauses of a key is found among all.
use Rattle.std.proofs.Common.{◌≡◌, ◌∙◌, refl, sym, ap, ℕ, ◌+◌, ◌*◌, ◌%◌, true, false, ◌||◌, List, [], ◌∷◌, map, eqb, fold, eqb-true}
use Rattle.std.specs.Cmp.Lexicographic.{bytes_decides}
use Rattle.std.proofs.lemmas.Bool.{cond_both, false_from_ne_true, eqb-false}
use Rattle.ways.specs.Ways.{same, among}
use Rattle.tables.specs.Literal.{var}
use Rattle.rules.specs.Patterns.{first_of, group}
use Rattle.rules.proofs.Groups.{group_vars}
use Rattle.patterns.specs.Index.{key, with_key}
use Rattle.patterns.specs.Seen.{see}

first_more : (ds : List (List ℕ)) (c : List ℕ) (cs es : List (List ℕ)) → first_of ds cs ≡ first_of ds es → first_of ds (c ∷ cs) ≡ first_of ds (c ∷ es)
unfolding first_of
first_more ds c cs es e = rw (e) refl

first_other : (ds : List (List ℕ)) (c : List ℕ) (cs : List (List ℕ)) → among c ds ≡ false → first_of ds (c ∷ cs) ≡ first_of ds cs
unfolding first_of
first_other ds c cs e = rw (e) refl

see_other : (c : List ℕ) (m : ℕ) (d : List ℕ) → among d (group c) ≡ false → see c m d ≡ m
unfolding see
see_other c m d e = rw (e) refl

vars_key : List ℕ → ℕ
vars_key [] = 0
vars_key (v ∷ vs) = (31 * vars_key vs + v) % 1024

key_vars : (c : List ℕ) → key c ≡ vars_key (map var c)
unfolding key vars_key
key_vars [] = refl
key_vars (l ∷ c) = ap (λ n. (31 * n + var l) % 1024) (key_vars c)

-- What is found among the clauses of the key is found among all.
module _ (k : ℕ) where
  pub key_cases : (P : List (List ℕ) → Type 0) (c : List ℕ) (cs : List (List ℕ)) → (key c ≡ k → P (c ∷ with_key k cs)) → ((key c ≡ k → ⊥) → P (with_key k cs)) → P (with_key k (c ∷ cs))
  unfolding with_key
  key_cases P c cs f g = cond_both (eqb (key c) k) (c ∷ with_key k cs) (with_key k cs) P (λ e. f (eqb-true (key c) k e)) (λ e. g (eqb-false (key c) k e))

  pub no_key : with_key k [] ≡ []
  unfolding with_key
  no_key = refl

  among_key : (d : List ℕ) → key d ≡ k → (cs : List (List ℕ)) → among d cs ≡ among d (with_key k cs)
  among_key d e [] = ap (among d) (sym no_key)
  among_key d e (c ∷ cs) =
      key_cases (λ xs. among d (c ∷ cs) ≡ among d xs) c cs (λ q. ap (λ b. same d c || b) (among_key d e cs))
      (λ n. ap (λ b. b || among d cs) (false_from_ne_true (same d c) (λ q. n (ap key (sym ((bytes_decides d c).0 q)) ∙ e))) ∙ among_key d e cs)

  module _ (ds : List (List ℕ)) (own : (d : List ℕ) → among d ds ≡ true → key d ≡ k) where
    apart : (c : List ℕ) → (key c ≡ k → ⊥) → among c ds ≡ false
    apart c n = false_from_ne_true (among c ds) (λ q. n (own c q))

    first_key : (cs : List (List ℕ)) → first_of ds cs ≡ first_of ds (with_key k cs)
    first_key [] = ap (first_of ds) (sym no_key)
    first_key (c ∷ cs) =
        key_cases (λ xs. first_of ds (c ∷ cs) ≡ first_of ds xs) c cs (λ q. first_more ds c cs (with_key k cs) (first_key cs)) (λ n. first_other ds c cs (apart c n) ∙ first_key cs)

-- Clauses of one group have one key.
same_key : (c d : List ℕ) → map var c ≡ map var d → key c ≡ key d
same_key c d e = key_vars c ∙ ap vars_key e ∙ sym (key_vars d)

group_key : (c d : List ℕ) → among d (group c) ≡ true → key d ≡ key c
group_key c d e = same_key d c (group_vars c d e)

pub among_keyed : (d : List ℕ) (cs : List (List ℕ)) → among d cs ≡ among d (with_key (key d) cs)
among_keyed d cs = among_key (key d) d refl cs

pub first_keyed : (c : List ℕ) (cs : List (List ℕ)) → first_of (group c) cs ≡ first_of (group c) (with_key (key c) cs)
first_keyed c cs = first_key (key c) (group c) (group_key c) cs

pub fold_keyed : (c : List ℕ) (m : ℕ) (cs : List (List ℕ)) → fold (see c) m cs ≡ fold (see c) m (with_key (key c) cs)
fold_keyed c m [] = ap (fold (see c) m) (sym (no_key (key c)))
fold_keyed c m (d ∷ cs) =
    key_cases (key c) (λ xs. fold (see c) m (d ∷ cs) ≡ fold (see c) m xs) d cs (λ q. fold_keyed c (see c m d) cs)
    (λ n. ap (λ x. fold (see c) x cs) (see_other c m d (apart (key c) (group c) (group_key c) d n)) ∙ fold_keyed c m cs)
