-- The pairs among a row's clauses, one clause after another.
use Rattle.std.proofs.Common.{◌≡◌, refl, sym, ap, subst, ℕ, ◌<◌, Bool, true, false, cond, ◌&&◌, ◌||◌, List, [], ◌∷◌, map, ℤ}
use Rattle.std.specs.List.{All, filter, list_any}
use Rattle.std.proofs.lemmas.List.Elements.{All-head, All-tail}
use Rattle.tables.specs.Literal.{literal, var}
use Rattle.tables.proofs.EndedClauses.{all_entries}
use Rattle.rules.specs.Pairs.{pairs}
use Rattle.pairing.specs.Pairs.{paired_in}

pub pairs_are : (cs left : List (List ℕ)) → left ≡ cs → pairs cs ≡ filter (paired_in cs) left
unfolding pairs
pairs_are cs left e = ap (filter (paired_in cs)) (sym e)

module _ (cs left : List (List ℕ)) (c : List ℕ) (rest : List (List ℕ)) (e : left ≡ c ∷ rest) where
  pub kept_pair : paired_in cs c ≡ true → filter (paired_in cs) left ≡ c ∷ filter (paired_in cs) rest
  kept_pair q = rw (e, q) refl

  pub kept_other : paired_in cs c ≡ false → filter (paired_in cs) left ≡ filter (paired_in cs) rest
  kept_other q = rw (e, q) refl

-- The literals of the clause that is met, and of those that are left.
module _ (n : ℕ) (left : List (List ℕ)) (clause : List ℤ) (rest : List (List ℕ)) (e : left ≡ map literal clause ∷ rest) (w : All (All (λ x. var x < n)) left) where
  pub inside_clause : All (λ x. var (literal x) < n) clause
  inside_clause = all_entries (λ x. var x < n) clause (All-head (All (λ x. var x < n)) (map literal clause) rest (subst (All (All (λ x. var x < n))) e w))

  pub inside_rest : All (All (λ x. var x < n)) rest
  inside_rest = All-tail (All (λ x. var x < n)) (map literal clause) rest (subst (All (All (λ x. var x < n))) e w)

-- Whether one of the pairs passes a test.
pub any_pair : (p q : List ℕ → Bool) (cs : List (List ℕ)) → list_any (λ c. p c && q c) cs ≡ list_any q (filter p cs)
any_pair p q [] = refl
any_pair p q (c ∷ cs) = go (p c) (any_pair p q cs)
  where
    go : (b : Bool) → list_any (λ c. p c && q c) cs ≡ list_any q (filter p cs)
        → ((b && q c) || list_any (λ c. p c && q c) cs) ≡ list_any q (cond b (c ∷ filter p cs) (filter p cs))
    go true e = ap (λ b. q c || b) e
    go false e = e
