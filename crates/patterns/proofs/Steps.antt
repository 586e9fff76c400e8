-- A step of a walk along a chain of the index: to the first clause from the place on, and on by the link.
use Rattle.std.proofs.Common.{◌≡◌, ◌∙◌, refl, ap, subst, ℕ, ◌<◌, ◌≤◌, List, [], ◌∷◌, length, get_or, drop, ℤ, ⊎_elim}
use Rattle.std.proofs.lemmas.Bool.{cases_lt}
use Rattle.std.proofs.lemmas.List.{drop_all}
use Rattle.tables.specs.Clause.{clauses, clauses_from}
use Rattle.patterns.specs.Index.{first_part, behind, with_key, Begins, Leads, Indexed}
use Rattle.patterns.proofs.Chains.{Parts, none, some, parts}
use Rattle.patterns.proofs.Keyed.{key_cases, no_key}

-- The first clause is the first part, and the others are behind it.
is_first_part : (zs : List ℤ) (c : List ℕ) (cs : List (List ℕ)) → clauses zs ≡ c ∷ cs → Parts [] zs → (c ≡ first_part zs) × (clauses zs ≡ first_part zs ∷ clauses (behind zs))
unfolding clauses
is_first_part zs c cs e (none p q) = absurd (cc)
is_first_part zs c cs e (some p) = (cc, p)

pub none_left : (row : List ℤ) (at : ℕ) → length row ≤ at → clauses (drop at row) ≡ []
unfolding clauses clauses_from
none_left row at h = rw (drop_all at row h) refl

pub none_come : (k : ℕ) (cs : List (List ℕ)) → cs ≡ [] → with_key k cs ≡ []
none_come k cs e = ap (with_key k) e ∙ no_key k

pub is_inside : (row : List ℤ) (at : ℕ) (c : List ℕ) (cs : List (List ℕ)) → clauses (drop at row) ≡ c ∷ cs → at < length row
is_inside row at c cs e = ⊎_elim (λ h. h) (λ h. let n = none_left row at h in absurd (cc)) (cases_lt at (length row))

module _ (row : List ℤ) (heads links : List ℕ) (x : Indexed row heads links) (k at : ℕ) (b : Begins row k at) (c : List ℕ) (cs : List (List ℕ)) (e : clauses (drop at row) ≡ c ∷ cs) where
  inside : at < length row
  inside = is_inside row at c cs e

  f : (c ≡ first_part (drop at row)) × (clauses (drop at row) ≡ first_part (drop at row) ∷ clauses (behind (drop at row)))
  f = is_first_part (drop at row) c cs e (parts (drop at row))

  on : Leads row k (behind (drop at row)) (get_or links at 0)
  on = subst (λ j. Leads row j (behind (drop at row)) (get_or links at 0)) (b inside) (x.next at inside)

  pub next_begins : Begins row k (get_or links at 0)
  next_begins = on.keyed

  pub next_comes : with_key k (clauses (drop at row)) ≡ c ∷ with_key k (clauses (drop (get_or links at 0) row))
  next_comes =
      ap (with_key k) f.1
      ∙ key_cases k (λ xs. xs ≡ c ∷ with_key k (clauses (drop (get_or links at 0) row))) (first_part (drop at row)) (clauses (behind (drop at row)))
      (λ _. rw (← f.0, on.alike) refl)
      (λ n. absurd (n (b inside)))
