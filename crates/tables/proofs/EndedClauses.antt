-- A row's first clause, and the row behind it.
use Rattle.std.proofs.Common.{◌≡◌, ◌∙◌, refl, sym, ap, ℕ, zero, suc, ◌+◌, ◌-◌, ◌<◌, Bool, true, false, eqb, List, [], ◌∷◌, ◌++◌, map, length, get_or, take, drop, take_all, arith, ℤ, pos, Bor}
use Rattle.std.proofs.lemmas.List.{append_assoc, append-nil, length-drop, length-map, length-take-le}
use Rattle.std.specs.List.{All}
use Rattle.std.proofs.lemmas.List.Elements.{All-nil, All-cons, All-head, All-tail, All-append}
use Rattle.tables.specs.Literal.{literal}
use Rattle.tables.specs.Clause.{clauses_from, clauses}
use Rattle.tables.proofs.Literals.{literal_zero}
use Rattle.tables.proofs.Clauses.{clause_ends, clause_grows}
use Rattle.tables.specs.declared.rows.Clauses.{Clauses}
use Rattle.std.specs.Iterator.{YieldsFirstBy}
use Rattle.std.proofs.lemmas.Iterator.{YieldsList}
use Rattle.std.proofs.lemmas.Iterator.Consumers.{YieldsList-from_first}

first_from : (b : List ℕ) (row : List ℤ) (p : ℕ) → p < length row → get_or row p (pos 0) ≡ pos 0
    → ((k : ℕ) → k < p → get_or row k (pos 0) ≡ pos 0 → ⊥)
    → clauses_from b row ≡ (b ++ map literal (take p row)) ∷ clauses_from [] (drop (suc p) row)
first_from b [] p k e h = absurd (omega arith)
first_from b (z ∷ zs) zero k e h = clause_ends b z zs (ap literal e) ∙ ap (λ c. c ∷ clauses_from [] zs) (sym (append-nil b))
first_from b (z ∷ zs) (suc p) k e h =
    clause_grows b z zs (λ q. h 0 (omega arith) (literal_zero z q))
    ∙ first_from (b ++ (literal z ∷ [])) zs p (omega arith) e (λ j m. h (suc j) (omega arith))
    ∙ ap (λ c. c ∷ clauses_from [] (drop (suc p) zs)) (append_assoc b (literal z ∷ []) (map literal (take p zs)))

-- The first zero of a row ends its first clause.
pub first_clause : (row : List ℤ) (p : ℕ) → p < length row → get_or row p (pos 0) ≡ pos 0
    → ((k : ℕ) → k < p → get_or row k (pos 0) ≡ pos 0 → ⊥)
    → clauses row ≡ map literal (take p row) ∷ clauses (drop (p + 1) row)
unfolding clauses
first_clause row p k e h =
    let n : suc p ≡ p + 1 = omega arith in
    first_from [] row p k e h ∙ ap (λ i. map literal (take p row) ∷ clauses_from [] (drop i row)) n

-- The same, with the row behind it as it is lent.
pub first_lent : (row : List ℤ) (p : ℕ) → p < length row → get_or row p (pos 0) ≡ pos 0
    → ((k : ℕ) → k < p → get_or row k (pos 0) ≡ pos 0 → ⊥)
    → clauses row ≡ map literal (take p row) ∷ clauses (take (length row - (p + 1)) (drop (p + 1) row))
first_lent row p k e h =
    first_clause row p k e h
    ∙ ap (λ zs. map literal (take p row) ∷ clauses zs) (sym (take_all (length row - (p + 1)) (drop (p + 1) row) (omega (arith, length-drop (p + 1) row))))

none_from : (b : List ℕ) (row : List ℤ) → ((k : ℕ) → k < length row → get_or row k (pos 0) ≡ pos 0 → ⊥) → clauses_from b row ≡ []
unfolding clauses_from
none_from b [] h = refl
none_from b (z ∷ zs) h =
    clause_grows b z zs (λ q. h 0 (omega arith) (literal_zero z q)) ∙ none_from (b ++ (literal z ∷ [])) zs (λ j m. h (suc j) (omega arith))

-- A row without a zero has no clause.
pub no_clause : (row : List ℤ) → ((k : ℕ) → k < length row → get_or row k (pos 0) ≡ pos 0 → ⊥) → clauses row ≡ []
unfolding clauses
no_clause row h = none_from [] row h

-- What the iterator over a row's clauses gives.
pub clauses_given : (s : Clauses) (row : List ℤ) → s.rest.now ≡ row
    → YieldsList {A = Bor (List ℤ)} (YieldsFirstBy (λ c. map literal c.now) (λ s. clauses s.rest.now)) (λ c. map literal c.now) s (clauses row)
clauses_given s row e = YieldsList-from_first (λ (c : Bor (List ℤ)). map literal c.now) (λ (s : Clauses). clauses s.rest.now) (clauses row) (ap clauses e)

-- A row that has a first clause begins with it, and behind its zero has the others.
pub record Begins (row : List ℤ) (c : List ℕ) (cs : List (List ℕ)) : Type 0 where
  pub within : length c < length row
  pub is : map literal (take (length c) row) ≡ c
  pub rest : clauses (drop (length c + 1) row) ≡ cs

-- b: the literals of the open clause; k: where it ends.
abbrev EndsAt : List ℕ → List ℤ → List ℕ → List (List ℕ) → ℕ → Type 0
EndsAt b row c cs k = (k < length row) × (c ≡ b ++ map literal (take k row)) × (clauses_from [] (drop (suc k) row) ≡ cs)

ends_at : (b : List ℕ) (row : List ℤ) (c : List ℕ) (cs : List (List ℕ)) → clauses_from b row ≡ c ∷ cs → (k : ℕ) × EndsAt b row c cs k
unfolding clauses_from
ends_at b [] c cs e = let q : 0 ≡ suc (length cs) = ap length e in absurd (omega (arith, q))
ends_at b (z ∷ zs) c cs e = go (eqb (literal z) 0) (ends_at (b ++ (literal z ∷ [])) zs c cs) e
  where
    go : (t : Bool) → (clauses_from (b ++ (literal z ∷ [])) zs ≡ c ∷ cs → (k : ℕ) × EndsAt (b ++ (literal z ∷ [])) zs c cs k)
        → elim t [ true ↦ b ∷ clauses_from [] zs | false ↦ clauses_from (b ++ (literal z ∷ [])) zs ] ≡ c ∷ cs
        → (k : ℕ) × EndsAt b (z ∷ zs) c cs k
    go true h e = (0, (omega arith, sym (ap (λ xs. get_or xs 0 []) e) ∙ sym (append-nil b), ap (drop 1) e))
    go false h e =
        let (k, (l, f, g)) = h e in
        (suc k, (omega arith, f ∙ append_assoc b (literal z ∷ []) (map literal (take k zs)), g))

pub clause_begins : (row : List ℤ) (c : List ℕ) (cs : List (List ℕ)) → clauses row ≡ c ∷ cs → Begins row c cs
unfolding clauses
clause_begins row c cs e =
    let (k, (l, f, g)) = ends_at [] row c cs e in
    let n : length c ≡ k = ap length f ∙ length-map (take k row) literal ∙ length-take-le k row (omega arith) in
    let m : suc k ≡ length c + 1 = omega (arith, n) in
    record { within = omega (arith, n, l); is = ap (λ i. map literal (take i row)) n ∙ sym f; rest = ap (λ i. clauses_from [] (drop i row)) (sym m) ∙ g }

-- What holds of each entry of a row holds of each literal of its clauses.
module _ (P : ℕ → Type 0) where
  all_from : (b : List ℕ) (row : List ℤ) → All P b → All (λ e. P (literal e)) row → All (All P) (clauses_from b row)
  unfolding clauses_from
  all_from b [] h w = All-nil (All P)
  all_from b (z ∷ zs) h w = go (eqb (literal z) 0) (all_from [] zs (All-nil P) rest) (all_from (b ++ (literal z ∷ [])) zs (All-append P b (literal z ∷ []) h (All-cons P (literal z) [] first (All-nil P))) rest)
    where
      first : P (literal z)
      first = All-head (λ e. P (literal e)) z zs w

      rest : All (λ e. P (literal e)) zs
      rest = All-tail (λ e. P (literal e)) z zs w

      go : (t : Bool) → All (All P) (clauses_from [] zs) → All (All P) (clauses_from (b ++ (literal z ∷ [])) zs)
          → All (All P) (elim t [ true ↦ b ∷ clauses_from [] zs | false ↦ clauses_from (b ++ (literal z ∷ [])) zs ])
      go true p q = All-cons (All P) b (clauses_from [] zs) h p
      go false p q = q

  pub all_literals : (row : List ℤ) → All (λ e. P (literal e)) row → All (All P) (clauses row)
  unfolding clauses
  all_literals row w = all_from [] row (All-nil P) w

  -- And back, for the entries of one clause.
  pub all_entries : (c : List ℤ) → All P (map literal c) → All (λ e. P (literal e)) c
  all_entries [] w = All-nil (λ e. P (literal e))
  all_entries (z ∷ zs) w = All-cons (λ e. P (literal e)) z zs (All-head P (literal z) (map literal zs) w) (all_entries zs (All-tail P (literal z) (map literal zs) w))
