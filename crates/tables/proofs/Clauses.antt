-- Laws of clauses under an assignment.
use Rattle.std.proofs.Common.{◌≡◌, ℕ, Bool, true, not, ◌&&◌, List, [], ◌∷◌, ◌++◌, map, ℤ, ap, ◌∙◌, ⊎_elim, eq-eqb, ne_eqb}
use mathlib.Core.List.{Memᴰ}
use Rattle.std.proofs.lemmas.Bool.{cases_Bool}
use Rattle.std.proofs.lemmas.List.Folds.{list_all-append, list_all-map}
use Rattle.ways.proofs.Rows.{list_any-mem, mem-list_any, list_any_alike, list_all_alike, list_any-map}
use Rattle.ways.proofs.Members.{has-mem}
use Rattle.tables.specs.Literal.{literal, var, opp, holds}
use Rattle.tables.specs.Clause.{clauses_from, void, satisfies, satisfies_all}
use Rattle.tables.proofs.Literals.{holds-opp, holds_alike}

-- A zero ends the open clause, any other entry goes on with it.
pub clause_ends : (c : List ℕ) (z : ℤ) (zs : List ℤ) → literal z ≡ 0 → clauses_from c (z ∷ zs) ≡ c ∷ clauses_from [] zs
unfolding clauses_from
clause_ends c z zs e = rw (clauses_from, eq-eqb (literal z) 0 e)

pub clause_grows : (c : List ℕ) (z : ℤ) (zs : List ℤ) → (literal z ≡ 0 → ⊥) → clauses_from c (z ∷ zs) ≡ clauses_from (c ++ (literal z ∷ [])) zs
unfolding clauses_from
clause_grows c z zs e = rw (clauses_from, ne_eqb (literal z) 0 e)

-- Every literal of a row of clauses.
abbrev pub All : (ℕ → Type 0) → List (List ℕ) → Type 0
All P cs = (c : List ℕ) → Memᴰ c cs → (l : ℕ) → Memᴰ l c → P l

module _ (a : ℕ → Bool) where
  pub all_append : (cs ds : List (List ℕ)) → satisfies_all a (cs ++ ds) ≡ (satisfies_all a cs && satisfies_all a ds)
  all_append cs ds = list_all-append (satisfies a) cs ds

  -- A void clause is satisfied by every assignment.
  pub void-holds : (c : List ℕ) → void c ≡ true → satisfies a c ≡ true
  void-holds c e =
      let (x, i, h) = list_any-mem _ c e in
      ⊎_elim (mem-list_any (holds a) c x i) (λ t. mem-list_any (holds a) c (opp x) (has-mem (opp x) c h) (holds-opp a x ∙ ap not t)) (cases_Bool (holds a x))

  -- A change of literals that keeps the truth of those in the clauses keeps that of the clauses.
  module _ (f : ℕ → ℕ) where
    pub map_holds : (c : List ℕ) → ((l : ℕ) → Memᴰ l c → holds a (f l) ≡ holds a l) → satisfies a (map f c) ≡ satisfies a c
    map_holds c h = list_any-map f (holds a) c ∙ list_any_alike (λ l. holds a (f l)) (holds a) c h

    pub maps_hold : (cs : List (List ℕ)) → All (λ l. holds a (f l) ≡ holds a l) cs → satisfies_all a (map (map f) cs) ≡ satisfies_all a cs
    maps_hold cs h = list_all-map (satisfies a) (map f) cs ∙ list_all_alike (λ c. satisfies a (map f c)) (satisfies a) cs (λ c i. map_holds c (h c i))

-- Two assignments that agree on the variables of some clauses satisfy the same of them.
module _ (a b : ℕ → Bool) where
  pub alike_holds : (c : List ℕ) → ((l : ℕ) → Memᴰ l c → a (var l) ≡ b (var l)) → satisfies a c ≡ satisfies b c
  alike_holds c h = list_any_alike (holds a) (holds b) c (λ l i. holds_alike a b l (h l i))

  pub alikes_hold : (cs : List (List ℕ)) → All (λ l. a (var l) ≡ b (var l)) cs → satisfies_all a cs ≡ satisfies_all b cs
  alikes_hold cs h = list_all_alike (satisfies a) (satisfies b) cs (λ c i. alike_holds c (h c i))
