-- Forced literals are true in every assignment that satisfies the clauses.
use Rattle.std.proofs.Common.{◌≡◌, ℕ, ◌+◌, ◌*◌, Bool, true, false, eqb, ◌⊎◌, List, set, replicate, fold, sym, ap, ◌∙◌, subst, inl, inr, ⊎_elim, get_or-set_other, eqb-true}
use mathlib.Core.List.{Memᴰ}
use Rattle.std.proofs.lemmas.Bool.{cases_eq, cond_both, not-true, or_cases}
use Rattle.ways.proofs.Bools.{clash_of}
use Rattle.ways.proofs.Runs.{fold_keeps, iterate_keeps}
use Rattle.ways.proofs.Rows.{list_all-mem, list_any-mem}
use Rattle.ways.proofs.Members.{get_or_same}
use Rattle.tables.specs.Literal.{opp, holds}
use Rattle.tables.specs.Clause.{void, satisfies, satisfies_all}
use Rattle.tables.proofs.Literals.{holds-opp}
use Rattle.tables.proofs.Clauses.{All}
use Rattle.rules.specs.Forced.{marked, forces, force_at, force_in, pass, forced}

-- what is marked after a store was marked, or is the place
pub set_was : (m : List ℕ) (b v : ℕ) → marked (set m b 1) v ≡ true → (v ≡ b) ⊎ (marked m v ≡ true)
set_was m b v e = ⊎_elim inl (λ n. inr (ap (λ x. eqb x 1) (sym (get_or-set_other m b v 1 0 n)) ∙ e)) (cases_eq v b)

pub none_marked : (k l : ℕ) → marked (replicate k 0) l ≡ false
none_marked k l = ap (λ x. eqb x 1) (get_or_same k l 0)

module _ (a : ℕ → Bool) where
  -- all that is marked holds
  abbrev pub Sound : List ℕ → Type 0
  Sound m = (l : ℕ) → marked m l ≡ true → holds a l ≡ true

  forces_sound : (m c : List ℕ) (l : ℕ) → satisfies a c ≡ true → Sound m → forces m c l ≡ true → holds a l ≡ true
  unfolding forces
  forces_sound m c l h s f =
      let (x, i, t) = list_any-mem (holds a) c h in
      ⊎_elim
      (λ q. subst (λ y. holds a y ≡ true) (eqb-true x l q) t)
      (λ q. clash_of (sym t ∙ not-true (holds a x) (sym (holds-opp a x) ∙ s (opp x) q)))
      (or_cases (eqb x l) (marked m (opp x)) (list_all-mem _ c f x i))

  at_sound : (c m : List ℕ) (l : ℕ) → satisfies a c ≡ true → Sound m → Sound (force_at c m l)
  unfolding force_at
  at_sound c m l h s =
      cond_both (forces m c l) (set m l 1) m Sound
      (λ f k e. ⊎_elim (λ q. subst (λ y. holds a y ≡ true) (sym q) (forces_sound m c l h s f)) (s k) (set_was m l k e)) (λ f. s)

  in_sound : (m c : List ℕ) → satisfies a c ≡ true → Sound m → Sound (force_in m c)
  unfolding force_in
  in_sound m c h s =
      cond_both (void c) m (fold (force_at c) m c) Sound (λ v. s) (λ v. fold_keeps (force_at c) Sound c (λ k l i. at_sound c k l h) m s)

  pub forced_holds : (n : ℕ) (cs : List (List ℕ)) → satisfies_all a cs ≡ true → (l : ℕ) → marked (forced n cs) l ≡ true → holds a l ≡ true
  unfolding forced pass
  forced_holds n cs h =
      iterate_keeps (pass cs) Sound (λ m. fold_keeps force_in Sound cs (λ k c i. in_sound k c (list_all-mem (satisfies a) cs h c i)) m)
      (2 * n + 2) (replicate (2 * n + 2) 0) (λ l e. clash_of (sym e ∙ none_marked (2 * n + 2) l))

-- what is forced stands in some clause
pub marked_all : (n : ℕ) (cs : List (List ℕ)) (P : ℕ → Type 0) → All P cs → (l : ℕ) → marked (forced n cs) l ≡ true → P l
unfolding forced pass force_at force_in
marked_all n cs P h =
    iterate_keeps (pass cs) Q (λ m. fold_keeps force_in Q cs (λ k c i. in_all k c i) m) (2 * n + 2) (replicate (2 * n + 2) 0) (λ l e. clash_of (sym e ∙ none_marked (2 * n + 2) l))
  where
    Q : List ℕ → Type 0
    Q m = (l : ℕ) → marked m l ≡ true → P l

    at_all : (c m : List ℕ) (l : ℕ) → P l → Q m → Q (force_at c m l)
    at_all c m l p q = cond_both (forces m c l) (set m l 1) m Q (λ f k e. ⊎_elim (λ w. subst P (sym w) p) (q k) (set_was m l k e)) (λ f. q)

    in_all : (m c : List ℕ) → Memᴰ c cs → Q m → Q (force_in m c)
    in_all m c i q =
        cond_both (void c) m (fold (force_at c) m c) Q (λ v. q) (λ v. fold_keeps (force_at c) Q c (λ k l o. at_all c k l (h c i l o)) m q)
