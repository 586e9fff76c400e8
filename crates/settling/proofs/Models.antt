-- The rounds together: the settled table, the fixed values and the links are satisfied by exactly the assignments that
-- satisfy the table; a contradiction by none.
use Rattle.std.proofs.Common.{◌≡◌, ℕ, zero, suc, ◌+◌, ◌*◌, ◌≤◌, Bool, true, false, ◌↔◌, List, [], map, sym, ap, ◌∙◌, subst, ⊎_elim}
use Rattle.std.specs.List.{list_any}
use Rattle.std.proofs.lemmas.Bool.{or_parts}
use Rattle.tables.specs.Literal.{var, holds}
use Rattle.tables.specs.Clause.{satisfies_all}
use Rattle.tables.proofs.Literals.{var_pos, holds_pos}
use Rattle.tables.proofs.Clauses.{maps_hold}
use Rattle.tables.proofs.Checked.{Inside}
use Rattle.rules.specs.Forced.{marked, clash, empty, contradicts}
use Rattle.rules.specs.Pairs.{stands, replace, alone, starting}
use Rattle.rules.specs.Rounds.{Round, stuck, ended, goes_on, round, Outcome, impossible, settled, after, rounds, outcome}
use Rattle.settling.proofs.Links.{Agrees, starting_size, starting_is}
use Rattle.settling.proofs.Round.{Good, m, ds, s, st', round_cases, sound, clean_is, new_agrees, back_sound, back_agrees, back_to, no_contradiction, no_torn, last_good, next_good}

-- the models of clauses together with what the variables stand for
abbrev pub Models : (ℕ → Bool) → List ℕ → List (List ℕ) → Type 0
Models a st cs = (satisfies_all a cs ≡ true) × Agrees a st

module _ (a : ℕ → Bool) (zero_is : a 0 ≡ false) (n : ℕ) where
  abbrev Fine : List ℕ → List (List ℕ) → Round → Type 0
  Fine st cs stuck = satisfies_all a cs ≡ true → ⊥
  Fine st cs (ended t es) = Good n t es × (Models a st cs ↔ Models a t es)
  Fine st cs (goes_on t es) = Good n t es × (Models a st cs ↔ Models a t es)

  round_fine : (st : List ℕ) (cs : List (List ℕ)) → Good n st cs → Fine st cs (round n st cs)
  unfolding contradicts
  round_fine st cs good =
      round_cases n st cs (Fine st cs) (no_contradiction n st cs good a zero_is) (λ f e. (last_good n st cs good e, to_last (no_clash f))) (no_torn n st cs good a zero_is)
      (λ f z. (next_good n st cs good, (λ h. (to_next (no_clash f)).0 ((to_last (no_clash f)).0 h), λ h. (to_last (no_clash f)).1 ((to_next (no_clash f)).1 h))))
    where
      D : List (List ℕ)
      D = ds n st cs

      S : List ℕ
      S = s n st cs

      T : List ℕ
      T = st' n st cs

      no_clash : contradicts n cs ≡ false → clash n (m n st cs) ≡ false
      no_clash f = (or_parts (list_any empty cs) (clash n (m n st cs)) f).1

      to_last : clash n (m n st cs) ≡ false → Models a st cs ↔ Models a T D
      to_last calm = (
        λ h. (clean_is n st cs good a zero_is (sound n st cs good a zero_is h.0) ∙ h.0, new_agrees n st cs good a zero_is h.0 h.1),
        λ h. (sym (clean_is n st cs good a zero_is (back_sound n st cs good a zero_is calm h.1)) ∙ h.0, back_agrees n st cs good a zero_is calm h.1),
      )

      to_next : clash n (m n st cs) ≡ false → Models a T D ↔ Models a T (map (map (replace S)) D)
      to_next calm = (
        λ h. (maps_hold a (replace S) D (back_to n st cs good a zero_is calm h.1) ∙ h.0, h.1),
        λ h. (sym (maps_hold a (replace S) D (back_to n st cs good a zero_is calm h.1)) ∙ h.0, h.1),
      )

  -- the rounds, whatever their fuel
  abbrev pub Exact : List ℕ → List (List ℕ) → Outcome → Type 0
  Exact st cs (impossible r) = satisfies_all a cs ≡ true → Agrees a st → ⊥
  Exact st cs (settled r t es) = Good n t es × (Models a st cs ↔ Models a t es)

  pub rounds_exact : (f r : ℕ) (st : List ℕ) (cs : List (List ℕ)) → Good n st cs → Exact st cs (rounds n f r st cs)
  unfolding rounds after
  rounds_exact zero r st cs good = (good, (λ h. h, λ h. h))
  rounds_exact (suc f) r st cs good = go (round n st cs) (round_fine st cs good) (rounds_exact f (r + 1))
    where
      through : (t : List ℕ) (es : List (List ℕ)) (o : Outcome) → (Models a st cs ↔ Models a t es) → Exact t es o → Exact st cs o
      through t es (impossible k) g x = λ h j. let (p, q) = g.0 (h, j) in x p q
      through t es (settled k u fs) g x = (x.0, (λ h. x.1.0 (g.0 h), λ h. g.1 (x.1.1 h)))

      go : (o : Round) → Fine st cs o → ((t : List ℕ) (es : List (List ℕ)) → Good n t es → Exact t es (rounds n f (r + 1) t es)) → Exact st cs (after r (rounds n f (r + 1)) o)
      go stuck h k = λ p q. h p
      go (ended t es) h k = h
      go (goes_on t es) h k = through t es (rounds n f (r + 1) t es) h.1 (k t es h.0)

-- each variable by itself
own : (n v : ℕ) → stands (starting n []) v ≡ 2 * v
unfolding alone
own n v = ⊎_elim (λ e. e) (λ e. e) (starting_is n [] v)

pub first_good : (n : ℕ) (cs : List (List ℕ)) → Inside n cs → Good n (starting n []) cs
first_good n cs h = record { size = starting_size n []; none = own n 0; rooted = λ v. own n (var (stands (starting n []) v)); within = λ v h. subst (λ l. var l ≤ n) (sym (own n v)) (subst (λ u. u ≤ n) (sym (var_pos v)) h); over = λ c i l k. (own n (var l), (h c i l k).0, (h c i l k).1) }

-- the settled table, the values and the links together have exactly the models of the table; a contradiction has none
abbrev pub Means : ℕ → (ℕ → Bool) → List (List ℕ) → Outcome → Type 0
Means n a cs (impossible r) = satisfies_all a cs ≡ true → ⊥
Means n a cs (settled r st es) = Good n st es × ((satisfies_all a cs ≡ true) ↔ Models a st es)

pub outcome_means : (n : ℕ) (cs : List (List ℕ)) → Inside n cs → (a : ℕ → Bool) → a 0 ≡ false → Means n a cs (outcome n cs)
unfolding outcome
outcome_means n cs h a z = go (rounds n (n + 1) 1 (starting n []) cs) (rounds_exact a z n (n + 1) 1 (starting n []) cs (first_good n cs h))
  where
    start : Agrees a (starting n [])
    start v = ap (holds a) (own n v) ∙ holds_pos a v

    go : (o : Outcome) → Exact a z n (starting n []) cs o → Means n a cs o
    go (impossible r) x = λ p. x p start
    go (settled r st es) x = (x.0, (λ p. x.1.0 (p, start), λ p. (x.1.1 p).0))
