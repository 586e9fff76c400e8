-- Cleaning keeps the assignments that satisfy the clauses, where the forced literals are true.
use Rattle.std.proofs.Common.{◌≡◌, ℕ, ◌<◌, Bool, true, false, ◌&&◌, ◌||◌, eqb, ltb, ◌⊎◌, List, [], ◌∷◌, ◌++◌, sym, refl, ap, ◌∙◌, subst, inl, inr, ⊎_elim, arith, rules, ltb-false, ltb-true, eqb-true}
use mathlib.Core.List.Memᴰ
use mathlib.Core.List.{Memᴰ}
use Rattle.std.specs.List.{list_any, list_all}
use Rattle.std.proofs.Math.Bool.{and-true, or-false, or_comm}
use Rattle.std.proofs.lemmas.Bool.{not-true, or_cases, cond_both, or_parts, eqb-false}
use Rattle.std.proofs.lemmas.List.Folds.{list_all-append}
use Rattle.ways.specs.Ways.{among}
use Rattle.ways.proofs.Bools.{and_idle}
use Rattle.ways.proofs.Runs.{fold_keeps, fold-list_all, fold-list_any}
use Rattle.ways.proofs.Rows.{list_all-mem, list_any-mem, mem-list_any, none_of}
use Rattle.ways.proofs.Members.{among-mem}
use Rattle.tables.specs.Literal.{opp, holds}
use Rattle.tables.specs.Clause.{void, satisfies, satisfies_all}
use Rattle.tables.proofs.Literals.{holds-opp}
use Rattle.tables.proofs.Clauses.{All, void-holds}
use Rattle.rules.specs.Forced.{marked}
use Rattle.rules.specs.Clean.{insert, tidy_step, tidy, add, clean_step, clean}
use Rattle.settling.proofs.Forced.{Sound}

-- where a literal is put, and what a step adds
pub insert_cases : (x y : ℕ) (ys : List ℕ) (P : List ℕ → Type 0) → (x ≡ y → P (y ∷ ys)) → (x < y → P (x ∷ y ∷ ys)) → (y < x → P (y ∷ insert x ys)) → P (insert x (y ∷ ys))
unfolding insert
insert_cases x y ys P f g h =
    cond_both (eqb x y) (y ∷ ys) _ P (λ e. f (eqb-true x y e))
    (λ e. cond_both (ltb x y) (x ∷ y ∷ ys) (y ∷ insert x ys) P (λ l. g (ltb-true x y l)) (λ l. let n = eqb-false x y e in let k = ltb-false x y l in h (omega arith)))

pub clean_cases : (m : List ℕ) (out : List (List ℕ)) (c : List ℕ) (P : List (List ℕ) → Type 0) → P out
    → (void c ≡ false → list_any (marked m) c ≡ false → P (out ++ (tidy m c ∷ []))) → P (clean_step m out c)
unfolding clean_step add
clean_cases m out c P f g =
    cond_both (void c || list_any (marked m) c) out (add out (tidy m c)) P (λ e. f)
    (λ e. let (v, w) = or_parts (void c) (list_any (marked m) c) e in cond_both (among (tidy m c) out) out (out ++ (tidy m c ∷ [])) P (λ i. f) (λ i. g v w))

module _ (a : ℕ → Bool) where
  pub insert_sat : (x : ℕ) (ys : List ℕ) → satisfies a (insert x ys) ≡ (holds a x || satisfies a ys)
  unfolding insert
  insert_sat x [] = refl
  insert_sat x (y ∷ ys) =
      insert_cases x y ys (λ zs. list_any (holds a) zs ≡ (holds a x || list_any (holds a) (y ∷ ys))) (λ e. rw e (search rules)) (λ l. refl)
      (λ l. rw (insert_sat x ys) (search rules))

  module _ (m : List ℕ) (sound : Sound a m) where
    marked_sat : (c : List ℕ) → list_any (marked m) c ≡ true → satisfies a c ≡ true
    marked_sat c e = let (x, i, h) = list_any-mem (marked m) c e in mem-list_any (holds a) c x i (sound x h)

    tidy_step_sat : (out : List ℕ) (x : ℕ) → satisfies a (tidy_step m out x) ≡ (satisfies a out || holds a x)
    unfolding tidy_step
    tidy_step_sat out x =
        cond_both (marked m (opp x)) out (insert x out) (λ o. satisfies a o ≡ (satisfies a out || holds a x))
        (λ e. let h : holds a x ≡ false = not-true _ (sym (holds-opp a x) ∙ sound (opp x) e) in rw (h, or-false (satisfies a out)))
        (λ e. insert_sat x out ∙ or_comm (holds a x) (satisfies a out))

    tidy_sat : (c : List ℕ) → satisfies a (tidy m c) ≡ satisfies a c
    unfolding tidy
    tidy_sat c = fold-list_any (tidy_step m) (satisfies a) (holds a) tidy_step_sat [] c

    add_sat : (out : List (List ℕ)) (c : List ℕ) → satisfies_all a (add out c) ≡ (satisfies_all a out && satisfies a c)
    unfolding add
    add_sat out c =
        cond_both (among c out) out (out ++ (c ∷ [])) (λ o. satisfies_all a o ≡ (satisfies_all a out && satisfies a c))
        (λ e. sym (and_idle (satisfies_all a out) (satisfies a c) (λ h. list_all-mem (satisfies a) out h c (among-mem c out e))))
        (λ e. list_all-append (satisfies a) out (c ∷ []) ∙ ap (λ t. list_all (satisfies a) out && t) (and-true (satisfies a c)))

    step_sat : (out : List (List ℕ)) (c : List ℕ) → satisfies_all a (clean_step m out c) ≡ (satisfies_all a out && satisfies a c)
    unfolding clean_step
    step_sat out c =
        cond_both (void c || list_any (marked m) c) out (add out (tidy m c)) (λ o. satisfies_all a o ≡ (satisfies_all a out && satisfies a c))
        (λ e. sym (and_idle (satisfies_all a out) (satisfies a c) (λ _. ⊎_elim (void-holds a c) (marked_sat c) (or_cases _ _ e))))
        (λ e. add_sat out (tidy m c) ∙ ap (λ t. satisfies_all a out && t) (tidy_sat c))

    -- the cleaned clauses have the same models
    pub clean_sat : (cs : List (List ℕ)) → satisfies_all a (clean m cs) ≡ satisfies_all a cs
    unfolding clean
    clean_sat cs = fold-list_all (clean_step m) (satisfies_all a) (satisfies a) step_sat [] cs

-- the literals of the cleaned clauses were there, and neither they nor their opposites are forced
pub insert_in : (x : ℕ) (ys : List ℕ) (z : ℕ) → Memᴰ z (insert x ys) → (z ≡ x) ⊎ Memᴰ z ys
unfolding insert
insert_in x [] z i = Memᴰ.cases_cons i
insert_in x (y ∷ ys) z i =
    insert_cases x y ys (λ zs. Memᴰ z zs → (z ≡ x) ⊎ Memᴰ z (y ∷ ys)) (λ e. inr) (λ l. Memᴰ.cases_cons)
    (λ l j. ⊎_elim (λ e. inr (Memᴰ.head e)) (λ k. ⊎_elim inl (λ q. inr (Memᴰ.tail q)) (insert_in x ys z k)) (Memᴰ.cases_cons j)) i

pub record Kept (m : List ℕ) (P : ℕ → Type 0) (l : ℕ) : Type 0 where
  pub was : P l
  pub unforced : marked m l ≡ false
  pub undenied : marked m (opp l) ≡ false

module _ (m : List ℕ) (P : ℕ → Type 0) where
  tidy_all : (c : List ℕ) → ((l : ℕ) → Memᴰ l c → P l × (marked m l ≡ false)) → (l : ℕ) → Memᴰ l (tidy m c) → Kept m P l
  unfolding tidy tidy_step
  tidy_all c h =
      fold_keeps (tidy_step m) Kept_all c
      (λ out x i g. cond_both (marked m (opp x)) out (insert x out) Kept_all (λ e. g)
      (λ e l k. ⊎_elim (λ q. subst (Kept m P) (sym q) (record { was = (h x i).0; unforced = (h x i).1; undenied = e })) (g l) (insert_in x out l k)))
      [] (λ l i. absurd (Memᴰ.not-nil i))
    where
      Kept_all : List ℕ → Type 0
      Kept_all out = (l : ℕ) → Memᴰ l out → Kept m P l

  pub clean_all : (cs : List (List ℕ)) → All P cs → All (Kept m P) (clean m cs)
  unfolding clean
  clean_all cs h =
      fold_keeps (clean_step m) (All (Kept m P)) cs
      (λ out c i g. clean_cases m out c (All (Kept m P)) g (λ v q d j l k. ⊎_elim
      (λ w. g d w l k)
      (λ w. tidy_all c (λ x o. (h c i x o, none_of (marked m) c q x o)) l (subst (Memᴰ l) (Memᴰ.eq_of_singleton w) k))
      (Memᴰ.append_cases out j)))
      [] (λ c i. absurd (Memᴰ.not-nil i))
