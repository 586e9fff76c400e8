-- The gates taken, by any rule that allows no more than the first edition: each is found in the settled table, says what its pattern says,
-- and together they stand in an order of evaluation.
use Rattle.std.proofs.Common.{◌≡◌, ℕ, ◌*◌, ◌≤◌, Bool, true, false, cond, not, ltb, ◌⊎◌, ◌↔◌, List, [], ◌∷◌, map, length, filter, sym, refl, ap, ◌∙◌, subst, inl, inr, ⊎_elim, arith}
use mathlib.Core.List.Memᴰ
use mathlib.Core.List.{Memᴰ}
use Rattle.std.proofs.lemmas.Bool.{eqb-false, not-true, cases_Bool, cond_both}
use Rattle.ways.proofs.Runs.{fold_keeps}
use Rattle.ways.proofs.Rows.{filter-mem}
use Rattle.tables.specs.Literal.{var, neg, opp}
use Rattle.tables.specs.Clause.{satisfies_all}
use Rattle.tables.proofs.Literals.{var-opp, var_pos}
use Rattle.tables.proofs.Checked.{Inside}
use Rattle.rules.specs.Forced.{marked}
use Rattle.rules.specs.Patterns.{Gate, others, and_inputs, and_form, parity, anchors, found, written_out}
use Rattle.rules.specs.Taking.{candidates, dependents, allowed, place, take_first, take_at, taken_by}
use Rattle.settling.proofs.Proper.{Proper, rising_distinct}
use Rattle.circuits.proofs.Patterns.{Meets, and_meets, parity_meets}
use Rattle.circuits.proofs.Order.{Apart, Ordered, none, place_ordered}
use Rattle.circuits.proofs.Written.{Speaks, and_speaks, parity_speaks, and_written, parity_written}

-- What holds of each gate taken.
pub record Valid (n : ℕ) (cs : List (List ℕ)) (g : Gate) : Type 0 where
  pub there : found cs g ≡ true
  pub self : Apart g g
  pub low : 1 ≤ g.output
  pub high : g.output ≤ n
  pub meets : (a : ℕ → Bool) → (satisfies_all a g.pattern ≡ true) ↔ Meets a g
  pub speaks : Speaks g
  pub written : written_out g ≡ g.pattern
  pub anchor : List ℕ
  pub anchored : Memᴰ anchor cs
  pub output_of : (l : ℕ) × Memᴰ l anchor × (var l ≡ g.output)
  pub input_of : (x : ℕ) → Memᴰ x g.inputs → (l : ℕ) × Memᴰ l anchor × (var l ≡ var x)

-- Gates taken from clauses: they stand in an order of evaluation, and each is valid.
pub record Taken (n : ℕ) (cs : List (List ℕ)) (gs : List Gate) : Type 0 where
  pub order : Ordered gs
  pub valid : (g : Gate) → Memᴰ g gs → Valid n cs g

pub none_taken : (n : ℕ) (cs : List (List ℕ)) → Taken n cs []
none_taken n cs = record { order = none; valid = λ g i. absurd (Memᴰ.not-nil i) }

pub place_taken : (n : ℕ) (cs : List (List ℕ)) (gs : List Gate) (g : Gate) → Taken n cs gs → Valid n cs g → allowed n gs g ≡ true → Taken n cs (place n gs g)
unfolding place
place_taken n cs gs g t v ok =
    record {
      order = place_ordered n gs g t.order (λ h i. let q = (t.valid h i).high in omega arith) (let q = v.high in omega arith) v.self ok;
      valid = λ h i. new h (Memᴰ.append_cases (filter (λ f. not (marked D f.output)) gs) {t = g ∷ filter (λ f. marked D f.output) gs} i);
    }
  where
    D : List ℕ
    D = dependents n gs g.output

    new : (h : Gate) → Memᴰ h (filter (λ f. not (marked D f.output)) gs) ⊎ Memᴰ h (g ∷ filter (λ f. marked D f.output) gs) → Valid n cs h
    new h (inl j) = t.valid h (filter-mem (λ f. not (marked D f.output)) gs h j).0
    new h (inr (Memᴰ.head q)) = subst (Valid n cs) (sym q) v
    new h (inr (Memᴰ.tail j)) = t.valid h (filter-mem (λ f. marked D f.output) gs h j).0

module _ (c : List ℕ) (o : ℕ) where
  -- The inputs of a candidate are of the anchor's other variables.
  pub and_input : (x : ℕ) → Memᴰ x (and_form c o).inputs → (l : ℕ) × Memᴰ l (others o c) × (var l ≡ var x)
  unfolding and_form and_inputs
  and_input x =
      cond_both (neg o) (others o c) (map opp (others o c)) (λ ys. Memᴰ x ys → (l : ℕ) × Memᴰ l (others o c) × (var l ≡ var x)) (λ e j. (x, j, refl))
      (λ e j. let (y, k, q) = Memᴰ.of_map opp (others o c) j in (y, k, sym (var-opp y) ∙ ap var q))

  pub parity_input : (x : ℕ) → Memᴰ x (parity c o).inputs → (l : ℕ) × Memᴰ l (others o c) × (var l ≡ var x)
  unfolding parity
  parity_input x j = let (y, k, q) = Memᴰ.of_map (λ x. 2 * var x) (others o c) j in (y, k, sym (var_pos (var y)) ∙ ap var q)

  pub others_in : (x : ℕ) → Memᴰ x (others o c) → Memᴰ x c
  unfolding others
  others_in x j = (filter-mem _ c x j).0

  module _ (proper : Proper c) (i : Memᴰ o c) where
    pub others_apart : (x : ℕ) → Memᴰ x (others o c) → var x ≡ var o → ⊥
    unfolding others
    others_apart x j e = let (k, t) = filter-mem _ c x j in eqb-false x o (not-true _ t) (proper.single x o k i e)

module _ (n : ℕ) (cs : List (List ℕ)) (inside : Inside n cs) (proper : (c : List ℕ) → Memᴰ c cs → Proper c) where
  pub candidate_valid : (c : List ℕ) → Memᴰ c cs → (g : Gate) → Memᴰ g (candidates cs c) → Valid n cs g
  unfolding candidates and_form parity
  candidate_valid c k g i =
      let (j, t) = filter-mem (found cs) _ g i in
      ⊎_elim (λ j. from_parity j t) (λ j. let (o, w, q) = Memᴰ.of_map (and_form c) c j in subst (Valid n cs) q (and_valid o w (ap (found cs) q ∙ t)))
      (Memᴰ.append_cases (cond (anchors cs c) (map (parity c) c) []) j)
    where
      valid : (g : Gate) (o : ℕ) → Memᴰ o c → g.output ≡ var o → found cs g ≡ true → ((x : ℕ) → Memᴰ x g.inputs → (l : ℕ) × Memᴰ l (others o c) × (var l ≡ var x))
          → ((a : ℕ → Bool) → (satisfies_all a g.pattern ≡ true) ↔ Meets a g) → Speaks g → written_out g ≡ g.pattern → Valid n cs g
      valid g o w e t inputs meets speaks written =
          record {
            there = t;
            self = λ x j q. let (l, h, r) = inputs x j in others_apart c o (proper c k) w l h (r ∙ q ∙ e);
            low = rw e (inside c k o w).0;
            high = rw e (inside c k o w).1;
            meets = meets;
            speaks = speaks;
            written = written;
            anchor = c;
            anchored = k;
            output_of = (o, w, sym e);
            input_of = λ x j. let (l, h, r) = inputs x j in (l, others_in c o l h, r);
          }

      and_valid : (o : ℕ) → Memᴰ o c → found cs (and_form c o) ≡ true → Valid n cs (and_form c o)
      and_valid o w t = valid (and_form c o) o w refl t (and_input c o) (λ a. and_meets a c o w) (and_speaks c o w) (and_written c o (proper c k) w)

      parity_valid : (o : ℕ) → Memᴰ o c → found cs (parity c o) ≡ true → Valid n cs (parity c o)
      parity_valid o w t =
          valid (parity c o) o w refl t (parity_input c o) (λ a. parity_meets a c o (rising_distinct (proper c k).rises) w) (parity_speaks c o w)
          (parity_written c o (proper c k) w)

      from_parity : Memᴰ g (cond (anchors cs c) (map (parity c) c) []) → found cs g ≡ true → Valid n cs g
      from_parity =
          cond_both (anchors cs c) (map (parity c) c) [] (λ gs. Memᴰ g gs → found cs g ≡ true → Valid n cs g)
          (λ e j t. let (o, w, q) = Memᴰ.of_map (parity c) c j in subst (Valid n cs) q (parity_valid o w (ap (found cs) q ∙ t))) (λ e j. absurd (Memᴰ.not-nil j))

  -- A rule of choice that allows no more than the first edition.
  module _ (may : List Gate → Gate → Bool) (strict : (gs : List Gate) (g : Gate) → may gs g ≡ true → allowed n gs g ≡ true) where
    first_taken : (gs more : List Gate) → ((g : Gate) → Memᴰ g more → Valid n cs g) → Taken n cs gs → Taken n cs (take_first may n gs more)
    unfolding take_first
    first_taken gs [] h t = t
    first_taken gs (g ∷ more) h t =
        ⊎_elim (λ (e : may gs g ≡ true). rw (take_first, e) (place_taken n cs gs g t (h g (Memᴰ.head refl)) (strict gs g e))) (λ (e : may gs g ≡ false). rw (take_first, e) (first_taken gs more (λ f i. h f (Memᴰ.tail i)) t))
        (cases_Bool (may gs g))

    pub taken_is : Taken n cs (taken_by may n cs)
    unfolding taken_by take_at
    taken_is = fold_keeps (take_at may n cs) (Taken n cs) cs step [] (none_taken n cs)
      where
        step : (gs : List Gate) (c : List ℕ) → Memᴰ c cs → Taken n cs gs → Taken n cs (take_at may n cs gs c)
        step gs c i t = ⊎_elim (λ (e : ltb 2 (length c) ≡ true). rw (take_at, e) (first_taken gs (candidates cs c) (candidate_valid c i) t)) (λ (e : ltb 2 (length c) ≡ false). rw (take_at, e) t) (cases_Bool (ltb 2 (length c)))
