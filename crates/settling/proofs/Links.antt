-- Pairs and classes: in an assignment that satisfies the clauses each variable has the value of what it stands for.
use Rattle.std.proofs.Common.{◌≡◌, ℕ, zero, suc, ◌+◌, ◌*◌, ◌<◌, ◌≤◌, Bool, true, false, cond, not, eqb, ltb, ◌⊎◌, List, [], ◌∷◌, map, length, get_or, sym, refl, ap, ◌∙◌, inl, inr, ⊎_elim, arith, rules, ltb-false, ltb-true, eqb-true}
use mathlib.Core.List.{Memᴰ}
use Rattle.std.specs.List.{range_with_len}
use Rattle.std.proofs.lemmas.Bool.{not-true, and_parts, cases_lt, cond_both, eqb-false}
use Rattle.std.proofs.lemmas.List.{get_or_past}
use Rattle.std.proofs.lemmas.List.FromFn.{get_or-map-range_with_len, length-map-range_with_len}
use Rattle.ways.specs.Ways.{among}
use Rattle.ways.proofs.Bools.{clash_of}
use Rattle.ways.proofs.Runs.{fold_keeps}
use Rattle.ways.proofs.Rows.{list_all-mem, filter-mem}
use Rattle.ways.proofs.Members.{among-mem, map_cases}
use Rattle.tables.specs.Literal.{var, neg, opp, holds}
use Rattle.tables.specs.Clause.{satisfies, satisfies_all}
use Rattle.tables.proofs.Literals.{holds-opp, holds_by, holds_pos, holds-neg, holds_zero, holds_one}
use Rattle.rules.specs.Forced.{marked}
use Rattle.rules.specs.Pairs.{pairs, stands, replace, alone, starting, give_way, meet, join, leaders}
use Rattle.settling.proofs.Forced.{Sound}

-- what a variable stands for at first
module _ (n : ℕ) (m : List ℕ) where
  pub starting_size : length (starting n m) ≡ suc n
  unfolding starting
  starting_size = ap suc (length-map-range_with_len (alone m) 1 n)

  pub starting_in : (v : ℕ) → 1 ≤ v → v ≤ n → stands (starting n m) v ≡ alone m v
  unfolding starting stands
  starting_in zero h k = absurd (omega arith)
  starting_in (suc v) h k = get_or-map-range_with_len (alone m) 1 n v (suc v) _ (omega arith) (omega arith)

  pub starting_is : (v : ℕ) → (stands (starting n m) v ≡ alone m v) ⊎ (stands (starting n m) v ≡ 2 * v)
  unfolding starting stands
  starting_is zero = inr refl
  starting_is (suc v) =
      ⊎_elim (λ h. inl (starting_in (suc v) (omega arith) (omega arith)))
      (λ h. inr (get_or_past (map (alone m) (range_with_len 1 n)) v (2 * suc v) (rw (length-map-range_with_len (alone m) 1 n) h))) (cases_lt v n)

-- what gives way to what: a literal, and the places of a row
pub way_cases : (low high l : ℕ) (P : ℕ → Type 0) → (l ≡ high → P low) → (l ≡ opp high → P (opp low)) → ((l ≡ high → ⊥) → (l ≡ opp high → ⊥) → P l)
    → P (give_way low high l)
unfolding give_way
way_cases low high l P f g h =
    cond_both (eqb l high) low _ P (λ e. f (eqb-true _ _ e))
    (λ e. cond_both (eqb l (opp high)) (opp low) l P (λ q. g (eqb-true _ _ q)) (λ q. h (eqb-false _ _ e) (eqb-false _ _ q)))

pub meet_cases : (p q : ℕ) (s : List ℕ) (P : List ℕ → Type 0) → (var p ≡ var q → P s) → (var p < var q → P (map (give_way p q) s)) → (var q < var p → P (map (give_way q p) s))
    → P (meet p q s)
unfolding meet
meet_cases p q s P f g h =
    cond_both (eqb (var p) (var q)) s _ P (λ e. f (eqb-true _ _ e))
    (λ e. cond_both (ltb (var p) (var q)) (map (give_way p q) s) (map (give_way q p) s) P (λ l. g (ltb-true _ _ l))
    (λ l. let n = eqb-false _ _ e in let k = ltb-false _ _ l in h (omega arith)))

module _ (a : ℕ → Bool) where
  -- each variable has the value of the literal that it stands for
  abbrev pub Agrees : List ℕ → Type 0
  Agrees s = (v : ℕ) → holds a (stands s v) ≡ a v

  pub replace-holds : (s : List ℕ) (l : ℕ) → holds a (stands s (var l)) ≡ a (var l) → holds a (replace s l) ≡ holds a l
  unfolding replace
  replace-holds s l h = go (neg l) ∙ sym (holds_by a l)
    where
      go : (b : Bool) → holds a (cond b (opp (stands s (var l))) (stands s (var l))) ≡ cond b (not (a (var l))) (a (var l))
      go true = holds-opp a (stands s (var l)) ∙ ap not h
      go false = h

  way_holds : (p q l : ℕ) → holds a p ≡ holds a q → holds a (give_way p q l) ≡ holds a l
  way_holds p q l e =
      way_cases p q l (λ k. holds a k ≡ holds a l) (λ f. e ∙ ap (holds a) (sym f))
      (λ g. holds-opp a p ∙ ap not e ∙ sym (holds-opp a q) ∙ ap (holds a) (sym g)) (λ f g. refl)

  -- a change of literals that keeps their truth keeps that of every place
  map_holds : (f : ℕ → ℕ) → ((l : ℕ) → holds a (f l) ≡ holds a l) → (s : List ℕ) (v d : ℕ) → holds a (get_or (map f s) v d) ≡ holds a (get_or s v d)
  map_holds f h s v d = ⊎_elim (λ q. ap (holds a) q ∙ h (get_or s v d)) (λ q. ap (holds a) (q.0 ∙ sym q.1)) (map_cases f s v d d)

  meet_agrees : (p q : ℕ) (s : List ℕ) → holds a p ≡ holds a q → Agrees s → Agrees (meet p q s)
  unfolding stands
  meet_agrees p q s e h =
      meet_cases p q s Agrees (λ k. h) (λ k v. map_holds (give_way p q) (λ l. way_holds p q l e) s v (2 * v) ∙ h v)
      (λ k v. map_holds (give_way q p) (λ l. way_holds q p l (sym e)) s v (2 * v) ∙ h v)

  -- a pair: its two literals are opposites
  abbrev pub Opposed : List ℕ → Type 0
  Opposed c = holds a (get_or c 0 0) ≡ not (holds a (get_or c 1 0))

  opposed : (c : List ℕ) → eqb (length c) 2 ≡ true → satisfies a c ≡ true → satisfies a (map opp c) ≡ true → Opposed c
  opposed [] e g h = clash_of (sym e)
  opposed (x ∷ []) e g h = clash_of (sym e)
  opposed (x ∷ y ∷ []) e g h = let k = rw (holds-opp a x, holds-opp a y) at h in search rules
  opposed (x ∷ y ∷ z ∷ c) e g h = let q : suc (suc (suc (length c))) ≡ 2 = eqb-true _ _ e in absurd (omega arith)

  pub pairs_opposed : (ds : List (List ℕ)) → satisfies_all a ds ≡ true → (c : List ℕ) → Memᴰ c (pairs ds) → Opposed c
  unfolding pairs
  pairs_opposed ds h c m =
      let (i, e) = filter-mem _ ds c m in
      let two = eqb (length c) 2 in let there = among (map opp c) ds in
      opposed c (and_parts two there e).0 (list_all-mem (satisfies a) ds h c i) (list_all-mem (satisfies a) ds h (map opp c) (among-mem (map opp c) ds (and_parts two there e).1))

  join_agrees : (s c : List ℕ) → Opposed c → Agrees s → Agrees (join s c)
  unfolding join
  join_agrees s c e h =
      let x = get_or c 0 0 in let y = get_or c 1 0 in
      meet_agrees (replace s x) (opp (replace s y)) s (replace-holds s x (h (var x)) ∙ e ∙ ap not (sym (replace-holds s y (h (var y)))) ∙ sym (holds-opp a (replace s y))) h

  module _ (zero_is : a 0 ≡ false) (m : List ℕ) (sound : Sound a m) where
    alone-holds : (v : ℕ) → holds a (alone m v) ≡ a v
    unfolding alone
    alone-holds v =
        cond_both (marked m (2 * v)) 1 _ (λ k. holds a k ≡ a v) (λ e. holds_one a zero_is ∙ sym (sym (holds_pos a v) ∙ sound (2 * v) e))
        (λ e. cond_both (marked m (2 * v + 1)) 0 (2 * v) (λ k. holds a k ≡ a v)
        (λ f. holds_zero a zero_is ∙ sym (not-true (a v) (sym (holds-neg a v) ∙ sound (2 * v + 1) f))) (λ f. holds_pos a v))

    begin : (n : ℕ) → Agrees (starting n m)
    begin n v = ⊎_elim (λ e. ap (holds a) e ∙ alone-holds v) (λ e. ap (holds a) e ∙ holds_pos a v) (starting_is n m v)

    pub leaders_agree : (n : ℕ) (ds : List (List ℕ)) → satisfies_all a ds ≡ true → Agrees (leaders n m (pairs ds))
    unfolding leaders
    leaders_agree n ds h =
        fold_keeps join Agrees (pairs ds) (λ s c i. join_agrees s c (pairs_opposed ds h c i)) (starting n m) (begin n)
