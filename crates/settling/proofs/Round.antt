-- One round, forward and backward: an assignment that satisfies its clauses agrees with what the variables stand for after
-- it and satisfies what it leaves, and the other way round; a contradiction is satisfied by none.
use Rattle.std.proofs.Common.{◌≡◌, ℕ, suc, ◌+◌, ◌*◌, ◌<◌, ◌≤◌, Bool, true, false, not, ◌&&◌, eqb, List, [], map, length, get_or, sym, ap, ◌∙◌, subst, ⊎_elim, arith, rules, eqb-true}
use mathlib.Core.List.Memᴰ
use mathlib.Core.List.{Memᴰ}
use Rattle.std.specs.List.{list_any, range_with_len}
use Rattle.std.proofs.lemmas.Bool.{not-true, and_parts, cond_both, cases_lt, false_from_ne_true, both_ways, and_from, or_cases}
use Rattle.std.proofs.lemmas.List.{length-map, get_or-map, get_or_past, nil_from_length}
use Rattle.ways.specs.Ways.{among}
use Rattle.ways.proofs.Bools.{clash_of}
use Rattle.ways.proofs.Runs.{fold_keeps}
use Rattle.ways.proofs.Rows.{list_all-mem, list_any-mem, none_of, filter-mem}
use Rattle.ways.proofs.Members.{mem-range, get_or-mem}
use Rattle.tables.specs.Literal.{var, opp, holds}
use Rattle.tables.specs.Clause.{satisfies, satisfies_all}
use Rattle.tables.proofs.Literals.{two_forms, holds_pos, holds-neg, holds_zero, holds_one}
use Rattle.tables.proofs.Clauses.{All}
use Rattle.rules.specs.Forced.{marked, forced, clash, empty, contradicts}
use Rattle.rules.specs.Clean.{clean}
use Rattle.rules.specs.Pairs.{pairs, stands, replace, join, alone, starting, leaders, torn}
use Rattle.rules.specs.Rounds.{Round, stuck, ended, goes_on, paired, cleaned, round}
use Rattle.settling.proofs.Forced.{Sound, forced_holds, marked_all}
use Rattle.settling.proofs.Clean.{Kept, clean_all, clean_sat}
use Rattle.settling.proofs.Links.{Agrees, replace-holds, pairs_opposed, leaders_agree, starting_size, starting_in}
use Rattle.settling.proofs.Roots.{Root, Rooted, replace_pos, var-replace, Inv, join_inv, starting_inv, zero_root}

-- composition, place by place
compose : (s st : List ℕ) → length s ≡ length st → (v : ℕ) → stands (map (replace s) st) v ≡ replace s (stands st v)
unfolding stands
compose s st e v =
    ⊎_elim (get_or-map (replace s) st v (2 * v) (2 * v))
    (λ h. get_or_past (map (replace s) st) v (2 * v) (rw (length-map st (replace s)) h)
    ∙ sym (rw (get_or_past st v (2 * v) h) (replace_pos s v ∙ get_or_past s v (2 * v) (rw e h))))
    (cases_lt v (length st))

-- the state of a round: its clauses speak of roots only
pub record Good (n : ℕ) (st : List ℕ) (cs : List (List ℕ)) : Type 0 where
  pub size : length st ≡ suc n
  pub none : Root st 0
  pub rooted : Rooted st
  pub within : (v : ℕ) → v ≤ n → var (stands st v) ≤ n
  pub over : All (λ l. Root st (var l) × (1 ≤ var l) × (var l ≤ n)) cs

pub record Live (n : ℕ) (st s₀ : List ℕ) (v : ℕ) : Type 0 where
  pub here : Root st v
  pub loose : Root s₀ v
  pub low : 1 ≤ v
  pub high : v ≤ n

module _ (n : ℕ) (st : List ℕ) (cs : List (List ℕ)) where
  abbrev pub m : List ℕ
  m = forced n cs

  abbrev pub ds : List (List ℕ)
  ds = clean m cs

  abbrev pub s₀ : List ℕ
  s₀ = starting n m

  abbrev pub s : List ℕ
  s = leaders n m (pairs ds)

  abbrev pub st' : List ℕ
  st' = map (replace s) st

  -- The four ways in which a round ends.
  pub round_cases : (P : Round → Type 0) → (contradicts n cs ≡ true → P stuck) → (contradicts n cs ≡ false → pairs ds ≡ [] → P (ended st' ds))
      → (list_any (torn s) (pairs ds) ≡ true → P stuck) → (contradicts n cs ≡ false → eqb (length (pairs ds)) 0 ≡ false → P (goes_on st' (map (map (replace s)) ds))) → P (round n st cs)
  unfolding round cleaned paired
  round_cases P p q r k =
      cond_both (contradicts n cs) stuck _ P p
      (λ f. cond_both (eqb (length (pairs ds)) 0) (ended st' ds) _ P (λ z. q f (nil_from_length (pairs ds) (eqb-true _ 0 z)))
      (λ z. cond_both (list_any (torn s) (pairs ds)) stuck (goes_on st' (map (map (replace s)) ds)) P r (λ t. k f z)))

  module _ (good : Good n st cs) where
    live : (l : ℕ) → Kept m (λ l. Root st (var l) × (1 ≤ var l) × (var l ≤ n)) l → Live n st s₀ (var l)
    unfolding alone
    live l k =
        let (r, lo, hi) = k.was in
        record {
          here = r;
          low = lo;
          high = hi;
          loose = starting_in n m (var l) lo hi ∙ ⊎_elim (λ e. free (var l) (ap (marked m) (sym e.0) ∙ k.unforced) (ap (marked m) (sym e.1) ∙ k.undenied)) (λ e. free (var l) (ap (marked m) (sym e.1) ∙ k.undenied) (ap (marked m) (sym e.0) ∙ k.unforced)) (two_forms l);
        }
      where
        free : (v : ℕ) → marked m (2 * v) ≡ false → marked m (2 * v + 1) ≡ false → alone m v ≡ 2 * v
        free v e f = rw (e, f)

    pub ds_live : All (λ l. Live n st s₀ (var l)) ds
    ds_live c i l k = live l (clean_all m (λ l. Root st (var l) × (1 ≤ var l) × (var l ≤ n)) cs good.over c i l k)

    leaders_inv : (R : ℕ → Type 0) → ((v : ℕ) → R v → stands s₀ v < 2 → R 0) → All (λ l. R (var l)) ds → Inv R s₀ s
    unfolding leaders pairs
    leaders_inv R h all = fold_keeps join (Inv R s₀) (pairs ds) (λ t c i. go t c (filter-mem _ ds c i)) s₀ (starting_inv n m R h)
      where
        go : (t c : List ℕ) → Memᴰ c ds × ((eqb (length c) 2 && among (map opp c) ds) ≡ true) → Inv R s₀ t → Inv R s₀ (join t c)
        go t c (i, e) =
            let two : length c ≡ 2 = eqb-true _ _ (and_parts (eqb (length c) 2) (among (map opp c) ds) e).0 in
            join_inv R s₀ t c (all c i _ (get_or-mem c 0 0 (omega arith))) (all c i _ (get_or-mem c 1 0 (omega arith)))

    -- the merges, with R: a root before; and with R: a root that is not forced
    pub roots_inv : Inv (Root st) s₀ s
    roots_inv = leaders_inv (Root st) (λ v r h. good.none) (λ c i l k. (ds_live c i l k).here)

    live_inv : Inv (Live n st s₀) s₀ s
    live_inv = leaders_inv (Live n st s₀) (λ v r h. let e = r.loose in let l = r.low in absurd (omega arith)) ds_live

    pub s_size : length s ≡ length st
    s_size = roots_inv.size ∙ starting_size n m ∙ sym good.size

    pub new_at : (v : ℕ) → stands st' v ≡ replace s (stands st v)
    new_at = compose s st s_size

    -- a root before and of the merges is one after
    pub new_root : (u : ℕ) → Root st u → Root s u → Root st' u
    new_root u e f = new_at u ∙ ap (replace s) e ∙ replace_pos s u ∙ f

    new_rooted : Rooted st'
    new_rooted v =
        let w = var (stands st v) in let u = var (stands s w) in
        let e : var (stands st' v) ≡ u = ap var (new_at v) ∙ var-replace s (stands st v) in
        subst (Root st') (sym e) (new_root u (roots_inv.inside w (good.rooted v)) (roots_inv.rooted w))

    bounded : Inv (λ v. v ≤ n) s₀ s
    bounded = leaders_inv (λ v. v ≤ n) (λ v h k. omega arith) (λ c i l k. (ds_live c i l k).high)

    new_within : (v : ℕ) → v ≤ n → var (stands st' v) ≤ n
    new_within v h = subst (λ u. u ≤ n) (sym (ap var (new_at v) ∙ var-replace s (stands st v))) (bounded.inside (var (stands st v)) (good.within v h))

    new_over : All (λ l. Root st' (var l) × (1 ≤ var l) × (var l ≤ n)) (map (map (replace s)) ds)
    new_over c i l k =
        let (d, j, e) = Memᴰ.of_map (map (replace s)) ds i in
        let (x, o, f) = Memᴰ.of_map (replace s) d (subst (Memᴰ l) (sym e) k) in
        let u = var (stands s (var x)) in
        let q : var l ≡ u = ap var (sym f) ∙ var-replace s x in
        let r : Live n st s₀ u = live_inv.inside (var x) (ds_live d j x o) in
        subst (λ v. Root st' v × (1 ≤ v) × (v ≤ n)) (sym q) (new_root u r.here (live_inv.rooted (var x)), r.low, r.high)

    zero_stays : Root s 0
    zero_stays = roots_inv.const 0 (rw (zero_root n m) (omega arith)) ∙ zero_root n m

    pub next_good : Good n st' (map (map (replace s)) ds)
    next_good = record { size = length-map st (replace s) ∙ good.size; none = new_root 0 good.none zero_stays; rooted = new_rooted; within = new_within; over = new_over }

    -- where no pair is found the settled clauses speak of roots only
    pub last_good : pairs ds ≡ [] → Good n st' ds
    unfolding leaders
    last_good e =
        record {
          size = length-map st (replace s) ∙ good.size;
          none = new_root 0 good.none zero_stays;
          rooted = new_rooted;
          within = new_within;
          over = λ c i l k. let r = ds_live c i l k in (new_root (var l) r.here (ap (λ ps. stands (leaders n m ps) (var l)) e ∙ r.loose), r.low, r.high);
        }

    -- an assignment; variable 0 has the value 0
    module _ (a : ℕ → Bool) (zero_is : a 0 ≡ false) where
      pub sound : satisfies_all a cs ≡ true → Sound a m
      sound = forced_holds a n cs

      pub clean_is : Sound a m → satisfies_all a ds ≡ satisfies_all a cs
      clean_is h = clean_sat a m h cs

      leaders_is : satisfies_all a cs ≡ true → Agrees a s
      leaders_is h = leaders_agree a zero_is m (sound h) n ds (clean_is (sound h) ∙ h)

      -- forward
      pub new_agrees : satisfies_all a cs ≡ true → Agrees a st → Agrees a st'
      new_agrees h g v = ap (holds a) (new_at v) ∙ replace-holds a s (stands st v) (leaders_is h (var (stands st v))) ∙ g v

      -- backward
      star : Agrees a st' → (w : ℕ) → Root st w → holds a (stands s w) ≡ a w
      star g w r = ap (holds a) (sym (new_at w ∙ ap (replace s) r ∙ replace_pos s w)) ∙ g w

      module _ (calm : clash n m ≡ false) (g : Agrees a st') where
        one_way : (w : ℕ) → 1 ≤ w → w ≤ n → marked m (2 * w + 1) ≡ true → marked m (2 * w) ≡ false
        unfolding clash
        one_way w lo hi e =
            false_from_ne_true (marked m (2 * w)) (λ q. both_ways _ (none_of _ (range_with_len 1 n) calm w (mem-range 1 n w lo (omega arith))) (and_from _ _ q e))

        fixed_one : (w : ℕ) → Root st w → 1 ≤ w → w ≤ n → (k : ℕ) → k < 2 → alone m w ≡ k → holds a k ≡ a w
        fixed_one w r lo hi k h e =
            let f : stands s₀ w ≡ k = starting_in n m w lo hi ∙ e in
            ap (holds a) (sym (roots_inv.const w (rw f h) ∙ f)) ∙ star g w r

        pub back_sound : Sound a m
        unfolding alone
        back_sound l e =
            let (r, lo, hi) = marked_all n cs (λ l. Root st (var l) × (1 ≤ var l) × (var l ≤ n)) good.over l e in
            ⊎_elim
            (λ q. let f : marked m (2 * var l) ≡ true = ap (marked m) (sym q.0) ∙ e in
            ap (holds a) q.0 ∙ holds_pos a (var l) ∙ sym (fixed_one (var l) r lo hi 1 (omega arith) (rw f)) ∙ holds_one a zero_is)
            (λ q. let f : marked m (2 * var l + 1) ≡ true = ap (marked m) (sym q.0) ∙ e in
            let z : marked m (2 * var l) ≡ false = one_way (var l) lo hi f in
            ap (holds a) q.0 ∙ holds-neg a (var l) ∙ ap not (sym (fixed_one (var l) r lo hi 0 (omega arith) (rw (z, f))) ∙ holds_zero a zero_is))
            (two_forms l)

        pub back_agrees : Agrees a st
        back_agrees v = sym (replace-holds a s (stands st v) (star g (var (stands st v)) (good.rooted v))) ∙ ap (holds a) (sym (new_at v)) ∙ g v

        pub back_to : All (λ l. holds a (replace s l) ≡ holds a l) ds
        back_to c i l k = replace-holds a s l (star g (var l) (ds_live c i l k).here)

      -- a contradiction has no model
      pub no_empty : list_any empty cs ≡ true → satisfies_all a cs ≡ true → ⊥
      unfolding empty
      no_empty e h =
          let (c, i, q) = list_any-mem empty cs e in
          clash_of (sym (rw (nil_from_length c (eqb-true _ 0 q)) at (list_all-mem (satisfies a) cs h c i)))

      pub no_clash : clash n m ≡ true → satisfies_all a cs ≡ true → ⊥
      unfolding clash
      no_clash e h =
          let (v, i, q) = list_any-mem _ (range_with_len 1 n) e in
          let p : a v ≡ true = sym (holds_pos a v) ∙ sound h (2 * v) (and_parts (marked m (2 * v)) (marked m (2 * v + 1)) q).0 in
          let r : a v ≡ false = not-true (a v) (sym (holds-neg a v) ∙ sound h (2 * v + 1) (and_parts (marked m (2 * v)) (marked m (2 * v + 1)) q).1) in
          clash_of (sym p ∙ r)

      pub no_contradiction : contradicts n cs ≡ true → satisfies_all a cs ≡ true → ⊥
      unfolding contradicts
      no_contradiction e h = ⊎_elim (λ p. no_empty p h) (λ p. no_clash p h) (or_cases (list_any empty cs) (clash n m) e)

      pub no_torn : list_any (torn s) (pairs ds) ≡ true → satisfies_all a cs ≡ true → ⊥
      unfolding torn
      no_torn e h =
          let (c, i, q) = list_any-mem _ (pairs ds) e in
          let x = get_or c 0 0 in let y = get_or c 1 0 in
          let g : Agrees a s = leaders_is h in
          let same : holds a x ≡ holds a y = sym (replace-holds a s x (g (var x))) ∙ ap (holds a) (eqb-true (replace s x) (replace s y) q) ∙ replace-holds a s y (g (var y)) in
          never (holds a x) (holds a y) same (pairs_opposed a ds (clean_is (sound h) ∙ h) c i)
        where
          never : (p q : Bool) → p ≡ q → p ≡ not q → ⊥
          never p q e f = search rules
