-- Each round that goes on leaves fewer roots: so n + 1 rounds are enough, and what they leave is settled.
use Rattle.std.proofs.Common.{◌≡◌, ℕ, zero, suc, ◌+◌, ◌*◌, ◌<◌, ◌≤◌, Bool, true, false, ◌&&◌, eqb, List, [], ◌∷◌, map, length, get_or, fold, filter, sym, refl, ap, ◌∙◌, subst, ⊎_elim, arith, eq-eqb, eqb-true}
use mathlib.Core.List.{Memᴰ}
use Rattle.std.specs.List.{range_with_len}
use Rattle.std.proofs.lemmas.Bool.{and_parts, cases_eq, false_from_ne_true, both_ways}
use Rattle.std.proofs.lemmas.List.{length-map, get_or-map}
use Rattle.std.proofs.lemmas.List.FromFn.{length-range_with_len}
use Rattle.std.proofs.lemmas.List.Sums.{length-filter, count_by-le-length}
use Rattle.ways.specs.Ways.{among}
use Rattle.ways.proofs.Bools.{clash_of}
use Rattle.ways.proofs.Runs.{fold_keeps}
use Rattle.ways.proofs.Rows.{filter-mem}
use Rattle.ways.proofs.Members.{mem-range, get_or-mem}
use Rattle.ways.proofs.Counts.{count_less}
use Rattle.tables.specs.Literal.{var, opp}
use Rattle.tables.proofs.Literals.{var_pos, var-opp}
use Rattle.tables.proofs.Checked.{Inside}
use Rattle.rules.specs.Forced.{forced}
use Rattle.rules.specs.Pairs.{pairs, stands, replace, give_way, meet, join, starting, leaders, root}
use Rattle.rules.specs.Rounds.{Round, stuck, ended, goes_on, round, Outcome, impossible, settled, after, rounds, outcome}
use Rattle.settling.proofs.Proper.{Distinct, more, Proper, rising_distinct, clean_proper}
use Rattle.settling.proofs.Links.{starting_size, meet_cases}
use Rattle.settling.proofs.Roots.{Root, replace_pos, var-replace, way_other, way_var}
use Rattle.settling.proofs.Round.{Good, Live, ds, s, s₀, st', new_at, roots_inv, round_cases, ds_live, next_good, last_good}
use Rattle.settling.proofs.Models.{first_good}

-- merging looks at variables only
module _ (lo hi : ℕ) where
  way_hit : (l : ℕ) → var l ≡ var hi → var (give_way lo hi l) ≡ var lo
  way_hit l e = ⊎_elim (λ h. h) (λ h. absurd (h.1 e)) (way_var lo hi l)

  way_same : (k l : ℕ) → var k ≡ var l → var (give_way lo hi k) ≡ var (give_way lo hi l)
  way_same k l e =
      ⊎_elim (λ h. way_hit k (e ∙ h) ∙ sym (way_hit l h)) (λ h. ap var (way_other lo hi k (λ w. h (sym e ∙ w))) ∙ e ∙ sym (ap var (way_other lo hi l h)))
      (cases_eq (var l) (var hi))

-- u and v stand for literals of one variable
abbrev Same : List ℕ → ℕ → ℕ → Type 0
Same s u v = var (stands s u) ≡ var (stands s v)

module _ (u v : ℕ) (s : List ℕ) (lu : u < length s) (lv : v < length s) where
  map_same : (f : ℕ → ℕ) → var (f (stands s u)) ≡ var (f (stands s v)) → Same (map f s) u v
  unfolding stands
  map_same f e = ap var (get_or-map f s u (2 * u) (2 * u) lu) ∙ e ∙ ap var (sym (get_or-map f s v (2 * v) (2 * v) lv))

  meet_same : (p q : ℕ) → Same s u v → Same (meet p q s) u v
  meet_same p q e =
      meet_cases p q s (λ r. Same r u v) (λ k. e) (λ l. map_same (give_way p q) (way_same p q (stands s u) (stands s v) e))
      (λ l. map_same (give_way q p) (way_same q p (stands s u) (stands s v) e))

  meet_joins : (p q : ℕ) → var p ≡ var (stands s u) → var q ≡ var (stands s v) → Same (meet p q s) u v
  meet_joins p q e f =
      meet_cases p q s (λ r. Same r u v) (λ k. sym e ∙ k ∙ f)
      (λ l. map_same (give_way p q) (ap var (way_other p q (stands s u) (λ w. omega (arith, l, e, w))) ∙ sym e ∙ sym (way_hit p q (stands s v) (sym f))))
      (λ l. map_same (give_way q p) (way_hit q p (stands s u) (sym e) ∙ f ∙ sym (ap var (way_other q p (stands s v) (λ w. omega (arith, l, f, w))))))

pub meet_size : (p q : ℕ) (s : List ℕ) → length (meet p q s) ≡ length s
meet_size p q s = meet_cases p q s (λ r. length r ≡ length s) (λ e. refl) (λ l. length-map s (give_way p q)) (λ l. length-map s (give_way q p))

-- the variables of a pair end in one class
run_joins : (t c : List ℕ) (ps : List (List ℕ)) → var (get_or c 0 0) < length t → var (get_or c 1 0) < length t
    → Same (fold join t (c ∷ ps)) (var (get_or c 0 0)) (var (get_or c 1 0))
unfolding join
run_joins t c ps lx ly =
    (fold_keeps join (λ r. (length r ≡ length t) × Same r u v) ps
    (λ r d i h. let f : length (join r d) ≡ length t = meet_size _ _ r ∙ h.0 in
    (f, meet_same u v r (rw h.0 lx) (rw h.0 ly) (replace r (get_or d 0 0)) (opp (replace r (get_or d 1 0))) h.1))
    (join t c) (meet_size _ _ t, meet_joins u v t lx ly (replace t (get_or c 0 0)) (opp (replace t (get_or c 1 0))) (var-replace t (get_or c 0 0)) (var-opp (replace t (get_or c 1 0)) ∙ var-replace t (get_or c 1 0)))).1
  where
    u : ℕ
    u = var (get_or c 0 0)

    v : ℕ
    v = var (get_or c 1 0)

-- the two literals of a pair differ
differ : (c : List ℕ) → length c ≡ 2 → Distinct c → get_or c 0 0 ≡ get_or c 1 0 → ⊥
differ (x ∷ y ∷ c) l (more h d) e = h (Memᴰ.head e)
differ (x ∷ []) l d e = absurd (omega arith)
differ [] l d e = absurd (omega arith)

-- how many roots there are
pub roots : ℕ → List ℕ → ℕ
roots n st = length (filter (root st) (range_with_len 1 n))

root_is : (st : List ℕ) (v : ℕ) → root st v ≡ true → Root st v
unfolding root
root_is st v e = eqb-true _ _ e

is_root : (st : List ℕ) (v : ℕ) → Root st v → root st v ≡ true
unfolding root
is_root st v e = eq-eqb _ _ e

module _ (n : ℕ) (st : List ℕ) (cs : List (List ℕ)) (good : Good n st cs) (proper : (c : List ℕ) → Memᴰ c (ds n st cs) → Proper c) where
  -- a root after the round was one before, and stands for itself in the merges
  was_root : (u : ℕ) → Root (st' n st cs) u → Root st u
  was_root u e =
      let S = s n st cs in let w = var (stands st u) in
      let q : var (stands S w) ≡ u = sym (var-replace S (stands st u)) ∙ ap var (sym (new_at n st cs good u) ∙ e) ∙ var_pos u in
      subst (Root st) q ((roots_inv n st cs good).inside w (good.rooted u))

  self_led : (u : ℕ) → Root (st' n st cs) u → Root (s n st cs) u
  self_led u e = sym (replace_pos (s n st cs) u) ∙ ap (replace (s n st cs)) (sym (was_root u e)) ∙ sym (new_at n st cs good u) ∙ e

  gone : (z : ℕ) → 1 ≤ z → z ≤ n → Root st z → root (s n st cs) z ≡ false → roots n (st' n st cs) < roots n st
  unfolding roots
  gone z lo hi r e =
      count_less (root st) (root (st' n st cs)) (λ v h. is_root st v (was_root v (root_is _ v h))) (range_with_len 1 n) z (mem-range 1 n z lo (omega arith)) (is_root st z r)
      (false_from_ne_true (root (st' n st cs) z) (λ q. both_ways _ e (is_root (s n st cs) z (self_led z (root_is _ z q)))))

  pub fewer : (c : List ℕ) (ps : List (List ℕ)) → pairs (ds n st cs) ≡ c ∷ ps → roots n (st' n st cs) < roots n st
  unfolding pairs leaders
  fewer c ps e = go (root S (var x)) refl (root S (var y)) refl
    where
      S : List ℕ
      S = s n st cs

      x : ℕ
      x = get_or c 0 0

      y : ℕ
      y = get_or c 1 0

      kept : Memᴰ c (ds n st cs) × ((eqb (length c) 2 && among (map opp c) (ds n st cs)) ≡ true)
      kept = filter-mem _ (ds n st cs) c (subst (Memᴰ c) (sym e) (Memᴰ.head refl))

      two : length c ≡ 2
      two = eqb-true _ _ (and_parts (eqb (length c) 2) (among (map opp c) (ds n st cs)) kept.1).0

      ix : Memᴰ x c
      ix = get_or-mem c 0 0 (omega (arith, two))

      iy : Memᴰ y c
      iy = get_or-mem c 1 0 (omega (arith, two))

      lx : Live n st (s₀ n st cs) (var x)
      lx = ds_live n st cs good c kept.0 x ix

      ly : Live n st (s₀ n st cs) (var y)
      ly = ds_live n st cs good c kept.0 y iy

      size : length (starting n (forced n cs)) ≡ suc n
      size = starting_size n (forced n cs)

      same : Same S (var x) (var y)
      same = subst (λ p. Same (fold join (starting n (forced n cs)) p) (var x) (var y)) (sym e)
          (run_joins (starting n (forced n cs)) c ps (let h = lx.high in omega (arith, size)) (let h = ly.high in omega (arith, size)))

      go : (a : Bool) → root S (var x) ≡ a → (b : Bool) → root S (var y) ≡ b → roots n (st' n st cs) < roots n st
      go false p b q = gone (var x) lx.low lx.high lx.here p
      go true p false q = gone (var y) ly.low ly.high ly.here q
      go true p true q =
          let h : var x ≡ var y = sym (var_pos (var x)) ∙ ap var (sym (root_is S (var x) p)) ∙ same ∙ ap var (root_is S (var y) q) ∙ var_pos (var y) in
          absurd (differ c two (rising_distinct (proper c kept.0).rises) ((proper c kept.0).single x y ix iy h))

-- what a round leaves, whatever the assignment
pub record Settled (n : ℕ) (t : List ℕ) (es : List (List ℕ)) : Type 0 where
  pub good : Good n t es
  pub proper : (c : List ℕ) → Memᴰ c es → Proper c
  pub no_pair : pairs es ≡ []

module _ (n : ℕ) where
  abbrev pub Leaves : List ℕ → Round → Type 0
  Leaves st stuck = Unit {0}
  Leaves st (ended t es) = Settled n t es
  Leaves st (goes_on t es) = Good n t es × (roots n t < roots n st)

  pub round_leaves : (st : List ℕ) (cs : List (List ℕ)) → Good n st cs → Leaves st (round n st cs)
  round_leaves st cs good =
      round_cases n st cs (Leaves st) (λ p. tt) (λ f e. record { good = last_good n st cs good e; proper = clean_proper (forced n cs) cs; no_pair = e }) (λ r. tt)
      (λ f z. (next_good n st cs good, less (pairs (ds n st cs)) refl z))
    where
      less : (ps : List (List ℕ)) → pairs (ds n st cs) ≡ ps → eqb (length ps) 0 ≡ false → roots n (st' n st cs) < roots n st
      less [] q e = clash_of e
      less (c ∷ ps) q e = fewer n st cs good (clean_proper (forced n cs) cs) c ps q

  abbrev pub Ends : ℕ → ℕ → Outcome → Type 0
  Ends r f (impossible k) = (r ≤ k) × (k < r + f)
  Ends r f (settled k t es) = (r ≤ k) × (k < r + f) × Settled n t es

  -- with more fuel than roots the rounds end by themselves
  pub rounds_end : (f r : ℕ) (st : List ℕ) (cs : List (List ℕ)) → Good n st cs → roots n st < f → Ends r f (rounds n f r st cs)
  unfolding rounds after
  rounds_end zero r st cs good h = absurd (omega arith)
  rounds_end (suc f) r st cs good h = go (round n st cs) (round_leaves st cs good) (rounds_end f (r + 1))
    where
      later : (o : Outcome) → Ends (r + 1) f o → Ends r (suc f) o
      later (impossible k) x = (omega arith, omega arith)
      later (settled k t es) x = (omega arith, omega arith, x.2)

      go : (o : Round) → Leaves st o → ((t : List ℕ) (es : List (List ℕ)) → Good n t es → roots n t < f → Ends (r + 1) f (rounds n f (r + 1) t es)) → Ends r (suc f) (after r (rounds n f (r + 1)) o)
      go stuck x k = (omega arith, omega arith)
      go (ended t es) x k = (omega arith, omega arith, x)
      go (goes_on t es) x k = later (rounds n f (r + 1) t es) (k t es x.0 (let q = x.1 in omega arith))

roots_le : (n : ℕ) (st : List ℕ) → roots n st ≤ n
unfolding roots
roots_le n st = omega (arith, length-filter (root st) (range_with_len 1 n), count_by-le-length (root st) (range_with_len 1 n), length-range_with_len 1 n)

-- the rounds of a table: at least 1, at most n + 1; what is settled is clean, speaks of roots and has no pair
pub outcome_ends : (n : ℕ) (cs : List (List ℕ)) → Inside n cs → Ends n 1 (n + 1) (outcome n cs)
unfolding outcome
outcome_ends n cs h = rounds_end n (n + 1) 1 (starting n []) cs (first_good n cs h) (omega (arith, roots_le n (starting n [])))
