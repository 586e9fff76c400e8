-- The forced literals are the rules' least set: closed under its rule, and inside every set that is.
use Rattle.std.proofs.Common.{◌≡◌, ℕ, ◌+◌, ◌*◌, ◌<◌, true, false, cond, ◌||◌, eqb, ◌⊎◌, List, length, get_or, set, replicate, fold, count_by, sym, refl, ap, ◌∙◌, subst, inl, inr, ⊎_elim, arith, length-set, get_or-set_same, eq-eqb, ne_eqb, eqb-true}
use mathlib.Core.List.{Memᴰ}
use Rattle.std.proofs.lemmas.Bool.{or_cases, or_left, or_right, cond_both, cases_eq, cases_lt}
use Rattle.std.proofs.lemmas.List.{length-replicate, set-get_or, set_past}
use Rattle.std.proofs.lemmas.List.Sums.{sum_by-set, count_by-le-length}
use Rattle.ways.proofs.Bools.{clash_of}
use Rattle.ways.proofs.Runs.{fold_keeps, fold_grows, fold_still, iterate_keeps, iterate_closed}
use Rattle.ways.proofs.Rows.{list_all-mem, mem-list_all}
use Rattle.tables.specs.Literal.{opp}
use Rattle.tables.specs.Clause.{void}
use Rattle.tables.proofs.Literals.{high_literal}
use Rattle.tables.proofs.Checked.{Inside}
use Rattle.rules.specs.Forced.{marked, forces, force_at, force_in, pass, forced}
use Rattle.settling.specs.Sets.{Closed}
use Rattle.settling.proofs.Forced.{set_was, none_marked}

-- how many are marked
abbrev ones : List ℕ → ℕ
ones m = count_by (λ x. eqb x 1) m

set_grows : (m : List ℕ) (b : ℕ) → (set m b 1 ≡ m) ⊎ (ones m < ones (set m b 1))
set_grows m b = ⊎_elim (λ h. ⊎_elim (λ e. inl (ap (set m b) (sym e) ∙ set-get_or m b 0)) (λ n. inr (more h n)) (cases_eq (get_or m b 0) 1)) (λ h. inl (set_past m b 1 h)) (cases_lt b (length m))
  where
    more : b < length m → (get_or m b 0 ≡ 1 → ⊥) → ones m < ones (set m b 1)
    more h n = let s = sum_by-set (λ x. cond (eqb x 1) 1 0) m b 1 0 h in omega (arith, rw (ne_eqb (get_or m b 0) 1 n) at s)

at_grows : (c m : List ℕ) (l : ℕ) → (force_at c m l ≡ m) ⊎ (ones m < ones (force_at c m l))
unfolding force_at
at_grows c m l = cond_both (forces m c l) (set m l 1) m (λ k. (k ≡ m) ⊎ (ones m < ones k)) (λ f. set_grows m l) (λ f. inl refl)

in_grows : (m c : List ℕ) → (force_in m c ≡ m) ⊎ (ones m < ones (force_in m c))
unfolding force_in
in_grows m c =
    cond_both (void c) m (fold (force_at c) m c) (λ k. (k ≡ m) ⊎ (ones m < ones k)) (λ v. inl refl) (λ v. fold_grows (force_at c) ones (at_grows c) c m)

-- lengths
at_long : (k : ℕ) (c m : List ℕ) (l : ℕ) → length m ≡ k → length (force_at c m l) ≡ k
unfolding force_at
at_long k c m l h = cond_both (forces m c l) (set m l 1) m (λ s. length s ≡ k) (λ f. length-set m l 1 ∙ h) (λ f. h)

in_long : (k : ℕ) (m c : List ℕ) → length m ≡ k → length (force_in m c) ≡ k
unfolding force_in
in_long k m c h =
    cond_both (void c) m (fold (force_at c) m c) (λ s. length s ≡ k) (λ v. h) (λ v. fold_keeps (force_at c) (λ m. length m ≡ k) c (λ m l i. at_long k c m l) m h)

module _ (n : ℕ) (cs : List (List ℕ)) where
  -- Inside every closed set: only what such a set holds is marked.
  module _ (In : ℕ → Type 0) (closed : Closed cs In) where
    abbrev Only : List ℕ → Type 0
    Only m = (l : ℕ) → marked m l ≡ true → In l

    pub forced_least : (l : ℕ) → marked (forced n cs) l ≡ true → In l
    unfolding forced pass force_in force_at forces
    forced_least =
        iterate_keeps (pass cs) Only (λ m. fold_keeps force_in Only cs (λ k c i s. in_only k c i s) m)
        (2 * n + 2) (replicate (2 * n + 2) 0) (λ l e. clash_of (sym e ∙ none_marked (2 * n + 2) l))
      where
        at_only : (c m : List ℕ) (l : ℕ) → Memᴰ c cs → void c ≡ false → Memᴰ l c → Only m → Only (force_at c m l)
        at_only c m l i v o s =
            cond_both (forces m c l) (set m l 1) m Only
            (λ f k e. ⊎_elim
            (λ q. subst In (sym q) (closed.rule c i v l o (λ x p d. s (opp x) (⊎_elim (λ w. absurd (d (eqb-true x l w))) (λ w. w) (or_cases (eqb x l) (marked m (opp x)) (list_all-mem _ c f x p))))))
            (s k) (set_was m l k e))
            (λ f. s)

        in_only : (m c : List ℕ) → Memᴰ c cs → Only m → Only (force_in m c)
        in_only m c i s =
            cond_both (void c) m (fold (force_at c) m c) Only (λ v. s) (λ v. fold_keeps (force_at c) Only c (λ k l o t. at_only c k l i v o t) m s)

  -- Closed: a further pass adds nothing, so a literal that its clause forces is marked.
  abbrev full : List ℕ
  full = forced n cs

  long : (m : List ℕ) → length m ≡ 2 * n + 2 → length (pass cs m) ≡ 2 * n + 2
  unfolding pass
  long m h = fold_keeps force_in (λ m. length m ≡ 2 * n + 2) cs (λ m c i. in_long (2 * n + 2) m c) m h

  pub forced_long : length full ≡ 2 * n + 2
  unfolding forced
  forced_long = iterate_keeps (pass cs) (λ m. length m ≡ 2 * n + 2) long (2 * n + 2) (replicate (2 * n + 2) 0) (length-replicate (2 * n + 2) 0)

  pub forced_still : pass cs full ≡ full
  unfolding forced pass
  forced_still =
      iterate_closed (pass cs) (λ m. length m ≡ 2 * n + 2) long ones (2 * n + 2) (λ m i. omega (arith, count_by-le-length (λ x. eqb x 1) m))
      (fold_grows force_in ones in_grows cs) (2 * n + 2) (replicate (2 * n + 2) 0) (length-replicate (2 * n + 2) 0) (omega arith)

  forced-marked : (c : List ℕ) (l : ℕ) → Memᴰ c cs → void c ≡ false → Memᴰ l c → l < 2 * n + 2 → forces full c l ≡ true → marked full l ≡ true
  unfolding pass force_in force_at
  forced-marked c l i v o h f =
      let a : force_in full c ≡ full = fold_still force_in ones in_grows cs full forced_still c i in
      let b : fold (force_at c) full c ≡ full = rw v at a in
      let d : force_at c full l ≡ full = fold_still (force_at c) ones (at_grows c) c full b l o in
      let e : set full l 1 ≡ full = rw f at d in
      eq-eqb _ 1 (ap (λ z. get_or z l 0) (sym e) ∙ get_or-set_same full l 1 0 (rw forced_long h))

  each : (x l : ℕ) → ((x ≡ l → ⊥) → marked full (opp x) ≡ true) → (eqb x l || marked full (opp x)) ≡ true
  each x l r = ⊎_elim (λ e. or_left (eqb x l) _ (eq-eqb x l e)) (λ n. or_right (eqb x l) _ (r n)) (cases_eq x l)

  pub forced_closed : Inside n cs → Closed cs (λ l. marked full l ≡ true)
  unfolding forces
  forced_closed inside =
      record { rule = λ c i v l o h. forced-marked c l i v o (high_literal l n (inside c i l o).1) (mem-list_all _ c (λ x p. each x l (h x p))) }
