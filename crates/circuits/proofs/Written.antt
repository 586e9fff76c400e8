-- Which variables a pattern speaks of, and that a gate's kind, output and inputs say the whole pattern: written out again
-- they are its clauses.
use Rattle.std.proofs.Common.{◌≡◌, ℕ, ◌+◌, ◌*◌, ◌<◌, Bool, true, false, cond, not, eqb, ltb, ◌⊎◌, List, [], ◌∷◌, map, get_or, sym, refl, ap, ◌∙◌, subst, ap₂, inl, inr, ⊎_elim, map-id, arith, le-ltb, lt-ltb, eq-eqb, ne_eqb}
use mathlib.Core.List.Memᴰ
use mathlib.Core.List.{Memᴰ}
use Rattle.std.proofs.Math.Path.{fun_ext}
use Rattle.std.proofs.lemmas.Bool.{cases_eq, cond_both}
use Rattle.std.proofs.lemmas.List.Folds.{map_fixed}
use Rattle.std.proofs.lemmas.Simd.{map-map}
use Rattle.ways.proofs.Bools.{clash_of}
use Rattle.ways.proofs.Rows.{mem-filter}
use Rattle.ways.proofs.Counts.{filter_other}
use Rattle.tables.specs.Literal.{var, neg, opp}
use Rattle.tables.proofs.Literals.{var_pos, var-neg, var_mono, var-opp, opp-opp, two_forms, neg_pos, neg-neg}
use Rattle.rules.specs.Clean.{insert}
use Rattle.rules.specs.Kinds.{signs, and_kind, parity_kind}
use Rattle.rules.specs.Patterns.{Gate, others, side, and_inputs, and_form, signings, odd, group, parity, output_literal, anchor_rest, written_out}
use Rattle.settling.proofs.Clean.{insert_in, insert_cases}
use Rattle.settling.proofs.Proper.{Rising, nil, cons, Proper}

-- Each clause of the pattern has a literal of the output, and only literals of the output and the inputs.
pub record Speaks (g : Gate) : Type 0 where
  pub output_in : (d : List ℕ) → Memᴰ d g.pattern → (l : ℕ) × Memᴰ l d × (var l ≡ g.output)
  pub only : (d : List ℕ) → Memᴰ d g.pattern → (l : ℕ) → Memᴰ l d → (var l ≡ g.output) ⊎ ((x : ℕ) × Memᴰ x g.inputs × (var x ≡ var l))

-- What was inserted is there.
pub insert-has : (x : ℕ) (ys : List ℕ) → Memᴰ x (insert x ys)
unfolding insert
insert-has x [] = Memᴰ.head refl
insert-has x (y ∷ ys) = insert_cases x y ys (Memᴰ x) Memᴰ.head (λ l. Memᴰ.head refl) (λ l. Memᴰ.tail (insert-has x ys))

-- The anchor's literals: the output's, or the variable of an input.
module _ (c : List ℕ) (o : ℕ) where
  split_other : (l : ℕ) → Memᴰ l c → (l ≡ o) ⊎ Memᴰ l (others o c)
  unfolding others
  split_other l i = ⊎_elim inl (λ n. inr (mem-filter (λ x. not (eqb x o)) c l i (ap not (ne_eqb l o n)))) (cases_eq l o)

  as_and_input : (l : ℕ) → Memᴰ l (others o c) → (x : ℕ) × Memᴰ x (and_inputs c o) × (var x ≡ var l)
  unfolding and_inputs
  as_and_input l i =
      cond_both (neg o) (others o c) (map opp (others o c)) (λ ys. (x : ℕ) × Memᴰ x ys × (var x ≡ var l)) (λ e. (l, i, refl))
      (λ e. (opp l, Memᴰ.map opp i, var-opp l))

  module _ (i : Memᴰ o c) where
    side_only : (y l : ℕ) → Memᴰ l (side o y) → (var l ≡ var o) ⊎ (var l ≡ var y)
    unfolding side
    side_only y l j =
        ⊎_elim (λ e. inl (ap var e ∙ var-opp o)) (λ k. ⊎_elim (λ e. inr (ap var e ∙ var-opp y)) (λ k. absurd (Memᴰ.not-nil k)) (insert_in (opp y) [] l k))
        (insert_in (opp o) (insert (opp y) []) l j)

    pub and_speaks : Speaks (and_form c o)
    unfolding and_form side
    and_speaks =
        record {
          output_in = λ d k. ⊎_elim (λ e. (o, subst (Memᴰ o) (sym e) i, refl)) (λ k. let (y, j, q) = Memᴰ.of_map (side o) (others o c) k in (opp o, subst (Memᴰ (opp o)) q (insert-has (opp o) (insert (opp y) [])), var-opp o)) (Memᴰ.cases_cons k);
          only = λ d k l j. ⊎_elim (λ e. in_anchor l (subst (Memᴰ l) e j)) (λ k. let (y, h, q) = Memᴰ.of_map (side o) (others o c) k in
              ⊎_elim inl (λ e. let (x, w, r) = as_and_input y h in inr (x, w, r ∙ sym e)) (side_only y l (subst (Memᴰ l) (sym q) j))) (Memᴰ.cases_cons k);
        }
      where
        in_anchor : (l : ℕ) → Memᴰ l c → (var l ≡ var o) ⊎ ((x : ℕ) × Memᴰ x (and_inputs c o) × (var x ≡ var l))
        in_anchor l j = ⊎_elim (λ e. inl (ap var e)) (λ h. inr (as_and_input l h)) (split_other l j)

-- Each signing has the variables that it signs, in their order.
pub signing_vars : (vs : List ℕ) (p : Bool) (d : List ℕ) → Memᴰ d (signings vs p) → map var d ≡ vs
unfolding signings
signing_vars [] false d k = ⊎_elim (λ e. ap (map var) e) (λ k. absurd (Memᴰ.not-nil k)) (Memᴰ.cases_cons k)
signing_vars [] true d k = absurd (Memᴰ.not-nil k)
signing_vars (v ∷ vs) p d k =
    ⊎_elim
    (λ k. let (e, j, q) = Memᴰ.of_map (λ c. (2 * v) ∷ c) (signings vs p) k in ap (map var) (sym q) ∙ ap₂ (λ x xs. x ∷ xs) (var_pos v) (signing_vars vs p e j))
    (λ k. let (e, j, q) = Memᴰ.of_map (λ c. (2 * v + 1) ∷ c) (signings vs (not p)) k in ap (map var) (sym q) ∙ ap₂ (λ x xs. x ∷ xs) (var-neg v) (signing_vars vs (not p) e j))
    (Memᴰ.append_cases (map (λ c. (2 * v) ∷ c) (signings vs p)) {t = map (λ c. (2 * v + 1) ∷ c) (signings vs (not p))} k)

module _ (c : List ℕ) (o : ℕ) (i : Memᴰ o c) where
  pub parity_speaks : Speaks (parity c o)
  unfolding parity group
  parity_speaks =
      record {
        output_in = λ d k. Memᴰ.of_map var d (subst (Memᴰ (var o)) (sym (signing_vars (map var c) (odd c) d k)) (Memᴰ.map var i));
        only = λ d k l j. let e = signing_vars (map var c) (odd c) d k in
            let (x, h, q) = Memᴰ.of_map var c (subst (Memᴰ (var l)) e (Memᴰ.map var j)) in
            ⊎_elim (λ r. inl (sym q ∙ ap var r)) (λ r. inr (2 * var x, Memᴰ.map (λ y. 2 * var y) r, var_pos (var x) ∙ q)) (split_other c o x h);
      }

-- A rising row without one of its elements, and that element put back.
back_in : {xs : List ℕ} → Rising xs → (f : ℕ → ℕ) → ((x y : ℕ) → Memᴰ x xs → Memᴰ y xs → x < y → f x < f y) → (o : ℕ) → Memᴰ o xs
    → insert (f o) (map f (others o xs)) ≡ map f xs
unfolding others insert
back_in nil f up o i = elim i [ ]
back_in (cons {x = x} {xs = xs} h r) f up o (Memᴰ.head q) = rw (eq-eqb x o (sym q), filter_other xs o (λ j. let a = h o j in absurd (omega arith))) (front xs f (λ y j. up x y (Memᴰ.head refl) (Memᴰ.tail j) (h y j)) q)
  where
    front : (ys : List ℕ) (f : ℕ → ℕ) → ((y : ℕ) → Memᴰ y ys → f x < f y) → o ≡ x → insert (f o) (map f ys) ≡ f x ∷ map f ys
    front [] f l e = rw e
    front (y ∷ ys) f l e = let a = l y (Memᴰ.head refl) in rw (e, ne_eqb (f x) (f y) (λ (z : f x ≡ f y). omega arith), lt-ltb (f x) (f y) a)
back_in (cons {x = x} {xs = xs} h r) f up o (Memᴰ.tail i) =
    let a : x < o = h o i in let b : f x < f o = up x o (Memᴰ.head refl) (Memᴰ.tail i) a in
    rw (ne_eqb x o (λ (z : x ≡ o). omega arith), insert, ne_eqb (f o) (f x) (λ (z : f o ≡ f x). omega arith), le-ltb (f o) (f x) (omega arith))
    (ap (λ t. f x ∷ t) (back_in r f (λ y z j k. up y z (Memᴰ.tail j) (Memᴰ.tail k)) o i))

-- Small facts: the signs of inputs, a literal from its variable and sign.
pub signs_low : (ls : List ℕ) → signs ls < 3
unfolding signs
signs_low ls = grind arith

plus_of : (l : ℕ) → neg l ≡ false → 2 * var l ≡ l
plus_of l e = ⊎_elim (λ p. sym p.0) (λ p. clash_of (sym (ap neg p.0 ∙ neg-neg (var l)) ∙ e)) (two_forms l)

minus_of : (l : ℕ) → neg l ≡ true → 2 * var l + 1 ≡ l
minus_of l e = ⊎_elim (λ p. clash_of (sym e ∙ ap neg p.0 ∙ neg_pos (var l))) (λ p. sym p.0) (two_forms l)

module _ (c : List ℕ) (o : ℕ) (proper : Proper c) (i : Memᴰ o c) where
  anchor_again : insert o (others o c) ≡ c
  anchor_again = ap (insert o) (sym (map-id (others o c))) ∙ back_in proper.rises (λ x. x) (λ x y j k l. l) o i ∙ map-id c

  pub and_written : written_out (and_form c o) ≡ (and_form c o).pattern
  unfolding written_out output_literal anchor_rest and_form and_kind and_inputs
  and_written = go (neg o) refl
    where
      xs : List ℕ
      xs = others o c

      K : Bool → ℕ
      K b = cond b 3 0 + signs (cond b xs (map opp xs))

      go : (b : Bool) → neg o ≡ b
          → cond (ltb (K b) 6)
          (insert (cond (ltb (K b) 3) (2 * var o) (2 * var o + 1)) (cond (ltb (K b) 3) (map opp (cond b xs (map opp xs))) (cond b xs (map opp xs)))
          ∷ map (side (cond (ltb (K b) 3) (2 * var o) (2 * var o + 1))) (cond (ltb (K b) 3) (map opp (cond b xs (map opp xs))) (cond b xs (map opp xs))))
          (signings (insert (var o) (map var (cond b xs (map opp xs)))) (eqb (K b) 6))
          ≡ c ∷ map (side o) xs
      go false e =
          let s : signs (map opp xs) < 3 = signs_low (map opp xs) in
          rw (lt-ltb (0 + signs (map opp xs)) 6 (omega arith), lt-ltb (0 + signs (map opp xs)) 3 (omega arith), plus_of o e, map-map opp opp xs, map_fixed (λ x. opp (opp x)) xs (λ k d h. opp-opp (get_or xs k d)), anchor_again)
      go true e =
          let s : signs xs < 3 = signs_low xs in
          rw (lt-ltb (3 + signs xs) 6 (omega arith), le-ltb (3 + signs xs) 3 (omega arith), minus_of o e, anchor_again)

  var_rises : (x y : ℕ) → Memᴰ x c → Memᴰ y c → x < y → var x < var y
  var_rises x y j k l =
      let apart : var x ≡ var y → ⊥ = λ e. let q : x ≡ y = proper.single x y j k e in absurd (omega arith) in
      let m = var_mono x y l in omega arith

  pub parity_written : written_out (parity c o) ≡ (parity c o).pattern
  unfolding written_out output_literal anchor_rest parity parity_kind group
  parity_written = go (odd c)
    where
      xs : List ℕ
      xs = others o c

      vs : insert (var o) (map var (map (λ x. 2 * var x) xs)) ≡ map var c
      vs = ap (insert (var o)) (map-map var (λ x. 2 * var x) xs ∙ ap (λ f. map f xs) (fun_ext (λ x. var_pos (var x)))) ∙ back_in proper.rises var var_rises o i

      go : (p : Bool)
          → cond (ltb (cond p 6 7) 6)
          (insert (cond (ltb (cond p 6 7) 3) (2 * var o) (2 * var o + 1)) (cond (ltb (cond p 6 7) 3) (map opp (map (λ x. 2 * var x) xs)) (map (λ x. 2 * var x) xs))
          ∷ map (side (cond (ltb (cond p 6 7) 3) (2 * var o) (2 * var o + 1))) (cond (ltb (cond p 6 7) 3) (map opp (map (λ x. 2 * var x) xs)) (map (λ x. 2 * var x) xs)))
          (signings (insert (var o) (map var (map (λ x. 2 * var x) xs))) (eqb (cond p 6 7) 6))
          ≡ signings (map var c) p
      go true = ap (λ w. signings w true) vs
      go false = ap (λ w. signings w false) vs
