-- A gate's pattern holds under an assignment exactly where the output has its kind's value of the inputs: the and-form
-- once for every number of inputs, parity once for every width.
use Rattle.std.proofs.Common.{◌≡◌, ℕ, ◌+◌, ◌*◌, Bool, true, false, cond, not, ◌&&◌, ◌||◌, ◌↔◌, List, [], ◌∷◌, ◌++◌, map, sym, refl, ap, ◌∙◌, ⊎_elim, rules, eq-eqb, ne_eqb}
use mathlib.Core.List.Memᴰ
use mathlib.Core.List.{Memᴰ}
use Rattle.std.specs.Cmp.{booleans_Decides}
use Rattle.std.specs.List.{list_any, list_all}
use Rattle.std.proofs.Math.Bool.{or-false, or-true, beq, xor}
use Rattle.std.proofs.lemmas.Bool.{or_cases, or_left, or_right, cases_eq}
use Rattle.std.proofs.lemmas.Bool.Decides.{Decides-at}
use Rattle.std.proofs.lemmas.List.Folds.{list_all-map}
use Rattle.ways.specs.Ways.{oddly}
use Rattle.ways.proofs.Bools.{agree}
use Rattle.ways.proofs.Rows.{list_any-mem, mem-list_any, filter-mem, mem-filter, list_all_alike, list_all-not, oddly-map}
use Rattle.ways.proofs.Counts.{filter_other}
use Rattle.tables.specs.Literal.{var, neg, opp, holds}
use Rattle.tables.specs.Clause.{satisfies, satisfies_all}
use Rattle.tables.proofs.Literals.{holds_pos, holds-neg, holds-opp}
use Rattle.tables.proofs.Clauses.{all_append}
use Rattle.rules.specs.Clean.{insert}
use Rattle.rules.specs.Kinds.{rule}
use Rattle.rules.specs.Patterns.{Gate, others, side, and_inputs, and_form, signings, odd, group, parity}
use Rattle.settling.proofs.Clean.{insert_sat}
use Rattle.settling.proofs.Proper.{Distinct, more}
use Rattle.circuits.proofs.Values.{and_rule, parity_rule}

module _ (a : ℕ → Bool) where
  -- Parity: the signings of one kind hold together exactly where the number of ones is of the other kind.
  under : (l : ℕ) (cs : List (List ℕ)) → satisfies_all a (map (λ c. l ∷ c) cs) ≡ (holds a l || satisfies_all a cs)
  under l [] = sym (or-true (holds a l))
  under l (c ∷ cs) = rw (under l cs) (search rules)

  none_sat : (odd : Bool) → satisfies_all a (signings [] odd) ≡ xor odd false
  unfolding signings xor
  none_sat odd = search rules

  cons : (v : ℕ) (vs : List ℕ) (odd : Bool) → signings (v ∷ vs) odd ≡ map (λ c. (2 * v) ∷ c) (signings vs odd) ++ map (λ c. (2 * v + 1) ∷ c) (signings vs (not odd))
  unfolding signings
  cons v vs odd = refl

  pub signings_sat : (vs : List ℕ) (odd : Bool) → satisfies_all a (signings vs odd) ≡ xor odd (oddly a vs)
  unfolding xor
  signings_sat [] odd = none_sat odd
  signings_sat (v ∷ vs) odd =
      rw (cons, all_append a _ _, under (2 * v) (signings vs odd), under (2 * v + 1) (signings vs (not odd)), holds_pos a v, holds-neg a v, signings_sat vs odd, signings_sat vs (not odd))
      (search rules)

  -- the gate's equation
  abbrev pub Meets : Gate → Type 0
  Meets g = a g.output ≡ rule g.kind a g.inputs

  others_sat : (c : List ℕ) (o : ℕ) → Memᴰ o c → satisfies a c ≡ (holds a o || satisfies a (others o c))
  unfolding others
  others_sat c o i = agree _ _
      (λ e. let (x, j, h) = list_any-mem (holds a) c e in
      ⊎_elim (λ q. or_left _ _ (ap (holds a) (sym q) ∙ h)) (λ n. or_right (holds a o) _ (mem-list_any (holds a) _ x (mem-filter _ c x j (ap not (ne_eqb x o n))) h)) (cases_eq x o))
      (λ e. ⊎_elim (mem-list_any (holds a) c o i) (λ f. let (x, j, h) = list_any-mem (holds a) _ f in mem-list_any (holds a) c x (filter-mem _ c x j).0 h) (or_cases _ _ e))

  side_sat : (o x : ℕ) → satisfies a (side o x) ≡ (not (holds a o) || not (holds a x))
  unfolding side
  side_sat o x = insert_sat a (opp o) (insert (opp x) []) ∙ rw (insert_sat a (opp x) [], holds-opp a o, holds-opp a x, or-false (not (holds a x)))

  sides_sat : (o : ℕ) (xs : List ℕ) → satisfies_all a (map (side o) xs) ≡ (not (holds a o) || not (satisfies a xs))
  sides_sat o [] = sym (or-true (not (holds a o)))
  sides_sat o (x ∷ xs) = rw (side_sat o x, sides_sat o xs) (search rules)

  not_some : (xs : List ℕ) → list_all (holds a) (map opp xs) ≡ not (list_any (holds a) xs)
  not_some xs = list_all-map (holds a) opp xs ∙ list_all_alike (λ x. holds a (opp x)) (λ x. not (holds a x)) xs (λ x i. holds-opp a x) ∙ list_all-not (holds a) xs

  and_value : (c : List ℕ) (o : ℕ) → rule (and_form c o).kind a (and_form c o).inputs ≡ cond (neg o) (satisfies a (others o c)) (not (satisfies a (others o c)))
  unfolding and_form and_inputs
  and_value c o = and_rule a o (and_inputs c o) ∙ go (neg o)
    where
      xs : List ℕ
      xs = others o c

      go : (b : Bool) → cond b (list_any (holds a) (cond b xs (map opp xs))) (list_all (holds a) (cond b xs (map opp xs))) ≡ cond b (list_any (holds a) xs) (not (list_any (holds a) xs))
      go true = refl
      go false = not_some xs

  pub and_meets : (c : List ℕ) (o : ℕ) → Memᴰ o c → (satisfies_all a (and_form c o).pattern ≡ true) ↔ Meets (and_form c o)
  unfolding and_form
  and_meets c o i =
      Decides-at _ (beq (a (var o)) _)
      (rw (others_sat c o i, sides_sat o (others o c)) (table (neg o) (a (var o)) (satisfies a (others o c)) ∙ ap (beq (a (var o))) (sym (and_value c o))))
      (booleans_Decides (a (var o)) _)
    where
      table : (b v s : Bool) → ((cond b (not v) v || s) && (not (cond b (not v) v) || not s)) ≡ beq v (cond b s (not s))
      table b v s = search rules

  xor_swap : (p q r : Bool) → xor p (xor q r) ≡ xor q (xor p r)
  unfolding xor
  xor_swap p q r = search rules

  parity_table : (p v s : Bool) → xor p (xor v s) ≡ beq v (cond p s (not s))
  unfolding xor
  parity_table p v s = search rules

  pub odd-others : (p : ℕ → Bool) (c : List ℕ) (o : ℕ) → Distinct c → Memᴰ o c → oddly p c ≡ xor (p o) (oddly p (others o c))
  unfolding others
  odd-others p [] o _ i = elim i [ ]
  odd-others p (x ∷ c) o (more h d) (Memᴰ.head q) = rw (eq-eqb x o (sym q), filter_other c o (λ i. h (Memᴰ.cast (sym q) i)), q)
  odd-others p (x ∷ c) o (more h d) (Memᴰ.tail i) = rw (ne_eqb x o (λ e. h (Memᴰ.cast e i)), odd-others p c o d i) (xor_swap (p x) (p o) (oddly p (others o c)))

  pub parity_meets : (c : List ℕ) (o : ℕ) → Distinct c → Memᴰ o c → (satisfies_all a (parity c o).pattern ≡ true) ↔ Meets (parity c o)
  unfolding parity group
  parity_meets c o d i =
      Decides-at _ (beq (a (var o)) _)
      (signings_sat (map var c) (odd c) ∙ rw (oddly-map var a c, odd-others (λ x. a (var x)) c o d i) (rw (parity_rule a (odd c) (others o c)) (parity_table (odd c) (a (var o)) (oddly (λ x. a (var x)) (others o c)))))
      (booleans_Decides (a (var o)) _)
