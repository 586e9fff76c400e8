-- Levels: one more than the inputs' highest, so they rise from inputs to outputs, and at most the number of gates.
use Rattle.std.proofs.Common.{◌≡◌, ℕ, zero, suc, ◌+◌, ◌<◌, ◌≤◌, max, List, [], ◌∷◌, length, get_or, set, replicate, fold, sym, refl, ap, ◌∙◌, subst, ⊎_elim, arith, length-set, get_or-set_other, get_or-set_same}
use mathlib.Core.List.{Memᴰ}
use Rattle.std.proofs.lemmas.List.{length-replicate}
use Rattle.ways.proofs.Members.{get_or_same, set_cases}
use Rattle.tables.specs.Literal.{var}
use Rattle.rules.specs.Patterns.{Gate}
use Rattle.rules.specs.Circuit.{highest, level_step, levels}
use Rattle.circuits.proofs.Order.{Ordered, none, next}

-- the highest looks at its inputs only
high_like : (lv kv ins : List ℕ) (k : ℕ) → ((x : ℕ) → Memᴰ x ins → get_or lv (var x) 0 ≡ get_or kv (var x) 0)
    → fold (λ k x. max k (get_or lv (var x) 0)) k ins ≡ fold (λ k x. max k (get_or kv (var x) 0)) k ins
high_like lv kv [] k h = refl
high_like lv kv (x ∷ ins) k h = rw (h x (Memᴰ.head refl)) (high_like lv kv ins (max k (get_or kv (var x) 0)) (λ y i. h y (Memᴰ.tail i)))

level_other : (gs : List Gate) (lv : List ℕ) (v : ℕ) → ((h : Gate) → Memᴰ h gs → v ≡ h.output → ⊥) → get_or (fold level_step lv gs) v 0 ≡ get_or lv v 0
unfolding level_step
level_other [] lv v n = refl
level_other (g ∷ gs) lv v n =
    level_other gs (level_step lv g) v (λ h i. n h (Memᴰ.tail i)) ∙ get_or-set_other lv g.output v _ 0 (n g (Memᴰ.head refl))

pub level_rules : {gs : List Gate} → Ordered gs → (lv : List ℕ) → ((h : Gate) → Memᴰ h gs → h.output < length lv)
    → (g : Gate) → Memᴰ g gs → get_or (fold level_step lv gs) g.output 0 ≡ suc (highest (fold level_step lv gs) g.inputs)
unfolding level_step highest
level_rules none lv l h i = elim i [ ]
level_rules (next {g = g} {gs = gs} s b o) lv l h (Memᴰ.head q) = subst (λ f. get_or fin f.output 0 ≡ suc (highest fin f.inputs)) (sym q) first
  where
    fin : List ℕ
    fin = fold level_step (level_step lv g) gs

    inputs : (x : ℕ) → Memᴰ x g.inputs → get_or lv (var x) 0 ≡ get_or fin (var x) 0
    inputs x i = sym (level_other gs (level_step lv g) (var x) (λ h j. (b h j).apart x i) ∙ get_or-set_other lv g.output (var x) _ 0 (s x i))

    first : get_or fin g.output 0 ≡ suc (highest fin g.inputs)
    first =
        level_other gs (level_step lv g) g.output (λ h j. (b h j).other) ∙ get_or-set_same lv g.output _ 0 (l g (Memᴰ.head refl))
        ∙ ap suc (high_like lv fin g.inputs 0 inputs)
level_rules (next {g = g} s b o) lv l h (Memᴰ.tail i) = level_rules o (level_step lv g) (λ f j. rw (length-set lv g.output (suc (highest lv g.inputs))) (l f (Memᴰ.tail j))) h i

-- The highest is no lower than any input's level, and no higher than a bound on all of them.
high_over : (lv : List ℕ) (inputs : List ℕ) (k : ℕ) → k ≤ fold (λ k x. max k (get_or lv (var x) 0)) k inputs
high_over lv [] k = omega arith
high_over lv (x ∷ inputs) k = omega (arith, high_over lv inputs (max k (get_or lv (var x) 0)))

high_above : (lv : List ℕ) (inputs : List ℕ) (k x : ℕ) → Memᴰ x inputs → get_or lv (var x) 0 ≤ fold (λ k x. max k (get_or lv (var x) 0)) k inputs
high_above lv [] k x i = elim i [ ]
high_above lv (y ∷ inputs) k x (Memᴰ.head q) = rw q (omega (arith, high_over lv inputs (max k (get_or lv (var y) 0))))
high_above lv (y ∷ inputs) k x (Memᴰ.tail i) = high_above lv inputs (max k (get_or lv (var y) 0)) x i

high_below : (lv : List ℕ) (inputs : List ℕ) (k b : ℕ) → k ≤ b → ((v : ℕ) → get_or lv v 0 ≤ b) → fold (λ k x. max k (get_or lv (var x) 0)) k inputs ≤ b
high_below lv [] k b h all = h
high_below lv (x ∷ inputs) k b h all = let q = all (var x) in high_below lv inputs (max k (get_or lv (var x) 0)) b (omega arith) all

pub highest_above : (lv : List ℕ) (inputs : List ℕ) (x : ℕ) → Memᴰ x inputs → get_or lv (var x) 0 ≤ highest lv inputs
unfolding highest
highest_above lv inputs x i = high_above lv inputs 0 x i

pub highest_below : (lv : List ℕ) (inputs : List ℕ) (b : ℕ) → ((v : ℕ) → get_or lv v 0 ≤ b) → highest lv inputs ≤ b
unfolding highest
highest_below lv inputs b all = high_below lv inputs 0 b (omega arith) all

-- After j more gates no level is more than j higher than before.
run_low : (gs : List Gate) (lv : List ℕ) (b : ℕ) → ((v : ℕ) → get_or lv v 0 ≤ b) → (v : ℕ) → get_or (fold level_step lv gs) v 0 ≤ b + length gs
unfolding level_step highest
run_low [] lv b h v = let q = h v in omega arith
run_low (g ∷ gs) lv b h v = let q = run_low gs (level_step lv g) (b + 1) (λ u. one u) v in omega arith
  where
    one : (u : ℕ) → get_or (set lv g.output (suc (highest lv g.inputs))) u 0 ≤ b + 1
    one u =
        ⊎_elim (λ e. let q = high_below lv g.inputs 0 b (omega arith) h in omega (arith, e)) (λ e. let q = h u in omega (arith, e))
        (set_cases lv g.output u (suc (highest lv g.inputs)) 0)

-- "hence at most the number of gates"
pub levels_low : (n : ℕ) (gs : List Gate) (v : ℕ) → get_or (levels n gs) v 0 ≤ length gs
unfolding levels
levels_low n gs v = let q = run_low gs (replicate (n + 1) 0) 0 (λ u. omega (arith, get_or_same {X = ℕ} (n + 1) u 0)) v in omega arith

module _ (n : ℕ) {gs : List Gate} (order : Ordered gs) (inside : (g : Gate) → Memᴰ g gs → g.output ≤ n) where
  room : (g : Gate) → Memᴰ g gs → g.output < length {A = ℕ} (replicate (n + 1) 0)
  room g i = rw (length-replicate (n + 1) zero) (let q = inside g i in omega arith)

  -- "A gate's level is one more than its inputs' highest"
  pub level_is : (g : Gate) → Memᴰ g gs → get_or (levels n gs) g.output 0 ≡ suc (highest (levels n gs) g.inputs)
  unfolding levels
  level_is g i = level_rules order (replicate (n + 1) 0) room g i

  -- A variable that is no output has level 0.
  pub level_free : (v : ℕ) → ((g : Gate) → Memᴰ g gs → v ≡ g.output → ⊥) → get_or (levels n gs) v 0 ≡ 0
  unfolding levels
  level_free v k = level_other gs (replicate (n + 1) 0) v k ∙ get_or_same {X = ℕ} (n + 1) v 0

  -- Levels rise from inputs to outputs: in the order by level every input is known.
  pub level_rises : (g : Gate) → Memᴰ g gs → (x : ℕ) → Memᴰ x g.inputs → get_or (levels n gs) (var x) 0 < get_or (levels n gs) g.output 0
  level_rises g i x j = let q = highest_above (levels n gs) g.inputs x j in omega (arith, level_is g i)
