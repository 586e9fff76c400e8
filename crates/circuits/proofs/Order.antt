-- The gates taken stand in an order of evaluation: each behind those that its inputs depend on. So they have no ring.
use Rattle.std.proofs.Common.{◌≡◌, ℕ, zero, ◌+◌, ◌<◌, Bool, true, false, not, eqb, List, [], ◌∷◌, ◌++◌, length, set, replicate, fold, filter, sym, refl, ap, ◌∙◌, subst, ⊎_elim, length-set, get_or-set_same, eq-eqb}
use mathlib.Core.List.Memᴰ
use mathlib.Core.List.{Memᴰ}
use Rattle.std.specs.List.{list_any}
use Rattle.std.proofs.lemmas.Bool.{not-true, and_parts, cond_both}
use Rattle.std.proofs.lemmas.List.{length-replicate}
use Rattle.ways.proofs.Bools.{clash_of}
use Rattle.ways.proofs.Runs.{fold_keeps}
use Rattle.ways.proofs.Rows.{mem-list_any, list_any-mem, none_of, filter-mem}
use Rattle.ways.proofs.Members.{set_cases}
use Rattle.tables.specs.Literal.{var}
use Rattle.rules.specs.Forced.{marked}
use Rattle.rules.specs.Patterns.{Gate}
use Rattle.rules.specs.Taking.{touched, depend_step, dependents, is_output, allowed, place}
use Rattle.settling.proofs.Forced.{set_was}

-- no input of g is the output of h
abbrev pub Apart : Gate → Gate → Type 0
Apart g h = (x : ℕ) → Memᴰ x g.inputs → var x ≡ h.output → ⊥

pub record Before (g h : Gate) : Type 0 where
  pub apart : Apart g h
  pub other : g.output ≡ h.output → ⊥

-- in order: no input of a gate is its own output or that of a later gate, and no two outputs are equal
pub data Ordered : List Gate → Type 0 where
  none : Ordered []
  next : {g : Gate} {gs : List Gate} → Apart g g → ((h : Gate) → Memᴰ h gs → Before g h) → Ordered gs → Ordered (g ∷ gs)

self_of : {gs : List Gate} → Ordered gs → (h : Gate) → Memᴰ h gs → Apart h h
self_of none h i = elim i [ ]
self_of (next {g = g} s b o) h (Memᴰ.head e) = subst (λ k. Apart k k) (sym e) s
self_of (next s b o) h (Memᴰ.tail i) = self_of o h i

keep_ordered : (p : Gate → Bool) {gs : List Gate} → Ordered gs → Ordered (filter p gs)
keep_ordered p none = none
keep_ordered p (next {g = g} {gs = gs} s b o) =
    cond_both (p g) (g ∷ filter p gs) (filter p gs) Ordered (λ e. next s (λ h i. b h (filter-mem p gs h i).0) (keep_ordered p o)) (λ e. keep_ordered p o)

append_ordered : {gs hs : List Gate} → Ordered gs → Ordered hs → ((g : Gate) → Memᴰ g gs → (h : Gate) → Memᴰ h hs → Before g h) → Ordered (gs ++ hs)
append_ordered none k c = k
append_ordered (next {g = g} {gs = gs} s b o) k c =
    next s (λ h i. ⊎_elim (b h) (c g (Memᴰ.head refl) h) (Memᴰ.append_cases gs i)) (append_ordered o k (λ f i. c f (Memᴰ.tail i)))

set_keeps : (m : List ℕ) (b v : ℕ) → marked m v ≡ true → marked (set m b 1) v ≡ true
set_keeps m b v e = ⊎_elim (λ q. ap (λ x. eqb x 1) q) (λ q. ap (λ x. eqb x 1) q ∙ e) (set_cases m b v 1 0)

-- the marks of what depends on a variable: once a gate's input is marked, its output is
module _ (k : ℕ) where
  -- a mark that no later gate sets was there
  mark_was : (gs : List Gate) (m : List ℕ) (v : ℕ) → ((h : Gate) → Memᴰ h gs → v ≡ h.output → ⊥) → marked (fold depend_step m gs) v ≡ true → marked m v ≡ true
  unfolding depend_step
  mark_was [] m v n e = e
  mark_was (g ∷ gs) m v n e =
      cond_both (touched m g) (set m g.output 1) m (λ k. marked k v ≡ true → marked m v ≡ true)
      (λ t f. ⊎_elim (λ q. absurd (n g (Memᴰ.head refl) q)) (λ q. q) (set_was m g.output v f)) (λ t f. f)
      (mark_was gs (depend_step m g) v (λ h i. n h (Memᴰ.tail i)) e)

  step_stays : (m : List ℕ) (g : Gate) (v : ℕ) → marked m v ≡ true → marked (depend_step m g) v ≡ true
  unfolding depend_step
  step_stays m g v f = cond_both (touched m g) (set m g.output 1) m (λ k. marked k v ≡ true) (λ t. set_keeps m g.output v f) (λ t. f)

  pub mark_stays : (gs : List Gate) (m : List ℕ) (v : ℕ) → marked m v ≡ true → marked (fold depend_step m gs) v ≡ true
  mark_stays gs m v e = fold_keeps depend_step (λ m. marked m v ≡ true) gs (λ m g i. step_stays m g v) m e

  step_long : (m : List ℕ) (g : Gate) → length m ≡ k → length (depend_step m g) ≡ k
  unfolding depend_step
  step_long m g l = cond_both (touched m g) (set m g.output 1) m (λ s. length s ≡ k) (λ t. length-set m g.output 1 ∙ l) (λ t. l)

  step_sets : (m : List ℕ) (g : Gate) → length m ≡ k → g.output < k → touched m g ≡ true → marked (depend_step m g) g.output ≡ true
  unfolding depend_step
  step_sets m g l b t = rw t (eq-eqb _ 1 (get_or-set_same m g.output 1 0 (rw l b)))

  pub closed : {gs : List Gate} → Ordered gs → (m : List ℕ) → length m ≡ k → (h : Gate) → Memᴰ h gs → h.output < k
      → touched (fold depend_step m gs) h ≡ true → marked (fold depend_step m gs) h.output ≡ true
  unfolding touched
  closed none m l h i b e = elim i [ ]
  closed (next {g = g} {gs = gs} s bf o) m l h (Memᴰ.head q) b e =
      let e' = subst (λ f. list_any (λ x. marked (fold depend_step (depend_step m g) gs) (var x)) f.inputs ≡ true) q e in
      let (x, i, t) = list_any-mem _ g.inputs e' in
      let u : marked (depend_step m g) (var x) ≡ true = mark_was gs (depend_step m g) (var x) (λ h j. (bf h j).apart x i) t in
      let w : marked m (var x) ≡ true = step_was x i u in
      subst (λ f. marked (fold depend_step (depend_step m g) gs) f.output ≡ true) (sym q)
      (mark_stays gs (depend_step m g) g.output (step_sets m g l (subst (λ f. f.output < k) q b) (mem-list_any _ g.inputs x i w)))
    where
      step_was : (x : ℕ) → Memᴰ x g.inputs → marked (depend_step m g) (var x) ≡ true → marked m (var x) ≡ true
      step_was x i u = mark_was (g ∷ []) m (var x) (λ h j. ⊎_elim (λ q r. s x i (r ∙ ap (λ (f : Gate). f.output) q)) (λ n. absurd (Memᴰ.not-nil n)) (Memᴰ.cases_cons j)) u
  closed (next {g = g} s bf o) m l h (Memᴰ.tail i) b e = closed o (depend_step m g) (step_long m g l) h i b e

pub own_mark : (n o : ℕ) → o < n + 1 → marked (set (replicate (n + 1) 0) o 1) o ≡ true
own_mark n o h = eq-eqb _ 1 (get_or-set_same (replicate (n + 1) 0) o 1 0 (rw (length-replicate (n + 1) zero) h))

-- a gate that is allowed can be put in its place
module _ (n : ℕ) (gs : List Gate) (g : Gate) (o : Ordered gs) (inside : (h : Gate) → Memᴰ h gs → h.output < n + 1) (in_g : g.output < n + 1) (self : Apart g g) (ok : allowed n gs g ≡ true) where
  d : List ℕ
  d = dependents n gs g.output

  fresh : (h : Gate) → Memᴰ h gs → h.output ≡ g.output → ⊥
  unfolding allowed is_output
  fresh h i e = clash_of (sym (eq-eqb h.output g.output e) ∙ none_of _ gs (not-true _ (and_parts _ _ ok).0) h i)

  clear : touched d g ≡ false
  unfolding allowed d
  clear = not-true _ (and_parts (not (is_output gs g.output)) _ ok).1

  d_closed : (h : Gate) → Memᴰ h gs → (x : ℕ) → Memᴰ x h.inputs → marked d (var x) ≡ true → marked d h.output ≡ true
  unfolding d dependents touched
  d_closed h i x j e = closed (n + 1) o (set (replicate (n + 1) 0) g.output 1) (length-set (replicate (n + 1) 0) g.output 1 ∙ length-replicate (n + 1) 0) h i (inside h i) (mem-list_any _ h.inputs x j e)

  d_own : marked d g.output ≡ true
  unfolding d dependents
  d_own = mark_stays (n + 1) gs (set (replicate (n + 1) 0) g.output 1) g.output (own_mark n g.output in_g)

  untouched : (x : ℕ) → Memᴰ x g.inputs → marked d (var x) ≡ true → ⊥
  unfolding touched
  untouched x i t = clash_of (sym t ∙ none_of _ g.inputs clear x i)

  pub place_ordered : Ordered (place n gs g)
  unfolding place d
  place_ordered = append_ordered (keep_ordered _ o) (next self late (keep_ordered _ o)) cross
    where
      off : (f : Gate) → Memᴰ f gs → not (marked d f.output) ≡ true → (x : ℕ) → Memᴰ x f.inputs → marked d (var x) ≡ true → ⊥
      off f i e x j t = clash_of (sym (d_closed f i x j t) ∙ not-true _ e)

      late : (h : Gate) → Memᴰ h (filter (λ h. marked d h.output) gs) → Before g h
      late h i =
          let (j, t) = filter-mem _ gs h i in
          record { apart = λ x k q. untouched x k (ap (marked d) q ∙ t); other = λ q. fresh h j (sym q) }

      cross : (f : Gate) → Memᴰ f (filter (λ h. not (marked d h.output)) gs) → (h : Gate) → Memᴰ h (g ∷ filter (λ h. marked d h.output) gs) → Before f h
      cross f i h j =
          let (k, e) = filter-mem _ gs f i in
          ⊎_elim
          (λ q. subst (Before f) (sym q) (record { apart = λ x w p. off f k e x w (ap (marked d) p ∙ d_own); other = fresh f k }))
          (λ j. let (w, t) = filter-mem _ gs h j in
          record { apart = λ x v p. off f k e x v (ap (marked d) p ∙ t); other = λ p. clash_of (sym t ∙ ap (marked d) (sym p) ∙ not-true _ e) })
          (Memᴰ.cases_cons j)
