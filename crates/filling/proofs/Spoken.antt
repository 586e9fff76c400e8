-- A clause is in the pattern only of gates whose outputs it speaks of.
use Rattle.std.proofs.Common.{◌≡◌, ◌∙◌, sym, ap, subst, ℕ, suc, ◌<◌, Bool, true, false, ◌&&◌, List, [], ◌∷◌, ℤ, length, get_or, eqb, Some, None, arith, eq-eqb}
use mathlib.Core.List.Memᴰ
use mathlib.Core.List.{Memᴰ}
use Rattle.std.specs.List.{list_any}
use Rattle.std.proofs.lemmas.Bool.{and_parts, false_from_ne_true, eqb-true}
use Rattle.ways.specs.Ways.{among}
use Rattle.ways.proofs.Bools.{agree}
use Rattle.ways.proofs.Rows.{list_any-map, list_any-mem, mem-list_any}
use Rattle.tables.specs.Literal.{var}
use Rattle.rules.specs.Circuit.{in_pattern}
use Rattle.gates.specs.declared.site.Site.{Site}
use Rattle.gates.specs.Sites.{gate_of, gates_of}
use Rattle.filling.specs.Places.{IsGateFor}
use Rattle.filling.specs.Outputs.{Apart, Speaking, in_pattern_at}

-- A site whose output none of some others has.
pub apart_from : (s : Site) (sites : List Site) → ((j : ℕ) (d : Site) → j < length sites → var s.output ≡ var (get_or sites j d).output → ⊥) → (t : Site) → Memᴰ t sites → var s.output ≡ var t.output → ⊥
apart_from s [] h t i = elim i [ ]
apart_from s (u ∷ sites) h t (Memᴰ.head e) = λ q. h 0 t (omega arith) (q ∙ ap (λ (x : Site). var x.output) e)
apart_from s (u ∷ sites) h t (Memᴰ.tail i) = apart_from s sites (λ j d k. h (suc j) d (omega arith)) t i

-- Two sites with one output are the same.
single : (sites : List Site) → Apart sites → (s t : Site) → Memᴰ s sites → Memᴰ t sites → var s.output ≡ var t.output → s ≡ t
single [] a s t i j e = absurd (Memᴰ.not-nil i)
single (u ∷ sites) a s t (Memᴰ.head p) (Memᴰ.head q) e = p ∙ sym q
single (u ∷ sites) a s t (Memᴰ.head p) (Memᴰ.tail j) e =
    absurd (apart_from u sites (λ j d k. a 0 (suc j) d (omega arith) (omega arith)) t j (ap (λ (x : Site). var x.output) (sym p) ∙ e))
single (u ∷ sites) a s t (Memᴰ.tail i) (Memᴰ.head q) e =
    absurd (apart_from u sites (λ j d k. a 0 (suc j) d (omega arith) (omega arith)) s i (ap (λ (x : Site). var x.output) (sym q) ∙ sym e))
single (u ∷ sites) a s t (Memᴰ.tail i) (Memᴰ.tail j) e = single sites (λ j k d l m. a (suc j) (suc k) d (omega arith) (omega arith)) s t i j e

both : (p q : Bool) → p ≡ true → q ≡ true → (p && q) ≡ true
both true q e f = f
both false q e f = e

module _ (row : List ℤ) (sites : List Site) (c : List ℕ) where
  abbrev test : ℕ → Site → Bool
  test v s = eqb (var s.output) v && among c (gate_of row s).pattern

  -- A clause is in the pattern of the gate with an output, or of none where there is none.
  pub at_none : (v : ℕ) → IsGateFor sites v None → in_pattern_at row sites c v ≡ false
  unfolding in_pattern_at
  at_none v h =
      false_from_ne_true _
      (λ e. let (s, i, q) = list_any-mem (test v) sites e in h s i (sym (eqb-true (var s.output) v (and_parts (eqb (var s.output) v) (among c (gate_of row s).pattern) q).0)))

  pub at_gate : (v : ℕ) (s : Site) → Apart sites → IsGateFor sites v (Some s) → in_pattern_at row sites c v ≡ among c (gate_of row s).pattern
  unfolding in_pattern_at
  at_gate v s apart (i, e) =
      agree _ _
      (λ q. let (t, j, r) = list_any-mem (test v) sites q in
      let (o, a) = and_parts (eqb (var t.output) v) (among c (gate_of row t).pattern) r in
      subst (λ (x : Site). among c (gate_of row x).pattern ≡ true) (single sites apart t s j i (eqb-true (var t.output) v o ∙ sym e)) a)
      (λ a. mem-list_any (test v) sites s i (both _ _ (eq-eqb (var s.output) v e) a))

  -- So the gates of its own variables tell.
  pub told : Speaking row sites → in_pattern (gates_of row sites) c ≡ list_any (λ l. in_pattern_at row sites c (var l)) c
  unfolding in_pattern in_pattern_at
  told speaking =
      list_any-map (gate_of row) (λ g. among c g.pattern) sites
      ∙ agree _ _
      (λ e. let (s, i, a) = list_any-mem (λ (s : Site). among c (gate_of row s).pattern) sites e in
      let (l, j, q) = list_any-mem (λ l. eqb (var s.output) (var l)) c (speaking s i c a) in
      mem-list_any (λ l. list_any (test (var l)) sites) c l j (mem-list_any (test (var l)) sites s i (both _ _ q a)))
      (λ e. let (l, j, q) = list_any-mem (λ l. list_any (test (var l)) sites) c e in
      let (s, i, r) = list_any-mem (test (var l)) sites q in
      mem-list_any (λ (s : Site). among c (gate_of row s).pattern) sites s i (and_parts (eqb (var s.output) (var l)) (among c (gate_of row s).pattern) r).1)
