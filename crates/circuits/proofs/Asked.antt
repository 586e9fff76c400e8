-- Asking gives the filled-in value: each question goes one level down, and the levels are enough.
use Rattle.std.proofs.Common.{◌≡◌, ℕ, zero, suc, ◌<◌, ◌≤◌, Bool, true, false, eqb, List, [], ◌∷◌, length, get_or, fold, sym, refl, ap, ◌∙◌, subst, ⊎_elim, arith, eq-eqb, ne_eqb, eqb-true}
use mathlib.Core.List.{Memᴰ}
use Rattle.std.proofs.lemmas.Bool.{both_ways, cases_Bool}
use Rattle.ways.proofs.Rows.{list_any-mem, mem-list_any, none_of}
use Rattle.tables.specs.Literal.{var, valued}
use Rattle.rules.specs.Kinds.{rule}
use Rattle.rules.specs.Patterns.{Gate}
use Rattle.rules.specs.Taking.{is_output}
use Rattle.rules.specs.Circuit.{highest, levels}
use Rattle.rules.specs.Fill.{fill_step}
use Rattle.rules.specs.Ask.{ask_root}
use Rattle.circuits.proofs.Values.{rule_alike}
use Rattle.circuits.proofs.Order.{Ordered, none, next}
use Rattle.circuits.proofs.Filled.{Within, fill_other, fill_rules}
use Rattle.circuits.proofs.Levels.{level_is, level_rises, levels_low}

-- An output is some gate's, and what is no output is none's.
pub gate_of_output : (gs : List Gate) (v : ℕ) → is_output gs v ≡ true → (g : Gate) × Memᴰ g gs × (g.output ≡ v)
unfolding is_output
gate_of_output gs v e = let (g, i, q) = list_any-mem (λ g. eqb g.output v) gs e in (g, i, eqb-true g.output v q)

pub no_output : (gs : List Gate) (v : ℕ) → is_output gs v ≡ false → (g : Gate) → Memᴰ g gs → v ≡ g.output → ⊥
unfolding is_output
no_output gs v e g i q = both_ways _ (none_of (λ g. eqb g.output v) gs e g i) (eq-eqb g.output v (sym q))

pub is_output_mem : (gs : List Gate) (g : Gate) → Memᴰ g gs → is_output gs g.output ≡ true
unfolding is_output
is_output_mem gs g i = mem-list_any (λ h. eqb h.output g.output) gs g i (eq-eqb g.output g.output refl)

-- One question: to a variable that is no output, and to a gate's output.
module _ (F : ℕ → Bool) (v : ℕ) where
  abbrev pick : Bool → Gate → Bool
  pick value g = elim (eqb g.output v) [ true ↦ rule g.kind F g.inputs | false ↦ value ]

  miss : (value : Bool) (g : Gate) → (v ≡ g.output → ⊥) → pick value g ≡ value
  miss value g k = rw (pick, ne_eqb g.output v (λ e. k (sym e)))

  hit : (value : Bool) (g : Gate) → g.output ≡ v → pick value g ≡ rule g.kind F g.inputs
  hit value g e = rw (pick, eq-eqb g.output v e)

  pick_other : (gs : List Gate) → ((g : Gate) → Memᴰ g gs → v ≡ g.output → ⊥) → (value : Bool) → fold pick value gs ≡ value
  pick_other [] k value = refl
  pick_other (g ∷ gs) k value = ap (λ x. fold pick x gs) (miss value g (k g (Memᴰ.head refl))) ∙ pick_other gs (λ h i. k h (Memᴰ.tail i)) value

  pick_gate : {gs : List Gate} → Ordered gs → (g : Gate) → Memᴰ g gs → g.output ≡ v → (value : Bool) → fold pick value gs ≡ rule g.kind F g.inputs
  pick_gate none g i e value = elim i [ ]
  pick_gate (next {g = h} {gs = gs} s b o) g (Memᴰ.head q) e value =
      let f : h.output ≡ v = ap (λ (k : Gate). k.output) (sym q) ∙ e in
      ap (λ x. fold pick x gs) (hit value h f) ∙ pick_other gs (λ k i r. (b k i).other (f ∙ r)) (rule h.kind F h.inputs) ∙ ap (λ (k : Gate). rule k.kind F k.inputs) (sym q)
  pick_gate (next {g = h} {gs = gs} s b o) g (Memᴰ.tail i) e value = pick_gate o g i e (pick value h)

module _ (n : ℕ) {gs : List Gate} (order : Ordered gs) (w : Within n gs) (given : List ℕ) (long : n ≤ length given) where
  abbrev end : ℕ → Bool
  end = valued (fold fill_step given gs)

  level : ℕ → ℕ
  level v = get_or (levels n gs) v 0

  inside : (g : Gate) → Memᴰ g gs → g.output ≤ n
  inside g i = (w g i).1

  ask_other : (deep v : ℕ) → is_output gs v ≡ false → ask_root deep gs (valued given) v ≡ end v
  unfolding ask_root
  ask_other zero v e = sym (fill_other n gs w given v (no_output gs v e))
  ask_other (suc deep) v e = pick_other (ask_root deep gs (valued given)) v gs (no_output gs v e) (valued given v) ∙ sym (fill_other n gs w given v (no_output gs v e))

  ask_level : (deep v : ℕ) → level v ≤ deep → ask_root deep gs (valued given) v ≡ end v
  unfolding ask_root level
  ask_level zero v h = ⊎_elim (λ e. let (g, i, q) = gate_of_output gs v e in absurd (no g i q)) (ask_other zero v) (cases_Bool (is_output gs v))
    where
      no : (g : Gate) → Memᴰ g gs → g.output ≡ v → ⊥
      no g i e = let q = level_is n order inside g i in
          let r : get_or (levels n gs) v 0 ≡ suc (highest (levels n gs) g.inputs) = ap (λ u. get_or (levels n gs) u 0) (sym e) ∙ q in omega (arith, r)
  ask_level (suc deep) v h =
      ⊎_elim
      (λ e. let (g, i, q) = gate_of_output gs v e in
      pick_gate (ask_root deep gs (valued given)) v order g i q (valued given v)
      ∙ rule_alike (ask_root deep gs (valued given)) end g.kind g.inputs (λ x j. ask_level deep (var x) (less g i q x j))
      ∙ sym (fill_rules n order w given long g i) ∙ ap end q)
      (ask_other (suc deep) v) (cases_Bool (is_output gs v))
    where
      less : (g : Gate) → Memᴰ g gs → g.output ≡ v → (x : ℕ) → Memᴰ x g.inputs → get_or (levels n gs) (var x) 0 ≤ deep
      less g i q x j = let r : get_or (levels n gs) (var x) 0 < get_or (levels n gs) v 0 = subst (λ u. get_or (levels n gs) (var x) 0 < get_or (levels n gs) u 0) q (level_rises n order inside g i x j) in omega (arith, r, h)

  pub asked_is : (v : ℕ) → ask_root (length gs) gs (valued given) v ≡ end v
  unfolding level
  asked_is v = ask_level (length gs) v (levels_low n gs v)
