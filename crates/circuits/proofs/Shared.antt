-- No settled clause is in two patterns of taken gates; and the gates written out again give back, with the residue, the
-- settled table's set of clauses.
use Rattle.std.proofs.Common.{◌≡◌, ℕ, ◌≤◌, true, false, not, List, ◌∷◌, ◌++◌, length, filter, flat_map, sym, refl, ap, ◌∙◌, subst, ⊎_elim, arith}
use mathlib.Core.List.Memᴰ
use mathlib.Core.List.{Memᴰ}
use Rattle.std.proofs.lemmas.Bool.{not-true, cond_both, cases_Bool}
use Rattle.ways.specs.Ways.{among}
use Rattle.ways.proofs.Bools.{agree}
use Rattle.ways.proofs.Rows.{list_all-mem, list_any-mem, filter-mem, mem-filter}
use Rattle.ways.proofs.Members.{among-mem, mem-among, flat_mem, mem_flat}
use Rattle.ways.proofs.Counts.{filter_none}
use Rattle.rules.specs.Patterns.{Gate, found, written_out}
use Rattle.rules.specs.Circuit.{in_pattern, residue}
use Rattle.circuits.proofs.Order.{Ordered, none, next}
use Rattle.circuits.proofs.Written.{Speaks}

-- Two gates with a common clause would each have the other's output among their variables: of two outputs, one an input of
-- the gate that stands before it.
pub shared_once : {gs : List Gate} → Ordered gs → ((g : Gate) → Memᴰ g gs → Speaks g) → (d : List ℕ) → length (filter (λ g. among d g.pattern) gs) ≤ 1
shared_once none s d = omega arith
shared_once (next {g = g} {gs = gs} self before o) s d =
    cond_both (among d g.pattern) (g ∷ filter (λ h. among d h.pattern) gs) (filter (λ h. among d h.pattern) gs) (λ hs. length hs ≤ 1)
    (λ e. rw (filter_none (λ h. among d h.pattern) gs (later e)) (omega arith)) (λ e. shared_once o (λ h i. s h (Memᴰ.tail i)) d)
  where
    later : among d g.pattern ≡ true → (h : Gate) → Memᴰ h gs → among d h.pattern ≡ true → ⊥
    later e h i f =
        let (l, j, q) = (s h (Memᴰ.tail i)).output_in d (among-mem d h.pattern f) in
        ⊎_elim (λ r. (before h i).other (sym r ∙ q)) (λ r. (before h i).apart r.0 r.1 (r.2 ∙ q)) ((s g (Memᴰ.head refl)).only d (among-mem d g.pattern e) l j)

pub in_pattern_gate : (gs : List Gate) (d : List ℕ) → in_pattern gs d ≡ true → (g : Gate) × Memᴰ g gs × (among d g.pattern ≡ true)
unfolding in_pattern
in_pattern_gate gs d e = list_any-mem (λ g. among d g.pattern) gs e

-- Demand 2: none lost and none added.
module _ (gs : List Gate) (cs : List (List ℕ)) (there : (g : Gate) → Memᴰ g gs → found cs g ≡ true) (written : (g : Gate) → Memᴰ g gs → written_out g ≡ g.pattern) where
  pub give_back : (d : List ℕ) → among d (flat_map written_out gs ++ residue gs cs) ≡ among d cs
  unfolding residue found
  give_back d = agree _ _
      (λ e. mem-among d cs (⊎_elim from_gate (λ i. (filter-mem _ cs d i).0) (Memᴰ.append_cases (flat_map written_out gs) (among-mem d _ e))))
      (λ e. mem-among d _ (⊎_elim (in_gate (among-mem d cs e)) (in_residue (among-mem d cs e)) (cases_Bool (in_pattern gs d))))
    where
      from_gate : Memᴰ d (flat_map written_out gs) → Memᴰ d cs
      from_gate i =
          let (g, j, k) = flat_mem written_out gs d i in
          among-mem d cs (list_all-mem _ g.pattern (there g j) d (subst (Memᴰ d) (written g j) k))

      in_gate : Memᴰ d cs → in_pattern gs d ≡ true → Memᴰ d (flat_map written_out gs ++ filter (λ c. not (in_pattern gs c)) cs)
      in_gate i e =
          let (g, j, k) = in_pattern_gate gs d e in
          Memᴰ.append_left _ (mem_flat written_out gs g d j (subst (Memᴰ d) (sym (written g j)) (among-mem d g.pattern k)))

      in_residue : Memᴰ d cs → in_pattern gs d ≡ false → Memᴰ d (flat_map written_out gs ++ filter (λ c. not (in_pattern gs c)) cs)
      in_residue i e = Memᴰ.append_right (flat_map written_out gs) (mem-filter (λ c. not (in_pattern gs c)) cs d i (ap not e))

  -- What is left over is in no pattern: set equality alone would allow a residue that is too large.
  pub residue_apart : (c : List ℕ) → Memᴰ c (residue gs cs) → in_pattern gs c ≡ false
  unfolding residue
  residue_apart c i = not-true _ (filter-mem _ cs c i).1
