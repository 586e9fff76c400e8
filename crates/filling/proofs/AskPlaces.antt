-- Laws of the row that says which gate has which variable as its output.
use Rattle.std.proofs.Common.{◌≡◌, ℕ, suc, ◌+◌, ◌-◌, ◌<◌, List, length, get_or, set, None, Some, sym, ap, ◌∙◌, subst, ⊎_elim, arith, get_or-set_other, get_or-set_same}
use Rattle.std.proofs.lemmas.Bool.{cases_eq, cases_lt}
use Rattle.std.proofs.lemmas.List.{get_or_default}
use Rattle.ways.proofs.Members.{get_or-mem}
use Rattle.tables.specs.Literal.{var}
use Rattle.gates.specs.declared.site.Site.{Site}
use Rattle.filling.specs.Places.{IsPlacedTo, IsPlaced, IsGateFor}
use Rattle.filling.proofs.Filled.{all_mem}

-- One gate more is placed.
module _ (sites : List Site) (i : ℕ) (places : List ℕ) (e : Site) where
  placed_more : i < length sites → var (get_or sites i e).output < length places → IsPlacedTo sites i places
      → IsPlacedTo sites (i + 1) (set places (var (get_or sites i e).output) (i + 1))
  placed_more h r p = record { none = none; some = some }
    where
      written : get_or (set places (var (get_or sites i e).output) (i + 1)) (var (get_or sites i e).output) 0 ≡ i + 1
      written = get_or-set_same places (var (get_or sites i e).output) (i + 1) 0 r

      at : (d : Site) → var (get_or sites i d).output ≡ var (get_or sites i e).output
      at d = ap (λ (s : Site). var s.output) (get_or_default sites i d e h)

      none : (v : ℕ) → get_or (set places (var (get_or sites i e).output) (i + 1)) v 0 ≡ 0 → (k : ℕ) (d : Site) → k < i + 1 → v ≡ var (get_or sites k d).output → ⊥
      none v z k d lt q =
          ⊎_elim
          (λ w. let y : get_or (set places (var (get_or sites i e).output) (i + 1)) (var (get_or sites i e).output) 0 ≡ 0 = subst (λ x. get_or (set places (var (get_or sites i e).output) (i + 1)) x 0 ≡ 0) w z in omega (arith, written))
          (λ n. ⊎_elim (λ low. p.none v (sym (get_or-set_other places (var (get_or sites i e).output) v (i + 1) 0 n) ∙ z) k d low q)
          (λ high. let w : k ≡ i = omega arith in n (q ∙ ap (λ j. var (get_or sites j d).output) w ∙ at d)) (cases_lt k i))
          (cases_eq v (var (get_or sites i e).output))

      some : (v k : ℕ) (d : Site) → get_or (set places (var (get_or sites i e).output) (i + 1)) v 0 ≡ suc k → (k < i + 1) × (var (get_or sites k d).output ≡ v)
      some v k d z =
          ⊎_elim
          (λ w. let y : get_or (set places (var (get_or sites i e).output) (i + 1)) (var (get_or sites i e).output) 0 ≡ suc k = subst (λ x. get_or (set places (var (get_or sites i e).output) (i + 1)) x 0 ≡ suc k) w z in
          let j : k ≡ i = omega (arith, written) in (omega arith, ap (λ j. var (get_or sites j d).output) j ∙ at d ∙ sym w))
          (λ n. let (low, q) = p.some v k d (sym (get_or-set_other places (var (get_or sites i e).output) v (i + 1) 0 n) ∙ z) in (omega arith, q))
          (cases_eq v (var (get_or sites i e).output))

pub placed_at : (sites : List Site) (i : ℕ) (places : List ℕ) (e : Site) (o : ℕ) → o ≡ var (get_or sites i e).output → i < length sites → o < length places → IsPlacedTo sites i places
    → IsPlacedTo sites (i + 1) (set places o (i + 1))
placed_at sites i places e o q h r p =
    subst (λ x. IsPlacedTo sites (i + 1) (set places x (i + 1))) (sym q) (placed_more sites i places e h (subst (λ x. x < length places) q r) p)

pub none_placed : (sites : List Site) (places : List ℕ) → ((v : ℕ) → get_or places v 0 ≡ 0) → IsPlacedTo sites 0 places
none_placed sites places z = record {
  none = λ v e k d lt q. absurd (omega arith);
  some = λ v k d e. absurd (omega (arith, z v));
}

module _ (sites : List Site) (places : List ℕ) (v p : ℕ) (placed : IsPlaced sites places) (is : p ≡ get_or places v 0) where
  pub place_within : (d : Site) → (p ≡ 0 → ⊥) → p - 1 < length sites
  place_within d n = let e : get_or places v 0 ≡ suc (p - 1) = omega arith in (placed.some v (p - 1) d e).0

  pub no_gate : p ≡ 0 → IsGateFor sites v None
  no_gate e = all_mem (λ s. v ≡ var s.output → ⊥) sites (λ k d lt. placed.none v (sym is ∙ e) k d lt)

  pub gate_there : (d : Site) → (p ≡ 0 → ⊥) → IsGateFor sites v (Some (get_or sites (p - 1) d))
  gate_there d n =
      let e : get_or places v 0 ≡ suc (p - 1) = omega arith in let (lt, q) = placed.some v (p - 1) d e in (get_or-mem sites (p - 1) d lt, q)
