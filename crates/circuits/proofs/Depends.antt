-- Dependence in the rules' words, and that the marks of the definition are it.
use Rattle.std.proofs.Common.{◌≡◌, ℕ, ◌+◌, ◌<◌, true, List, set, replicate, fold, sym, ap, ◌∙◌, ⊎_elim, length-set}
use mathlib.Core.List.{Memᴰ}
use Rattle.std.proofs.lemmas.Bool.{cond_both}
use Rattle.std.proofs.lemmas.List.{length-replicate}
use Rattle.ways.proofs.Bools.{clash_of}
use Rattle.ways.proofs.Runs.{fold_keeps}
use Rattle.ways.proofs.Rows.{mem-list_any, list_any-mem}
use Rattle.tables.specs.Literal.{var}
use Rattle.rules.specs.Forced.{marked}
use Rattle.rules.specs.Patterns.{Gate}
use Rattle.rules.specs.Taking.{touched, depend_step, dependents}
use Rattle.settling.proofs.Forced.{set_was, none_marked}
use Rattle.circuits.proofs.Order.{Ordered, closed, mark_stays, own_mark}

-- dependence in the rules' words: v is o, or the output of a gate one of whose inputs depends on o
pub data Depends (gs : List Gate) (o : ℕ) : ℕ → Type 0 where
  itself : {v : ℕ} → v ≡ o → Depends gs o v
  through : {v : ℕ} (g : Gate) → Memᴰ g gs → v ≡ g.output → (x : ℕ) → Memᴰ x g.inputs → Depends gs o (var x) → Depends gs o v

module _ (n : ℕ) (gs : List Gate) (o : ℕ) where
  pub only_depends : (v : ℕ) → marked (dependents n gs o) v ≡ true → Depends gs o v
  unfolding dependents depend_step touched
  only_depends = fold_keeps depend_step All gs step (set (replicate (n + 1) 0) o 1)
      (λ v e. ⊎_elim itself (λ q. clash_of (sym q ∙ none_marked (n + 1) v)) (set_was (replicate (n + 1) 0) o v e))
    where
      All : List ℕ → Type 0
      All m = (v : ℕ) → marked m v ≡ true → Depends gs o v

      step : (m : List ℕ) (g : Gate) → Memᴰ g gs → All m → All (depend_step m g)
      step m g i h =
          cond_both (touched m g) (set m g.output 1) m All
          (λ e v f. let (x, j, t) = list_any-mem _ g.inputs e in ⊎_elim (λ q. through g i q x j (h (var x) t)) (h v) (set_was m g.output v f)) (λ e. h)

  pub all_depends : Ordered gs → ((h : Gate) → Memᴰ h gs → h.output < n + 1) → o < n + 1 → (v : ℕ) → Depends gs o v → marked (dependents n gs o) v ≡ true
  unfolding dependents touched
  all_depends ord inside low v (itself e) =
      mark_stays (n + 1) gs (set (replicate (n + 1) 0) o 1) v (rw e (own_mark n o low))
  all_depends ord inside low v (through g i q x j d) =
      let r = all_depends ord inside low (var x) d in
      ap (marked (fold depend_step (set (replicate (n + 1) 0) o 1) gs)) q
      ∙ closed (n + 1) ord (set (replicate (n + 1) 0) o 1) (length-set (replicate (n + 1) 0) o 1 ∙ length-replicate (n + 1) 0) g i (inside g i) (mem-list_any _ g.inputs x j r)
