-- Filling in is the only way to give every gate its value: whoever agrees with the given values on the variables that are no
-- output, and gives each output its rule's value, has the filled-in values.
use Rattle.std.proofs.Common.{◌≡◌, ℕ, ◌≤◌, Bool, List, ◌∷◌, length, fold, sym, refl, ap, ◌∙◌, ⊎_elim, arith}
use mathlib.Core.List.Memᴰ
use mathlib.Core.List.{Memᴰ}
use Rattle.std.proofs.lemmas.Bool.{cases_eq}
use Rattle.tables.specs.Literal.{var, valued}
use Rattle.rules.specs.Patterns.{Gate}
use Rattle.rules.specs.Fill.{fill_step}
use Rattle.circuits.proofs.Values.{rule_alike}
use Rattle.circuits.proofs.Patterns.{Meets}
use Rattle.circuits.proofs.Order.{Ordered, none, next}
use Rattle.circuits.proofs.Filled.{Within, step_long, step_other, step_same}

-- v is no output of the gates.
abbrev pub NoOutput : List Gate → ℕ → Type 0
NoOutput gs v = (g : Gate) → Memᴰ g gs → v ≡ g.output → ⊥

-- P: the variables that the gates speak of, inputs and outputs.
module _ (P : ℕ → Type 0) (n : ℕ) (a : ℕ → Bool) where
  pub fill_only : {gs : List Gate} → Ordered gs → Within n gs → ((g : Gate) → Memᴰ g gs → (x : ℕ) → Memᴰ x g.inputs → P (var x))
      → ((g : Gate) → Memᴰ g gs → Meets a g) → (values : List ℕ) → n ≤ length values
      → ((v : ℕ) → P v → NoOutput gs v → valued values v ≡ a v) → (v : ℕ) → P v → valued (fold fill_step values gs) v ≡ a v
  fill_only none w inside meets values long same v p = same v p (λ g i. absurd (Memᴰ.not-nil i))
  fill_only (next {g = g} {gs = gs} self before o) w inside meets values long same v p =
      fill_only o (λ h i. w h (Memᴰ.tail i)) (λ h i. inside h (Memᴰ.tail i)) (λ h i. meets h (Memᴰ.tail i)) (fill_step values g) long' same' v p
    where
      here : Memᴰ g (g ∷ gs)
      here = Memᴰ.head refl

      long' : n ≤ length (fill_step values g)
      long' = rw (step_long values g) long

      inputs : (x : ℕ) → Memᴰ x g.inputs → valued values (var x) ≡ a (var x)
      inputs x i = same (var x) (inside g here x i) (λ h j e. ⊎_elim (λ q. self x i (e ∙ ap (λ (f : Gate). f.output) q)) (λ k. (before h k).apart x i e) (Memᴰ.cases_cons j))

      same' : (v : ℕ) → P v → NoOutput gs v → valued (fill_step values g) v ≡ a v
      same' v p k =
          ⊎_elim
          (λ q. ap (valued (fill_step values g)) q ∙ step_same values g (w g here).0 (omega (arith, (w g here).1))
          ∙ rule_alike (valued values) a g.kind g.inputs inputs ∙ sym (meets g here) ∙ ap a (sym q))
          (λ other. step_other values g v (w g here).0 other
          ∙ same v p (λ h j q. ⊎_elim (λ r. other (q ∙ ap (λ (f : Gate). f.output) r)) (λ r. k h r q) (Memᴰ.cases_cons j)))
          (cases_eq v g.output)
