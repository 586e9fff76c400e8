-- Filling in the gates in their order gives each output its rule's value, and changes nothing else.
use Rattle.std.proofs.Common.{◌≡◌, ℕ, zero, suc, ◌-◌, ◌≤◌, Bool, true, false, eqb, List, [], ◌∷◌, length, set, fold, sym, refl, ap, ◌∙◌, subst, arith, length-set, get_or-set_other, get_or-set_same}
use mathlib.Core.List.{Memᴰ}
use Rattle.tables.specs.Literal.{var, valued}
use Rattle.rules.specs.Kinds.{rule}
use Rattle.rules.specs.Patterns.{Gate}
use Rattle.rules.specs.Fill.{bit, fill_step}
use Rattle.circuits.proofs.Values.{rule_alike}
use Rattle.circuits.proofs.Order.{Ordered, none, next}

-- A row of values with one value changed.
pub valued_other : (values : List ℕ) (o v b : ℕ) → 1 ≤ o → (v ≡ o → ⊥) → valued (set values (o - 1) b) v ≡ valued values v
valued_other values o zero b h n = refl
valued_other values o (suc v) b h n = ap (λ t. eqb t 1) (get_or-set_other values (o - 1) v b 0 (λ e. n (omega arith)))

pub valued_same : (values : List ℕ) (o b : ℕ) → 1 ≤ o → o ≤ length values → valued (set values (o - 1) b) o ≡ eqb b 1
valued_same values zero b h l = absurd (omega arith)
valued_same values (suc o) b h l = let e : suc o - 1 ≡ o = omega arith in rw e (ap (λ t. eqb t 1) (get_or-set_same values o b 0 (omega arith)))

pub bit_is : (b : Bool) → eqb (bit b) 1 ≡ b
unfolding bit
bit_is true = refl
bit_is false = refl

-- The outputs are variables from 1 to n.
abbrev pub Within : ℕ → List Gate → Type 0
Within n gs = (g : Gate) → Memᴰ g gs → (1 ≤ g.output) × (g.output ≤ n)

-- One step of the filling: it sets the gate's output, and nothing else.
pub step_long : (values : List ℕ) (g : Gate) → length (fill_step values g) ≡ length values
unfolding fill_step
step_long values g = length-set values (g.output - 1) (bit (rule g.kind (valued values) g.inputs))

pub step_other : (values : List ℕ) (g : Gate) (v : ℕ) → 1 ≤ g.output → (v ≡ g.output → ⊥) → valued (fill_step values g) v ≡ valued values v
unfolding fill_step
step_other values g v h k = valued_other values g.output v _ h k

pub step_same : (values : List ℕ) (g : Gate) → 1 ≤ g.output → g.output ≤ length values → valued (fill_step values g) g.output ≡ rule g.kind (valued values) g.inputs
unfolding fill_step
step_same values g h l = valued_same values g.output (bit (rule g.kind (valued values) g.inputs)) h l ∙ bit_is _

pub fill_long : (gs : List Gate) (values : List ℕ) → length (fold fill_step values gs) ≡ length values
fill_long [] values = refl
fill_long (g ∷ gs) values = fill_long gs (fill_step values g) ∙ step_long values g

-- A variable that is no output keeps its value.
pub fill_other : (n : ℕ) (gs : List Gate) → Within n gs → (values : List ℕ) (v : ℕ) → ((g : Gate) → Memᴰ g gs → v ≡ g.output → ⊥) → valued (fold fill_step values gs) v ≡ valued values v
fill_other n [] w values v k = refl
fill_other n (g ∷ gs) w values v k =
    fill_other n gs (λ h i. w h (Memᴰ.tail i)) (fill_step values g) v (λ h i. k h (Memᴰ.tail i))
    ∙ step_other values g v (w g (Memᴰ.head refl)).0 (k g (Memᴰ.head refl))

-- In the end each output has its rule's value of the values in the end.
pub fill_rules : (n : ℕ) {gs : List Gate} → Ordered gs → Within n gs → (values : List ℕ) → n ≤ length values
    → (g : Gate) → Memᴰ g gs → valued (fold fill_step values gs) g.output ≡ rule g.kind (valued (fold fill_step values gs)) g.inputs
fill_rules n none w values l h i = elim i [ ]
fill_rules n (next {g = g} {gs = gs} s b o) w values l h (Memᴰ.head q) = subst (λ f. valued end f.output ≡ rule f.kind (valued end) f.inputs) (sym q) first
  where
    end : List ℕ
    end = fold fill_step (fill_step values g) gs

    low : (1 ≤ g.output) × (g.output ≤ n)
    low = w g (Memᴰ.head refl)

    rest : Within n gs
    rest f i = w f (Memᴰ.tail i)

    inputs : (x : ℕ) → Memᴰ x g.inputs → valued values (var x) ≡ valued end (var x)
    inputs x i = sym (fill_other n gs rest (fill_step values g) (var x) (λ f j. (b f j).apart x i) ∙ step_other values g (var x) low.0 (s x i))

    first : valued end g.output ≡ rule g.kind (valued end) g.inputs
    first =
        fill_other n gs rest (fill_step values g) g.output (λ f j. (b f j).other) ∙ step_same values g low.0 (omega (arith, low.1))
        ∙ rule_alike (valued values) (valued end) g.kind g.inputs inputs
fill_rules n (next {g = g} s b o) w values l h (Memᴰ.tail i) =
    fill_rules n o (λ f j. w f (Memᴰ.tail j)) (fill_step values g) (rw (step_long values g) l) h i
