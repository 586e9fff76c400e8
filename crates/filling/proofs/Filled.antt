-- Filling in the first n values alone: neither a gate nor a linked variable looks behind them.
use Rattle.std.proofs.Common.{◌≡◌, ℕ, zero, suc, ◌-◌, ◌*◌, ◌≤◌, Bool, true, false, cond, eqb, List, [], ◌∷◌, ℤ, map, length, take, drop, set, sym, refl, ap, ◌∙◌, subst, ⊎_elim, arith, length-take}
use mathlib.Core.List.Memᴰ
use mathlib.Core.List.{Memᴰ}
use Rattle.std.specs.List.{All, fold, range_with_len}
use Rattle.std.proofs.lemmas.List.{take-set-le, set_past, get_or-take, get_or_past}
use Rattle.std.proofs.Math.Seq.{take-set-lt}
use Rattle.std.proofs.lemmas.List.Elements.{All-head, All-tail, All-take, All-drop}
use Rattle.std.proofs.lemmas.Bool.{cases_lt}
use Rattle.ways.proofs.Rows.{filter-mem}
use Rattle.ways.proofs.Members.{range-mem}
use Rattle.tables.specs.Literal.{literal, var, neg, opp, holds, valued}
use Rattle.tables.proofs.Literals.{var_pos, var-opp, holds_alike}
use Rattle.rules.specs.Pairs.{stands}
use Rattle.rules.specs.Patterns.{Gate, others}
use Rattle.rules.specs.Fill.{bit, fill_step, fill_gates, filled}
use Rattle.circuits.proofs.Values.{rule_alike}
use Rattle.gates.specs.declared.site.Site.{Site}
use Rattle.gates.specs.Sites.{entries_of, anchor_of, gate_of, gates_of}
use Rattle.gates.specs.Inputs.{input, inputs}
use Rattle.filling.specs.Filling.{shown}
use Rattle.gates.proofs.SiteGates.{inputs_are}

pub all_mem : {X : Type 0} (P : X → Type 0) (xs : List X) → All P xs → (x : X) → Memᴰ x xs → P x
all_mem P [] h x i = absurd (Memᴰ.not-nil i)
all_mem P (y ∷ xs) h x i = ⊎_elim (λ e. subst P (sym e) (All-head P y xs h)) (λ j. all_mem P xs (All-tail P y xs h) x j) (Memᴰ.cases_cons i)

-- The inputs of a gate are of variables that its anchor has.
input_var : (site : Site) (x : ℕ) → var (input site x) ≡ var x
unfolding input
input_var site x = go site.parity (neg site.output)
  where
    go : (p b : Bool) → var (cond p (2 * var x) (cond b x (opp x))) ≡ var x
    go true b = var_pos (var x)
    go false true = refl
    go false false = var-opp x

abbrev Low : ℕ → ℤ → Type 0
Low n z = var (literal z) ≤ n

pub input_inside : (n : ℕ) (row : List ℤ) (site : Site) → All (λ e. var (literal e) ≤ n) row → (x : ℕ) → Memᴰ x (gate_of row site).inputs → var x ≤ n
unfolding inputs others
input_inside n row site h x i =
    let (y, k, q) = Memᴰ.of_map (input site) (others site.output (anchor_of row site)) (subst (Memᴰ x) (inputs_are row site) i) in
    let (e, w, r) = Memᴰ.of_map literal (entries_of row site) (filter-mem _ (anchor_of row site) y k).0 in
    let low : var (literal e) ≤ n = all_mem (Low n) (entries_of row site) (All-take (Low n) (site.end - site.start) (drop site.start row) (All-drop (Low n) site.start row h)) e w in
    subst (λ v. v ≤ n) (ap var r ∙ sym (input_var site y) ∙ ap var q) low

-- The first n values after the gates are those of the first n before them.
valued_take : (n v : ℕ) (values : List ℕ) → v ≤ n → valued (take n values) v ≡ valued values v
valued_take n zero values h = refl
valued_take n (suc v) values h = ap (λ t. eqb t 1) (get_or-take n values v 0 (omega arith))

take_set : (n : ℕ) (values : List ℕ) (i b : ℕ) → take n (set values i b) ≡ set (take n values) i b
take_set n values i b =
    ⊎_elim (λ h. take-set-lt n values i b h) (λ h. take-set-le n values i b h ∙ sym (set_past (take n values) i b (omega (arith, length-take n values)))) (cases_lt i n)

step_front : (n : ℕ) (values : List ℕ) (g : Gate) → ((x : ℕ) → Memᴰ x g.inputs → var x ≤ n) → take n (fill_step values g) ≡ fill_step (take n values) g
unfolding fill_step
step_front n values g h =
    take_set n values (g.output - 1) _
    ∙ ap (λ b. set (take n values) (g.output - 1) (bit b)) (sym (rule_alike (valued (take n values)) (valued values) g.kind g.inputs (λ x i. valued_take n (var x) values (h x i))))

gates_front : (n : ℕ) (gs : List Gate) (values : List ℕ) → ((g : Gate) → Memᴰ g gs → (x : ℕ) → Memᴰ x g.inputs → var x ≤ n) → take n (fill_gates gs values) ≡ fill_gates gs (take n values)
unfolding fill_gates
gates_front n [] values h = refl
gates_front n (g ∷ gs) values h =
    gates_front n gs (fill_step values g) (λ k i. h k (Memᴰ.tail i)) ∙ ap (λ v. fold fill_step v gs) (step_front n values g (h g (Memᴰ.head refl)))

-- A variable stands for a literal of the first n variables.
stands_inside : (n : ℕ) (st : List ℕ) (v : ℕ) → All (λ l. var l ≤ n) st → v ≤ n → var (stands st v) ≤ n
unfolding stands
stands_inside n st v h k = ⊎_elim (λ lt. h v (2 * v) lt) (λ le. rw (get_or_past st v (2 * v) le, var_pos v) k) (cases_lt v (length st))

map_alike : {X Y : Type 0} (f g : X → Y) (xs : List X) → ((x : X) → Memᴰ x xs → f x ≡ g x) → map f xs ≡ map g xs
map_alike f g [] h = refl
map_alike f g (x ∷ xs) h = rw (h x (Memᴰ.head refl), map_alike f g xs (λ y i. h y (Memᴰ.tail i)))

pub filled_front : (n : ℕ) (row : List ℤ) (sites : List Site) (st given : List ℕ) → All (λ e. var (literal e) ≤ n) row → All (λ l. var l ≤ n) st
    → filled n st (gates_of row sites) given ≡ map (shown st (fill_gates (gates_of row sites) (take n given))) (range_with_len 1 n)
unfolding filled shown
filled_front n row sites st given h k = map_alike _ _ (range_with_len 1 n) (λ v i. ap bit (same v i))
  where
    inside : (g : Gate) → Memᴰ g (gates_of row sites) → (x : ℕ) → Memᴰ x g.inputs → var x ≤ n
    inside g i = let (site, w, q) = Memᴰ.of_map (gate_of row) sites i in subst (λ (f : Gate). (x : ℕ) → Memᴰ x f.inputs → var x ≤ n) q (input_inside n row site h)

    same : (v : ℕ) → Memᴰ v (range_with_len 1 n) → holds (valued (fill_gates (gates_of row sites) given)) (stands st v) ≡ holds (valued (fill_gates (gates_of row sites) (take n given))) (stands st v)
    same v i =
        let (low, high) = range-mem 1 n v i in
        let at : var (stands st v) ≤ n = stands_inside n st v k (omega arith) in
        holds_alike (valued (fill_gates (gates_of row sites) given)) (valued (fill_gates (gates_of row sites) (take n given))) (stands st v) (sym (valued_take n (var (stands st v)) (fill_gates (gates_of row sites) given) at) ∙ ap (λ vs. valued vs (var (stands st v))) (gates_front n (gates_of row sites) given inside))
