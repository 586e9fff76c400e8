-- Laws of asking: what is remembered, which gate has an output, the levels that fall, and the inputs one by one.
use Rattle.std.proofs.Common.{◌≡◌, ℕ, ◌+◌, ◌-◌, ◌*◌, ◌<◌, ◌≤◌, Bool, true, false, cond, ◌⊎◌, List, [], ◌∷◌, length, get_or, set, replicate, Option, None, Some, add_assoc, add-zero, sym, ap, ◌∙◌, subst, ⊎_elim, arith, get_or-set_other}
use mathlib.Core.List.Memᴰ
use mathlib.Core.List.{Memᴰ}
use Rattle.std.specs.List.{count_by}
use Rattle.std.proofs.lemmas.Bool.{cases_eq}
use Rattle.std.proofs.lemmas.List.Sums.{sum_by-cons}
use Rattle.ways.proofs.Members.{get_or_same, set_cases}
use Rattle.tables.specs.Literal.{var, holds, valued}
use Rattle.tables.proofs.Literals.{holds_alike}
use Rattle.rules.specs.Kinds.{rule}
use Rattle.rules.specs.Pairs.{stands}
use Rattle.rules.specs.Ask.{ask_root, asked}
use Rattle.rules.specs.Patterns.{Gate}
use Rattle.rules.specs.Circuit.{levels}
use Rattle.rules.specs.Fill.{fill_gates}
use Rattle.circuits.proofs.Asked.{asked_is}
use Rattle.circuits.proofs.Filled.{fill_other, fill_rules}
use Rattle.circuits.proofs.Levels.{level_is, level_rises}
use Rattle.gates.specs.declared.site.Site.{Site}
use Rattle.filling.specs.declared.ask.Circuit.{Circuit}
use Rattle.gates.specs.Sites.{Within, gate_of}
use Rattle.gates.specs.TakenGates.{gates_in}
use Rattle.gates.specs.Inputs.{inputs}
use Rattle.gates.specs.Counting.{counts}
use Rattle.filling.specs.Places.{IsGateFor}
use Rattle.filling.specs.Asking.{IsCircuit, IsTaken, ended, level, Remembers}
use Rattle.gates.proofs.SiteLaws.{output_at}
use Rattle.gates.proofs.SiteGates.{inputs_are}
use Rattle.filling.proofs.Filled.{all_mem}

-- The gate that was found, and that there is none.
pub found : (sites : List Site) (v : ℕ) (r : Option Site) (s : Site) → IsGateFor sites v r → r ≡ Some s → Memᴰ s sites × (var s.output ≡ v)
found sites v r s g e = subst (IsGateFor sites v) e g

pub missing : (sites : List Site) (v : ℕ) (r : Option Site) → IsGateFor sites v r → r ≡ None → (s : Site) → Memᴰ s sites → v ≡ var s.output → ⊥
missing sites v r g e = subst (IsGateFor sites v) e g

module _ (c : Circuit) where
  pub remembers_more : (memo : List (Option Bool)) (v : ℕ) (b : Bool) → Remembers c memo → b ≡ ended c v → Remembers c (set memo v (Some b))
  remembers_more memo v b r e = record {
    right = λ u d h. ⊎_elim
        (λ q. ⊎_elim
        (λ w. let t : d ≡ b = cc in t ∙ e ∙ ap (ended c) (sym q))
        (λ w. r.right u d (sym w ∙ h))
        (subst (λ x. (get_or (set memo v (Some b)) x None ≡ Some b) ⊎ (get_or (set memo v (Some b)) x None ≡ get_or memo x None)) (sym q) (set_cases memo v v (Some b) None)))
        (λ n. r.right u d (sym (get_or-set_other memo v u (Some b) None n) ∙ h))
        (cases_eq u v);
  }

  module _ (k : IsCircuit c) where
    inside : (g : Gate) → Memᴰ g (gates_in c.taken) → g.output ≤ length c.given.now
    inside g i = (k.outputs g i).1

    -- A variable that is no output has its given value in the end.
    pub given_ended : (v : ℕ) → ((s : Site) → Memᴰ s c.taken.sites.now → v ≡ var s.output → ⊥) → valued c.given.now v ≡ ended c v
    unfolding ended fill_gates
    given_ended v h =
        sym (fill_other (length c.given.now) (gates_in c.taken) k.outputs c.given.now v
        (λ g i q. let (s, j, w) = Memᴰ.of_map (gate_of c.taken.row.now) c.taken.sites.now i in h s j (q ∙ ap (λ (f : Gate). f.output) (sym w) ∙ output_at c.taken.row.now s)))

    module _ (site : Site) (t : IsTaken c site) where
      pub site_within : Within c.taken.row.now site
      site_within = all_mem (Within c.taken.row.now) c.taken.sites.now c.taken.within site t.member

      -- It gives one of the circuit's gates.
      member : Memᴰ (gate_of c.taken.row.now site) (gates_in c.taken)
      member = Memᴰ.map (gate_of c.taken.row.now) t.member

      pub gate_ended : rule (gate_of c.taken.row.now site).kind (ended c) (gate_of c.taken.row.now site).inputs ≡ ended c (var site.output)
      unfolding ended fill_gates
      gate_ended =
          sym (fill_rules (length c.given.now) k.ordered k.outputs c.given.now (omega arith) (gate_of c.taken.row.now site) member)
          ∙ ap (valued (fill_gates (gates_in c.taken) c.given.now)) (output_at c.taken.row.now site)

      pub gate_level : 1 ≤ level c (var site.output)
      unfolding level
      gate_level =
          subst (λ v. 1 ≤ get_or (levels (length c.given.now) (gates_in c.taken)) v 0) (output_at c.taken.row.now site)
          (omega (arith, level_is (length c.given.now) k.ordered inside (gate_of c.taken.row.now site) member))

      -- Each question goes one level down.
      pub input_falls : (x v : ℕ) → Memᴰ x (inputs c.taken.row.now site) → v ≡ var x → 2 * level c v < 2 * level c (var site.output) - 1
      unfolding level
      input_falls x v i e =
          let r : get_or (levels (length c.given.now) (gates_in c.taken)) (var x) 0 < get_or (levels (length c.given.now) (gates_in c.taken)) (var site.output) 0 =
          subst (λ o. get_or (levels (length c.given.now) (gates_in c.taken)) (var x) 0 < get_or (levels (length c.given.now) (gates_in c.taken)) o 0) (output_at c.taken.row.now site)
          (level_rises (length c.given.now) k.ordered inside (gate_of c.taken.row.now site) member x (subst (Memᴰ x) (sym (inputs_are c.taken.row.now site)) i)) in
          rw (e) (omega arith)

-- One input more is counted. b: its value; m: 1 if it counts as true.
pub count_more : (f : ℕ → Bool) (kind all t m x : ℕ) (b r : Bool) (rest more : List ℕ) → rest ≡ x ∷ more → b ≡ f (var x) → r ≡ counts kind (λ _. b) x → m ≡ cond r 1 0
    → all ≡ t + count_by (counts kind f) rest → all ≡ t + m + count_by (counts kind f) more
count_more f kind all t m x b r rest more e k w j q =
    q ∙ ap (λ n. t + n) (ap (count_by (counts kind f)) e ∙ sum_by-cons (λ y. cond (counts kind f y) 1 0) x more ∙ ap (λ n. n + count_by (counts kind f) more) (sym one))
    ∙ sym (add_assoc t m (count_by (counts kind f) more))
  where
    one : m ≡ cond (counts kind f x) 1 0
    one = j ∙ ap (λ y. cond y 1 0) (w ∙ ap (λ y. counts kind (λ _. y) x) k)

-- What is left when nothing comes.
pub count_all : (p : ℕ → Bool) (all t : ℕ) (rest : List ℕ) → rest ≡ [] → all ≡ t + count_by p rest → t ≡ all
count_all p all t rest e q = sym (rw (e, add-zero) at q)

-- No more are true than there are.
pub low_turn : (t n m : ℕ) (b : Bool) → m ≡ cond b 1 0 → t ≤ n → t + m ≤ n + 1
low_turn t n m true e h = omega arith
low_turn t n m false e h = omega arith

-- At first nothing is remembered.
pub nothing_remembered : (c : Circuit) (n : ℕ) → Remembers c (replicate n None)
nothing_remembered c n = record { right = λ v b h. let e = get_or_same {X = Option Bool} n v None in cc }

-- What is asked for is the value in the end of the literal that the variable stands for.
pub asked_ended : (c : Circuit) → IsCircuit c → (st : List ℕ) (v : ℕ) → asked st (gates_in c.taken) c.given.now v ≡ holds (ended c) (stands st v)
unfolding asked ended fill_gates
asked_ended c k st v =
    holds_alike (ask_root (length (gates_in c.taken)) (gates_in c.taken) (valued c.given.now)) (ended c) (stands st v)
    (asked_is (length c.given.now) k.ordered k.outputs c.given.now (omega arith) (var (stands st v)))
