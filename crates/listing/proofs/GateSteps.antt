-- The lines of gates, step by step.
use Rattle.std.proofs.Common.{◌+◌, ◌-◌, ◌≡◌, ◌∙◌, refl, sym, ap, ℕ, suc, ◌&&◌, Bool, true, false, eqb, ℤ, List, [], ◌∷◌, map, filter, length, get_or, arith, append-nil, eq-eqb, ne_eqb}
use mathlib.Core.List.Memᴰ
use mathlib.Core.List.{Memᴰ}
use Rattle.std.specs.List.{flat_map, range_with_len}
use Rattle.std.proofs.lemmas.Bool.{eqb-false}
use Rattle.std.proofs.lemmas.List.{length-map}
use Rattle.tables.specs.Literal.{var}
use Rattle.rules.specs.Patterns.{Gate}
use Rattle.rules.specs.Circuit.{levels}
use Rattle.rules.specs.Listing.{input_field, line_g, gates_at, lines_g}
use Rattle.texts.specs.Laying.{Laid, lay}
use Rattle.gates.specs.declared.site.Site.{Site}
use Rattle.gates.specs.Sites.{gate_of, gates_of}
use Rattle.gates.specs.Inputs.{inputs}
use Rattle.gates.proofs.SiteLaws.{output_at}
use Rattle.gates.proofs.SiteGates.{inputs_are}
use Rattle.texts.proofs.LaySteps.{laid_none, laid_behind}
use Rattle.filling.specs.Outputs.{Apart}
use Rattle.filling.proofs.Spoken.{apart_from}
use Rattle.listing.specs.Chains.{on_level}
use Rattle.listing.proofs.ChainSteps.{left, Behind, only_these}
use Rattle.listing.specs.Fields.{field, fields}

-- The fields of a gate's inputs, one after another.
pub inputs_begin : (kind : ℕ) (row : List ℤ) (site : Site) (s : Laid) (left : List ℕ) → left ≡ inputs row site
    → lay s (fields (map (input_field kind) (gate_of row site).inputs)) ≡ lay s (fields (map (input_field kind) left))
inputs_begin kind row site s left e = rw (inputs_are row site, e) refl

pub input_on : (kind x : ℕ) (s : Laid) (left xs : List ℕ) → left ≡ x ∷ xs
    → lay s (fields (map (input_field kind) left)) ≡ lay (lay s (field (input_field kind x))) (fields (map (input_field kind) xs))
input_on kind x s left xs e = rw (e) (sym (laid_behind s (field (input_field kind x)) (fields (map (input_field kind) xs))))

pub input_ends : (kind : ℕ) (s : Laid) (left : List ℕ) → left ≡ [] → lay s (fields (map (input_field kind) left)) ≡ s
input_ends kind s left e = rw (e) (laid_none s)

-- Of gates with different outputs, those with one of them.
none_kept : (row : List ℤ) (v : ℕ) (b : Bool) (sites : List Site) → ((s : Site) → Memᴰ s sites → v ≡ var s.output → ⊥) → filter (λ g. eqb g.output v && b) (gates_of row sites) ≡ []
none_kept row v b [] h = refl
none_kept row v b (s ∷ sites) h = rw (output_at row s, ne_eqb (var s.output) v (λ e. h s (Memᴰ.head refl) (sym e)), none_kept row v b sites (λ t i. h t (Memᴰ.tail i))) refl

one_kept : (row : List ℤ) (v : ℕ) (sites : List Site) → Apart sites → (s : Site) → Memᴰ s sites → var s.output ≡ v → filter (λ g. eqb g.output v && true) (gates_of row sites) ≡ gate_of row s ∷ []
unfolding gate_of
one_kept row v [] a s i e = absurd (Memᴰ.not-nil i)
one_kept row v (t ∷ sites) a s (Memᴰ.head q) e =
    let here : var t.output ≡ v = ap (λ (x : Site). var x.output) (sym q) ∙ e in
    let others : filter (λ g. eqb g.output v && true) (gates_of row sites) ≡ [] =
    none_kept row v true sites (λ u i f. apart_from t sites (λ j d k. a 0 (suc j) d (omega arith) (omega arith)) u i (here ∙ f)) in
    rw (output_at row t, eq-eqb (var t.output) v here, others, q) refl
one_kept row v (t ∷ sites) a s (Memᴰ.tail i) e =
    let apart : var t.output ≡ v → ⊥ = λ f. apart_from t sites (λ j d k. a 0 (suc j) d (omega arith) (omega arith)) s i (f ∙ sym e) in
    rw (output_at row t, ne_eqb (var t.output) v apart, one_kept row v sites (λ j k d l m. a (suc j) (suc k) d (omega arith) (omega arith)) s i e) refl

and_false : (b : Bool) → (b && false) ≡ false
and_false true = refl
and_false false = refl

none_there : (v : ℕ) (gs : List Gate) → filter (λ g. eqb g.output v && false) gs ≡ []
none_there v [] = refl
none_there v (g ∷ gs) = rw (and_false (eqb g.output v), none_there v gs) refl

-- The gates with an output and on a level: none, where the variable has another level or is no output; else the one.
pub other_level : (n level v : ℕ) (gs : List Gate) → (get_or (levels n gs) v 0 ≡ level → ⊥) → gates_at n gs level v ≡ []
unfolding gates_at
other_level n level v gs h = rw (ne_eqb (get_or (levels n gs) v 0) level h) (none_there v gs)

pub no_output : (n level v : ℕ) (row : List ℤ) (sites : List Site) → ((s : Site) → Memᴰ s sites → v ≡ var s.output → ⊥) → gates_at n (gates_of row sites) level v ≡ []
unfolding gates_at
no_output n level v row sites h = none_kept row v (eqb (get_or (levels n (gates_of row sites)) v 0) level) sites h

pub the_output : (n level v : ℕ) (row : List ℤ) (sites : List Site) (s : Site) → Apart sites → Memᴰ s sites → var s.output ≡ v → get_or (levels n (gates_of row sites)) v 0 ≡ level
    → gates_at n (gates_of row sites) level v ≡ gate_of row s ∷ []
unfolding gates_at
the_output n level v row sites s a i e h = rw (eq-eqb (get_or (levels n (gates_of row sites)) v 0) level h) (one_kept row v sites a s i e)

-- What is laid for them: nothing, or the one line.
pub nothing_laid : (s : Laid) (level : ℕ) (gs : List Gate) → gs ≡ [] → s ≡ lay s (flat_map (line_g level) gs)
nothing_laid s level gs e = rw e (sym (laid_none s))

pub one_laid : (s : Laid) (level : ℕ) (gs : List Gate) (g : Gate) → gs ≡ g ∷ [] → lay s (line_g level g) ≡ lay s (flat_map (line_g level) gs)
one_laid s level gs g e = rw e (ap (lay s) (sym (append-nil (line_g level g))))

-- The G lines, for as many levels as there are sites.
pub levels_of : (n : ℕ) (row : List ℤ) (sites : List Site)
    → flat_map (λ k. flat_map (λ v. flat_map (line_g k) (gates_at n (gates_of row sites) k v)) (range_with_len 1 n)) (range_with_len 1 (length sites)) ≡ lines_g n (gates_of row sites)
unfolding lines_g
levels_of n row sites = rw length-map refl

-- A level's lines: those of the variables on it.
pub level_only : (n level : ℕ) (gs : List Gate)
    → flat_map (λ v. flat_map (line_g level) (gates_at n gs level v)) (range_with_len 1 n) ≡ flat_map (λ v. flat_map (line_g level) (gates_at n gs level v)) (on_level (levels n gs) level 1 n)
level_only n level gs =
    only_these (λ v. flat_map (line_g level) (gates_at n gs level v)) (λ u. eqb (get_or (levels n gs) u 0) level)
    (λ u e. ap (flat_map (line_g level)) (other_level n level u gs (eqb-false (get_or (levels n gs) u 0) level e))) (range_with_len 1 n)

-- One variable of the chain more.
pub chain_on : (f : ℕ → List ℕ) (s t : Laid) (n : ℕ) (lv : List ℕ) (level v u : ℕ) → (v ≡ 0 → ⊥) → Behind n lv level (v + 1) u (on_level lv level (v + 1) (n - v)) → t ≡ lay s (f v)
    → lay s (flat_map f (left n lv level v)) ≡ lay t (flat_map f (left n lv level u))
unfolding left
chain_on f s t n lv level v u d b e =
    rw (ne_eqb v 0 d, e)
    (sym (laid_behind s (f v) (flat_map f (on_level lv level (v + 1) (n - v)))) ∙ ap (λ us. lay (lay s (f v)) (flat_map f us)) b.rest)

pub chain_ends : (f : ℕ → List ℕ) (s : Laid) (n : ℕ) (lv : List ℕ) (level v : ℕ) → v ≡ 0 → lay s (flat_map f (left n lv level v)) ≡ s
unfolding left
chain_ends f s n lv level v e = rw e (laid_none s)
