-- Marks of outputs, for every variable.
use Rattle.std.proofs.Common.{◌≡◌, ◌∙◌, sym, ap, refl, ℕ, ◌<◌, ◌≤◌, false, eqb, ⊎_elim, List, [], ◌∷◌, ℤ, length, arith, ne_eqb}
use Rattle.std.specs.List.{All, list_any}
use Rattle.std.proofs.lemmas.Bool.{cases_lt}
use Rattle.std.proofs.lemmas.List.{get_or_past}
use Rattle.std.proofs.lemmas.List.Elements.{All-head, All-tail}
use Rattle.tables.specs.Literal.{var}
use Rattle.rules.specs.Forced.{marked}
use Rattle.rules.specs.Taking.{is_output}
use Rattle.gates.specs.declared.site.Site.{Site}
use Rattle.gates.specs.Sites.{gates_of}
use Rattle.gates.proofs.OutputLaws.{output_any}

none_above : (n v : ℕ) (sites : List Site) → n < v → All (λ s. var s.output ≤ n) sites → list_any (λ s. eqb (var s.output) v) sites ≡ false
none_above n v [] h low = refl
none_above n v (s ∷ sites) h low =
    let first : var s.output ≤ n = All-head (λ (s : Site). var s.output ≤ n) s sites low in
    rw (ne_eqb (var s.output) v (λ e. omega arith), none_above n v sites h (All-tail (λ (s : Site). var s.output ≤ n) s sites low)) refl

-- No variable beyond the marks is an output.
pub marked_all : (n : ℕ) (row : List ℤ) (sites : List Site) (m : List ℕ) (k : ℕ) → n < k → length m ≡ k → All (λ s. var s.output ≤ n) sites
    → ((v : ℕ) → v < k → marked m v ≡ is_output (gates_of row sites) v) → (v : ℕ) → marked m v ≡ is_output (gates_of row sites) v
marked_all n row sites m k h long low right v =
    ⊎_elim (right v)
    (λ j. ap (λ x. eqb x 1) (get_or_past m v 0 (omega arith)) ∙ sym (output_any row sites v ∙ none_above n v sites (omega arith) low))
    (cases_lt v k)
