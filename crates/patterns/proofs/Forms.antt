-- An and-form is found where its clauses of two literals are: the anchor is among the row's clauses itself.
use Rattle.std.proofs.Common.{◌≡◌, ◌∙◌, refl, sym, ap, ℕ, Bool, not, ◌&&◌, ◌||◌, List, [], ◌∷◌, eqb, filter, ⊎_elim}
use mathlib.Core.List.{Memᴰ}
use Rattle.std.specs.List.{list_all}
use Rattle.std.proofs.lemmas.Bool.{cases_Bool}
use Rattle.std.proofs.lemmas.List.Folds.{list_all-map}
use Rattle.ways.specs.Ways.{among}
use Rattle.ways.proofs.Members.{mem-among}
use Rattle.rules.specs.Patterns.{others, side, and_form, found}

-- What is kept passes a test where each element passes it or is dropped.
kept_all : {X : Type 0} (t d : X → Bool) (xs : List X) → list_all t (filter (λ x. not (d x)) xs) ≡ list_all (λ x. d x || t x) xs
kept_all t d [] = refl
kept_all t d (x ∷ xs) =
    ⊎_elim (λ e. rw (e) (kept_all t d xs)) (λ e. rw (e) (ap (λ b. t x && b) (kept_all t d xs))) (cases_Bool (d x))

pub form_found : (cs : List (List ℕ)) (c : List ℕ) (o : ℕ) → Memᴰ c cs → list_all (λ x. eqb x o || among (side o x) cs) c ≡ found cs (and_form c o)
unfolding found and_form others
form_found cs c o i =
    sym (rw (mem-among c cs i) (list_all-map (λ d. among d cs) (side o) (filter (λ x. not (eqb x o)) c) ∙ kept_all (λ x. among (side o x) cs) (λ x. eqb x o) c))
