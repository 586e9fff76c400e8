-- Clauses are over the same variables where these are the same one by one.
use Rattle.std.proofs.Common.{◌≡◌, ◌∙◌, refl, sym, ap, ℕ, false, ◌&&◌, eqb, List, [], ◌∷◌, map, length, ℤ, arith}
use Rattle.std.specs.List.{list_all, zip}
use Rattle.std.specs.Cmp.Lexicographic.{bytes_decides}
use Rattle.std.proofs.lemmas.Bool.{false_from_ne_true}
use Rattle.std.proofs.lemmas.List.{length-map}
use Rattle.ways.specs.Ways.{same}
use Rattle.tables.specs.Literal.{literal, var}

-- The variables of a row.
abbrev pub vars : List ℤ → List ℕ
vars xs = map var (map literal xs)

pub vars_zip : (xs ys : List ℤ) → length xs ≡ length ys → list_all (λ p. eqb (var (literal p.0)) (var (literal p.1))) (zip xs ys) ≡ same (vars xs) (vars ys)
vars_zip [] [] e = refl
vars_zip [] (y ∷ ys) e = absurd (omega arith)
vars_zip (x ∷ xs) [] e = absurd (omega arith)
vars_zip (x ∷ xs) (y ∷ ys) e = ap (λ b. eqb (var (literal x)) (var (literal y)) && b) (vars_zip xs ys (omega arith))

vars_long : (xs : List ℤ) → length (vars xs) ≡ length xs
vars_long xs = length-map (map literal xs) var ∙ length-map xs literal

pub vars_longer : (xs ys : List ℤ) → (length xs ≡ length ys → ⊥) → same (vars xs) (vars ys) ≡ false
vars_longer xs ys h = false_from_ne_true _ (λ e. h (sym (vars_long xs) ∙ ap length ((bytes_decides (vars xs) (vars ys)).0 e) ∙ vars_long ys))
