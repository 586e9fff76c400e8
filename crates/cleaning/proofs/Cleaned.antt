-- A row cleaned clause by clause.
use Rattle.std.proofs.Common.{◌≡◌, ◌∙◌, sym, ap, ℕ, ◌+◌, ◌-◌, ◌<◌, ◌≤◌, Bool, true, false, ◌||◌, eqb, List, [], ◌∷◌, ◌++◌, map, length, get_or, take, drop, arith, ℤ, pos}
use borrow.Author.Tests.{ne_eqb}
use Rattle.std.specs.List.{fold}
use Rattle.std.proofs.lemmas.List.{map_push}
use Rattle.std.proofs.lemmas.List.Edits.{between_more}
use Rattle.ways.specs.Ways.{has}
use Rattle.tables.specs.Literal.{literal}
use Rattle.tables.specs.Clause.{clauses_from}
use Rattle.tables.proofs.Literals.{literal_zero}
use Rattle.rules.specs.Clean.{clean_step}
use Rattle.cleaning.proofs.Parts.{same_further, same_next}
use Rattle.cleaning.proofs.Open.{open_part, open_ends, open_grows}

-- The row now and the row as it was: from start on they are the same.
module _ (row was : List ℤ) (start place : ℕ) (d : drop start row ≡ drop start was) where
  pub same_part : map literal (take (place - start) (drop start row)) ≡ open_part was start place
  same_part = ap (λ zs. map literal (take (place - start) zs)) d

  pub same_entry : start ≤ place → place < length row → place < length was → get_or was place (pos 0) ≡ get_or row place (pos 0)
  same_entry h a b = sym (same_next row was place (same_further row was start d place h) a b)

-- One entry more.
module _ (m : List ℕ) (whole done : List (List ℕ)) (row : List ℤ) (start place : ℕ) (k : place < length row)
    (w : whole ≡ fold (clean_step m) done (clauses_from (open_part row start place) (drop place row))) where
  pub clean_ends : (more : List (List ℕ)) → get_or row place (pos 0) ≡ pos 0 → more ≡ clean_step m done (open_part row start place)
      → whole ≡ fold (clean_step m) more (clauses_from (open_part row (place + 1) (place + 1)) (drop (place + 1) row))
  clean_ends more e s = w ∙ ap (fold (clean_step m) done) (open_ends row start place k e)
      ∙ ap (λ b. fold (clean_step m) b (clauses_from (open_part row (place + 1) (place + 1)) (drop (place + 1) row))) (sym s)

  pub clean_grows : start ≤ place → (get_or row place (pos 0) ≡ pos 0 → ⊥)
      → whole ≡ fold (clean_step m) done (clauses_from (open_part row start (place + 1)) (drop (place + 1) row))
  clean_grows h e = w ∙ ap (fold (clean_step m) done) (open_grows row start place k h e)

has-push : (xs : List ℕ) (x : ℕ) → has 0 xs ≡ false → (x ≡ 0 → ⊥) → has 0 (xs ++ (x ∷ [])) ≡ false
has-push [] x h e = rw (ne_eqb 0 x (λ q. e (sym q)))
has-push (y ∷ xs) x h e = go (eqb 0 y) h (λ k. has-push xs x k e)
  where
    go : (b : Bool) → (b || has 0 xs) ≡ false → (has 0 xs ≡ false → has 0 (xs ++ (x ∷ [])) ≡ false) → (b || has 0 (xs ++ (x ∷ []))) ≡ false
    go true q f = q
    go false q f = f q

pub whole_grows : (row : List ℤ) (start place : ℕ) → start ≤ place → place < length row → (get_or row place (pos 0) ≡ pos 0 → ⊥)
    → has 0 (open_part row start place) ≡ false → has 0 (open_part row start (place + 1)) ≡ false
whole_grows row start place h k e w =
    rw (between_more row start place (pos 0) h k, map_push literal (take (place - start) (drop start row)) (get_or row place (pos 0)))
    (has-push (open_part row start place) (literal (get_or row place (pos 0))) w (λ q. e (literal_zero _ q)))

pub none_open : (row : List ℤ) (p : ℕ) → open_part row p p ≡ []
none_open row p = let n : p - p ≡ 0 = omega arith in rw (n)
