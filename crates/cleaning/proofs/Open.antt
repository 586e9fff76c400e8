-- A row of entries read on by one, where the open clause begins at `start`.
use Rattle.std.proofs.Common.{◌≡◌, ◌∙◌, sym, ap, ℕ, ◌+◌, ◌-◌, ◌<◌, ◌≤◌, List, ◌∷◌, map, length, get_or, take, drop, arith, ℤ, pos}
use Rattle.std.proofs.lemmas.List.{drop_more}
use Rattle.std.proofs.lemmas.List.Edits.{between_more}
use Rattle.std.proofs.lemmas.List.{map_push}
use Rattle.tables.specs.Literal.{literal}
use Rattle.tables.specs.Clause.{clauses_from}
use Rattle.tables.proofs.Literals.{literal_zero}
use Rattle.tables.proofs.Clauses.{clause_ends, clause_grows}

-- The literals of the open clause.
abbrev pub open_part : List ℤ → ℕ → ℕ → List ℕ
open_part row start place = map literal (take (place - start) (drop start row))

module _ (row : List ℤ) (start place : ℕ) (k : place < length row) where
  pub open_ends : get_or row place (pos 0) ≡ pos 0
      → clauses_from (open_part row start place) (drop place row)
      ≡ open_part row start place ∷ clauses_from (open_part row (place + 1) (place + 1)) (drop (place + 1) row)
  open_ends e =
      let n : place + 1 - (place + 1) ≡ 0 = omega arith in
      ap (clauses_from (open_part row start place)) (drop_more row place (pos 0) k)
      ∙ clause_ends (open_part row start place) (get_or row place (pos 0)) (drop (place + 1) row) (ap literal e)
      ∙ ap (λ i. open_part row start place ∷ clauses_from (map literal (take i (drop (place + 1) row))) (drop (place + 1) row)) (sym n)

  pub open_grows : start ≤ place → (get_or row place (pos 0) ≡ pos 0 → ⊥)
      → clauses_from (open_part row start place) (drop place row) ≡ clauses_from (open_part row start (place + 1)) (drop (place + 1) row)
  open_grows h e =
      ap (clauses_from (open_part row start place)) (drop_more row place (pos 0) k)
      ∙ clause_grows (open_part row start place) (get_or row place (pos 0)) (drop (place + 1) row) (λ q. e (literal_zero _ q))
      ∙ ap (λ c. clauses_from c (drop (place + 1) row))
      (sym (map_push literal (take (place - start) (drop start row)) (get_or row place (pos 0))) ∙ ap (map literal) (sym (between_more row start place (pos 0) h k)))
