-- Parts of a row of entries, and two rows that are the same from a place on.
use Rattle.std.proofs.Common.{◌≡◌, ◌∙◌, sym, ap, ℕ, suc, ◌+◌, ◌-◌, ◌<◌, ◌≤◌, List, ◌∷◌, map, length, get_or, take, drop, arith, ℤ, pos}
use Rattle.std.proofs.lemmas.List.{drop_more, drop-drop}
use Rattle.tables.specs.Literal.{literal}

-- The next entry of the row, up to an end.
pub next_literal : (row : List ℤ) (i e : ℕ) → i < e → i < length row
    → map literal (take (e - i) (drop i row)) ≡ literal (get_or row i (pos 0)) ∷ map literal (take (e - (i + 1)) (drop (i + 1) row))
next_literal row i e h k =
    let n : e - i ≡ suc (e - (i + 1)) = omega arith in
    ap (λ zs. map literal (take (e - i) zs)) (drop_more row i (pos 0) k) ∙ ap (λ c. map literal (take c (get_or row i (pos 0) ∷ drop (i + 1) row))) n

-- Rows that are the same from i on.
module _ (xs ys : List ℤ) (i : ℕ) (e : drop i xs ≡ drop i ys) where
  pub same_further : (j : ℕ) → i ≤ j → drop j xs ≡ drop j ys
  same_further j h =
      let n : i + (j - i) ≡ j = omega arith in
      ap (λ k. drop k xs) (sym n) ∙ sym (drop-drop (j - i) i xs) ∙ ap (drop (j - i)) e ∙ drop-drop (j - i) i ys ∙ ap (λ k. drop k ys) n

  pub same_next : i < length xs → i < length ys → get_or xs i (pos 0) ≡ get_or ys i (pos 0)
  same_next h k = ap (λ zs. get_or zs 0 (pos 0)) (sym (drop_more xs i (pos 0) h) ∙ e ∙ drop_more ys i (pos 0) k)
