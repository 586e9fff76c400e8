-- The gates taken are split in two parts, gate by gate.
use Rattle.std.proofs.Common.{◌≡◌, ◌∙◌, refl, sym, ap, ℕ, ◌+◌, ◌-◌, ◌<◌, ◌≤◌, Bool, true, false, cond, not, List, [], ◌∷◌, ◌++◌, take, drop, filter, length, get_or, set, arith, append_assoc, length-set}
use Rattle.std.proofs.lemmas.List.{take_more_set, drop-set-lt, drop-drop, get_or-drop, append-nil, take-append-le, length-take-le}
use Rattle.std.proofs.lemmas.Slice.{take-put_mid}
use borrow.Rule.Slice.PartMut.{put_mid}
use Rattle.std.proofs.lemmas.List.Elements.{filter_more}
use Rattle.gates.specs.declared.site.Site.{Site}
use Rattle.taking.specs.Placing.{depends, stays}

-- The gates before a place are split: the first `kept` of the row stay, and the others are in the row of the later ones.
pub record Split (m : List ℕ) (old row later : List Site) (i kept : ℕ) : Type 0 where
  pub within : kept ≤ i
  pub staying : take kept row ≡ filter (stays m) (take i old)
  pub depending : take (i - kept) later ≡ filter (depends m) (take i old)
  pub rest : drop i row ≡ drop i old

kept_one : {X : Type 0} (p : X → Bool) (xs : List X) (i : ℕ) (d : X) → i < length xs → p (get_or xs i d) ≡ true → filter p (take (i + 1) xs) ≡ filter p (take i xs) ++ (get_or xs i d ∷ [])
kept_one p xs i d h e = filter_more p xs i d h ∙ ap (λ b. filter p (take i xs) ++ cond b (get_or xs i d ∷ []) []) e

kept_none : {X : Type 0} (p : X → Bool) (xs : List X) (i : ℕ) (d : X) → i < length xs → p (get_or xs i d) ≡ false → filter p (take (i + 1) xs) ≡ filter p (take i xs)
kept_none p xs i d h e = filter_more p xs i d h ∙ ap (λ b. filter p (take i xs) ++ cond b (get_or xs i d ∷ []) []) e ∙ append-nil (filter p (take i xs))

module _ (m : List ℕ) (old row later : List Site) (i kept : ℕ) (d : Site) (h : i < length old) (s : Split m old row later i kept) where
  here : get_or row i d ≡ get_or old i d
  here =
      let n : i ≡ i + 0 = omega arith in
      ap (λ k. get_or row k d) n ∙ sym (get_or-drop i row 0 d) ∙ ap (λ xs. get_or xs 0 d) s.rest ∙ get_or-drop i old 0 d ∙ ap (λ k. get_or old k d) (sym n)

  on : drop (i + 1) row ≡ drop (i + 1) old
  on = sym (drop-drop 1 i row) ∙ ap (drop 1) s.rest ∙ drop-drop 1 i old

  pub split_later : depends m (get_or row i d) ≡ true → i - kept < length later → Split m old row (set later (i - kept) (get_or row i d)) (i + 1) kept
  split_later e l =
      let w = s.within in
      let t : depends m (get_or old i d) ≡ true = ap (depends m) (sym here) ∙ e in
      let n : i + 1 - kept ≡ i - kept + 1 = omega arith in
      record {
        within = omega arith;
        staying = s.staying ∙ sym (kept_none (stays m) old i d h (ap not t));
        depending =
            ap (λ k. take k (set later (i - kept) (get_or row i d))) n ∙ take_more_set later (i - kept) (get_or row i d) l
            ∙ ap (λ xs. xs ++ (get_or row i d ∷ [])) s.depending ∙ ap (λ x. filter (depends m) (take i old) ++ (x ∷ [])) here
            ∙ sym (kept_one (depends m) old i d h t);
        rest = on;
      }

  pub split_stays : depends m (get_or row i d) ≡ false → i < length row → Split m old (set row kept (get_or row i d)) later (i + 1) (kept + 1)
  split_stays e l =
      let w = s.within in
      let t : depends m (get_or old i d) ≡ false = ap (depends m) (sym here) ∙ e in
      let n : i + 1 - (kept + 1) ≡ i - kept = omega arith in
      record {
        within = omega arith;
        staying =
            take_more_set row kept (get_or row i d) (omega arith) ∙ ap (λ xs. xs ++ (get_or row i d ∷ [])) s.staying
            ∙ ap (λ x. filter (stays m) (take i old) ++ (x ∷ [])) here ∙ sym (kept_one (stays m) old i d h (ap not t));
        depending = ap (λ k. take k later) n ∙ s.depending ∙ sym (kept_none (depends m) old i d h t);
        rest = drop-set-lt (i + 1) row kept (get_or row i d) (omega arith) ∙ on;
      }

pub split_starts : (m : List ℕ) (old later : List Site) → Split m old old later 0 0
split_starts m old later = record { within = omega arith; staying = refl; depending = refl; rest = refl }

-- A gate is laid between the two parts.
pub laid : (row rest later copied : List Site) (site : Site) (count kept n : ℕ) (fst snd : List Site) → kept ≤ length row → kept ≤ count → count < length (row ++ rest) → count ≤ length later → n ≡ count
    → copied ≡ take (count - kept) later → take kept row ≡ fst → take (n - kept) later ≡ snd
    → take (count + 1) (put_mid (kept + 1) (count + 1 - (kept + 1)) (set (row ++ rest) kept site) copied) ≡ fst ++ (site ∷ snd)
laid row rest later copied site count kept n fst snd h k w l q c f s =
    let long : length copied ≡ count - kept = ap length c ∙ length-take-le (count - kept) later (omega arith) in
    take-put_mid (kept + 1) (count + 1 - (kept + 1)) (set (row ++ rest) kept site) copied (count + 1) (omega (arith, long)) (omega (arith, length-set (row ++ rest) kept site))
    ∙ ap (λ xs. xs ++ copied) (take_more_set (row ++ rest) kept site (omega arith) ∙ ap (λ xs. xs ++ (site ∷ [])) (take-append-le kept row rest h ∙ f))
    ∙ ap (λ ys. (fst ++ (site ∷ [])) ++ ys) (c ∙ ap (λ i. take (i - kept) later) (sym q) ∙ s) ∙ append_assoc fst (site ∷ []) snd
