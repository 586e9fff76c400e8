-- What is laid element after element.
use Rattle.std.proofs.Common.{◌≡◌, ◌∙◌, refl, sym, ap, ℕ, suc, ◌+◌, ◌-◌, ◌<◌, ◌≤◌, Bool, true, false, cond, not, ℤ, pos, List, [], ◌∷◌, ◌++◌, map, filter, length, get_or, drop, fold, arith, codes}
use Rattle.std.specs.List.{flat_map, range_with_len}
use Rattle.std.proofs.lemmas.List.{drop_more, drop_all}
use Rattle.tables.specs.Literal.{literal}
use Rattle.rules.specs.Patterns.{Gate}
use Rattle.rules.specs.Circuit.{in_pattern, residue}
use Rattle.rules.specs.Listing.{line_r}
use Rattle.texts.specs.Decimal.{decimal, signed}
use Rattle.texts.specs.Laying.{Laid, lay}
use Rattle.texts.proofs.LaySteps.{laid_none, laid_behind}
use Rattle.listing.specs.Fields.{field, fields, lined}

module _ {X : Type 0} (f : X → List ℕ) where
  -- One element more of a row is laid; and there is no more.
  pub row_on : (s t : Laid) (xs : List X) (i : ℕ) (d : X) → i < length xs → t ≡ lay s (f (get_or xs i d)) → lay s (flat_map f (drop i xs)) ≡ lay t (flat_map f (drop (i + 1) xs))
  row_on s t xs i d h e = rw (drop_more xs i d h, e) (sym (laid_behind s (f (get_or xs i d)) (flat_map f (drop (i + 1) xs))))

  pub row_ends : (s : Laid) (xs : List X) (i : ℕ) → length xs ≤ i → lay s (flat_map f (drop i xs)) ≡ s
  row_ends s xs i h = ap (λ ys. lay s (flat_map f ys)) (drop_all i xs h) ∙ laid_none s

  -- What is laid for some of them is laid for each, or nothing is.
  one_more : (b : Bool) (x : X) (ys : List X) (zs : List ℕ) → flat_map f ys ≡ zs → flat_map f (cond b (x ∷ ys) ys) ≡ cond b (f x) [] ++ zs
  one_more true x ys zs e = ap (λ ys. f x ++ ys) e
  one_more false x ys zs e = e

  pub some_each : (p : X → Bool) (xs : List X) → flat_map f (filter p xs) ≡ flat_map (λ x. cond (p x) (f x) []) xs
  some_each p [] = refl
  some_each p (x ∷ xs) = one_more (p x) x (filter p xs) (flat_map (λ x. cond (p x) (f x) []) xs) (some_each p xs)

-- One number of a range more is done; and there is no more.
module _ (f : ℕ → List ℕ) where
  pub range_begins : (s : Laid) (n : ℕ) → lay s (flat_map f (range_with_len 1 n)) ≡ lay s (flat_map f (range_with_len 1 (n + 1 - 1)))
  range_begins s n = let e : n + 1 - 1 ≡ n = omega arith in rw e refl

  pub some_begins : (p : ℕ → Bool) (s : Laid) (n : ℕ)
      → lay s (flat_map f (filter p (range_with_len 1 n))) ≡ lay s (flat_map (λ v. cond (p v) (f v) []) (range_with_len 1 (n + 1 - 1)))
  some_begins p s n = let e : n + 1 - 1 ≡ n = omega arith in rw e (ap (lay s) (some_each f p (range_with_len 1 n)))

  pub range_on : (s t : Laid) (v n : ℕ) → v ≤ n → t ≡ lay s (f v) → lay s (flat_map f (range_with_len v (n + 1 - v))) ≡ lay t (flat_map f (range_with_len (v + 1) (n + 1 - (v + 1))))
  range_on s t v n h e =
      let more : n + 1 - v ≡ suc (n + 1 - (v + 1)) = omega arith in
      rw (more, e) (sym (laid_behind s (f v) (flat_map f (range_with_len (v + 1) (n + 1 - (v + 1))))))

  pub range_ends : (s : Laid) (v n : ℕ) → n < v → lay s (flat_map f (range_with_len v (n + 1 - v))) ≡ s
  range_ends s v n h = let none : n + 1 - v ≡ 0 = omega arith in rw none (laid_none s)

-- The fields of numbers, one after another.
pub number_on : (s : Laid) (xs : List ℕ) (i : ℕ) → i < length xs
    → lay s (fields (map decimal (drop i xs))) ≡ lay (lay s (field (decimal (get_or xs i 0)))) (fields (map decimal (drop (i + 1) xs)))
number_on s xs i h = rw (drop_more xs i 0 h) (sym (laid_behind s (field (decimal (get_or xs i 0))) (fields (map decimal (drop (i + 1) xs)))))

pub number_ends : (s : Laid) (xs : List ℕ) (i : ℕ) → length xs ≤ i → lay s (fields (map decimal (drop i xs))) ≡ s
number_ends s xs i h = ap (λ ys. lay s (fields (map decimal ys))) (drop_all i xs h) ∙ laid_none s

-- A line, field after field.
fields_laid : (s : Laid) (fs : List (List ℕ)) → fold (λ s f. lay s (field f)) s fs ≡ lay s (fields fs)
fields_laid s [] = sym (laid_none s)
fields_laid s (f ∷ fs) = fields_laid (lay s (field f)) fs ∙ laid_behind s (field f) (fields fs)

lined_laid : (s : Laid) (letter : List ℕ) (fs : List (List ℕ)) → lay (fold (λ s f. lay s (field f)) (lay s letter) fs) (codes "\n") ≡ lay s (lined letter fs)
lined_laid s letter fs =
    ap (λ t. lay t (codes "\n")) (fields_laid (lay s letter) fs) ∙ laid_behind (lay s letter) (fields fs) (codes "\n") ∙ laid_behind s letter (fields fs ++ codes "\n")

pub lined_two : (s : Laid) (letter f g : List ℕ) → lay (lay (lay (lay s letter) (field f)) (field g)) (codes "\n") ≡ lay s (lined letter (f ∷ g ∷ []))
lined_two s letter f g = lined_laid s letter (f ∷ g ∷ [])

pub lined_more : (s : Laid) (letter f g h : List ℕ) (fs : List (List ℕ))
    → lay (lay (lay (lay (lay (lay s letter) (field f)) (field g)) (field h)) (fields fs)) (codes "\n") ≡ lay s (lined letter (f ∷ g ∷ h ∷ fs))
lined_more s letter f g h fs =
    ap (λ t. lay t (codes "\n")) (sym (fields_laid (lay (lay (lay (lay s letter) (field f)) (field g)) (field h)) fs)) ∙ lined_laid s letter (f ∷ g ∷ h ∷ fs)

-- The fields of a clause's literals, one after another.
pub literal_on : (s : Laid) (c : List ℤ) (i : ℕ) → i < length c
    → lay s (fields (map signed (map literal (drop i c)))) ≡ lay (lay s (field (signed (literal (get_or c i (pos 0)))))) (fields (map signed (map literal (drop (i + 1) c))))
literal_on s c i h =
    rw (drop_more c i (pos 0) h) (sym (laid_behind s (field (signed (literal (get_or c i (pos 0))))) (fields (map signed (map literal (drop (i + 1) c))))))

pub literal_ends : (s : Laid) (c : List ℤ) (i : ℕ) → length c ≤ i → lay s (fields (map signed (map literal (drop i c)))) ≡ s
literal_ends s c i h = ap (λ ys. lay s (fields (map signed (map literal ys)))) (drop_all i c h) ∙ laid_none s

-- One clause more, residue or not.
pub residue_on : (s : Laid) (gs : List Gate) (c : List ℕ) (cs : List (List ℕ))
    → lay s (flat_map line_r (residue gs (c ∷ cs))) ≡ lay (lay s (cond (not (in_pattern gs c)) (line_r c) [])) (flat_map line_r (residue gs cs))
unfolding residue
residue_on s gs c cs =
    ap (lay s) (one_more line_r (not (in_pattern gs c)) c (filter (λ d. not (in_pattern gs d)) cs) (flat_map line_r (residue gs cs)) refl)
    ∙ sym (laid_behind s (cond (not (in_pattern gs c)) (line_r c) []) (flat_map line_r (residue gs cs)))

pub residue_ends : (s : Laid) (gs : List Gate) → lay s (flat_map line_r (residue gs [])) ≡ s
unfolding residue
residue_ends s gs = laid_none s
