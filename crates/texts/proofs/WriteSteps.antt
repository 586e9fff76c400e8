-- Written text, piece after piece.
use Rattle.std.proofs.Common.{◌≡◌, refl, sym, ℕ, zero, suc, ◌+◌, ◌*◌, ◌/◌, ◌%◌, ◌^◌, ◌<◌, ◌≤◌, Bool, true, false, cond, ltb, List, [], ◌∷◌, ◌++◌, length, get_or, drop, arith, append_assoc, length-append, one-add, Ok}
use lib.IntN.{ℤ, pos}
use lib.Dec.{eqb}
use Rattle.std.specs.List.{count_by}
use Rattle.std.proofs.lemmas.List.{drop_more, drop_all}
use Rattle.std.proofs.lemmas.List.Sums.{count_by-le-length}
use Rattle.std.proofs.lemmas.List.Recursion.{is_count_by}
use Rattle.std.specs.Prelude.{codes}
use Rattle.tables.specs.Literal.{literal, var, neg}
use Rattle.tables.specs.Clause.{clauses_from, clauses}
use Rattle.tables.specs.Check.{checked}
use Rattle.tables.proofs.Checked.{Sound, ended, nought, lettered, accepted_good}
use Rattle.texts.specs.Writing.{first_line, parting, clause_lines, written}
use Rattle.texts.specs.Pieces.{piece}
use Rattle.texts.specs.Laying.{Laid, lay}
use Rattle.texts.specs.Decimal.{digits_of, decimal, signed}
use Rattle.texts.proofs.LaySteps.{laid_none, laid_behind}

-- How many clauses there are does not hang on the literals of the open one.
any_open : (before after : List ℕ) (t : List ℤ) → length (clauses_from before t) ≡ length (clauses_from after t)
unfolding clauses_from
any_open before after [] = refl
any_open before after (z ∷ zs) = go (eqb (literal z) 0) (any_open (before ++ (literal z ∷ [])) (after ++ (literal z ∷ [])) zs)
  where
    go : (b : Bool) → length (clauses_from (before ++ (literal z ∷ [])) zs) ≡ length (clauses_from (after ++ (literal z ∷ [])) zs)
        → length (elim b as (λ _. List (List ℕ)) [ true ↦ before ∷ clauses_from [] zs | false ↦ clauses_from (before ++ (literal z ∷ [])) zs ])
        ≡ length (elim b as (λ _. List (List ℕ)) [ true ↦ after ∷ clauses_from [] zs | false ↦ clauses_from (after ++ (literal z ∷ [])) zs ])
    go true e = refl
    go false e = e

pub clauses_counted : (t : List ℤ) → length (clauses t) ≡ count_by (λ z. eqb (literal z) 0) t
unfolding clauses clauses_from
clauses_counted t = is_count_by (λ t. length (clauses_from [] t)) (λ z. eqb (literal z) 0) refl step_by t
  where
    go : (b : Bool) (z : ℤ) (zs : List ℤ)
        → length (elim b as (λ _. List (List ℕ)) [ true ↦ [] ∷ clauses_from [] zs | false ↦ clauses_from (literal z ∷ []) zs ]) ≡ cond b (1 + length (clauses_from [] zs)) (length (clauses_from [] zs))
    go true z zs = sym (one-add (length (clauses_from [] zs)))
    go false z zs = any_open (literal z ∷ []) [] zs

    step_by : (z : ℤ) (zs : List ℤ) → length (clauses_from [] (z ∷ zs)) ≡ cond (eqb (literal z) 0) (1 + length (clauses_from [] zs)) (length (clauses_from [] zs))
    step_by z zs = go (eqb (literal z) 0) z zs

-- One entry's piece more.
piece_in : (e : ℤ) (es : List ℤ) → clause_lines (e ∷ es) ≡ piece e ++ clause_lines es
unfolding clause_lines
piece_in e es = sym (append_assoc (signed (literal e)) (parting (literal e) ∷ []) (clause_lines es))

pub line_laid : (s : Laid) (i : ℕ) (t : List ℤ) → i < length t → lay s (clause_lines (drop i t)) ≡ lay (lay s (piece (get_or t i (pos 0)))) (clause_lines (drop (i + 1) t))
line_laid s i t h =
    let e = get_or t i (pos 0) in
    rw (drop_more t i (pos 0) h, piece_in e (drop (i + 1) t)) (sym (laid_behind s (piece e) (clause_lines (drop (i + 1) t))))

pub lines_laid : (s : Laid) (i : ℕ) (t : List ℤ) → length t ≤ i → lay s (clause_lines (drop i t)) ≡ s
unfolding clause_lines
lines_laid s i t h = rw (drop_all i t h) (laid_none s)

-- A written text is short enough to be counted.
digits_short : (f v : ℕ) → length (digits_of f v) ≤ f + 1
unfolding digits_of
digits_short zero v = omega arith
digits_short (suc f) v = go (ltb v 10) (digits_short f (v / 10))
  where
    go : (b : Bool) → length (digits_of f (v / 10)) ≤ f + 1 → length (elim b as (λ _. List ℕ) [ true ↦ (48 + v) ∷ [] | false ↦ digits_of f (v / 10) ++ ((48 + v % 10) ∷ []) ]) ≤ suc f + 1
    go true h = omega arith
    go false h = omega (arith, length-append (digits_of f (v / 10)) ((48 + v % 10) ∷ []))

pub decimal_short : (v : ℕ) → length (decimal v) ≤ v + 1
unfolding decimal
decimal_short v = digits_short v v

pub signed_short : (l : ℕ) → length (signed l) ≤ var l + 2
unfolding signed
signed_short l = go (neg l) (decimal_short (var l))
  where
    go : (b : Bool) → length (decimal (var l)) ≤ var l + 1 → length (elim b as (λ _. List ℕ) [ true ↦ 45 ∷ decimal (var l) | false ↦ decimal (var l) ]) ≤ var l + 2
    go true h = omega arith
    go false h = omega arith

lines_short : (n l : ℕ) (t : List ℤ) → n ≤ 1024 → Sound n l t → length (clause_lines t) ≤ 1027 * length t
unfolding clause_lines
lines_short n l t few ended = omega arith
lines_short n l (z ∷ zs) few (nought e s) =
    let h = signed_short (literal z) in
    omega (arith, length-append (signed (literal z)) (parting (literal z) ∷ clause_lines zs), lines_short n 0 zs few s)
lines_short n l (z ∷ zs) few (lettered e f g s) =
    let h = signed_short (literal z) in
    omega (arith, length-append (signed (literal z)) (parting (literal z) ∷ clause_lines zs), lines_short n (l + 1) zs few s)

pub accepted_short : (n : ℕ) (t : List ℤ) → checked n t ≡ Ok tt → (n ≤ 1024) × (length t ≤ 16384) × (length (written n t) < 2 ^ 64)
unfolding written first_line
accepted_short n t e =
    let g = accepted_good n t e in
    let c = length (clauses t) in
    let few : c ≤ length t = rw clauses_counted (count_by-le-length (λ z. eqb (literal z) 0) t) in (
      g.few,
      g.short,
      omega (
        arith,
        g.few,
        g.short,
        decimal_short n,
        decimal_short c,
        lines_short n 0 t g.few g.sound,
        length-append (first_line n c) (10 ∷ clause_lines t),
        length-append (codes "p cnf ") (decimal n ++ (codes " " ++ decimal c)),
        length-append (decimal n) (codes " " ++ decimal c),
      ),
    )
