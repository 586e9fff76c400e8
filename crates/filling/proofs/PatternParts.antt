-- The clauses of a gate's pattern at its site.
use Rattle.std.proofs.Common.{◌≡◌, ◌∙◌, refl, sym, ap, ℕ, Bool, true, false, cond, not, ◌&&◌, ◌||◌, List, [], ◌∷◌, map, length, eqb, filter, ℤ, slice_range, ⊎_elim, eq-eqb}
use Rattle.std.specs.List.{list_any}
use Rattle.std.specs.Cmp.Lexicographic.{bytes_decides}
use Rattle.std.proofs.Math.Bool.{or-true}
use Rattle.std.proofs.lemmas.Bool.{and_parts, cases_lt, false_from_ne_true, false≢true}
use Rattle.std.proofs.lemmas.List.{length-map}
use Rattle.ways.specs.Ways.{among, has, same}
use Rattle.ways.proofs.Rows.{list_any-map, list_any-mem}
use Rattle.tables.specs.Literal.{literal, opp}
use Rattle.rules.proofs.SideLaws.{side_rises, side_falls}
use Rattle.rules.specs.Patterns.{others, side, group, and_form, parity}
use Rattle.gates.specs.declared.site.Site.{Site}
use Rattle.gates.specs.Sites.{anchor_of, gate_of}

-- The clause of the output with another literal has two literals, and one is the output's opposite.
two_of : (o x : ℕ) → (o ≡ x → ⊥) → (d : List ℕ) → d ≡ side o x → (length d ≡ 2) × (has (opp o) d ≡ true)
two_of o x n d e =
    ⊎_elim
    (λ l. let q : d ≡ opp o ∷ opp x ∷ [] = e ∙ side_rises o x l in (ap length q, ap (has (opp o)) q ∙ rw (eq-eqb (opp o) (opp o) refl) refl))
    (λ l. let q : d ≡ opp x ∷ opp o ∷ [] = e ∙ side_falls o x n l in (ap length q, ap (has (opp o)) q ∙ rw (eq-eqb (opp o) (opp o) refl) (or-true (eqb (opp o) (opp x)))))
    (cases_lt (opp o) (opp x))

any_two : (d c : List ℕ) (o : ℕ) → list_any (λ x. not (eqb x o) && same d (side o x)) c ≡ true → (length d ≡ 2) × (has (opp o) d ≡ true)
any_two d c o e =
    let (x, i, h) = list_any-mem (λ x. not (eqb x o) && same d (side o x)) c e in
    let (n, q) = and_parts (not (eqb x o)) (same d (side o x)) h in
    two_of o x (λ w. false≢true (sym (ap not (eq-eqb x o (sym w))) ∙ n)) d ((bytes_decides d (side o x)).0 q)

-- So another clause is none of these.
pub no_side : (clause anchor : List ℤ) (o : ℕ) → (eqb (length clause) 2 && has (opp o) (map literal clause)) ≡ false
    → list_any (λ x. not (eqb x o) && same (map literal clause) (side o x)) (map literal anchor) ≡ false
no_side clause anchor o e =
    false_from_ne_true _
    (λ q. let (two, h) = any_two (map literal clause) (map literal anchor) o q in
    false≢true (sym e ∙ rw (eq-eqb (length clause) 2 (sym (length-map clause literal) ∙ two), h) refl))

-- Does a clause of what is kept pass a test?
kept_any : {X : Type 0} (t d : X → Bool) (xs : List X) → list_any t (filter (λ x. not (d x)) xs) ≡ list_any (λ x. not (d x) && t x) xs
kept_any t d [] = refl
kept_any t d (x ∷ xs) = go (d x) (kept_any t d xs)
  where
    go : (b : Bool) → list_any t (filter (λ x. not (d x)) xs) ≡ list_any (λ x. not (d x) && t x) xs
        → list_any t (cond (not b) (x ∷ filter (λ x. not (d x)) xs) (filter (λ x. not (d x)) xs)) ≡ ((not b && t x) || list_any (λ x. not (d x) && t x) xs)
    go true e = e
    go false e = ap (λ b. t x || b) e

module _ (d c : List ℕ) (o : ℕ) where
  in_form : among d (and_form c o).pattern ≡ (same d c || list_any (λ x. not (eqb x o) && same d (side o x)) c)
  unfolding and_form others
  in_form = ap (λ b. same d c || b) (list_any-map (side o) (same d) (filter (λ x. not (eqb x o)) c) ∙ kept_any (λ x. same d (side o x)) (λ x. eqb x o) c)

  in_either : (b : Bool) → among d (cond b (parity c o) (and_form c o)).pattern
      ≡ cond b (among d (group c)) (same d c || list_any (λ x. not (eqb x o) && same d (side o x)) c)
  unfolding parity
  in_either true = refl
  in_either false = in_form

pub pattern_at : (row : List ℤ) (s : Site) (d : List ℕ) → among d (gate_of row s).pattern
    ≡ cond s.parity (among d (group (map literal (slice_range row s.start s.end))))
    (same d (map literal (slice_range row s.start s.end)) || list_any (λ x. not (eqb x s.output) && same d (side s.output x)) (map literal (slice_range row s.start s.end)))
unfolding gate_of
pattern_at row s d = in_either d (anchor_of row s) s.output s.parity
