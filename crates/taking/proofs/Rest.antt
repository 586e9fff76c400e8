-- The loop over the settled table: some clauses are gone through, and the others are still to be.
use Rattle.std.proofs.Common.{◌≡◌, ◌∙◌, refl, sym, ap, subst, ℕ, ◌+◌, ◌-◌, ◌<◌, ◌≤◌, List, [], ◌∷◌, map, take, drop, length, ℤ, arith}
use mathlib.Core.List.{Memᴰ}
use Rattle.std.specs.List.{fold}
use Rattle.std.proofs.lemmas.List.{length-take, length-map, length-drop, drop-drop}
use Rattle.tables.specs.Literal.{literal}
use Rattle.tables.specs.Clause.{clauses}
use Rattle.tables.proofs.EndedClauses.{Begins, clause_begins}
use Rattle.rules.specs.Patterns.{Gate}
use Rattle.rules.specs.Taking.{allowed, take_at, taken_by, taken}
use Rattle.gates.specs.declared.site.Site.{Site}
use Rattle.gates.specs.Sites.{gates_of}
use Rattle.taking.specs.declared.anchor.Anchor.{Anchor}
use Rattle.taking.specs.declared.offer.Taking.{Taking}
use Rattle.taking.specs.Anchors.{literals, IsClause}
use Rattle.taking.specs.Offered.{row, table, gates, may}

abbrev after : Taking → List Gate → List (List ℕ) → List Gate
after s gs cs = fold (take_at (may s) s.n (table s)) gs cs

-- The clauses left are those from a place of the row on, and lead to the same gates as all do.
pub record Rest (s t : Taking) (start : ℕ) (left : List (List ℕ)) : Type 0 where
  pub same_row : row t ≡ row s
  pub same_n : t.n ≡ s.n
  pub at : clauses (drop start (row s)) ≡ left
  pub come : after s (gates t) left ≡ after s (gates s) (table s)
  pub among : (c : List ℕ) → Memᴰ c left → Memᴰ c (table s)

pub rest_begins : (s : Taking) (left : List (List ℕ)) → table s ≡ left → Rest s s 0 left
rest_begins s left e = record { same_row = refl; same_n = refl; at = e; come = ap (after s (gates s)) (sym e); among = λ c i. subst (Memᴰ c) (sym e) i }

module _ (s t : Taking) (start : ℕ) (clause : List ℤ) (left more : List (List ℕ)) (r : Rest s t start left) (e : left ≡ map literal clause ∷ more) where
  begins : Begins (drop start (row s)) (map literal clause) more
  begins = clause_begins (drop start (row s)) (map literal clause) more (r.at ∙ e)

  pub clause_ends : start + length clause < length (row s)
  clause_ends = omega (arith, length-map clause literal, begins.within, length-drop start (row s))

  abbrev anchor : Anchor
  anchor = record { start = start; end = start + length clause }

  anchor_is : literals (row s) anchor ≡ map literal clause
  anchor_is =
      let n : start + length clause - start ≡ length (map literal clause) = omega (arith, length-map clause literal) in
      ap (λ i. map literal (take i (drop start (row s)))) n ∙ begins.is

  pub rest_clause : IsClause (row t) anchor
  rest_clause = subst (λ z. IsClause z anchor) (sym r.same_row)
      (record {
        ordered = omega arith;
        inside = omega (arith, clause_ends);
        among = r.among (literals (row s) anchor) (subst (Memᴰ (literals (row s) anchor)) (sym e) (Memᴰ.head anchor_is));
      })

  same : (m n : ℕ) (y z : List ℤ) (gs : List Gate) (c : List ℕ) → m ≡ n → y ≡ z → literals z anchor ≡ c → take_at (allowed m) m (clauses y) gs (literals y anchor) ≡ take_at (allowed n) n (clauses z) gs c
  same m n y z gs c e f g = rw (e, f, g) refl

  pub rest_goes : (u : Taking) → row u ≡ row t → u.n ≡ t.n → gates u ≡ take_at (may t) t.n (table t) (gates t) (literals (row t) anchor) → Rest s u (start + length clause + 1) more
  rest_goes u p q g =
      record {
        same_row = p ∙ r.same_row;
        same_n = q ∙ r.same_n;
        at =
            let n : start + length clause + 1 ≡ start + (length (map literal clause) + 1) = omega (arith, length-map clause literal) in
            ap (λ i. clauses (drop i (row s))) n ∙ ap clauses (sym (drop-drop (length (map literal clause) + 1) start (row s))) ∙ begins.rest;
        come =
            ap (λ gs. after s gs more) (g ∙ same t.n s.n (row t) (row s) (gates t) (map literal clause) r.same_n r.same_row anchor_is)
            ∙ ap (after s (gates t)) (sym e) ∙ r.come;
        among = λ c i. r.among c (subst (Memᴰ c) (sym e) (Memᴰ.tail i));
      }

pub rest_ends : (s t : Taking) (start : ℕ) (left : List (List ℕ)) → left ≡ [] → Rest s t start left → gates t ≡ after s (gates s) (table s)
rest_ends s t start left e r = ap (after s (gates t)) (sym e) ∙ r.come

-- The loop goes from no gate on.
module _ (s t : Taking) (n : ℕ) (z : List ℤ) (sites : List Site) (p : row s ≡ z) (q : s.n ≡ n) (none : gates s ≡ []) where
  from_none : (m : ℕ) (y : List ℤ) (gs : List Gate) → y ≡ z → m ≡ n → gs ≡ [] → fold (take_at (allowed m) m (clauses y)) gs (clauses y) ≡ taken n (clauses z)
  unfolding taken taken_by
  from_none m y gs e f g = rw (e, f, g) refl

  pub taken_in_the_end : row t ≡ row s → gates t ≡ after s (gates s) (table s) → sites ≡ take t.count t.sites.now → gates_of z sites ≡ taken n (clauses z)
  taken_in_the_end r g e = ap (gates_of z) e ∙ ap (λ y. gates_of y (take t.count t.sites.now)) (sym (r ∙ p)) ∙ g ∙ from_none s.n (row s) (gates s) p q none

pub few_in_the_end : (t : Taking) (n : ℕ) (sites : List Site) → t.n ≡ n → sites ≡ take t.count t.sites.now → length sites ≤ n
few_in_the_end t n sites q e =
    let few : t.count ≤ t.n = t.few in
    omega (arith, few, ap length e, length-take t.count t.sites.now)
