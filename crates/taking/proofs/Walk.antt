-- The candidates of an anchor, one by one.
use Rattle.std.proofs.Common.{◌≡◌, ◌∙◌, refl, sym, ap, subst, ℕ, ◌+◌, ◌<◌, ◌≤◌, Bool, true, false, cond, ◌&&◌, List, [], ◌∷◌, ◌++◌, map, filter, take, drop, length, get_or, slice_range, ℤ, pos}
use mathlib.Core.List.Memᴰ
use mathlib.Core.List.{Memᴰ}
use Rattle.std.proofs.Math.Logic.{∥∥₁_map}
use Rattle.std.proofs.lemmas.Bool.{and_parts}
use Rattle.std.proofs.lemmas.List.{take_more, take_all, map-append, take-append-drop}
use Rattle.std.proofs.lemmas.List.Elements.{filter-append}
use Rattle.ways.proofs.Rows.{mem-filter}
use Rattle.ways.proofs.Members.{get_or-mem}
use Rattle.tables.specs.Literal.{literal}
use Rattle.tables.specs.Clause.{clauses}
use Rattle.rules.specs.Patterns.{Gate, and_form, parity, anchors, found}
use Rattle.rules.specs.Taking.{candidates}
use Rattle.circuits.proofs.Taken.{Valid, candidate_valid}
use Rattle.gates.specs.declared.site.Site.{Site}
use Rattle.gates.specs.Sites.{gate_of}
use Rattle.gates.proofs.SiteLaws.{group_at, form_at}
use Rattle.taking.specs.Settled.{IsSettled}
use Rattle.taking.specs.declared.anchor.Anchor.{Anchor}
use Rattle.taking.specs.declared.offer.Taking.{Taking}
use Rattle.taking.specs.Anchors.{literals, IsClause, groups, group_site, form_site}
use Rattle.taking.specs.Offered.{Offered, row, table}
use Rattle.taking.proofs.Offers.{offered_none, offered_more, offered_done}

-- A literal of an anchor.
pub literal_in : (row : List ℤ) (a : Anchor) (entries : List ℤ) (i o : ℕ) → entries ≡ slice_range row a.start a.end → i < length entries → o ≡ literal (get_or entries i (pos 0)) → Memᴰ o (literals row a)
literal_in row a entries i o e h q = rw (q, ← e) (Memᴰ.map literal (get_or-mem entries i (pos 0) h))

-- An and-form that is found is valid.
pub form_valid : (t : Taking) (a : Anchor) (o : ℕ) → IsClause (row t) a → Memᴰ o (literals (row t) a) → found (table t) (and_form (literals (row t) a) o) ≡ true
    → ∥ Valid t.n (table t) (gate_of (row t) (form_site a o)) ∥₁
unfolding candidates
form_valid t a o k i e =
    let c = literals (row t) a in
    rw (form_at (row t) a.start a.end o)
    (∥∥₁_map t.settled (λ (s : IsSettled t.n (table t)). candidate_valid t.n (table t) s.inside s.proper c k.among (and_form c o)
    (mem-filter (found (table t)) _ (and_form c o) (Memᴰ.append_right (cond (anchors (table t) c) (map (parity c) c) []) (Memᴰ.map (and_form c) i)) e)))

-- One candidate, offered if it is found.
one_kept : (p : Gate → Bool) (g : Gate) → p g ≡ true → filter p (g ∷ []) ≡ g ∷ []
one_kept p g e = rw (e) refl

pub found_offered : (t u : Taking) (b : Bool) (g : Gate) → found (table t) g ≡ true → Offered t u b (g ∷ []) → Offered t u b (filter (found (table t)) (g ∷ []))
found_offered t u b g e o = subst (Offered t u b) (sym (one_kept (found (table t)) g e)) o

pub not_found : (t : Taking) (g : Gate) → found (table t) g ≡ false → Offered t t false (filter (found (table t)) (g ∷ []))
not_found t g e = go (found (table t) g) e
  where
    go : (b : Bool) → b ≡ false → Offered t t false (cond b (g ∷ []) [])
    go b e = rw (e) (offered_none t)

-- The candidates of one form, with the outputs of the anchor's entries before a place.
module _ (p : Gate → Bool) (f : ℕ → Gate) (entries : List ℤ) where
  abbrev pub with_outputs : ℕ → List Gate
  with_outputs i = filter p (map f (map literal (take i entries)))

  abbrev pub all : List Gate
  all = filter p (map f (map literal entries))

  outputs_append : (xs ys : List ℤ) → filter p (map f (map literal (xs ++ ys))) ≡ filter p (map f (map literal xs)) ++ filter p (map f (map literal ys))
  outputs_append xs ys =
      ap (filter p) (ap (map f) (map-append literal xs ys) ∙ map-append f (map literal xs) (map literal ys))
      ∙ filter-append p (map f (map literal xs)) (map f (map literal ys))

  outputs_more : (i : ℕ) → i < length entries → with_outputs (i + 1) ≡ with_outputs i ++ filter p (f (literal (get_or entries i (pos 0))) ∷ [])
  outputs_more i h = ap (λ xs. filter p (map f (map literal xs))) (take_more entries i (pos 0) h) ∙ outputs_append (take i entries) (get_or entries i (pos 0) ∷ [])

  outputs_all : (i : ℕ) → length entries ≤ i → with_outputs i ≡ all
  outputs_all i h = ap (λ xs. filter p (map f (map literal xs))) (take_all i entries h)

  outputs_parts : (i : ℕ) → all ≡ with_outputs i ++ filter p (map f (map literal (drop i entries)))
  outputs_parts i = ap (λ xs. filter p (map f (map literal xs))) (sym (take-append-drop i entries)) ∙ outputs_append (take i entries) (drop i entries)

-- The walk over an anchor's entries: f is `parity` or `and_form`.
module _ (f : List ℕ → ℕ → Gate) (s : Taking) (a : Anchor) (entries : List ℤ) where
  -- The candidates before a place, and all.
  abbrev pub Before : Taking → Bool → ℕ → Type 0
  Before t b i = Offered s t b (with_outputs (found (table s)) (f (literals (row s) a)) entries i)

  abbrev pub All : Taking → Bool → Type 0
  All t b = Offered s t b (filter (found (table s)) (map (f (literals (row s) a)) (literals (row s) a)))

  abbrev At : Taking → Taking → Bool → List ℤ → ℕ → Type 0
  At t u b row o = Offered t u b (filter (found (clauses row)) (f (literals row a) o ∷ []))

  pub before_none : Before s false 0
  before_none = offered_none s

  pub before_more : (t u : Taking) (b : Bool) (i o : ℕ) → i < length entries → o ≡ literal (get_or entries i (pos 0)) → Before t false i → At t u b (row t) o → Before u b (i + 1)
  before_more t u b i o h q k p =
      subst (Offered s u b) (sym (outputs_more (found (table s)) (f (literals (row s) a)) entries i h))
      (offered_more s t u b (with_outputs (found (table s)) (f (literals (row s) a)) entries i) _ k (subst (At t u b (row s)) q (subst (λ r. At t u b r o) k.row p)))

  module _ (e : entries ≡ slice_range (row s) a.start a.end) where
    pub before_done : (t : Taking) (i : ℕ) → Before t true i → All t true
    before_done t i o =
        subst (λ xs. Offered s t true (filter (found (table s)) (map (f (literals (row s) a)) (map literal xs)))) e
        (subst (Offered s t true) (sym (outputs_parts (found (table s)) (f (literals (row s) a)) entries i))
        (offered_done s t (with_outputs (found (table s)) (f (literals (row s) a)) entries i) _ o))

    pub before_all : (t : Taking) (i : ℕ) → length entries ≤ i → Before t false i → All t false
    before_all t i h o =
        subst (λ xs. Offered s t false (filter (found (table s)) (map (f (literals (row s) a)) (map literal xs)))) e
        (subst (Offered s t false) (outputs_all (found (table s)) (f (literals (row s) a)) entries i h) o)

-- What is found of an anchor's own stretch of the row.
pub form_here : (cs : List (List ℕ)) (row : List ℤ) (a : Anchor) (entries : List ℤ) (o : ℕ) (b : Bool) → entries ≡ slice_range row a.start a.end → b ≡ found cs (and_form (map literal entries) o) → found cs (and_form (literals row a) o) ≡ b
form_here cs row a entries o b e q = rw (← e) (sym q)

pub form_offered : (t u : Taking) (b : Bool) (a : Anchor) (o : ℕ) (s : Site) → s ≡ form_site a o → found (table t) (and_form (literals (row t) a) o) ≡ true
    → Offered t u b (gate_of (row t) s ∷ []) → Offered t u b (filter (found (table t)) (and_form (literals (row t) a) o ∷ []))
form_offered t u b a o s e f p = found_offered t u b (and_form (literals (row t) a) o) f (subst (λ g. Offered t u b (g ∷ [])) (ap (gate_of (row t)) e ∙ form_at (row t) a.start a.end o) p)

-- The anchor is its group's first clause, and the group is found.
abbrev pub Whole : List ℤ → Anchor → Type 0
Whole row a = (o : ℕ) → (anchors (clauses row) (literals row a) && found (clauses row) (parity (literals row a) o)) ≡ true

pub whole_here : (row : List ℤ) (a : Anchor) (entries : List ℤ) (b : Bool) → entries ≡ slice_range row a.start a.end → b ≡ true
    → ((o : ℕ) → b ≡ (anchors (clauses row) (map literal entries) && found (clauses row) (parity (map literal entries) o))) → Whole row a
whole_here row a entries b e t h o = rw (← e) (sym (h o) ∙ t)

-- A group that is found is valid, with each output.
pub group_valid : (t : Taking) (a : Anchor) (o : ℕ) → IsClause (row t) a → Memᴰ o (literals (row t) a) → Whole (row t) a → ∥ Valid t.n (table t) (gate_of (row t) (group_site a o)) ∥₁
unfolding candidates
group_valid t a o k i w =
    let c = literals (row t) a in
    let w = and_parts (anchors (table t) c) (found (table t) (parity c o)) (w o) in
    rw (group_at (row t) a.start a.end o)
    (∥∥₁_map t.settled (λ (s : IsSettled t.n (table t)). candidate_valid t.n (table t) s.inside s.proper c k.among (parity c o)
    (mem-filter (found (table t)) _ (parity c o) (Memᴰ.append_left (map (and_form c) c) (there (anchors (table t) c) w.0)) w.1)))
  where
    there : (b : Bool) → b ≡ true → Memᴰ (parity (literals (row t) a) o) (cond b (map (parity (literals (row t) a)) (literals (row t) a)) [])
    there b f = rw (f) (Memᴰ.map (parity (literals (row t) a)) i)

pub groups_whole : (row : List ℤ) (a : Anchor) → Whole row a → groups (clauses row) (literals row a) ≡ filter (found (clauses row)) (map (parity (literals row a)) (literals row a))
groups_whole row a w = go (anchors (clauses row) (literals row a)) (and_parts (anchors (clauses row) (literals row a)) (found (clauses row) (parity (literals row a) 0)) (w 0)).0
  where
    go : (b : Bool) → b ≡ true → filter (found (clauses row)) (cond b (map (parity (literals row a)) (literals row a)) []) ≡ filter (found (clauses row)) (map (parity (literals row a)) (literals row a))
    go b e = rw (e) refl

pub groups_none : (row : List ℤ) (a : Anchor) (entries : List ℤ) (b : Bool) → entries ≡ slice_range row a.start a.end → b ≡ false
    → ((o : ℕ) → b ≡ (anchors (clauses row) (map literal entries) && found (clauses row) (parity (map literal entries) o))) → groups (clauses row) (literals row a) ≡ []
groups_none row a entries b e f h = go (anchors (clauses row) (literals row a)) (λ o. rw (← e) (sym (h o) ∙ f))
  where
    none : (xs : List ℕ) → ((o : ℕ) → found (clauses row) (parity (literals row a) o) ≡ false) → filter (found (clauses row)) (map (parity (literals row a)) xs) ≡ []
    none [] k = refl
    none (x ∷ xs) k = rw (k x) (none xs k)

    go : (w : Bool) → ((o : ℕ) → (w && found (clauses row) (parity (literals row a) o)) ≡ false) → filter (found (clauses row)) (cond w (map (parity (literals row a)) (literals row a)) []) ≡ []
    go true k = none (literals row a) k
    go false k = refl

pub group_offered : (t u : Taking) (b : Bool) (a : Anchor) (o : ℕ) (s : Site) → s ≡ group_site a o → Whole (row t) a
    → Offered t u b (gate_of (row t) s ∷ []) → Offered t u b (filter (found (table t)) (parity (literals (row t) a) o ∷ []))
group_offered t u b a o s e w p =
    found_offered t u b (parity (literals (row t) a) o) (and_parts (anchors (table t) (literals (row t) a)) (found (table t) (parity (literals (row t) a) o)) (w o)).1
    (subst (λ g. Offered t u b (g ∷ [])) (ap (gate_of (row t)) e ∙ group_at (row t) a.start a.end o) p)
