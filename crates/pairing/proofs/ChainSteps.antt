-- Laws of the chains: how they grow clause by clause, and what a walk along one finds.
use Rattle.std.proofs.Common.{◌≡◌, ◌≢◌, refl, sym, ap, subst, ◌∙◌, ℕ, suc, ◌+◌, ◌-◌, ◌<◌, ◌≤◌, List, [], ◌∷◌, length, get_or, set, replicate, take, drop, map, arith, ℤ, pos, Bool, true, false, cond, eqb, ◌&&◌, ◌||◌, get_or-set_same, get_or-set_other}
use mathlib.Core.Bool.{or-false}
use borrow.Author.Tests.{eqb-true, eqb-false, eq-eqb, ne_eqb}
use Rattle.std.proofs.lemmas.List.{drop_more, length-map, length-drop, drop-drop}
use Rattle.std.specs.List.{fold}
use Rattle.ways.specs.Ways.{has, same, among}
use Rattle.tables.specs.Literal.{literal}
use Rattle.tables.specs.Clause.{clauses}
use Rattle.ways.proofs.Runs.{fold-list_any}
use Rattle.ways.proofs.Members.{get_or_same}
use Rattle.tables.proofs.EndedClauses.{Begins, clause_begins}
use Rattle.pairing.specs.PairChains.{after, Chain, Indexed}
use Rattle.pairing.proofs.StandSteps.{two_sides}

-- What a clause adds to a chain.
passed : (x : ℕ) (ys c : List ℕ) → (length c ≡ 2 → ⊥) → after x ys c ≡ ys
unfolding after
passed x ys c n = rw (ne_eqb (length c) 2 n) refl

after_this : (x a b : ℕ) (ys : List ℕ) → eqb x a ≡ true → after x ys (a ∷ b ∷ []) ≡ b ∷ ys
unfolding after
after_this x a b ys e = rw e refl

after_other : (x a b : ℕ) (ys : List ℕ) → eqb x a ≡ false → after x ys (a ∷ b ∷ []) ≡ ys
unfolding after
after_other x a b ys e = rw e refl

-- One clause more, and whether it is that of x and y.
after_has : (x y : ℕ) (ys c : List ℕ) → has y (after x ys c) ≡ (has y ys || same (x ∷ y ∷ []) c)
unfolding after
after_has x y ys [] = sym (or-false (has y ys))
after_has x y ys (a ∷ []) = go (eqb x a)
  where
    go : (p : Bool) → has y ys ≡ (has y ys || (p && false))
    go true = sym (or-false (has y ys))
    go false = sym (or-false (has y ys))
after_has x y ys (a ∷ b ∷ []) = go (eqb x a)
  where
    turn : (q h : Bool) → (q || h) ≡ (h || (q && true))
    turn true true = refl
    turn true false = refl
    turn false true = refl
    turn false false = refl

    go : (p : Bool) → has y (cond p (b ∷ ys) ys) ≡ (has y ys || (p && (eqb y b && true)))
    go true = turn (eqb y b) (has y ys)
    go false = sym (or-false (has y ys))
after_has x y ys (a ∷ b ∷ e ∷ c) = ap (has y) (passed x ys (a ∷ b ∷ e ∷ c) no) ∙ go (eqb x a) (eqb y b)
  where
    no : suc (suc (suc (length c))) ≡ 2 → ⊥
    no q = omega arith

    go : (p q : Bool) → has y ys ≡ (has y ys || (p && (q && false)))
    go true true = sym (or-false (has y ys))
    go true false = sym (or-false (has y ys))
    go false q = sym (or-false (has y ys))

afters_have : (x y : ℕ) (cs : List (List ℕ)) (ys : List ℕ) → has y (fold (after x) ys cs) ≡ (has y ys || among (x ∷ y ∷ []) cs)
afters_have x y cs ys = fold-list_any (after x) (has y) (same (x ∷ y ∷ [])) (after_has x y) ys cs

-- A walk: what is left of the chain of x has y just if the row has the clause of x and y.
pub record Walk (row : List ℤ) (next : List ℕ) (x y h : ℕ) : Type 0 where
  pub rest : List ℕ
  pub chain : Chain row next h rest
  pub tells : among (x ∷ y ∷ []) (clauses row) ≡ has y rest

pub walk_begins : (row : List ℤ) (head next : List ℕ) (x y : ℕ) → Indexed row head next → Walk row next x y (get_or head x 0)
walk_begins row head next x y i = record {
  rest = fold (after x) [] (clauses row);
  chain = i x;
  tells = sym (afters_have x y (clauses row) []);
}

-- What is known at a clause of the chain.
abbrev Parts : List ℤ → List ℕ → ℕ → ℕ → ℕ → Type 0
Parts row next x y h =
    (r : List ℕ) × (h < length row) × (get_or next (h - 1) 0 < h)
    × (among (x ∷ y ∷ []) (clauses row) ≡ (eqb y (literal (get_or row h (pos 0))) || has y r)) × Chain row next (get_or next (h - 1) 0) r

parts_of : (row : List ℤ) (next : List ℕ) (x y h : ℕ) (ys : List ℕ) → Chain row next h ys → among (x ∷ y ∷ []) (clauses row) ≡ has y ys → 0 < h → Parts row next x y h
unfolding Chain
parts_of row next x y h [] e t l = absurd (omega arith)
parts_of row next x y h (z ∷ ys) ((p, q, e), f, c) t l = (ys, q, f, t ∙ ap (λ w. eqb y w || has y ys) e, c)

parts : (row : List ℤ) (next : List ℕ) (x y h : ℕ) → Walk row next x y h → 0 < h → Parts row next x y h
parts row next x y h w l = parts_of row next x y h w.rest w.chain w.tells l

pub walk_inside : (row : List ℤ) (next : List ℕ) (x y h : ℕ) → Walk row next x y h → 0 < h → h < length row
walk_inside row next x y h w l = let (r, q, f, t, c) = parts row next x y h w l in q

pub walk_falls : (row : List ℤ) (next : List ℕ) (x y h : ℕ) → Walk row next x y h → 0 < h → get_or next (h - 1) 0 < h
walk_falls row next x y h w l = let (r, q, f, t, c) = parts row next x y h w l in f

pub walk_finds : (row : List ℤ) (next : List ℕ) (x y h : ℕ) → Walk row next x y h → 0 < h → y ≡ literal (get_or row h (pos 0))
    → among (x ∷ y ∷ []) (clauses row) ≡ true
walk_finds row next x y h w l e =
    let (r, q, f, t, c) = parts row next x y h w l in t ∙ ap (λ b. b || has y r) (eq-eqb y (literal (get_or row h (pos 0))) e)

pub walk_turns : (row : List ℤ) (next : List ℕ) (x y h : ℕ) → Walk row next x y h → 0 < h → (y ≡ literal (get_or row h (pos 0)) → ⊥)
    → Walk row next x y (get_or next (h - 1) 0)
walk_turns row next x y h w l e =
    let (r, q, f, t, c) = parts row next x y h w l in
    record { rest = r; chain = c; tells = t ∙ ap (λ b. b || has y r) (ne_eqb y (literal (get_or row h (pos 0))) e) }

pub walk_ends : (row : List ℤ) (next : List ℕ) (x y h : ℕ) → Walk row next x y h → h ≡ 0 → among (x ∷ y ∷ []) (clauses row) ≡ false
unfolding Chain
walk_ends row next x y h w e = go w.rest w.chain w.tells
  where
    go : (ys : List ℕ) → Chain row next h ys → among (x ∷ y ∷ []) (clauses row) ≡ has y ys → among (x ∷ y ∷ []) (clauses row) ≡ false
    go [] c t = t
    go (z ∷ ys) ((p, q, f), g, c) t = absurd (omega arith)

-- A place at or behind a chain's first clause may be written: the chain stays.
chain_stays : (row : List ℤ) (next : List ℕ) (h : ℕ) (ys : List ℕ) (i v : ℕ) → h ≤ i → Chain row next h ys → Chain row (set next i v) h ys
unfolding Chain
chain_stays row next h [] i v l c = c
chain_stays row next h (y ∷ ys) i v l ((p, q, e), f, c) =
    let ne : h - 1 ≢ i = omega arith in
    let le : get_or next (h - 1) 0 ≤ i = omega arith in
    let o : get_or (set next i v) (h - 1) 0 ≡ get_or next (h - 1) 0 = get_or-set_other next i (h - 1) v 0 ne in
    rw o ((p, q, e), f, chain_stays row next (get_or next (h - 1) 0) ys i v le c)

-- While the row is indexed: the chain of x has its clauses before a place, and these are left.
pub record Open (row : List ℤ) (next : List ℕ) (h start x : ℕ) (left : List (List ℕ)) : Type 0 where
  pub before : List ℕ
  pub chain : Chain row next h before
  pub low : h ≤ start
  pub tells : fold (after x) [] (clauses row) ≡ fold (after x) before left

pub record Chained (row : List ℤ) (head next : List ℕ) (start : ℕ) (left : List (List ℕ)) : Type 0 where
  pub chains : (x : ℕ) → Open row next (get_or head x 0) start x left

pub chain_begins : (row : List ℤ) (head next : List ℕ) (left : List (List ℕ)) → head ≡ replicate (length head) 0 → left ≡ clauses row → Chained row head next 0 left
unfolding Chain
chain_begins row head next left e f = record { chains = λ x. go x }
  where
    nought : (x : ℕ) → get_or head x 0 ≡ 0
    nought x = ap (λ s. get_or s x 0) e ∙ get_or_same (length head) x 0

    go : (x : ℕ) → Open row next (get_or head x 0) 0 x left
    go x = rw (nought x) (record { before = []; chain = refl; low = omega arith; tells = ap (fold (after x) []) (sym f) })

pub chain_passes : (row : List ℤ) (head next c : List ℕ) (start : ℕ) (left : List (List ℕ)) → Chained row head next start (c ∷ left) → (length c ≡ 2 → ⊥)
    → Chained row head next (start + (length c + 1)) left
chain_passes row head next c start left h n = record {
  chains = λ x. let o = h.chains x in let low = o.low in
      record { before = o.before; chain = o.chain; low = omega arith; tells = o.tells ∙ ap (λ ys. fold (after x) ys left) (passed x o.before c n) };
}

-- A clause in front of a chain.
linked : (row : List ℤ) (next : List ℕ) (g start v : ℕ) (ys : List ℕ) → start < length next → start + 1 < length row → v ≡ literal (get_or row (start + 1) (pos 0))
    → g ≤ start → Chain row next g ys → Chain row (set next start g) (start + 1) (v ∷ ys)
unfolding Chain
linked row next g start v ys k h w l c =
    let i : start + 1 - 1 ≡ start = omega arith in
    let back : get_or (set next start g) (start + 1 - 1) 0 ≡ g = ap (λ j. get_or (set next start g) j 0) i ∙ get_or-set_same next start g 0 k in
    rw back ((omega arith, h, w), omega arith, chain_stays row next g ys start g l c)

open_links : (row : List ℤ) (head next : List ℕ) (start u v x : ℕ) (left : List (List ℕ)) → Chained row head next start ((u ∷ v ∷ []) ∷ left)
    → v ≡ literal (get_or row (start + 1) (pos 0)) → start + 1 < length row → start < length next → u < length head → (b : Bool) → eqb x u ≡ b
    → Open row (set next start (get_or head u 0)) (get_or (set head u (start + 1)) x 0) (start + 3) x left
open_links row head next start u v x left c second within k l true q =
    let o = c.chains u in
    let at : get_or (set head u (start + 1)) u 0 ≡ start + 1 = get_or-set_same head u (start + 1) 0 l in
    let low : start + 1 ≤ start + 3 = omega arith in
    subst (λ y. Open row (set next start (get_or head u 0)) (get_or (set head u (start + 1)) y 0) (start + 3) y left) (sym (eqb-true x u q))
    (subst (λ m. Open row (set next start (get_or head u 0)) m (start + 3) u left) (sym at)
    (record {
      before = v ∷ o.before;
      chain = linked row next (get_or head u 0) start v o.before k within second o.low o.chain;
      low = low;
      tells = o.tells ∙ ap (λ ys. fold (after u) ys left) (after_this u u v o.before (eq-eqb u u refl));
    }))
open_links row head next start u v x left c second within k l false q =
    let o = c.chains x in
    let at : get_or (set head u (start + 1)) x 0 ≡ get_or head x 0 = get_or-set_other head u x (start + 1) 0 (eqb-false x u q) in
    let under = o.low in
    let low : get_or head x 0 ≤ start + 3 = omega arith in
    subst (λ m. Open row (set next start (get_or head u 0)) m (start + 3) x left) (sym at)
    (record {
      before = o.before;
      chain = chain_stays row next (get_or head x 0) o.before start (get_or head u 0) o.low o.chain;
      low = low;
      tells = o.tells ∙ ap (λ ys. fold (after x) ys left) (after_other x u v o.before q);
    })

pub chain_links : (row : List ℤ) (head next : List ℕ) (start u v : ℕ) (left : List (List ℕ)) → Chained row head next start ((u ∷ v ∷ []) ∷ left)
    → v ≡ literal (get_or row (start + 1) (pos 0)) → start + 1 < length row → start < length next → u < length head
    → Chained row (set head u (start + 1)) (set next start (get_or head u 0)) (start + 3) left
chain_links row head next start u v left c second within k l = record { chains = λ x. open_links row head next start u v x left c second within k l (eqb x u) refl }

pub chain_ends : (row : List ℤ) (head next : List ℕ) (start : ℕ) (left : List (List ℕ)) → Chained row head next start left → left ≡ [] → Indexed row head next
chain_ends row head next start left c e = λ x. let o = c.chains x in subst (Chain row next (get_or head x 0)) (sym (o.tells ∙ ap (fold (after x) o.before) e)) o.chain

pub chained_same : (row : List ℤ) (head head' next next' : List ℕ) (start start' : ℕ) (left left' : List (List ℕ)) → head' ≡ head → next' ≡ next → start' ≡ start
    → left' ≡ left → Chained row head next start left → Chained row head' next' start' left'
chained_same row head head' next next' start start' left left' a b d e c = rw (a, b, d, e) c

-- A clause that begins at a place, where the clauses from there on are it and those that are left.
module _ (row clause : List ℤ) (start : ℕ) (left : List (List ℕ)) (at : clauses (drop start row) ≡ map literal clause ∷ left) where
  begins : Begins (drop start row) (map literal clause) left
  begins = clause_begins (drop start row) (map literal clause) left at

  pub clause_within : start + length clause < length row
  clause_within = omega (arith, length-map clause literal, begins.within, length-drop start row)

  pub left_at : clauses (drop (start + (length clause + 1)) row) ≡ left
  left_at =
      let n : length (map literal clause) + 1 ≡ length clause + 1 = omega (arith, length-map clause literal) in
      ap clauses (sym (drop-drop (length clause + 1) start row)) ∙ ap (λ i. clauses (drop i (drop start row))) (sym n) ∙ begins.rest

  module _ (two : length clause ≡ 2) where
    sides : map literal (take 2 (drop start row)) ≡ literal (get_or clause 0 (pos 0)) ∷ literal (get_or clause 1 (pos 0)) ∷ []
    sides =
        let n : length (map literal clause) ≡ 2 = length-map clause literal ∙ two in
        ap (λ i. map literal (take i (drop start row))) (sym n) ∙ begins.is ∙ two_sides clause two

    both : map literal (take 2 (drop start row)) ≡ literal (get_or row start (pos 0)) ∷ literal (get_or row (start + 1) (pos 0)) ∷ []
    both =
        let w = clause_within in
        let a : start < length row = omega arith in
        let b : start + 1 < length row = omega arith in
        rw (drop_more row start (pos 0) a, drop_more row (start + 1) (pos 0) b) refl

    pub first_at : literal (get_or clause 0 (pos 0)) ≡ literal (get_or row start (pos 0))
    first_at = ap (λ c. get_or c 0 0) (sym sides ∙ both)

    second_at : literal (get_or clause 1 (pos 0)) ≡ literal (get_or row (start + 1) (pos 0))
    second_at = ap (λ c. get_or c 1 0) (sym sides ∙ both)

    pub chain_links_at : (head next : List ℕ) → Chained row head next start (map literal clause ∷ left) → start < length next
        → literal (get_or clause 0 (pos 0)) < length head
        → Chained row (set head (literal (get_or clause 0 (pos 0))) (start + 1)) (set next start (get_or head (literal (get_or clause 0 (pos 0))) 0)) (start + (length clause + 1)) left
    chain_links_at head next c k l =
        let w = clause_within in
        let n : start + 3 ≡ start + (length clause + 1) = omega arith in
        subst (λ i. Chained row (set head (literal (get_or clause 0 (pos 0))) (start + 1)) (set next start (get_or head (literal (get_or clause 0 (pos 0))) 0)) i left) n
        (chain_links row head next start (literal (get_or clause 0 (pos 0))) (literal (get_or clause 1 (pos 0))) left
        (subst (λ u. Chained row head next start (u ∷ left)) (two_sides clause two) c) second_at (omega arith) k l)

  pub chain_passes_at : (head next : List ℕ) → Chained row head next start (map literal clause ∷ left) → (length clause ≡ 2 → ⊥)
      → Chained row head next (start + (length clause + 1)) left
  chain_passes_at head next c n =
      subst (λ i. Chained row head next (start + (i + 1)) left) (length-map clause literal)
      (chain_passes row head next (map literal clause) start left c (λ q. n (sym (length-map clause literal) ∙ q)))
