-- The chains stay right when a clause is written behind their row.
use Rattle.std.proofs.Common.{◌≡◌, ◌≢◌, ◌∙◌, refl, sym, ap, subst, ℕ, ◌+◌, ◌-◌, ◌<◌, ◌≤◌, Bool, true, false, ◌||◌, eqb, List, [], ◌∷◌, ◌++◌, map, length, get_or, set, take, drop, replicate, arith, ℤ, pos, get_or-set_same, get_or-set_other}
use borrow.Author.Tests.{eqb-true, eq-eqb, ne_eqb}
use Rattle.std.specs.List.{fold}
use Rattle.std.proofs.lemmas.List.Folds.{list_any-append}
use Rattle.std.proofs.lemmas.Bool.{eqb-false}
use Rattle.std.proofs.lemmas.List.{drop-append-le, take-append-le, take_all, take-append-drop, length-append}
use Rattle.std.proofs.Math.Seq.{drop-append_seam}
use Rattle.ways.specs.Ways.{has, same, among}
use Rattle.ways.proofs.Members.{get_or_same}
use Rattle.tables.specs.Literal.{literal}
use Rattle.tables.specs.Clause.{clauses_from, clauses}
use Rattle.chains.specs.Ended.{left_open, Ended}
use Rattle.chains.specs.Key.{key}
use Rattle.chains.specs.Links.{after, clause_at, Starts, Chain, Chained}
use Rattle.chains.specs.Follow.{Covers}
use Rattle.chains.proofs.Endings.{clauses-append, clauses_behind, ended_behind, clause_from, ended_from}

-- Further clauses change nothing of the first.
first_stays : (cs ds : List (List ℕ)) → 0 < length cs → (0 < length (cs ++ ds)) × (get_or (cs ++ ds) 0 [] ≡ get_or cs 0 [])
first_stays [] ds l = absurd (omega arith)
first_stays (c ∷ cs) ds l = (omega arith, refl)

-- A clause that starts in a row starts there too when more is behind the row.
module _ (row more : List ℤ) (at : ℕ) (h : at ≤ length row) (s : Starts row at) where
  further : clauses (drop at (row ++ more)) ≡ clauses (drop at row) ++ clauses_from (left_open [] (drop at row)) more
  unfolding clauses
  further = ap (clauses_from []) (drop-append-le at row more h) ∙ clauses-append [] (drop at row) more

  starts_stays : Starts (row ++ more) at
  starts_stays = rw (further) ((first_stays (clauses (drop at row)) (clauses_from (left_open [] (drop at row)) more) s).0)

  at_stays : clause_at (row ++ more) at ≡ clause_at row at
  at_stays = rw (further) ((first_stays (clauses (drop at row)) (clauses_from (left_open [] (drop at row)) more) s).1)

chain_grows : (row more : List ℤ) (links : List ℕ) (h : ℕ) (cs : List (List ℕ)) → Chain row links h cs → Chain (row ++ more) links h cs
unfolding Chain
chain_grows row more links h [] e = e
chain_grows row more links h (c ∷ cs) ((p, i, s, e), f, g) = (
  (p, omega (arith, length-append row more), starts_stays row more (h - 1) (omega arith) s, at_stays row more (h - 1) (omega arith) s ∙ e),
  f,
  chain_grows row more links (get_or links (h - 1) 0) cs g,
)

chain_low : (row : List ℤ) (links : List ℕ) (h : ℕ) (cs : List (List ℕ)) → Chain row links h cs → h ≤ length row
unfolding Chain
chain_low row links h [] e = omega arith
chain_low row links h (c ∷ cs) ((p, i, s, e), f, g) = i

-- A place at or behind a chain's first clause may be written: the chain stays.
chain_stays : (row : List ℤ) (links : List ℕ) (h : ℕ) (cs : List (List ℕ)) (i v : ℕ) → h ≤ i → Chain row links h cs → Chain row (set links i v) h cs
unfolding Chain
chain_stays row links h [] i v l e = e
chain_stays row links h (c ∷ cs) i v l ((p, j, s, e), f, g) =
    let ne : h - 1 ≢ i = omega arith in
    let le : get_or links (h - 1) 0 ≤ i = omega arith in
    let o : get_or (set links i v) (h - 1) 0 ≡ get_or links (h - 1) 0 = get_or-set_other links i (h - 1) v 0 ne in
    rw o ((p, j, s, e), f, chain_stays row links (get_or links (h - 1) 0) cs i v le g)

-- A clause in front of a chain.
linked : (row : List ℤ) (links : List ℕ) (g start : ℕ) (c : List ℕ) (cs : List (List ℕ)) → start < length links → start < length row → Starts row start
    → clause_at row start ≡ c → g ≤ start → Chain row links g cs → Chain row (set links start g) (start + 1) (c ∷ cs)
unfolding Chain
linked row links g start c cs k h s e l chain =
    let i : start + 1 - 1 ≡ start = omega arith in
    let back : get_or (set links start g) (start + 1 - 1) 0 ≡ g = ap (λ j. get_or (set links start g) j 0) i ∙ get_or-set_same links start g 0 k in
    rw back ((omega arith, omega arith, subst (Starts row) (sym i) s, ap (clause_at row) i ∙ e), omega arith, chain_stays row links g cs start g l chain)

after_own : (k : ℕ) (cs : List (List ℕ)) (c : List ℕ) → key c ≡ k → after k cs c ≡ c ∷ cs
unfolding after
after_own k cs c e = rw (eq-eqb (key c) k e) refl

after_other : (k : ℕ) (cs : List (List ℕ)) (c : List ℕ) → (key c ≡ k → ⊥) → after k cs c ≡ cs
unfolding after
after_other k cs c e = rw (ne_eqb (key c) k e) refl

fold_more : (k : ℕ) (cs ds : List (List ℕ)) (c : List ℕ) → fold (after k) ds (cs ++ (c ∷ [])) ≡ after k (fold (after k) ds cs) c
fold_more k [] ds c = refl
fold_more k (d ∷ cs) ds c = fold_more k cs (after k ds d) c

-- A clause with its zero behind an ended row.
module _ (row clause : List ℤ) (whole : has 0 (map literal clause) ≡ false) (f : Ended row) where
  new : List ℤ
  new = clause ++ (pos 0 ∷ [])

  one : clauses (clause ++ (pos 0 ∷ [])) ≡ map literal clause ∷ []
  unfolding clauses
  one = clause_from [] clause whole

  all : clauses (row ++ (clause ++ (pos 0 ∷ []))) ≡ clauses row ++ (map literal clause ∷ [])
  all = clauses_behind row (clause ++ (pos 0 ∷ [])) f ∙ ap (λ cs. clauses row ++ cs) one

  here : clauses (drop (length row) (row ++ (clause ++ (pos 0 ∷ [])))) ≡ map literal clause ∷ []
  here = ap clauses (drop-append_seam row (clause ++ (pos 0 ∷ []))) ∙ one

  size : length (row ++ (clause ++ (pos 0 ∷ []))) ≡ length row + length clause + 1
  size = simp length-append (omega arith)

  pub ended_grows : Ended (row ++ (clause ++ (pos 0 ∷ [])))
  ended_grows = ended_behind row (clause ++ (pos 0 ∷ [])) f (ended_from [] clause whole)

  module _ (heads links : List ℕ) (c : Chained row heads links) (k : ℕ) (e : k ≡ key (map literal clause)) (in_heads : k < length heads) (in_links : length row < length links) where
    grown : (j : ℕ) → j < 2048 → (b : Bool) → eqb k j ≡ b
        → Chain (row ++ (clause ++ (pos 0 ∷ []))) (set links (length row) (get_or heads k 0)) (get_or (set heads k (length row + 1)) j 0)
        (after j (fold (after j) [] (clauses row)) (map literal clause))
    grown j l true q =
        let i : k ≡ j = eqb-true k j q in
        let old : Chain row links (get_or heads k 0) (fold (after j) [] (clauses row)) = subst (λ n. Chain row links (get_or heads n 0) (fold (after j) [] (clauses row))) (sym i) (c j l) in
        let head : get_or (set heads k (length row + 1)) j 0 ≡ length row + 1 =
        ap (λ n. get_or (set heads k (length row + 1)) n 0) (sym i) ∙ get_or-set_same heads k (length row + 1) 0 in_heads in
        let s : Starts (row ++ (clause ++ (pos 0 ∷ []))) (length row) = rw (here) (omega arith) in
        let a : clause_at (row ++ (clause ++ (pos 0 ∷ []))) (length row) ≡ map literal clause = ap (λ cs. get_or cs 0 []) here in
        rw (head, after_own j (fold (after j) [] (clauses row)) (map literal clause) (sym e ∙ i))
        (linked (row ++ (clause ++ (pos 0 ∷ []))) links (get_or heads k 0) (length row) (map literal clause) (fold (after j) [] (clauses row)) in_links (omega (arith, size)) s a
        (chain_low row links (get_or heads k 0) _ old) (chain_grows row (clause ++ (pos 0 ∷ [])) links (get_or heads k 0) _ old))
    grown j l false q =
        let n : k ≡ j → ⊥ = eqb-false k j q in
        let old = c j l in
        let head : get_or (set heads k (length row + 1)) j 0 ≡ get_or heads j 0 = get_or-set_other heads k j (length row + 1) 0 (λ p. n (sym p)) in
        rw (head, after_other j (fold (after j) [] (clauses row)) (map literal clause) (λ p. n (e ∙ p)))
        (chain_stays (row ++ (clause ++ (pos 0 ∷ []))) links (get_or heads j 0) (fold (after j) [] (clauses row)) (length row) (get_or heads k 0) (chain_low row links (get_or heads j 0) _ old)
        (chain_grows row (clause ++ (pos 0 ∷ [])) links (get_or heads j 0) _ old))

    pub chained_grows : Chained (row ++ (clause ++ (pos 0 ∷ []))) (set heads k (length row + 1)) (set links (length row) (get_or heads k 0))
    chained_grows = λ j l.
        subst (λ cs. Chain (row ++ (clause ++ (pos 0 ∷ []))) (set links (length row) (get_or heads k 0)) (get_or (set heads k (length row + 1)) j 0) cs)
        (sym (ap (fold (after j) []) all ∙ fold_more j (clauses row) [] (map literal clause))) (grown j l (eqb k j) refl)

-- The chains of a row that has no entry.
pub covers_none : (heads links : List ℕ) → heads ≡ replicate (length heads) 0 → Covers [] heads links 0
unfolding left_open Chain clauses clauses_from
covers_none heads links e = record { within = omega arith; ended = refl; chained = λ k l. ap (λ s. get_or s k 0) e ∙ get_or_same (length heads) k 0 }

-- Chains that cover a row, or a part of it, when a clause is written behind it.
module _ (row clause : List ℤ) (heads links : List ℕ) (whole : has 0 (map literal clause) ≡ false) where
  pub covers_more : (start covered k : ℕ) → Covers row heads links covered → covered ≡ start → start ≡ length row → k ≡ key (map literal clause) → k < length heads → start < length links
      → Covers (row ++ (clause ++ (pos 0 ∷ []))) (set heads k (start + 1)) (set links start (get_or heads k 0)) (start + length clause + 1)
  covers_more start covered k c e s q h l =
      let t : take covered row ≡ row = take_all covered row (omega arith) in
      let f : Ended row = rw t at c.ended in
      let g : Chained row heads links = rw t at c.chained in
      let z : start + length clause + 1 ≡ length (row ++ (clause ++ (pos 0 ∷ []))) = omega (arith, size row clause whole f) in
      let u : take (start + length clause + 1) (row ++ (clause ++ (pos 0 ∷ []))) ≡ row ++ (clause ++ (pos 0 ∷ [])) = take_all (start + length clause + 1) (row ++ (clause ++ (pos 0 ∷ []))) (omega arith) in
      record {
        within = omega arith;
        ended = rw u (ended_grows row clause whole f);
        chained = rw (u, s) (chained_grows row clause whole f heads links g k q h (omega arith));
      }

  pub covers_still : (covered : ℕ) (more : List ℤ) → Covers row heads links covered → Covers (row ++ more) heads links covered
  covers_still covered more c =
      let w : covered ≤ length row = c.within in
      let t : take covered (row ++ more) ≡ take covered row = take-append-le covered row more w in
      record { within = omega (arith, length-append row more); ended = rw t c.ended; chained = rw t c.chained }

-- A clause is among a row's if it is among those of the covered entries or those behind them.
pub covered_has : (row : List ℤ) (covered : ℕ) (d : List ℕ) → Ended (take covered row)
    → among d (clauses row) ≡ (among d (clauses (take covered row)) || among d (clauses (drop covered row)))
covered_has row covered d e =
    ap (λ zs. among d (clauses zs)) (sym (take-append-drop covered row)) ∙ ap (among d) (clauses_behind (take covered row) (drop covered row) e)
    ∙ list_any-append (same d) (clauses (take covered row)) (clauses (drop covered row))
