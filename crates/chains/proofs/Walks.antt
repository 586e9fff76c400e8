-- A walk along the chain of a key finds each clause of that key.
use Rattle.std.proofs.Common.{◌≡◌, ◌∙◌, refl, sym, ap, ℕ, ◌-◌, ◌<◌, ◌≤◌, Bool, true, false, cond, ◌||◌, eqb, List, [], ◌∷◌, length, get_or, arith, ℤ}
use Rattle.std.specs.List.{fold}
use Rattle.std.specs.Cmp.Lexicographic.{bytes_decides}
use Rattle.std.proofs.Math.Bool.{or_comm, or-false}
use Rattle.std.proofs.lemmas.Bool.{false_from_ne_true, eqb-false}
use Rattle.ways.specs.Ways.{same, among}
use Rattle.ways.proofs.Runs.{fold-list_any}
use Rattle.tables.specs.Clause.{clauses}
use Rattle.chains.specs.Key.{key}
use Rattle.chains.specs.Links.{after, clause_at, Starts, Chain, Chained}

-- A clause more of its key, and whether a clause is among them.
after_has : (d : List ℕ) (cs : List (List ℕ)) (c : List ℕ) → among d (after (key d) cs c) ≡ (among d cs || same d c)
unfolding after
after_has d cs c = go (eqb (key c) (key d)) refl
  where
    go : (b : Bool) → eqb (key c) (key d) ≡ b → among d (cond b (c ∷ cs) cs) ≡ (among d cs || same d c)
    go true e = or_comm (same d c) (among d cs)
    go false e =
        let apart : same d c ≡ false = false_from_ne_true (same d c) (λ q. eqb-false (key c) (key d) e (ap key (sym ((bytes_decides d c).0 q)))) in
        sym (ap (λ t. among d cs || t) apart ∙ or-false (among d cs))

afters_have : (d : List ℕ) (cs : List (List ℕ)) → among d (fold (after (key d)) [] cs) ≡ among d cs
afters_have d cs = fold-list_any (after (key d)) (among d) (same d) (after_has d) [] cs

-- What is left of a walk has the clause just if the row has it.
pub record Walk (row : List ℤ) (links : List ℕ) (d : List ℕ) (h : ℕ) : Type 0 where
  pub rest : List (List ℕ)
  pub chain : Chain row links h rest
  pub tells : among d (clauses row) ≡ among d rest

pub walk_begins : (row : List ℤ) (heads links d : List ℕ) → Chained row heads links → key d < 2048 → Walk row links d (get_or heads (key d) 0)
walk_begins row heads links d h k = record {
  rest = fold (after (key d)) [] (clauses row);
  chain = h (key d) k;
  tells = sym (afters_have d (clauses row));
}

-- What is known at a clause of the chain.
pub record Stop (row : List ℤ) (links : List ℕ) (d : List ℕ) (h : ℕ) : Type 0 where
  pub inside : h ≤ length row
  pub starts : Starts row (h - 1)
  pub falls : get_or links (h - 1) 0 < h
  pub left : List (List ℕ)
  pub tells : among d (clauses row) ≡ (same d (clause_at row (h - 1)) || among d left)
  pub chain : Chain row links (get_or links (h - 1) 0) left

stop_of : (row : List ℤ) (links d : List ℕ) (h : ℕ) (cs : List (List ℕ)) → Chain row links h cs → among d (clauses row) ≡ among d cs → 0 < h → Stop row links d h
unfolding Chain
stop_of row links d h [] e t l = absurd (omega arith)
stop_of row links d h (c ∷ cs) ((p, i, s, e), f, g) t l =
    record { inside = i; starts = s; falls = f; left = cs; tells = t ∙ ap (λ x. same d x || among d cs) (sym e); chain = g }

pub stop : (row : List ℤ) (links d : List ℕ) (h : ℕ) → Walk row links d h → 0 < h → Stop row links d h
stop row links d h w l = stop_of row links d h w.rest w.chain w.tells l

module _ (row : List ℤ) (links d : List ℕ) (h : ℕ) (s : Stop row links d h) where
  pub walk_finds : same d (clause_at row (h - 1)) ≡ true → among d (clauses row) ≡ true
  walk_finds e = s.tells ∙ ap (λ b. b || among d s.left) e

  pub walk_turns : same d (clause_at row (h - 1)) ≡ false → Walk row links d (get_or links (h - 1) 0)
  walk_turns e = record { rest = s.left; chain = s.chain; tells = s.tells ∙ ap (λ b. b || among d s.left) e }

pub walk_ends : (row : List ℤ) (links d : List ℕ) (h : ℕ) → Walk row links d h → h ≡ 0 → among d (clauses row) ≡ false
unfolding Chain
walk_ends row links d h w e = go w.rest w.chain w.tells
  where
    go : (cs : List (List ℕ)) → Chain row links h cs → among d (clauses row) ≡ among d cs → among d (clauses row) ≡ false
    go [] c t = t
    go (x ∷ cs) ((p, i, s, q), f, g) t = absurd (omega arith)
