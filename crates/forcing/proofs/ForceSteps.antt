-- What one clause adds to the marks is told by its first open literal, one whose opposite is not marked.
use Prim.Native.Nat.{ℕ}
use mathlib.Core.Path.{◌≡◌, refl, sym, ap, ◌∙◌, subst}
use mathlib.Core.Bool.{Bool, true, false, cond, not, ◌&&◌}
use mathlib.Core.List.Memᴰ
use mathlib.Core.List.{List, [], ◌∷◌, Memᴰ}
use mathlib.Core.Logic.{⊎_elim}
use lib.ListN.{set}
use lib.Dec.{eqb}
use borrow.Author.Tests.{eqb-true, not-true}
use Rattle.std.specs.Prelude.{Some, None}
use Rattle.std.specs.List.{fold, find, list_any}
use Rattle.std.proofs.lemmas.List.{set-get_or}
use Rattle.std.proofs.lemmas.Bool.{and_parts, or_cases, or_right}
use Rattle.ways.proofs.Bools.{clash_of, agree}
use Rattle.ways.proofs.Rows.{list_all-mem, mem-list_all, list_any-mem, mem-list_any, none_of, list_any_alike}
use Rattle.tables.specs.Literal.{opp}
use Rattle.tables.specs.Clause.{void}
use Rattle.rules.specs.Forced.{marked, forces, force_at, force_in}

-- the first element that passes a test
module _ {X : Type 0} (p : X → Bool) where
  found : (xs : List X) (x : X) → find p xs ≡ Some x → Memᴰ x xs × (p x ≡ true)
  found [] x e = cc
  found (y ∷ ys) x e = go (p y) refl (found ys x) e
    where
      go : (b : Bool) → p y ≡ b → (find p ys ≡ Some x → Memᴰ x ys × (p x ≡ true)) → cond b (Some y) (find p ys) ≡ Some x → Memᴰ x (y ∷ ys) × (p x ≡ true)
      go true q r w = let f : x ≡ y = cc in (Memᴰ.head f, ap p f ∙ q)
      go false q r w = let (i, t) = r w in (Memᴰ.tail i, t)

  not_found : (xs : List X) → find p xs ≡ None → (x : X) → Memᴰ x xs → p x ≡ false
  not_found [] e x i = elim i [ ]
  not_found (y ∷ ys) e x i = go (p y) refl (not_found ys) e i
    where
      go : (b : Bool) → p y ≡ b → (find p ys ≡ None → (z : X) → Memᴰ z ys → p z ≡ false) → cond b (Some y) (find p ys) ≡ None → Memᴰ x (y ∷ ys) → p x ≡ false
      go true q r w k = cc
      go false q r w k = ⊎_elim (λ f. ap p f ∙ q) (r w x) (Memᴰ.cases_cons k)

-- a step that changes nothing at any element changes nothing
fold_fixed : {S X : Type 0} (step : S → X → S) (s : S) (xs : List X) → ((x : X) → Memᴰ x xs → step s x ≡ s) → fold step s xs ≡ s
fold_fixed step s [] h = refl
fold_fixed step s (x ∷ xs) h = rw (h x (Memᴰ.head refl)) (fold_fixed step s xs (λ y i. h y (Memᴰ.tail i)))

-- Is a literal forced that is not marked?
abbrev New : List ℕ → List ℕ → ℕ → Bool
New m c l = forces m c l && not (marked m l)

-- Where a literal is open, no other is forced.
pub adds_open : (m c : List ℕ) (l : ℕ) → Some l ≡ find (λ x. not (marked m (opp x))) c → list_any (λ x. forces m c x && not (marked m x)) c ≡ (forces m c l && not (marked m l))
unfolding forces
adds_open m c l e = agree (list_any (New m c) c) (New m c l) one (mem-list_any (New m c) c l here.0)
  where
    here : Memᴰ l c × (not (marked m (opp l)) ≡ true)
    here = found (λ x. not (marked m (opp x))) c l (sym e)

    one : list_any (New m c) c ≡ true → New m c l ≡ true
    one h =
        let (x, i, t) = list_any-mem (New m c) c h in
        let (f, u) = and_parts (forces m c x) (not (marked m x)) t in
        ⊎_elim
        (λ q. subst (λ y. New m c y ≡ true) (sym (eqb-true l x q)) t)
        (λ q. clash_of (sym q ∙ not-true (marked m (opp l)) here.1))
        (or_cases (eqb l x) (marked m (opp l)) (list_all-mem _ c f l here.0))

-- Where no literal is open, all are forced.
pub adds_all : (m c : List ℕ) → None ≡ find (λ x. not (marked m (opp x))) c → list_any (λ x. forces m c x && not (marked m x)) c ≡ list_any (λ x. not (marked m x)) c
unfolding forces
adds_all m c e = list_any_alike (New m c) (λ x. not (marked m x)) c (λ x i. ap (λ b. b && not (marked m x)) (mem-list_all _ c (λ y j. or_right (eqb y x) (marked m (opp y)) (shut y j))))
  where
    shut : (y : ℕ) → Memᴰ y c → marked m (opp y) ≡ true
    shut y j = go (marked m (opp y)) (not_found (λ x. not (marked m (opp x))) c (sym e) y j)
      where
        go : (b : Bool) → not b ≡ false → b ≡ true
        go true w = refl
        go false w = clash_of w

-- A clause that adds no mark leaves the marks as they are.
pub adds_none : (m c : List ℕ) → list_any (λ x. forces m c x && not (marked m x)) c ≡ false → force_in m c ≡ m
unfolding force_in force_at
adds_none m c e = go (void c)
  where
    step : (l : ℕ) → Memᴰ l c → force_at c m l ≡ m
    step l i = at (forces m c l) (marked m l) refl (none_of (New m c) c e l i)
      where
        at : (b k : Bool) → marked m l ≡ k → (b && not k) ≡ false → cond b (set m l 1) m ≡ m
        at false k q w = refl
        at true true q w = subst (λ y. set m l y ≡ m) (eqb-true _ 1 q) (set-get_or m l 0)
        at true false q w = clash_of w

    go : (b : Bool) → cond b m (fold (force_at c) m c) ≡ m
    go true = refl
    go false = fold_fixed (force_at c) m c step
