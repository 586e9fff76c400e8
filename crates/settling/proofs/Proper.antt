-- The cleaned clauses are proper: their literals rise, and no variable stands twice in one.
use Rattle.std.proofs.Common.{◌≡◌, ℕ, ◌<◌, false, List, [], ◌∷◌, sym, subst, ⊎_elim, arith}
use mathlib.Core.List.Memᴰ
use mathlib.Core.List.{Memᴰ}
use Rattle.std.proofs.lemmas.Bool.{both_ways, cond_both}
use Rattle.ways.proofs.Runs.{fold_keeps}
use Rattle.ways.proofs.Rows.{mem-list_any}
use Rattle.ways.proofs.Members.{mem-has}
use Rattle.tables.specs.Literal.{var, opp}
use Rattle.tables.specs.Clause.{void}
use Rattle.tables.proofs.Literals.{same_var}
use Rattle.rules.specs.Forced.{marked}
use Rattle.rules.specs.Clean.{insert, tidy_step, tidy, clean_step, clean}
use Rattle.settling.proofs.Clean.{insert_in, insert_cases, clean_cases}

-- No literal twice.
pub data Distinct : List ℕ → Type 0 where
  none : Distinct []
  more : {x : ℕ} {xs : List ℕ} → (Memᴰ x xs → ⊥) → Distinct xs → Distinct (x ∷ xs)

-- strictly rising
pub data Rising : List ℕ → Type 0 where
  nil : Rising []
  cons : {x : ℕ} {xs : List ℕ} → ((y : ℕ) → Memᴰ y xs → x < y) → Rising xs → Rising (x ∷ xs)

-- A cleaned clause: its literals rise, and no variable stands twice.
pub record Proper (c : List ℕ) : Type 0 where
  pub rises : Rising c
  pub single : (x y : ℕ) → Memᴰ x c → Memᴰ y c → var x ≡ var y → x ≡ y

pub rising_distinct : {xs : List ℕ} → Rising xs → Distinct xs
rising_distinct nil = none
rising_distinct (cons {x = x} h r) = more (λ i. let q : x < x = h x i in absurd (omega arith)) (rising_distinct r)

insert_rising : (x : ℕ) {ys : List ℕ} → Rising ys → Rising (insert x ys)
unfolding insert
insert_rising x nil = cons (λ y i. absurd (Memᴰ.not-nil i)) nil
insert_rising x (cons {x = y} {xs = ys} h r) =
    insert_cases x y ys Rising (λ e. cons h r)
    (λ l. cons (λ z i. ⊎_elim (λ q. subst (λ t. x < t) (sym q) l) (λ j. let w = h z j in omega arith) (Memᴰ.cases_cons i)) (cons h r))
    (λ m. cons (λ z i. ⊎_elim (λ q. subst (λ t. y < t) (sym q) m) (h z) (insert_in x ys z i)) (insert_rising x r))

-- what a tidied clause is
pub record Tidy (c d : List ℕ) : Type 0 where
  pub rises : Rising d
  pub inside : (l : ℕ) → Memᴰ l d → Memᴰ l c

pub tidy_is : (m c : List ℕ) → Tidy c (tidy m c)
unfolding tidy tidy_step
tidy_is m c =
    fold_keeps (tidy_step m) (Tidy c) c
    (λ out x i t. cond_both (marked m (opp x)) out (insert x out) (Tidy c) (λ e. t)
    (λ e. record { rises = insert_rising x t.rises; inside = λ l j. ⊎_elim (λ q. Memᴰ.cast q i) (t.inside l) (insert_in x out l j) }))
    [] (record { rises = nil; inside = λ l i. absurd (Memᴰ.not-nil i) })

tidy_proper : (c d : List ℕ) → void c ≡ false → Tidy c d → Proper d
tidy_proper c d v t = record { rises = t.rises; single = λ x y i j e. ⊎_elim (λ r. r) (λ r. absurd (other x y (t.inside x i) (t.inside y j) r)) (same_var x y e) }
  where
    other : (x y : ℕ) → Memᴰ x c → Memᴰ y c → x ≡ opp y → ⊥
    other x y i j r = both_ways (void c) v (mem-list_any _ c y j (mem-has (opp y) c (Memᴰ.cast (sym r) i)))

pub clean_proper : (m : List ℕ) (cs : List (List ℕ)) (c : List ℕ) → Memᴰ c (clean m cs) → Proper c
unfolding clean
clean_proper m cs =
    fold_keeps (clean_step m) All cs
    (λ out c i h. clean_cases m out c All h
    (λ v q d j. ⊎_elim (h d) (λ k. subst Proper (sym (Memᴰ.eq_of_singleton k)) (tidy_proper c (tidy m c) v (tidy_is m c))) (Memᴰ.append_cases out j)))
    [] (λ c i. absurd (Memᴰ.not-nil i))
  where
    All : List (List ℕ) → Type 0
    All out = (c : List ℕ) → Memᴰ c out → Proper c
