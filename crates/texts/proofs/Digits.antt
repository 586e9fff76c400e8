-- The decimal digits of a number, read back as the number.
use Prim.Native.Nat.{ℕ, zero, suc, ◌+◌, ◌-◌, ◌*◌, ◌/◌, ◌%◌, ◌^◌, ◌≤◌, ◌<◌}
use mathlib.Core.Path.{◌≡◌, refl, sym, ap, ◌∙◌}
use mathlib.Core.Bool.{Bool, true, false}
use mathlib.Core.List.{List, [], ◌∷◌, ◌++◌}
use native.Mathlib.Nat.{pow-suc}
use native.Mathlib.Omega.{arith}
use lib.ListN.{length, get_or}
use lib.Dec.{eqb, ltb}
use borrow.Author.Tests.{eqb-true, eqb-false, ltb-true, ltb-false, ne_eqb, le-ltb}
use Rattle.std.specs.Prelude.{Some, None}
use Rattle.std.specs.List.{list_all}
use Rattle.std.proofs.lemmas.Bool.{and_from}
use Rattle.std.proofs.lemmas.List.{length-append, get_or_append_left}
use Rattle.texts.specs.Numbers.{digits, natural}
use Rattle.texts.specs.Decimal.{digits_of, decimal}

-- What is read as a number begins with a digit; and behind a digit the reading goes on.
digits_begin : (a b v : ℕ) (bs : List ℕ) → digits a (b ∷ bs) ≡ Some v → (48 ≤ b) × (b ≤ 57) × (digits (10 * a + (b - 48)) bs ≡ Some v)
unfolding digits
digits_begin a b v bs e = go (ltb b 48) refl (ltb 57 b) refl e
  where
    go : (k : Bool) → ltb b 48 ≡ k → (l : Bool) → ltb 57 b ≡ l
        → elim k [ true ↦ None | false ↦ elim l [ true ↦ None | false ↦ digits (10 * a + (b - 48)) bs ] ] ≡ Some v
        → (48 ≤ b) × (b ≤ 57) × (digits (10 * a + (b - 48)) bs ≡ Some v)
    go true q l s e = cc
    go false q true s e = cc
    go false q false s e = (ltb-false b 48 q, ltb-false 57 b s, e)

digits_on : (a b : ℕ) (bs : List ℕ) → 48 ≤ b → b ≤ 57 → digits a (b ∷ bs) ≡ digits (10 * a + (b - 48)) bs
unfolding digits
digits_on a b bs l h = rw (digits, le-ltb b 48 l, le-ltb 57 b h)

digits_nil : (a v : ℕ) → digits a [] ≡ Some v → a ≡ v
unfolding digits
digits_nil a v e = cc

pub digits_first : (a v : ℕ) (xs : List ℕ) → 1 ≤ length xs → digits a xs ≡ Some v → 48 ≤ get_or xs 0 0
digits_first a v [] l e = absurd (omega arith)
digits_first a v (b ∷ bs) l e = (digits_begin a b v bs e).0

-- One digit more behind.
digits_push : (a v d : ℕ) (xs : List ℕ) → d ≤ 9 → digits a xs ≡ Some v → digits a (xs ++ ((48 + d) ∷ [])) ≡ Some (10 * v + d)
unfolding digits
digits_push a v d [] h e = let q : a ≡ v = digits_nil a v e in digits_on a (48 + d) [] (omega arith) (omega arith) ∙ ap (λ (k : ℕ). Some k) (omega arith)
digits_push a v d (b ∷ bs) h e = let (l, m, r) = digits_begin a b v bs e in digits_on a b (bs ++ ((48 + d) ∷ [])) l m ∙ digits_push (10 * a + (b - 48)) v d bs h r

-- A test that every byte from 48 on passes is passed by digits.
digits_pass : (test : ℕ → Bool) → ((b : ℕ) → 48 ≤ b → test b ≡ true) → (a v : ℕ) (xs : List ℕ) → digits a xs ≡ Some v → list_all test xs ≡ true
digits_pass test h a v [] e = refl
digits_pass test h a v (b ∷ bs) e = let (l, m, r) = digits_begin a b v bs e in and_from (test b) (list_all test bs) (h b l) (digits_pass test h (10 * a + (b - 48)) v bs r)

-- What is said of the digits xs of v: they are read as v; v below 10, 100, .. has at most 1, 2, .. of them; and none is a
-- needless 0.
pub record Digits (v : ℕ) (xs : List ℕ) : Type 0 where
  pub says : digits 0 xs ≡ Some v
  pub some : 1 ≤ length xs
  pub most : (k : ℕ) → v < 10 ^ suc k → length xs ≤ suc k
  pub lead : 1 ≤ v → 49 ≤ get_or xs 0 0
  pub alone : v ≡ 0 → xs ≡ 48 ∷ []

one_digit : (v : ℕ) → v < 10 → Digits v ((48 + v) ∷ [])
unfolding digits
one_digit v h = record {
  says = digits_on 0 (48 + v) [] (omega arith) (omega arith) ∙ ap (λ (k : ℕ). Some k) (omega arith);
  some = omega arith;
  most = λ k _. omega arith;
  lead = λ p. omega arith;
  alone = λ p. rw p;
}

more_digits : (v : ℕ) (xs : List ℕ) → 10 ≤ v → Digits (v / 10) xs → Digits v (xs ++ ((48 + v % 10) ∷ []))
more_digits v xs h d = record {
  says = digits_push 0 (v / 10) (v % 10) xs (omega arith) d.says ∙ ap (λ (k : ℕ). Some k) (omega arith);
  some = omega (arith, length-append xs ((48 + v % 10) ∷ []));
  most = most;
  lead = λ p. let s = d.some in rw (get_or_append_left xs ((48 + v % 10) ∷ []) 0 0 (omega arith)) (d.lead (omega arith));
  alone = λ p. absurd (omega arith);
}
  where
    most : (k : ℕ) → v < 10 ^ suc k → length (xs ++ ((48 + v % 10) ∷ [])) ≤ suc k
    most zero g = absurd (omega arith)
    most (suc k) g = let l = d.most k (omega (arith, pow-suc 10 (suc k))) in omega (arith, length-append xs ((48 + v % 10) ∷ []))

-- By induction on the digits that there may be.
digits_of_right : (f v : ℕ) → v ≤ f → Digits v (digits_of f v)
unfolding digits_of
digits_of_right zero v h = one_digit v (omega arith)
digits_of_right (suc f) v h = go (ltb v 10) refl (digits_of_right f (v / 10))
  where
    go : (b : Bool) → ltb v 10 ≡ b → (v / 10 ≤ f → Digits (v / 10) (digits_of f (v / 10)))
        → Digits v (elim b [ true ↦ (48 + v) ∷ [] | false ↦ digits_of f (v / 10) ++ ((48 + v % 10) ∷ []) ])
    go true e r = one_digit v (ltb-true v 10 e)
    go false e r = let l = ltb-false v 10 e in more_digits v (digits_of f (v / 10)) l (r (omega arith))

pub decimal_right : (v : ℕ) → Digits v (decimal v)
unfolding decimal
decimal_right v = digits_of_right v v (omega arith)

pub decimal_pass : (test : ℕ → Bool) → ((b : ℕ) → 48 ≤ b → test b ≡ true) → (v : ℕ) → list_all test (decimal v) ≡ true
decimal_pass test h v = digits_pass test h 0 v (decimal v) (decimal_right v).says

-- A number of at most 9 digits is read back.
pub natural-decimal : (v : ℕ) → v < 10 ^ 9 → natural (decimal v) ≡ Some v
unfolding natural
natural-decimal v h = go (eqb v 0) refl (decimal_right v)
  where
    go : (b : Bool) → eqb v 0 ≡ b → Digits v (decimal v) → natural (decimal v) ≡ Some v
    go true e d = let z = eqb-true v 0 e in rw (d.alone z) (ap (λ (k : ℕ). Some k) (sym z))
    go false e d =
        let n = eqb-false v 0 e in
        let s = d.some in
        let m = d.most 8 h in
        let l : 49 ≤ get_or (decimal v) 0 0 = d.lead (omega (arith, n)) in
        rw (natural, ne_eqb (length (decimal v)) 0 (λ p. omega arith), le-ltb 9 (length (decimal v)) m, ne_eqb (get_or (decimal v) 0 0) 48 (λ p. omega arith)) d.says
