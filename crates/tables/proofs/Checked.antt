-- What an accepted table is: every clause is ended, and speaks of the variables 1 to n only.
use Rattle.std.proofs.Common.{◌≡◌, ℕ, ◌+◌, ◌<◌, ◌≤◌, Bool, true, false, eqb, ltb, leb, ◌⊎◌, List, [], ◌∷◌, ◌++◌, length, ℤ, Ok, Err, sym, refl, subst, inl, inr, ⊎_elim, ltb-false, eqb-true, leb-false}
use mathlib.Core.List.Memᴰ
use mathlib.Core.List.{Memᴰ}
use Rattle.std.proofs.lemmas.Bool.{eqb-false}
use Rattle.tables.specs.Numbers.{Verdict, number_of}
use Rattle.tables.specs.Literal.{literal, var}
use Rattle.tables.specs.Clause.{clauses_from, clauses}
use Rattle.tables.specs.Check.{check_from, checked}
use Rattle.tables.specs.declared.numbers.Refusal.{Refusal}
use Rattle.tables.specs.declared.numbers.Refusal.TheVariants.{TooLarge, Undeclared}
use Rattle.tables.proofs.Literals.{literal_one, var_one}
use Rattle.tables.proofs.Clauses.{All, clause_ends, clause_grows}

-- The literals of a row of clauses are of the variables 1 to n.
abbrev pub Inside : ℕ → List (List ℕ) → Type 0
Inside n cs = All (λ l. (1 ≤ var l) × (var l ≤ n)) cs

-- The entries that are left, after l literals of an open clause: good ones.
pub data Sound (n : ℕ) : ℕ → List ℤ → Type 0 where
  ended : Sound n 0 []
  nought : {l : ℕ} {z : ℤ} {zs : List ℤ} → literal z ≡ 0 → Sound n 0 zs → Sound n l (z ∷ zs)
  lettered : {l : ℕ} {z : ℤ} {zs : List ℤ} → (literal z ≡ 0 → ⊥) → l < 64 → var (literal z) ≤ n → Sound n (l + 1) zs → Sound n l (z ∷ zs)

-- What a verdict says of the entries: nothing, where it refuses.
abbrev Says : ℕ → ℕ → List ℤ → Verdict → Type 0
Says n l zs (Ok _) = Sound n l zs
Says n l zs (Err why) = Unit {0}

told : (n p l k : ℕ) (zs : List ℤ) → Says n l zs (check_from n p l k zs)
unfolding check_from
told n p l k [] = go (eqb l 0) refl
  where
    go : (b : Bool) → eqb l 0 ≡ b → Says n l [] (elim b [ true ↦ Ok tt | false ↦ Err (Undeclared p) ])
    go true e = rw (eqb-true l 0 e) ended
    go false e = tt
told n p l k (z ∷ zs) = go (eqb (literal z) 0) refl (leb 4096 k) (leb 64 l) refl (ltb n (var (literal z))) refl (told n (p + 1) 0 (k + 1) zs) (told n (p + 1) (l + 1) k zs)
  where
    end : (o : Verdict) → literal z ≡ 0 → Says n 0 zs o → Says n l (z ∷ zs) o
    end (Ok _) e s = nought e s
    end (Err why) e s = tt

    on : (o : Verdict) → (literal z ≡ 0 → ⊥) → l < 64 → var (literal z) ≤ n → Says n (l + 1) zs o → Says n l (z ∷ zs) o
    on (Ok _) e f g s = lettered e f g s
    on (Err why) e f g s = tt

    go : (b : Bool) → eqb (literal z) 0 ≡ b → (c d : Bool) → leb 64 l ≡ d → (e : Bool) → ltb n (var (literal z)) ≡ e
        → Says n 0 zs (check_from n (p + 1) 0 (k + 1) zs) → Says n (l + 1) zs (check_from n (p + 1) (l + 1) k zs)
        → Says n l (z ∷ zs) (elim b [
          | true ↦ elim c [ true ↦ Err (TooLarge p) | false ↦ check_from n (p + 1) 0 (k + 1) zs ]
          | false ↦ elim d [ true ↦ Err (TooLarge p) | false ↦ elim e [ true ↦ Err (Undeclared p) | false ↦ check_from n (p + 1) (l + 1) k zs ] ]
        ])
    go true q true d w e v r s = tt
    go true q false d w e v r s = end (check_from n (p + 1) 0 (k + 1) zs) (eqb-true _ 0 q) r
    go false q c true w e v r s = tt
    go false q c false w true v r s = tt
    go false q c false w false v r s = on (check_from n (p + 1) (l + 1) k zs) (eqb-false _ 0 q) (leb-false 64 l w) (ltb-false n _ v) s

-- An accepted table has at most 1,024 variables and 16,384 entries, and good entries.
pub record Good (n : ℕ) (t : List ℤ) : Type 0 where
  pub few : n ≤ 1024
  pub short : length t ≤ 16384
  pub sound : Sound n 0 t

abbrev Tells : ℕ → List ℤ → Verdict → Type 0
Tells n t (Ok _) = Good n t
Tells n t (Err why) = Unit {0}

tells : (n : ℕ) (t : List ℤ) → Tells n t (checked n t)
unfolding checked
tells n t = go (ltb 1024 n) refl (ltb 16384 (length t)) refl
  where
    whole : n ≤ 1024 → length t ≤ 16384 → (o : Verdict) → Says n 0 t o → Tells n t o
    whole f s (Ok _) g = record { few = f; short = s; sound = g }
    whole f s (Err why) g = tt

    go : (b : Bool) → ltb 1024 n ≡ b → (c : Bool) → ltb 16384 (length t) ≡ c
        → Tells n t (elim b [ true ↦ Err (TooLarge 0) | false ↦ elim c [ true ↦ Err (TooLarge 16384) | false ↦ check_from n 0 0 0 t ] ])
    go true q c w = tt
    go false q true w = tt
    go false q false w = whole (ltb-false _ _ q) (ltb-false _ _ w) (check_from n 0 0 0 t) (told n 0 0 0 t)

pub accepted_good : (n : ℕ) (t : List ℤ) → checked n t ≡ Ok tt → Good n t
accepted_good n t e = rw e at (tells n t)

-- The clauses of good entries speak of the variables 1 to n.
inside_from : (n : ℕ) {l : ℕ} {zs : List ℤ} → Sound n l zs → (c : List ℕ) → ((k : ℕ) → Memᴰ k c → (1 ≤ var k) × (var k ≤ n)) → Inside n (clauses_from c zs)
unfolding clauses_from
inside_from n ended c h = λ d i. absurd (Memᴰ.not-nil i)
inside_from n (nought {z = z} {zs = zs} e s) c h = subst (Inside n) (sym (clause_ends c z zs e)) (λ d i k j.
    ⊎_elim (λ q. h k (subst (Memᴰ k) q j)) (λ m. inside_from n s [] (λ y w. absurd (Memᴰ.not-nil w)) d m k j) (Memᴰ.cases_cons i))
inside_from n (lettered {z = z} {zs = zs} e f g s) c h = subst (Inside n) (sym (clause_grows c z zs e))
    (inside_from n s (c ++ (literal z ∷ [])) (λ k j. ⊎_elim (h k) (λ m. subst (λ y. (1 ≤ var y) × (var y ≤ n)) (sym (Memᴰ.eq_of_singleton m)) (one, g)) (Memᴰ.append_cases c j)))
  where
    one : 1 ≤ var (literal z)
    one = var_one (literal z) e (literal_one z)

pub accepted_inside : (n : ℕ) (t : List ℤ) → checked n t ≡ Ok tt → Inside n (clauses t)
unfolding clauses
accepted_inside n t e = inside_from n (accepted_good n t e).sound [] (λ k j. absurd (Memᴰ.not-nil j))

-- A refused table is refused with 2 or 3.
abbrev TwoOrThree : Verdict → Type 0
TwoOrThree (Ok _) = Unit {0}
TwoOrThree (Err why) = (number_of why ≡ 2) ⊎ (number_of why ≡ 3)

either : (b : Bool) (x y : Verdict) → TwoOrThree x → TwoOrThree y → TwoOrThree (elim b [ true ↦ x | false ↦ y ])
either true x y p q = p
either false x y p q = q

from_number : (n p l k : ℕ) (zs : List ℤ) → TwoOrThree (check_from n p l k zs)
unfolding check_from
from_number n p l k [] = either (eqb l 0) (Ok tt) (Err (Undeclared p)) tt (inr refl)
from_number n p l k (z ∷ zs) =
    either (eqb (literal z) 0) _ _
    (either (leb 4096 k) (Err (TooLarge p)) (check_from n (p + 1) 0 (k + 1) zs) (inl refl) (from_number n (p + 1) 0 (k + 1) zs))
    (either (leb 64 l) (Err (TooLarge p)) _ (inl refl) (either (ltb n (var (literal z))) (Err (Undeclared p)) (check_from n (p + 1) (l + 1) k zs) (inr refl) (from_number n (p + 1) (l + 1) k zs)))

pub refused_number : (n : ℕ) (t : List ℤ) (why : Refusal) → checked n t ≡ Err why → (number_of why ≡ 2) ⊎ (number_of why ≡ 3)
unfolding checked
refused_number n t why e = rw e at (all (ltb 1024 n) (ltb 16384 (length t)))
  where
    all : (b c : Bool) → TwoOrThree (elim b [ true ↦ Err (TooLarge 0) | false ↦ elim c [ true ↦ Err (TooLarge 16384) | false ↦ check_from n 0 0 0 t ] ])
    all b c = either b (Err (TooLarge 0)) _ (inl refl) (either c (Err (TooLarge 16384)) (check_from n 0 0 0 t) (inl refl) (from_number n 0 0 0 t))
