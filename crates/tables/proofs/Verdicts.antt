-- Tests in their order: where all accept, each does; where one refuses, it is one of them.
use Rattle.std.proofs.Common.{◌≡◌, Bool, true, false, List, [], ◌∷◌, ◌++◌, is_ok, Ok, Err, Result, sym, refl, ap, true≢false}
use mathlib.Core.List.{Memᴰ}
use Rattle.std.specs.Result.{result_and}
use Rattle.tables.specs.Numbers.{Verdict, number_of, place_of, answer_number, answer_place, refuse, first_refusal}
use Rattle.tables.specs.declared.numbers.Refusal.{Refusal}

pub never : {A T : Type 0} (x : T) (why : Refusal) → Err why ≡ Ok x → A
never x why e = absurd (true≢false (sym (ap is_ok e)))

-- An answer that stands behind a verdict: it is given where the verdict accepts, and refused as the verdict is.
pub answered : {T : Type 0} (v : Verdict) (x y : T) → result_and v (Ok x) ≡ Ok y → (v ≡ Ok tt) × (x ≡ y)
answered (Ok _) x y e = (refl, ap (value x) e)
  where
    value : {T : Type 0} → T → Result T Refusal → T
    value x (Ok y) = y
    value x (Err why) = x
answered (Err why) x y e = never y why e

pub refused : {T : Type 0} (v : Verdict) (x : T) (why : Refusal) → result_and v (Ok x) ≡ Err why → v ≡ Err why
refused (Ok _) x why e = never x why (sym e)
refused (Err r) x why e = let again : Refusal → Verdict = λ y. Err y in ap again (ap (cause r) e)
  where
    cause : {T : Type 0} → Refusal → Result T Refusal → Refusal
    cause r (Ok y) = r
    cause r (Err why) = why

pub same_place : (v : Verdict) (why : Refusal) → v ≡ Err why → answer_place v ≡ place_of why
same_place v why e = ap answer_place e

pub all_accept : (vs : List Verdict) → first_refusal vs ≡ Ok tt → (v : Verdict) → Memᴰ v vs → v ≡ Ok tt
unfolding first_refusal
all_accept [] e v i = elim i [ ]
all_accept (Ok _ ∷ vs) e v (Memᴰ.head q) = q
all_accept (Ok _ ∷ vs) e v (Memᴰ.tail i) = all_accept vs e v i
all_accept (Err why ∷ vs) e v i = never tt why e

pub one_refuses : (vs : List Verdict) (why : Refusal) → first_refusal vs ≡ Err why → Memᴰ (Err why) vs
unfolding first_refusal
one_refuses [] why e = never tt why (sym e)
one_refuses (Ok _ ∷ vs) why e = Memᴰ.tail (one_refuses vs why e)
one_refuses (Err r ∷ vs) why e = Memᴰ.head (sym e)

pub refuse_accepts : (b : Bool) (why : Refusal) → refuse b why ≡ Ok tt → b ≡ false
unfolding refuse
refuse_accepts true why e = never tt why e
refuse_accepts false why e = refl

pub refuse_number : (b : Bool) (r why : Refusal) → refuse b r ≡ Err why → number_of r ≡ number_of why
unfolding refuse
refuse_number true r why e = ap answer_number e
refuse_number false r why e = never tt why (sym e)

-- Tests behind tests.
pub tests-append : (xs ys : List Verdict) → first_refusal (xs ++ ys) ≡ result_and (first_refusal xs) (first_refusal ys)
unfolding first_refusal
tests-append [] ys = refl
tests-append (Ok _ ∷ xs) ys = tests-append xs ys
tests-append (Err why ∷ xs) ys = refl
