-- The header line's definition, one token after another: at each it goes on with the tokens that are left, or refuses.
use Rattle.std.proofs.Common.{◌≡◌, refl, ap, ◌∙◌, ℕ, Bool, true, false, List, [], ◌∷◌, ltb, codes, Option, Some, None, Result, Ok, Err}
use Rattle.ways.specs.Ways.{same}
use Rattle.tables.specs.Sizes.{most_variables, most_clauses}
use Rattle.tables.specs.declared.numbers.Refusal.{Refusal}
use Rattle.tables.specs.declared.numbers.Refusal.TheVariants.{Unreadable, TooLarge}
use Rattle.texts.specs.Tokens.{Token}
use Rattle.texts.specs.Numbers.{natural}
use Rattle.texts.specs.Line.{after_word, after_size}
use Rattle.texts.specs.Header.{no_more, size_c, size_v, word_cnf, word_p}
use Rattle.texts.specs.declared.header.Header.{Header}

abbrev Step : Type 0
Step = Result Header Refusal

abbrev then : {T : Type 0} → (T → Step) → Result T Refusal → Step
then f (Ok value) = f value
then f (Err why) = Err why

-- A word, or a size, and then the rest of the line.
by_word : (f : List Token → Step) (p : ℕ) (ts : List Token) (b : Bool)
    → ◌≡◌ {A = Step} (elim b [ true ↦ f ts | false ↦ Err (Unreadable p) ]) (then f (elim b [ true ↦ Ok ts | false ↦ Err (Unreadable p) ]))
by_word f p ts true = refl
by_word f p ts false = refl

abbrev Sized : Type 0
Sized = ℕ × List Token

by_most : (f : Sized → Step) (p v : ℕ) (ts : List Token) (b : Bool)
    → ◌≡◌ {A = Step} (elim b [ true ↦ Err (TooLarge p) | false ↦ f (v, ts) ]) (then f (elim b [ true ↦ Err (TooLarge p) | false ↦ Ok (v, ts) ]))
by_most f p v ts true = refl
by_most f p v ts false = refl

by_size : (f : Sized → Step) (most p : ℕ) (ts : List Token) (o : Option ℕ)
    → ◌≡◌ {A = Step} (elim o [ None ↦ Err (Unreadable p) | Some v ↦ elim (ltb most v) [ true ↦ Err (TooLarge p) | false ↦ f (v, ts) ] ])
    (then f (elim o [ None ↦ Err (Unreadable p) | Some v ↦ elim (ltb most v) [ true ↦ Err (TooLarge p) | false ↦ Ok (v, ts) ] ]))
by_size f most p ts None = refl
by_size f most p ts (Some v) = by_most f p v ts (ltb most v)

p_is : (e : ℕ) (ts : List Token) → word_p e ts ≡ then (word_cnf e) (after_word e (codes "p") ts)
unfolding word_p after_word
p_is e [] = refl
p_is e (t ∷ ts) = by_word (word_cnf e) t.place ts (same t.bytes (codes "p"))

cnf_is : (e : ℕ) (ts : List Token) → word_cnf e ts ≡ then (size_v e) (after_word e (codes "cnf") ts)
unfolding word_cnf after_word
cnf_is e [] = refl
cnf_is e (t ∷ ts) = by_word (size_v e) t.place ts (same t.bytes (codes "cnf"))

-- What follows V, and what follows C.
abbrev behind_v : ℕ → Sized → Step
behind_v e s = size_c e s.0 s.1

abbrev behind_c : ℕ → ℕ → Sized → Step
behind_c e v s = no_more e v s.0 s.1

v_is : (e : ℕ) (ts : List Token) → size_v e ts ≡ then (behind_v e) (after_size e most_variables ts)
unfolding size_v after_size
v_is e [] = refl
v_is e (t ∷ ts) = by_size (behind_v e) most_variables t.place ts (natural t.bytes)

c_is : (e v : ℕ) (ts : List Token) → size_c e v ts ≡ then (behind_c e v) (after_size e most_clauses ts)
unfolding size_c after_size
c_is e v [] = refl
c_is e v (t ∷ ts) = by_size (behind_c e v) most_clauses t.place ts (natural t.bytes)

pub p_ok : (e : ℕ) (ts us : List Token) → after_word e (codes "p") ts ≡ Ok us → word_p e ts ≡ word_cnf e us
p_ok e ts us h = p_is e ts ∙ ap (then (word_cnf e)) h

pub p_err : (e : ℕ) (ts : List Token) (why : Refusal) → after_word e (codes "p") ts ≡ Err why → word_p e ts ≡ Err why
p_err e ts why h = p_is e ts ∙ ap (then (word_cnf e)) h

pub cnf_ok : (e : ℕ) (ts us : List Token) → after_word e (codes "cnf") ts ≡ Ok us → word_cnf e ts ≡ size_v e us
cnf_ok e ts us h = cnf_is e ts ∙ ap (then (size_v e)) h

pub cnf_err : (e : ℕ) (ts : List Token) (why : Refusal) → after_word e (codes "cnf") ts ≡ Err why → word_cnf e ts ≡ Err why
cnf_err e ts why h = cnf_is e ts ∙ ap (then (size_v e)) h

pub v_ok : (e : ℕ) (ts : List Token) (s : Sized) → after_size e most_variables ts ≡ Ok s → size_v e ts ≡ size_c e s.0 s.1
v_ok e ts s h = v_is e ts ∙ ap (then (behind_v e)) h

pub v_err : (e : ℕ) (ts : List Token) (why : Refusal) → after_size e most_variables ts ≡ Err why → size_v e ts ≡ Err why
v_err e ts why h = v_is e ts ∙ ap (then (behind_v e)) h

pub c_ok : (e v : ℕ) (ts : List Token) (s : Sized) → after_size e most_clauses ts ≡ Ok s → size_c e v ts ≡ no_more e v s.0 s.1
c_ok e v ts s h = c_is e v ts ∙ ap (then (behind_c e v)) h

pub c_err : (e v : ℕ) (ts : List Token) (why : Refusal) → after_size e most_clauses ts ≡ Err why → size_c e v ts ≡ Err why
c_err e v ts why h = c_is e v ts ∙ ap (then (behind_c e v)) h
