-- The next token of a text: what its definition says, told by the lengths of the gap before it and of its word.
use Rattle.std.proofs.Common.{◌≡◌, refl, ap, ◌∙◌, ℕ, suc, ◌+◌, ◌-◌, ◌<◌, ◌≤◌, Bool, true, false, cond, List, [], ◌∷◌, length, get_or, take, drop, arith, add-zero, one-add, add_assoc, drop-drop, drop-cons, length-drop, get_or-drop}
use Rattle.std.proofs.lemmas.List.{drop_all}
use Rattle.std.proofs.lemmas.List.Sums.{prefix_len_stops}
use Rattle.std.specs.List.{slice_range}
use Rattle.texts.specs.Bytes.{blank, solid, gap, word}
use Rattle.texts.proofs.Spans.{tokens_passed}
use Rattle.texts.specs.Tokens.{tokens_from, tokens_at}

-- Blanks before a token change nothing.
past_gap : (p : ℕ) (t : List ℕ) → tokens_from 0 p t ≡ tokens_from 0 (p + gap t) (drop (gap t) t)
unfolding tokens_from
past_gap p [] = refl
past_gap p (b ∷ bs) = go (blank b) refl (past_gap (p + 1) bs)
  where
    go : (x : Bool) → blank b ≡ x → tokens_from 0 (p + 1) bs ≡ tokens_from 0 (p + 1 + gap bs) (drop (gap bs) bs)
        → tokens_from 0 p (b ∷ bs) ≡ tokens_from 0 (p + cond x (1 + gap bs) 0) (drop (cond x (1 + gap bs) 0) (b ∷ bs))
    go true q e = rw (tokens_from, q, ← add_assoc p 1 (gap bs), one-add (gap bs)) e
    go false q e = rw add-zero refl

-- A token that starts at once.
at_word : (p b : ℕ) (bs : List ℕ) → blank b ≡ false
    → tokens_from 0 p (b ∷ bs)
    ≡ record { place = p; bytes = take (word (b ∷ bs)) (b ∷ bs) } ∷ tokens_from 0 (p + word (b ∷ bs)) (drop (word (b ∷ bs)) (b ∷ bs))
unfolding tokens_from solid
at_word p b bs e =
    let n : p + suc (word bs) ≡ p + 1 + word bs = omega arith in rw (tokens_from, e, one-add (word bs), n) (ap (λ ts. record { place = p; bytes = b ∷ take (word bs) bs } ∷ ts) (tokens_passed (word bs) (p + 1) bs))

pub no_token : (t : List ℕ) (p : ℕ) → length t ≤ p + gap (drop p t) → tokens_at p t ≡ []
unfolding tokens_from
no_token t p h = past_gap p (drop p t) ∙ rw (drop-drop (gap (drop p t)) p t, drop_all (p + gap (drop p t)) t h) refl

-- The byte behind a gap is not blank.
solid_there : (t : List ℕ) (p : ℕ) → p + gap (drop p t) < length t → blank (get_or t (p + gap (drop p t)) 0) ≡ false
solid_there t p h = rw (get_or-drop p t (gap (drop p t)) 0) at (prefix_len_stops blank (drop p t) 0 (rw (length-drop p t) (omega arith)))

pub one_token : (t : List ℕ) (p s e : ℕ) → s ≡ p + gap (drop p t) → e ≡ s + word (drop s t) → s < length t
    → tokens_at p t ≡ record { place = s; bytes = slice_range t s e } ∷ tokens_at e t
one_token t p s e g w h = past_gap p (drop p t) ∙ rw (drop-drop (gap (drop p t)) p t, ← g, w, ← drop-drop (word (drop s t)) s t) here
  where
    here : tokens_from 0 s (drop s t) ≡ record { place = s; bytes = take (s + word (drop s t) - s) (drop s t) } ∷ tokens_from 0 (s + word (drop s t)) (drop (word (drop s t)) (drop s t))
    here =
        let n : (k : ℕ) → s + k - s ≡ k = λ k. omega arith in
        let q : blank (get_or t s 0) ≡ false = rw g (solid_there t p (rw (← g) h)) in
        rw (n, drop-cons t s 0 h) (at_word s (get_or t s 0) (drop (suc s) t) q)

pub word_some : (t : List ℕ) (p : ℕ) → p + gap (drop p t) < length t → 0 < word (drop (p + gap (drop p t)) t)
unfolding solid
word_some t p h = rw (drop-cons t (p + gap (drop p t)) 0 h, solid_there t p h) (omega arith)
