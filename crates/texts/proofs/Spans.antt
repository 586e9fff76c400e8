-- The tokens of a text that is laid out as words parted by blanks. Other proofs cite these laws, and do not open the
-- definition of tokens.
use Prim.Native.Nat.{ℕ, zero, suc, ◌+◌, ◌≤◌}
use mathlib.Core.Path.{◌≡◌, refl, ap, ◌∙◌}
use mathlib.Core.Bool.{Bool, true, false}
use mathlib.Core.List.{List, [], ◌∷◌, ◌++◌}
use native.Mathlib.Nat.{add-zero}
use native.Mathlib.Omega.{arith}
use lib.ListN.{length, take, drop}
use borrow.Author.Tests.{not-true}
use Rattle.std.specs.List.{list_all, prefix_len}
use Rattle.std.proofs.lemmas.Bool.{and_parts}
use Rattle.std.proofs.lemmas.List.{take_at, take_all, drop_at, drop_all}
use Rattle.texts.specs.Bytes.{blank, solid, word}
use Rattle.texts.specs.Tokens.{Token, tokens_from}

-- The front of a row that passes a test: a stretch that passes, up to an element that does not, or up to the end.
module _ {X : Type 0} (p : X → Bool) where
  pub prefix_len_until : (w : List X) (b : X) (r : List X) → list_all p w ≡ true → p b ≡ false → prefix_len p (w ++ (b ∷ r)) ≡ length w
  prefix_len_until [] b r e f = rw f
  prefix_len_until (x ∷ w) b r e f = let (q, s) = and_parts (p x) (list_all p w) e in rw (q, prefix_len_until w b r s f) (omega arith)

  pub prefix_len_whole : (w : List X) → list_all p w ≡ true → prefix_len p w ≡ length w
  prefix_len_whole [] e = refl
  prefix_len_whole (x ∷ w) e = let (q, s) = and_parts (p x) (list_all p w) e in rw (q, prefix_len_whole w s) (omega arith)

-- One byte more in front.
pub tokens_nil : (p : ℕ) → tokens_from 0 p [] ≡ []
unfolding tokens_from
tokens_nil p = refl

pub tokens_blank : (p b : ℕ) (bs : List ℕ) → blank b ≡ true → tokens_from 0 p (b ∷ bs) ≡ tokens_from 0 (p + 1) bs
unfolding tokens_from
tokens_blank p b bs e = rw (tokens_from, e)

tokens_solid : (p b : ℕ) (bs : List ℕ) → blank b ≡ false → tokens_from 0 p (b ∷ bs) ≡ record { place = p; bytes = b ∷ take (word bs) bs } ∷ tokens_from (word bs) (p + 1) bs
unfolding tokens_from
tokens_solid p b bs e = rw (tokens_from, e)

-- The bytes of a token that was taken are passed over.
pub tokens_passed : (k p : ℕ) (bs : List ℕ) → tokens_from k p bs ≡ tokens_from 0 (p + k) (drop k bs)
unfolding tokens_from
tokens_passed zero p bs = rw add-zero
tokens_passed (suc k) p [] = refl
tokens_passed (suc k) p (b ∷ bs) = tokens_passed k (p + 1) bs ∙ ap (λ q. tokens_from 0 q (drop k bs)) (omega arith)

-- Each byte is solid or a blank.
solid-blank : (b : ℕ) → solid b ≡ true → blank b ≡ false
unfolding solid
solid-blank b e = not-true (blank b) e

blank-solid : (b : ℕ) → blank b ≡ true → solid b ≡ false
unfolding solid
blank-solid b e = rw e

-- A word and a blank behind it are a token, and the rest goes on behind the blank.
pub word_then : (p : ℕ) (w : List ℕ) (b : ℕ) (r : List ℕ) → 1 ≤ length w → list_all solid w ≡ true → blank b ≡ true
    → tokens_from 0 p (w ++ (b ∷ r)) ≡ record { place = p; bytes = w } ∷ tokens_from 0 (p + length w + 1) r
word_then p [] b r l s e = absurd (omega arith)
word_then p (x ∷ w) b r l s e =
    let (q, s) = and_parts (solid x) (list_all solid w) s in
    tokens_solid p x (w ++ (b ∷ r)) (solid-blank x q)
    ∙ rw (prefix_len_until solid w b r s (blank-solid b e), take_at w (b ∷ r) (length w) refl) (ap (λ (ts : List Token). record { place = p; bytes = x ∷ w } ∷ ts) rest)
  where
    rest : tokens_from (length w) (p + 1) (w ++ (b ∷ r)) ≡ tokens_from 0 (p + length (x ∷ w) + 1) r
    rest =
        let place : p + 1 + length w + 1 ≡ p + length (x ∷ w) + 1 = omega arith in
        tokens_passed (length w) (p + 1) (w ++ (b ∷ r)) ∙ rw (drop_at w (b ∷ r) (length w) refl) (tokens_blank (p + 1 + length w) b r e ∙ rw place)

-- A word at the text's end.
pub word_last : (p : ℕ) (w : List ℕ) → 1 ≤ length w → list_all solid w ≡ true → tokens_from 0 p w ≡ record { place = p; bytes = w } ∷ []
word_last p [] l s = absurd (omega arith)
word_last p (x ∷ w) l s =
    let (q, s) = and_parts (solid x) (list_all solid w) s in
    tokens_solid p x w (solid-blank x q)
    ∙ rw (prefix_len_whole solid w s, take_all (length w) w (omega arith)) (ap (λ (ts : List Token). record { place = p; bytes = x ∷ w } ∷ ts) rest)
  where
    rest : tokens_from (length w) (p + 1) w ≡ []
    rest = tokens_passed (length w) (p + 1) w ∙ rw (drop_all (length w) w (omega arith)) (tokens_nil (p + 1 + length w))
