-- A line's words one after another: where a token stands changes nothing of its bytes.
use Rattle.std.proofs.Common.{◌≡◌, ◌∙◌, ℕ, zero, suc, ◌+◌, Bool, true, false, List, [], ◌∷◌, map, drop, take, refl, ap, None}
use Rattle.std.specs.List.{slice_range}
use Rattle.texts.specs.Bytes.{blank, word}
use Rattle.texts.specs.Tokens.{Token, tokens_from, tokens_at}
use Rattle.texts.specs.Numbers.{natural, number, plain, minus}
use Rattle.texts.specs.Span.{token_in}
use Rattle.texts.specs.declared.tokens.Span.{Span}
use Rattle.desk.specs.Names.{words}

abbrev bytes : Token → List ℕ
bytes t = t.bytes

either :
    (z : Bool) (p q b : ℕ) (bs : List ℕ)
    → map bytes (tokens_from 0 (p + 1) bs) ≡ map bytes (tokens_from 0 (q + 1) bs)
    → map bytes (tokens_from (word bs) (p + 1) bs) ≡ map bytes (tokens_from (word bs) (q + 1) bs)
    → map bytes (elim z [ true ↦ tokens_from 0 (p + 1) bs | false ↦ record { place = p; bytes = b ∷ take (word bs) bs } ∷ tokens_from (word bs) (p + 1) bs ])
    ≡ map bytes (elim z [ true ↦ tokens_from 0 (q + 1) bs | false ↦ record { place = q; bytes = b ∷ take (word bs) bs } ∷ tokens_from (word bs) (q + 1) bs ])
either true p q b bs e f = e
either false p q b bs e f = ap (λ (ws : List (List ℕ)). (b ∷ take (word bs) bs) ∷ ws) f

moved : (k p q : ℕ) (bs : List ℕ) → map bytes (tokens_from k p bs) ≡ map bytes (tokens_from k q bs)
unfolding tokens_from
moved k p q [] = refl
moved zero p q (b ∷ bs) = either (blank b) p q b bs (moved zero (p + 1) (q + 1) bs) (moved (word bs) (p + 1) (q + 1) bs)
moved (suc k) p q (b ∷ bs) = moved k (p + 1) (q + 1) bs

pub no_words : (line : List ℕ) → tokens_at 0 line ≡ [] → words line ≡ []
no_words line e = ap (map bytes) e

pub one_word : (line rest : List ℕ) (s : Span) → tokens_at 0 line ≡ token_in line s ∷ tokens_at s.end line → rest ≡ drop s.end line → words line ≡ slice_range line s.start s.end ∷ words rest
one_word line rest s e d = rw d (ap (map bytes) e ∙ ap (λ ws. slice_range line s.start s.end ∷ ws) (moved 0 s.end 0 (drop s.end line)))

-- The empty word is no number.
pub no_variable : natural [] ≡ None
unfolding natural
no_variable = refl

pub no_literal : number [] ≡ None
unfolding number plain minus natural
no_literal = refl
