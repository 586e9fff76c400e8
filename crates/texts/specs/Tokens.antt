-- The tokens of a text. Everything that reads text judges a row of tokens, never bytes.
use Rattle.std.specs.Prelude.{ℕ, zero, suc, ◌+◌, true, false, List, [], ◌∷◌, take, drop}
use Rattle.texts.specs.Bytes.{blank, word}

-- "A token's place is its first byte."
pub record Token : Type 0 where
  pub place : ℕ
  pub bytes : List ℕ

-- "A token is a longest run of bytes other than space, tab, CR, LF."
-- The tokens of the bytes from place p on, of which the first k belong to a token already taken.
unfoldable pub tokens_from : ℕ → ℕ → List ℕ → List Token
tokens_from k p [] = []
tokens_from zero p (b ∷ bs) =
    elim (blank b) [
      | true ↦ tokens_from zero (p + 1) bs
      | false ↦ record { place = p; bytes = b ∷ take (word bs) bs } ∷ tokens_from (word bs) (p + 1) bs
    ]
tokens_from (suc k) p (b ∷ bs) = tokens_from k (p + 1) bs

-- The tokens of a text that start at place p or behind it, where no token starts before p and goes on past it.
abbrev pub tokens_at : ℕ → List ℕ → List Token
tokens_at p t = tokens_from 0 p (drop p t)
