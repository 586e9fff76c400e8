-- Bytes laid over a buffer, row behind row.
use Rattle.std.proofs.Common.{◌≡◌, refl, sym, ap, ◌∙◌, ℕ, suc, ◌+◌, ◌-◌, ◌^◌, ◌<◌, ◌≤◌, min, List, [], ◌∷◌, ◌++◌, length, get_or, drop, set, arith, add-zero, zero-add}
use Rattle.std.proofs.lemmas.List.{set_past, drop_more, drop_all}
use Rattle.std.proofs.lemmas.List.Sums.{fold-append}
use Rattle.texts.specs.Buffer.{overlay}
use Rattle.texts.specs.Laying.{Laid, laid, lay_byte, lay}
use Rattle.texts.specs.declared.pieces.Laying.{Laying}

-- What is laid behind other bytes makes one row with them.
pub laid_behind : (s : Laid) (xs ys : List ℕ) → lay (lay s xs) ys ≡ lay s (xs ++ ys)
unfolding lay
laid_behind s xs ys = sym (fold-append lay_byte s xs ys)

pub laid_none : (s : Laid) → lay s [] ≡ s
unfolding lay
laid_none s = refl

-- One byte more: laid, or lost behind the buffer's end; and no byte more.
pub byte_laid : (lent at i : ℕ) (out bytes : List ℕ) → i < length bytes
    → lay (record { lent = lent; buffer = out; at = at }) (drop i bytes)
    ≡ lay (record { lent = lent; buffer = set out at (get_or bytes i 0); at = min (at + 1) (2 ^ 64 - 1) }) (drop (i + 1) bytes)
unfolding lay lay_byte
byte_laid lent at i out bytes h = rw (drop_more bytes i 0 h) refl

pub byte_lost : (lent at i : ℕ) (out bytes : List ℕ) → i < length bytes → length out ≤ at
    → lay (record { lent = lent; buffer = out; at = at }) (drop i bytes)
    ≡ lay (record { lent = lent; buffer = out; at = min (at + 1) (2 ^ 64 - 1) }) (drop (i + 1) bytes)
byte_lost lent at i out bytes h past =
    byte_laid lent at i out bytes h
    ∙ ap (λ o. lay (record { lent = lent; buffer = o; at = min (at + 1) (2 ^ 64 - 1) }) (drop (i + 1) bytes)) (set_past out at (get_or bytes i 0) past)

pub all_laid : (s : Laid) (xs : List ℕ) (i : ℕ) → length xs ≤ i → lay s (drop i xs) ≡ s
all_laid s xs i h = ap (lay s) (drop_all i xs h) ∙ laid_none s

-- What is laid as a whole, from the front on.
laid_from : (lent at : ℕ) (out xs : List ℕ) → at + length xs < 2 ^ 64
    → lay (record { lent = lent; buffer = out; at = at }) xs ≡ record { lent = lent; buffer = overlay out at xs; at = at + length xs }
unfolding lay lay_byte overlay
laid_from lent at out [] h = rw add-zero refl
laid_from lent at out (x ∷ xs) h =
    let e : min (at + 1) (2 ^ 64 - 1) ≡ at + 1 = omega arith in
    let f : at + 1 + length xs ≡ at + suc (length xs) = omega arith in
    rw e (laid_from lent (at + 1) (set out at x) xs (omega arith) ∙ rw f refl)

pub whole_counted : (laying : Laying) (lent : ℕ) (out xs : List ℕ) → laid laying ≡ lay (record { lent = lent; buffer = out; at = 0 }) xs → length xs < 2 ^ 64 → laying.at ≡ length xs
whole_counted laying lent out xs e h = ap (λ (s : Laid). s.at) (e ∙ laid_from lent 0 out xs (omega arith)) ∙ zero-add (length xs)

pub whole_laid : (laying : Laying) (lent : ℕ) (out xs : List ℕ) → laid laying ≡ lay (record { lent = lent; buffer = out; at = 0 }) xs → length xs < 2 ^ 64 → laying.out.now ≡ overlay out 0 xs
whole_laid laying lent out xs e h = ap (λ (s : Laid). s.buffer) (e ∙ laid_from lent 0 out xs (omega arith))

pub whole_lent : (laying : Laying) (lent : ℕ) (out xs : List ℕ) → laid laying ≡ lay (record { lent = lent; buffer = out; at = 0 }) xs → length xs < 2 ^ 64 → laying.out.ghost_name ≡ lent
whole_lent laying lent out xs e h = ap (λ (s : Laid). s.lent) (e ∙ laid_from lent 0 out xs (omega arith))
