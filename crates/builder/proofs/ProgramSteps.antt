-- The build program, step after step.
use Rattle.std.proofs.Common.{◌≡◌, ◌∙◌, refl, sym, ap, ℕ, ◌≤◌, List, [], ◌∷◌, length, ltb, ltb-false, take, drop, ℤ, arith}
use Rattle.std.specs.Prelude.{Ok, Err}
use Rattle.std.proofs.lemmas.List.{take_at}
use Rattle.tables.specs.Sizes.{most_bytes, most_entries, work_room}
use Rattle.tables.specs.declared.numbers.Refusal.{Refusal}
use mathlib.Core.List.{Memᴰ}
use Rattle.tables.specs.Check.{checked}
use Rattle.tables.specs.Numbers.{refuse}
use Rattle.tables.specs.declared.numbers.Refusal.TheVariants.{ShortBuffer}
use Rattle.tables.proofs.Verdicts.{answered, all_accept, refuse_accepts}
use Rattle.texts.specs.Header.{header}
use Rattle.texts.specs.Body.{entries}
use Rattle.texts.specs.Buffer.{front, leaves, overlay}
use Rattle.texts.proofs.RowSteps.{overlay_front}
use Rattle.texts.specs.Reading.{behind, reading}
use Rattle.texts.specs.declared.reading.Reading.{Reading}
use Rattle.texts.proofs.Room.{reading_whole, verdict_is}
use Rattle.rules.specs.Listing.{line_x}
use Rattle.rules.specs.Pins.{empty_book, book_long}
use Rattle.rules.specs.Calls.{work_short, held_bad, contradiction, outcome_of, listed, build_verdict, build, build_listing}
use Rattle.rules.specs.Program.{printed, program_on, program}
use Rattle.rules.specs.declared.built.Built.{Built}

module _ (text : List ℕ) where
  -- The table that a text says.
  abbrev table : List ℤ
  table = entries (behind text (header text))

  pub read_refused : (why : Refusal) → reading text most_entries ≡ Err why → program text ≡ line_x why
  unfolding program program_on
  read_refused why e = ap (program_on text) (sym (reading_whole text) ∙ e)

  -- The bytes of an accepted build fit the listing's buffer.
  pub bytes_fit : (r : Reading) (built : Built) → build r.variables table empty_book work_room most_bytes ≡ Ok built → built.bytes ≤ most_bytes
  unfolding build build_verdict
  bytes_fit r built e =
      let o = outcome_of r.variables table empty_book in
      let (v, same) = answered (build_verdict r.variables table empty_book work_room most_bytes) _ built e in
      let size : length (listed r.variables o) ≡ built.bytes = ap (λ (b : Built). b.bytes) same in
      let last = all_accept
      (checked r.variables table ∷ work_short work_room ∷ book_long empty_book ∷ held_bad r.variables empty_book ∷ contradiction o
      ∷ refuse (ltb most_bytes (length (listed r.variables o))) (ShortBuffer (length (listed r.variables o))) ∷ []) v _ (Memᴰ.tail (Memᴰ.tail (Memᴰ.tail (Memᴰ.tail (Memᴰ.tail (Memᴰ.head refl)))))) in
      let fits = ltb-false most_bytes (length (listed r.variables o)) (refuse_accepts (ltb most_bytes (length (listed r.variables o))) (ShortBuffer (length (listed r.variables o))) last) in
      omega (arith, fits, size)

  module _ (r : Reading) (ok : reading text most_entries ≡ Ok r) where
    prints : program text ≡ printed (listed r.variables (outcome_of r.variables table empty_book)) (build r.variables table empty_book work_room most_bytes)
    unfolding program program_on
    prints = ap (program_on text) (verdict_is text r ok)

    pub build_refused : (why : Refusal) → build r.variables table empty_book work_room most_bytes ≡ Err why → program text ≡ line_x why
    unfolding printed
    build_refused why e = prints ∙ ap (printed (listed r.variables (outcome_of r.variables table empty_book))) e

    -- What an accepted build leaves in a buffer of 65,536 bytes.
    pub build_printed : (built : Built) (out : List ℕ) → length out ≡ most_bytes → build r.variables table empty_book work_room most_bytes ≡ Ok built
        → (take built.bytes (build_listing r.variables table empty_book work_room out) ≡ program text)
    unfolding build build_listing leaves front printed
    build_printed built out long e =
        let o = outcome_of r.variables table empty_book in
        let (v, same) = answered (build_verdict r.variables table empty_book work_room most_bytes) _ built e in
        let size : length (listed r.variables o) ≡ built.bytes = ap (λ (b : Built). b.bytes) same in
        rw (long, v) (take_at (listed r.variables o) (drop (length (listed r.variables o)) out) built.bytes size)
        ∙ sym (prints ∙ ap (printed (listed r.variables o)) e)

-- A line that is laid over the front of a buffer with room for it.
pub line_front : (why : Refusal) (old new : List ℕ) (bytes : ℕ) → bytes ≡ length (line_x why) → new ≡ overlay old 0 (line_x why) → bytes ≤ length old → take bytes new ≡ line_x why
unfolding front
line_front why old new bytes size laid room =
    rw laid (rw (overlay_front (line_x why) old (omega (arith, size, room))) (take_at (line_x why) (drop (length (line_x why)) old) bytes (sym size)))
