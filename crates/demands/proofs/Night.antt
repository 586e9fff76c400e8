-- The proofs of the statements in specs/Night: the book holds what the stack holds, and nothing else decides a build.
use Rattle.std.proofs.Common.{◌≡◌, ℕ, ◌+◌, ◌-◌, ◌<◌, ◌≤◌, Bool, true, false, eqb, ltb, leb, List, [], ◌∷◌, ◌++◌, length, take, ℤ, pos, Ok, Err, fold, Result, sym, refl, ap, ◌∙◌, add-one, arith, length-append, length-set, length-take-le, take-take, take-suc-set, le-ltb, ne_eqb, leb-false}
use mathlib.Core.List.{Memᴰ}
use Rattle.std.specs.Result.{result_and}
use Rattle.std.proofs.Math.Seq.{take-append_seam}
use Rattle.std.proofs.lemmas.Bool.{eqb-false}
use Rattle.std.proofs.lemmas.List.{length-replicate, take-set-le}
use Rattle.std.proofs.lemmas.List.Sums.{fold-append}
use Rattle.ways.proofs.Runs.{fold_keeps}
use Rattle.tables.specs.Numbers.{Verdict, refuse, first_refusal}
use Rattle.tables.specs.declared.numbers.Refusal.{Refusal}
use Rattle.tables.specs.declared.numbers.Refusal.TheVariants.{BookFull, NothingHeld}
use Rattle.rules.specs.Pins.{in_force, empty_book, with_pin, without_last, book_long, book_after, take_back}
use Rattle.rules.specs.Calls.{ask, ask_verdict, build, build_listing, build_verdict, fill_values, fill_verdict, held_bad, outcome_of, pin, pin_verdict}
use Rattle.rules.specs.declared.book.Book.{Book}
use Rattle.demands.specs.Night.{Move, put, back, answer, stacked, Desk, opening, move, after, StackHeld, StackDecides, TakeBackUndoes}
use Rattle.tables.proofs.Verdicts.{all_accept, refuse_accepts}

-- The invariant of a night.
record Held (d : Desk) : Type 0 where
  same : in_force d.book ≡ d.stack
  count : d.book.held ≡ length d.stack
  few : d.book.held ≤ 64
  whole : length d.book.pins ≡ 64

-- The desk after a move that was answered so.
abbrev moved_by : Desk → Move → Result Book Refusal → Desk
moved_by d m a = record { book = book_after d.book a; stack = stacked d.stack m a }

module _ (d : Desk) (h : Held d) where
  abbrev b : Book
  b = d.book

  pinned_held : (x : ℤ) → b.held < 64 → Held (record { book = with_pin b x; stack = d.stack ++ (x ∷ []) })
  unfolding with_pin in_force
  pinned_held x l =
      record {
        same = rw (add-one b.held) (take-suc-set b.pins b.held x (omega (arith, h.whole))) ∙ ap (λ s. s ++ (x ∷ [])) h.same;
        count = ap (λ k. k + 1) h.count ∙ sym (length-append d.stack (x ∷ []));
        few = omega arith;
        whole = length-set b.pins b.held x ∙ h.whole;
      }

  taken_held : (b.held ≡ 0 → ⊥) → Held (record { book = without_last b; stack = take (length d.stack - 1) d.stack })
  unfolding without_last in_force
  taken_held l =
      record {
        same = take-set-le (b.held - 1) b.pins (b.held - 1) (pos 0) (omega arith) ∙ sym (take-take (b.held - 1) b.held b.pins (omega arith))
            ∙ ap (take (b.held - 1)) h.same ∙ ap (λ k. take (k - 1) d.stack) h.count;
        count = ap (λ k. k - 1) h.count ∙ sym (length-take-le (length d.stack - 1) d.stack (omega arith));
        few = let q = h.few in omega arith;
        whole = length-set b.pins (b.held - 1) (pos 0) ∙ h.whole;
      }

  -- An accepted pin found a place free.
  room : (n : ℕ) (t : List ℤ) (work : ℕ) (x : ℤ) → pin_verdict n t b work x ≡ Ok tt → b.held < 64
  unfolding pin_verdict
  room n t work x e =
      leb-false 64 b.held (refuse_accepts (leb 64 b.held) BookFull
      (all_accept _ e (refuse (leb 64 b.held) BookFull) (Memᴰ.tail (Memᴰ.tail (Memᴰ.tail (Memᴰ.tail (Memᴰ.tail (Memᴰ.head refl))))))))

  put_held : (n : ℕ) (t : List ℤ) (work : ℕ) (x : ℤ) → Held (move d (put n t work x))
  unfolding move answer pin stacked
  put_held n t work x = go (pin_verdict n t b work x) refl
    where
      go : (v : Verdict) → pin_verdict n t b work x ≡ v → Held (moved_by d (put n t work x) (result_and v (Ok (with_pin b x))))
      go (Ok _) e = pinned_held x (room n t work x e)
      go (Err why) e = h

  back_held : Held (move d back)
  unfolding move answer take_back book_long stacked first_refusal refuse
  back_held = go (eqb b.held 0) refl (ltb 64 b.held)
    where
      go : (z : Bool) → eqb b.held 0 ≡ z → (l : Bool) → Held (moved_by d back (result_and (first_refusal (refuse z NothingHeld ∷ refuse l BookFull ∷ [])) (Ok (without_last b))))
      go true e l = h
      go false e true = h
      go false e false = taken_held (eqb-false b.held 0 e)

step_held : (d : Desk) (m : Move) → Held d → Held (move d m)
step_held d (put n t work x) h = put_held d h n t work x
step_held d back h = back_held d h

start_held : Held opening
unfolding opening empty_book in_force
start_held = record { same = refl; count = refl; few = omega arith; whole = length-replicate 64 (pos 0) }

night_held : (ms : List Move) → Held (after ms)
unfolding after
night_held ms = fold_keeps move Held ms (λ d m i h. step_held d m h) opening start_held

pub stack_held : StackHeld
stack_held ms = (night_held ms).same

-- A build looks at the pins in force only, where the book's length is in order.
module _ (b c : Book) (same : in_force b ≡ in_force c) (few : b.held ≤ 64) (few' : c.held ≤ 64) (n : ℕ) (t : List ℤ) (work : ℕ) where
  outcome_same : outcome_of n t b ≡ outcome_of n t c
  unfolding outcome_of
  outcome_same = rw same

  long_same : book_long b ≡ book_long c
  unfolding book_long
  long_same = rw (le-ltb 64 b.held few, le-ltb 64 c.held few')

  bad_same : held_bad n b ≡ held_bad n c
  unfolding held_bad
  bad_same = rw same

  verdict_same : (room : ℕ) → build_verdict n t b work room ≡ build_verdict n t c work room
  unfolding build_verdict
  verdict_same room = rw (outcome_same, long_same, bad_same)

  pub build_same : (room : ℕ) → build n t b work room ≡ build n t c work room
  unfolding build
  build_same room = rw (verdict_same room, outcome_same)

  pub listing_same : (buffer : List ℕ) → build_listing n t b work buffer ≡ build_listing n t c work buffer
  unfolding build_listing
  listing_same buffer = rw (verdict_same (length buffer), outcome_same)

  pub fill_same : (given : List ℕ) (room : ℕ) → fill_verdict n t b work given room ≡ fill_verdict n t c work given room
  unfolding fill_verdict
  fill_same given room = rw (outcome_same, long_same, bad_same)

  pub values_same : (given buffer : List ℕ) → fill_values n t b work given buffer ≡ fill_values n t c work given buffer
  unfolding fill_values
  values_same given buffer = rw (fill_same given (length buffer), outcome_same)

  pub ask_same : (given : List ℕ) (v : ℕ) → ask n t b work given v ≡ ask n t c work given v
  unfolding ask ask_verdict
  ask_same given v = rw (outcome_same, long_same, bad_same)

pub stack_decides : StackDecides
stack_decides ms ks e n t work given buffer v =
    let h = night_held ms in let k = night_held ks in
    let b = (after ms).book in let c = (after ks).book in
    let same = h.same ∙ e ∙ sym k.same in (
      build_same b c same h.few k.few n t work (length buffer),
      listing_same b c same h.few k.few n t work buffer,
      fill_same b c same h.few k.few n t work given (length buffer),
      values_same b c same h.few k.few n t work given buffer,
      ask_same b c same h.few k.few n t work given v,
    )

-- What is laid on top and taken away leaves the stack as it was.
off_again : (s : List ℤ) (x : ℤ) → take (length (s ++ (x ∷ [])) - 1) (s ++ (x ∷ [])) ≡ s
off_again s x =
    let e : length (s ++ (x ∷ [])) - 1 ≡ length s = omega (arith, length-append s (x ∷ [])) in
    rw e (take-append_seam s (x ∷ []))

back_accepts : (c : Book) → (c.held ≡ 0 → ⊥) → c.held ≤ 64 → take_back c ≡ Ok (without_last c)
unfolding take_back book_long first_refusal refuse
back_accepts c h k = rw (ne_eqb c.held 0 h, le-ltb 64 c.held k)

-- One move of each kind, where it is accepted.
put_stack : (d : Desk) (n : ℕ) (t : List ℤ) (work : ℕ) (x : ℤ) (b : Book) → pin n t d.book work x ≡ Ok b → (move d (put n t work x)).stack ≡ d.stack ++ (x ∷ [])
unfolding move answer stacked
put_stack d n t work x b e = rw e

back_stack : (d : Desk) (b : Book) → take_back d.book ≡ Ok b → (move d back).stack ≡ take (length d.stack - 1) d.stack
unfolding move answer stacked
back_stack d b e = rw e

pub take_back_undoes : TakeBackUndoes
unfolding after
take_back_undoes ms n t work x b e =
    ap (λ (d : Desk). d.stack) (fold-append move opening ms (put n t work x ∷ back ∷ []))
    ∙ back_stack d' _ (back_accepts d'.book (λ z. let p = h.count ∙ ap length on in omega (arith, p, length-append d.stack (x ∷ []))) h.few) ∙ ap (λ s. take (length s - 1) s) on ∙ off_again d.stack x
  where
    d : Desk
    d = fold move opening ms

    d' : Desk
    d' = move d (put n t work x)

    h : Held d'
    h = step_held d (put n t work x) (night_held ms)

    on : d'.stack ≡ d.stack ++ (x ∷ [])
    on = put_stack d n t work x b e
