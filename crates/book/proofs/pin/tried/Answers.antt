-- A pin, test after test.
use Rattle.std.proofs.Common.{◌≡◌, ◌∙◌, refl, sym, ap, [], ◌∷◌, ◌++◌, length, w32}
use Rattle.std.proofs.lemmas.Int.{to_z-of_z}
use Rattle.std.proofs.lemmas.Result.{err_from_is_err_and}
use Rattle.rules.specs.Rounds.{outcome, pinned}
use Rattle.rules.specs.Pins.{in_force, with_pin}
use Rattle.rules.specs.Calls.{contradiction}
use Rattle.calls.proofs.Openings.{opened, room_of}
use Rattle.rounds.proofs.SettleSteps.{few_variables}
use Rattle.book.proofs.PinSteps.{open_refuses, out_refuses, full_refuses, rounds_decide, pins_inside}
use Rattle.book.proofs.pin.tried.Goals as goal

pub returns-in_err-open : goal.returns-in_err-open
returns-in_err-open c =
    let p = err_from_is_err_and c.from_residual.result c.from_residual.ensures.1 in
    rw (p.1, p.2) (sym (open_refuses c.args.n c.args.table.now c.args.book (length c.args.work.now) c.args.entry c.in_err-open.field-0.0 (sym c.open.ensures ∙ c.in_err-open.was)))

pub returns-then-is_out_of_range : goal.returns-then-is_out_of_range
returns-then-is_out_of_range c =
    let out = rw (to_z-of_z w32 c.args.entry c.ranges.entry) at (sym c.is_out_of_range.ensures ∙ c.if-is_out_of_range.true) in
    sym (out_refuses c.args.n c.args.table.now c.args.book (length c.args.work.now) c.args.entry (sym c.open.ensures ∙ c.in_ok-open.was) out)

pub returns-then-book-ge-MOST_PINS : goal.returns-then-book-ge-MOST_PINS
returns-then-book-ge-MOST_PINS c =
    let inside = rw (to_z-of_z w32 c.args.entry c.ranges.entry) at (sym c.is_out_of_range.ensures ∙ c.if-is_out_of_range.false) in
    sym (full_refuses c.args.n c.args.table.now c.args.book (length c.args.work.now) c.args.entry (sym c.open.ensures ∙ c.in_ok-open.was) inside c.if-book-ge-MOST_PINS.true)

pub trial-requires-clause-few : goal.trial-requires-clause-few
trial-requires-clause-few c =
    few_variables c.args.n c.args.table.now (opened c.args.n c.args.table.now c.args.book (length c.args.work.now) (sym c.open.ensures ∙ c.in_ok-open.was)).table

pub trial-requires-clause-table : goal.trial-requires-clause-table
trial-requires-clause-table c = (opened c.args.n c.args.table.now c.args.book (length c.args.work.now) (sym c.open.ensures ∙ c.in_ok-open.was)).table

pub trial-requires-clause-room : goal.trial-requires-clause-room
trial-requires-clause-room c =
    room_of (length c.args.work.now) (opened c.args.n c.args.table.now c.args.book (length c.args.work.now) (sym c.open.ensures ∙ c.in_ok-open.was)).room_is

pub trial-requires-clause-pins : goal.trial-requires-clause-pins
trial-requires-clause-pins c =
    let same = to_z-of_z w32 c.args.entry c.ranges.entry in
    let passed = sym c.open.ensures ∙ c.in_ok-open.was in
    let inside = rw same at (sym c.is_out_of_range.ensures ∙ c.if-is_out_of_range.false) in
    let next : c.booked-next.result ≡ with_pin c.args.book c.args.entry = rw same at c.booked-next.ensures.is in
    let pins : c.in_force.result.now ≡ in_force c.args.book ++ (c.args.entry ∷ []) =
    c.in_force.ensures ∙ (rw same at c.booked-next.ensures.pins) in
    rw pins (pins_inside c.args.n c.args.table.now c.args.book (length c.args.work.now) c.args.entry passed inside)

pub returns-in_err-trial : goal.returns-in_err-trial
returns-in_err-trial c =
    let same = to_z-of_z w32 c.args.entry c.ranges.entry in
    let passed = sym c.open.ensures ∙ c.in_ok-open.was in
    let inside = rw same at (sym c.is_out_of_range.ensures ∙ c.if-is_out_of_range.false) in
    let next : c.booked-next.result ≡ with_pin c.args.book c.args.entry = rw same at c.booked-next.ensures.is in
    let pins : c.in_force.result.now ≡ in_force c.args.book ++ (c.args.entry ∷ []) =
    c.in_force.ensures ∙ (rw same at c.booked-next.ensures.pins) in
    let p = err_from_is_err_and c.from_residual-in_err-trial.result c.from_residual-in_err-trial.ensures.1 in
    let four = sym (c.trial.ensures ∙ ap (λ q. contradiction (outcome c.args.n (pinned c.args.table.now q))) pins) ∙ c.in_err-trial.was in
    rw (p.1, p.2) (sym (rounds_decide c.args.n c.args.table.now c.args.book (length c.args.work.now) c.args.entry passed inside c.if-book-ge-MOST_PINS.false ∙ rw four refl))

pub returns : goal.returns
returns c =
    let same = to_z-of_z w32 c.args.entry c.ranges.entry in
    let passed = sym c.open.ensures ∙ c.in_ok-open.was in
    let inside = rw same at (sym c.is_out_of_range.ensures ∙ c.if-is_out_of_range.false) in
    let next : c.booked-next.result ≡ with_pin c.args.book c.args.entry = rw same at c.booked-next.ensures.is in
    let pins : c.in_force.result.now ≡ in_force c.args.book ++ (c.args.entry ∷ []) =
    c.in_force.ensures ∙ (rw same at c.booked-next.ensures.pins) in
    let none = sym (c.trial.ensures ∙ ap (λ q. contradiction (outcome c.args.n (pinned c.args.table.now q))) pins) ∙ c.in_ok-trial.was in
    sym (rounds_decide c.args.n c.args.table.now c.args.book (length c.args.work.now) c.args.entry passed inside c.if-book-ge-MOST_PINS.false ∙ rw (none, next) refl)
