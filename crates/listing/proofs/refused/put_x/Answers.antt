-- What is laid from the front on is the buffer in the end.
use Rattle.std.proofs.Common.{◌^◌, ◌<◌, subst, ℕ, rules}
use Rattle.tables.specs.Numbers.{place_of}
use Rattle.rules.specs.Listing.{line, line_x}
use Rattle.texts.proofs.LaySteps.{whole_counted, whole_laid, whole_lent}
use Rattle.listing.proofs.Sizes.{x_few, x_short, x_said}
use Rattle.listing.proofs.refused.put_x.Goals as goal

pub returns-clause-is : goal.returns-clause-is
unfolding line
returns-clause-is c =
    let fits : place_of c.args.why < 2 ^ 64 = subst (λ (p : ℕ). p < 2 ^ 64) c.place-place.ensures c.place-place.type_inv in
    whole_counted c.put_numbers.new.laying _ c.args.out.now (line_x c.args.why)
    (x_said _ _ c.args.why c.number-number.result c.place-place.result c.number-number.ensures c.place-place.ensures c.put_numbers.ensures) (x_short c.args.why fits)

pub returns-clause-short : goal.returns-clause-short
unfolding line
returns-clause-short c =
    let fits : place_of c.args.why < 2 ^ 64 = subst (λ (p : ℕ). p < 2 ^ 64) c.place-place.ensures c.place-place.type_inv in
    let few = x_few c.args.why fits in
    rw (whole_counted c.put_numbers.new.laying _ c.args.out.now (line_x c.args.why)
    (x_said _ _ c.args.why c.number-number.result c.place-place.result c.number-number.ensures c.place-place.ensures c.put_numbers.ensures) (x_short c.args.why fits)) few

pub returns-clause-laid : goal.returns-clause-laid
unfolding line
returns-clause-laid c =
    let fits : place_of c.args.why < 2 ^ 64 = subst (λ (p : ℕ). p < 2 ^ 64) c.place-place.ensures c.place-place.type_inv in
    let short = x_short c.args.why fits in
    let said = x_said _ _ c.args.why c.number-number.result c.place-place.result c.number-number.ensures c.place-place.ensures c.put_numbers.ensures in
    let same = whole_lent c.put_numbers.new.laying _ c.args.out.now (line_x c.args.why) said short in
    let over = whole_laid c.put_numbers.new.laying _ c.args.out.now (line_x c.args.why) said short in
    search rules
