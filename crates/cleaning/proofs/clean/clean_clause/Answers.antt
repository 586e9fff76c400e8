-- The clause goes or is closed behind the kept ones.
use Rattle.std.proofs.Common.{◌≡◌, ◌∙◌, ℕ, sym, ap, ◌+◌, ◌-◌, ◌≤◌, true, false, ◌||◌, List, [], ◌∷◌, ◌++◌, subst, map, length, set, take, drop, slice_range, ℤ, pos, arith}
use Rattle.std.specs.List.{list_any}
use Rattle.std.proofs.lemmas.List.{take_at, drop-drop, drop-set-lt}
use Rattle.ways.specs.Ways.{has, among}
use Rattle.tables.specs.Literal.{literal}
use Rattle.tables.specs.Clause.{clauses}
use Rattle.rules.specs.Forced.{marked}
use Rattle.rules.specs.Clean.{tidy}
use Rattle.cleaning.specs.Neighbours.{opposed_from}
use Rattle.chains.specs.Ended.{Ended}
use Rattle.chains.specs.Follow.{Follows}
use Rattle.cleaning.proofs.Parts.{same_further}
use Rattle.cleaning.proofs.CleanSteps.{step_forced, step_needless, step_adds, tidied_whole, closed, closed_clauses, closed_ended, drop_past}
use Rattle.cleaning.proofs.clean.clean_clause.Goals as goal

pub returns-then-has_forced-clause-cleaned : goal.returns-then-has_forced-clause-cleaned
returns-then-has_forced-clause-cleaned c =
    let h : list_any (marked c.args.marks.now) (map literal (slice_range c.args.row.now c.args.start c.args.end)) ≡ true = cc in
    sym (step_forced c.args.marks.now (clauses (take c.args.kept c.args.row.now)) _ h)

part_is : (row : List ℤ) (kept start e : ℕ) → kept ≤ start → take (e - start) (drop (start - kept) (drop kept row)) ≡ slice_range row start e
part_is row kept start e h =
    let n : kept + (start - kept) ≡ start = omega arith in
    ap (take (e - start)) (drop-drop (start - kept) kept row ∙ ap (λ k. drop k row) n)

pub returns-then-is_needless-clause-cleaned : goal.returns-then-is_needless-clause-cleaned
returns-then-is_needless-clause-cleaned c =
    let xs = slice_range c.args.row.now c.args.start c.args.end in
    let m = c.args.marks.now in
    let done = clauses (take c.args.kept c.args.row.now) in
    let u : list_any (marked m) (map literal xs) ≡ false = cc in
    let p = part_is c.args.row.now c.args.kept c.args.start c.args.end c.requires.behind in
    let t : map literal (take c.tidy-len.result c.tidy-len.new.row) ≡ tidy m (map literal xs) = cc in
    let b : (opposed_from 0 (tidy m (map literal xs)) || among (tidy m (map literal xs)) done) ≡ true = cc in
    ap clauses (take_at _ c.tidy-len.new.row _ c.split_at_mut-front.ensures.front_len ∙ c.split_at_mut-front.ensures.front)
    ∙ sym (step_needless m done xs u b)

pub returns-then-is_needless-clause-behind : goal.returns-then-is_needless-clause-behind
returns-then-is_needless-clause-behind c =
    let front = c.split_at_mut-front.result.0.now in
    let rest = c.split_at_mut-front.result.1.now in
    let n = c.args.end + 1 in
    let l : length front ≤ n = omega arith in
    drop_past front c.tidy-len.new.row n l
    ∙ same_further c.tidy-len.new.row rest _ c.tidy-len.ensures.behind (n - length front) (omega arith)
    ∙ sym (drop_past front rest n l) ∙ ap (drop n) (sym c.split_at_mut-front.ensures.value)

pub add-requires-clause-whole : goal.add-requires-clause-whole
add-requires-clause-whole c =
    let xs = slice_range c.args.row.now c.args.start c.args.end in
    let m = c.args.marks.now in
    let p = part_is c.args.row.now c.args.kept c.args.start c.args.end c.requires.behind in
    let t : map literal c.split_at.result.0.now ≡ tidy m (map literal xs) = cc in
    tidied_whole m (map literal xs) _ t c.requires.one

pub returns-clause-chained : goal.returns-clause-chained
returns-clause-chained c =
    let front = c.split_at_mut-front.result.0.now in
    let f : c.split_at.result.0.now ≡ take c.tidy-len.result c.tidy-len.new.row = c.split_at.ensures.front in
    subst (λ zs. Follows zs c.add.new.self) (ap (λ ys. front ++ (ys ++ (pos 0 ∷ []))) f ∙ sym (closed front c.tidy-len.new.row c.tidy-len.result _ (omega arith) (omega arith)))
    c.add.ensures.follows

pub returns-clause-cleaned : goal.returns-clause-cleaned
returns-clause-cleaned c =
    let xs = slice_range c.args.row.now c.args.start c.args.end in
    let m = c.args.marks.now in
    let done = clauses (take c.args.kept c.args.row.now) in
    let front = c.split_at_mut-front.result.0.now in
    let u : list_any (marked m) (map literal xs) ≡ false = cc in
    let p = part_is c.args.row.now c.args.kept c.args.start c.args.end c.requires.behind in
    let t : map literal (take c.tidy-len.result c.tidy-len.new.row) ≡ tidy m (map literal xs) = cc in
    let b : (opposed_from 0 (tidy m (map literal xs)) || among (tidy m (map literal xs)) done) ≡ false = cc in
    let w : has 0 (map literal (take c.tidy-len.result c.tidy-len.new.row)) ≡ false = tidied_whole m (map literal xs) _ t c.requires.one in
    let f : Ended front = rw (c.split_at_mut-front.ensures.front) c.requires.ended in
    let d : clauses front ≡ done = cc in
    closed_clauses front c.tidy-len.new.row c.tidy-len.result _ (omega arith) (omega arith) w f
    ∙ rw (d, t) (sym (step_adds m done xs u b))

pub returns-clause-ended : goal.returns-clause-ended
returns-clause-ended c =
    let xs = slice_range c.args.row.now c.args.start c.args.end in
    let m = c.args.marks.now in
    let front = c.split_at_mut-front.result.0.now in
    let p = part_is c.args.row.now c.args.kept c.args.start c.args.end c.requires.behind in
    let t : map literal (take c.tidy-len.result c.tidy-len.new.row) ≡ tidy m (map literal xs) = cc in
    let w : has 0 (map literal (take c.tidy-len.result c.tidy-len.new.row)) ≡ false = tidied_whole m (map literal xs) _ t c.requires.one in
    let f : Ended front = rw (c.split_at_mut-front.ensures.front) c.requires.ended in
    closed_ended front c.tidy-len.new.row c.tidy-len.result _ (omega arith) (omega arith) w f

pub returns-clause-behind : goal.returns-clause-behind
returns-clause-behind c =
    let front = c.split_at_mut-front.result.0.now in
    let rest = c.split_at_mut-front.result.1.now in
    let n = c.args.end + 1 in
    let l : length front ≤ n = omega arith in
    drop_past front (set c.tidy-len.new.row c.tidy-len.result (pos 0)) n l
    ∙ drop-set-lt (n - length front) c.tidy-len.new.row c.tidy-len.result (pos 0) (omega arith)
    ∙ same_further c.tidy-len.new.row rest _ c.tidy-len.ensures.behind (n - length front) (omega arith)
    ∙ sym (drop_past front rest n l) ∙ ap (drop n) (sym c.split_at_mut-front.ensures.value)
