-- One entry more is read back.
use Rattle.std.proofs.Common.{◌≡◌, ◌∙◌, ap, rules}
use Rattle.tables.specs.Literal.{literal, var}
use Rattle.patterns.proofs.Chains.{key_before, key_back}
use Rattle.patterns.proofs.index.key.Goals as goal

pub loop-entry-preserved : goal.loop-entry-preserved
loop-entry-preserved c =
    let v : c.var.result ≡ var (literal c.in-Some.field-0.now) = c.var.ensures ∙ ap var (c.literal.ensures ∙ ap literal (search rules)) in
    let e = c.loop-entry.invariant.0 ∙ ap (key_before c.loop-entry.key) c.in-Some.ensures.steps ∙ key_back c.loop-entry.key _ c.in-Some.field-0.now in
    (rw (c.key_with-key.ensures.is, v) e, c.key_with-key.ensures.within)
