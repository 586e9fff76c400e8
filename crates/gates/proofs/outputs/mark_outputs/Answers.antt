-- All are marked: what is marked is an output.
use Rattle.std.proofs.Common.{◌≡◌, ◌∙◌, sym, ap, length, replicate, arith}
use Rattle.std.proofs.lemmas.List.{drop_all}
use Rattle.rules.specs.Forced.{marked}
use Rattle.gates.specs.Outputs.{with_outputs}
use Rattle.gates.proofs.OutputLaws.{outputs_marked}
use Rattle.gates.proofs.outputs.mark_outputs.Goals as goal

pub returns : goal.returns
returns c row v h =
    let e : c.loop-site.marks ≡ with_outputs (replicate (length c.args.marks.now) 0) c.args.sites.now = sym (c.loop-site.invariant ∙ ap (with_outputs c.loop-site.marks) (drop_all c.loop-site.site-index c.args.sites.now (omega arith))) in
    ap (λ m. marked m v) e ∙ outputs_marked c.args.sites.now (length c.args.marks.now) row v h
