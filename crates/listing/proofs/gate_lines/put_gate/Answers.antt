-- The gate with the output, if there is one and it is on the level.
use Rattle.std.proofs.Common.{◌∙◌}
use Rattle.texts.specs.Laying.{laid}
use Rattle.rules.specs.Listing.{gates_at}
use Rattle.gates.specs.Sites.{Within, gate_of}
use Rattle.gates.specs.TakenGates.{gates_in}
use Rattle.filling.proofs.Filled.{all_mem}
use Rattle.filling.proofs.AskSteps.{found, missing}
use Rattle.listing.proofs.GateSteps.{no_output, the_output, nothing_laid, one_laid}
use Rattle.listing.proofs.gate_lines.put_gate.Goals as goal

pub put_line_g-requires : goal.put_line_g-requires
put_line_g-requires c =
    let taken = c.args.survey.now.evening.taken in
    let there = found taken.sites.now c.args.variable c.gate_for.result c.in-Some.site c.gate_for.ensures c.in-Some.is in
    all_mem (Within taken.row.now) taken.sites.now taken.within c.in-Some.site there.0

pub returns-in-Some : goal.returns-in-Some
returns-in-Some c =
    let s = c.args.survey.now in
    let e = s.evening in
    let there = found e.taken.sites.now c.args.variable c.gate_for.result c.in-Some.site c.gate_for.ensures c.in-Some.is in
    c.put_line_g.ensures
    ∙ one_laid (laid c.args.laying.now) c.args.level (gates_at e.n (gates_in e.taken) c.args.level c.args.variable) (gate_of e.taken.row.now c.in-Some.site)
    (the_output e.n c.args.level c.args.variable e.taken.row.now e.taken.sites.now c.in-Some.site e.apart there.0 there.1 c.requires)

pub returns-in_default : goal.returns-in_default
returns-in_default c =
    let e = c.args.survey.now.evening in
    nothing_laid (laid c.args.laying.now) c.args.level (gates_at e.n (gates_in e.taken) c.args.level c.args.variable)
    (no_output e.n c.args.level c.args.variable e.taken.row.now e.taken.sites.now (missing e.taken.sites.now c.args.variable c.gate_for.result c.gate_for.ensures c.in_default.is))
