-- The clause is looked for among those of its key.
use Rattle.std.proofs.Common.{◌≡◌, ◌∙◌, ap, sym, map, ◌∷◌, [], rules, tests}
use Rattle.std.specs.List.{list_any}
use Rattle.std.proofs.Math.Path.{fun_ext}
use Rattle.std.proofs.lemmas.Iterator.Consumers.{YieldsList-from_first}
use Rattle.std.proofs.lemmas.Iterator.Search.{any_from_yields_List}
use Rattle.ways.specs.Ways.{same}
use Rattle.tables.specs.Literal.{literal}
use Rattle.tables.specs.Clause.{clauses}
use Rattle.tables.proofs.SameEntries.{same_sym}
use Rattle.patterns.specs.Index.{key, with_key}
use Rattle.patterns.specs.Chain.{to_come}
use Rattle.patterns.proofs.Keyed.{among_keyed}
use Rattle.patterns.proofs.partners.has_clause.Goals as goal

pub returns : goal.returns
returns c =
    let cs = clauses c.args.index.now.row.now in
    let d = c.args.x ∷ c.args.y ∷ [] in
    let come : to_come c.chain.result ≡ with_key (key d) cs = c.chain.ensures ∙ ap (λ k. with_key k cs) c.key_of_two.ensures.is in
    any_from_yields_List (λ e. same e d) c.any.new.self _ c.any.result c.any.ensures.ran (YieldsList-from_first (λ clause. map literal clause.now) to_come _ come) (λ x b q k. search (rules, tests))
    ∙ ap (λ t. list_any t (with_key (key d) cs)) (fun_ext (λ e. same_sym e d))
    ∙ sym (among_keyed d cs)
