-- The clause is put in front of its chain.
use Rattle.std.proofs.Common.{◌≡◌, ◌<◌, refl, length, rules, arith}
use Rattle.chains.proofs.Growing.{covers_more}
use Rattle.chains.proofs.chain.Chains.add.Goals as goal

pub returns-then-start-self-clause-follows : goal.returns-then-start-self-clause-follows
returns-then-start-self-clause-follows c =
    let self = c.args.self.now in
    let k : c.key_of.result < length self.heads.now = let h = self.keys in let l = c.key_of.ensures.within in omega arith in
    let e : self.covered ≡ length c.args.row.now = search rules in
    let s : length c.args.row.now < length self.links.now = search rules in
    rw (c.link.ensures.heads, c.link.ensures.links)
    (covers_more c.args.row.now c.args.clause.now self.heads.now self.links.now c.requires.whole (length c.args.row.now) self.covered c.key_of.result c.requires.follows e refl c.key_of.ensures.is k s)
