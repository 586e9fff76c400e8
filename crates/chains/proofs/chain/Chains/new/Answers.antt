-- No chain has a clause yet.
use Rattle.chains.proofs.Growing.{covers_none}
use Rattle.chains.proofs.chain.Chains.new.Goals as goal

pub returns : goal.returns
returns c = covers_none c.args.heads.now c.args.links.now c.requires.none
