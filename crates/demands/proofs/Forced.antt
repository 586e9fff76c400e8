-- The proofs of the statements in specs/Forced.
use Rattle.std.proofs.Common.{◌≡◌, true, [], refl}
use Rattle.std.proofs.lemmas.Bool.{false_from_ne_true}
use Rattle.tables.specs.Literal.{valued}
use Rattle.tables.specs.Clause.{satisfies_all}
use Rattle.settling.proofs.Least.{forced_least as least, forced_closed as closed}
use Rattle.rules.specs.Pairs.{starting}
use Rattle.settling.proofs.Round.{no_contradiction}
use Rattle.settling.proofs.Models.{first_good}
use Rattle.demands.specs.Forced.{ForcedClosed, ForcedLeast, ContradictionMeans}

pub forced_closed : ForcedClosed
forced_closed n cs of = closed n cs of.each

pub forced_least : ForcedLeast
forced_least n cs inside h = least n cs (λ l. inside l ≡ true) h

pub contradiction_means : ContradictionMeans
contradiction_means n cs of e values =
    false_from_ne_true (satisfies_all (valued values) cs) (no_contradiction n (starting n []) cs (first_good n cs of.each) (valued values) refl e)
