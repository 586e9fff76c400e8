-- What an ask needs of an evening's gates.
use Rattle.std.proofs.Common.{◌≡◌, ◌≤◌, length, arith}
use Rattle.filling.specs.Asking.{IsCircuit}
use Rattle.filling.specs.declared.ask.Circuit.{Circuit}
use Rattle.builder.specs.Evenings.{Evaluates}
use Rattle.listing.specs.declared.evening.Evening.{Evening}

module _ (e : Evening) (v : Evaluates e) where
  pub circuit_of : (c : Circuit) → c.taken ≡ e.taken → e.n ≤ length c.given.now → IsCircuit c
  circuit_of c same long =
      record {
        ordered = rw same v.ordered;
        outputs = rw same (λ g i. let o = v.outputs g i in (o.0, (let h = o.1 in omega (arith, h, long))));
      }
