use Rattle.std.proofs.Common.{◌≡◌, ◌++◌, drop}
use Rattle.cw_assemble.specs.Noted.{blocks_from}
use Rattle.cw_tmpl.specs.ShortForms.{all_near}
use Rattle.cw_tmpl.specs.ReferenceCode.{places_from, longest_places}
use Rattle.cw_assemble.proofs.places.longest_places.Given as goal

abbrev pub invariant-loop-k : goal.invariant-loop-k
invariant-loop-k l = (l.list ++ places_from all_near l.at l.k l.left (drop l.k l.orders) ≡ longest_places l.orders) × (drop l.k l.blocks ≡ blocks_from l.left (drop l.k l.orders))
