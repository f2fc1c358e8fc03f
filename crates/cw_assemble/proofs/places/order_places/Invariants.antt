use Rattle.std.proofs.Common.{◌≡◌, ◌++◌, drop}
use Rattle.cw_assemble.specs.Noted.{blocks_from}
use Rattle.cw_tmpl.specs.ShortForms.{is_short}
use Rattle.cw_tmpl.specs.ReferenceCode.{places_from, places_by}
use Rattle.cw_assemble.proofs.places.order_places.Given as goal

abbrev pub invariant-loop-k : goal.invariant-loop-k
invariant-loop-k l = (l.list ++ places_from (is_short l.reach) l.at l.k l.left (drop l.k l.orders) ≡ places_by (is_short l.reach) l.orders) × (drop l.k l.blocks ≡ blocks_from l.left (drop l.k l.orders))
