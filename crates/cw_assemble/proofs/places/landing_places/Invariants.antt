use Rattle.std.proofs.Common.{◌≡◌, ◌+◌, ◌++◌, drop}
use Rattle.cw_tmpl.specs.Named.{is_named_label}
use Rattle.cw_tmpl.specs.ReferenceCode.{landing_places, landing_sizes}
use Rattle.cw_assemble.proofs.places.landing_places.Given as goal

abbrev pub invariant-loop-number : goal.invariant-loop-number
invariant-loop-number l = record {
  places : l.list ++ landing_places (is_named_label l.orders) l.at l.number (drop l.number l.labels) ≡ landing_places (is_named_label l.orders) l.first 0 l.orders.labels;
  behind : l.at + landing_sizes (is_named_label l.orders) l.number (drop l.number l.labels) ≡ l.first + landing_sizes (is_named_label l.orders) 0 l.orders.labels;
}
