use Rattle.std.proofs.Common.{refl, lit≤}
use Rattle.cw_unit.specs.Stop.{Overflow, ZeroDivisor, SwitchRange, AddressRange, IndexRange}
use Rattle.cw_routines.specs.Results.{Quiet}
use Rattle.cw_routines.proofs.Places.{overflow_stands, zero_stands, address_stands, bounds_stands, switch_stands}
use Rattle.cw_routines.proofs.Begins.{starts}
use Rattle.cw_routines.proofs.Stops.{line_stops, told_stops}
use Rattle.cw_routines.proofs.laws.bodies.Goals as goal

pub returns : goal.returns
returns c =
    let finds = c.fetching.ensures.finds in
    record {
      start = λ quiet code stands library at n area frames calls segment ax cx dx bx bp si di flags cells stack input told p lt is le low few d w2 w4 w6 s.
          starts finds (Quiet quiet) code stands library at n area frames calls segment lt is le low few d w2 w4 w6 s;
      overflow = λ quiet code stands library at line n r segment ax cx dx bx bp si di flags cells stack input told p low there word small t s.
          line_stops finds (Quiet quiet) code stands library Overflow 35 12 (overflow_stands code stands) (lit≤ tt) refl at line n r segment low there word small t s;
      zero_divisor = λ quiet code stands library at line n r segment ax cx dx bx bp si di flags cells stack input told p low there word small t s.
          line_stops finds (Quiet quiet) code stands library ZeroDivisor 39 8 (zero_stands code stands) (lit≤ tt) refl at line n r segment low there word small t s;
      address = λ quiet code stands library at line n r segment ax cx dx bx bp si di flags cells stack input told p low there word small t s.
          line_stops finds (Quiet quiet) code stands library AddressRange 43 4 (address_stands code stands) (lit≤ tt) refl at line n r segment low there word small t s;
      bounds = λ quiet code stands library at line n r segment ax cx dx bx bp si di flags cells stack input told p low there word small t s.
          line_stops finds (Quiet quiet) code stands library IndexRange 47 0 (bounds_stands code stands) (lit≤ tt) refl at line n r segment low there word small t s;
      switch = λ quiet code stands library line r segment ax cx bx sp bp si di flags cells stack input told p small t s.
          told_stops finds (Quiet quiet) code stands library SwitchRange 79 0xE4 r segment (switch_stands code stands) (lit≤ tt) refl t small s;
    }
