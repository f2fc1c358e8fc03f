use Rattle.std.proofs.Common.{◌≡◌, ◌++◌, take}
use Rattle.std.specs.List.{All, flat_map}
use Rattle.cw_place.specs.Sweep.{IsSpan, span_of}
use Rattle.cw_place.proofs.spans.add_spans.Given as goal

abbrev pub invariant-loop-k : goal.invariant-loop-k
invariant-loop-k l = record {
  added : l.spans ≡ l.fn.spans ++ flat_map span_of (take l.k l.families);
  each : All IsSpan l.spans;
}
