use Rattle.std.proofs.Common.{◌≡◌, take}
use Rattle.std.specs.List.{All}
use Rattle.cw_place.specs.Sweep.{IsSpan, spans_in}
use Rattle.cw_place.proofs.spans.all_spans.Given as goal

abbrev pub invariant-loop-space : goal.invariant-loop-space
invariant-loop-space l = record {
  all : l.spans ≡ spans_in (take l.space-index l.spaces);
  each : All IsSpan l.spans;
}
