use Rattle.std.proofs.Common.{length, ◌-◌, ◌≡◌, ◌≤◌, drop, false, None}
use Rattle.std.specs.Prelude.{IfSome}
use Rattle.cw_lex.specs.Found.{text_end}
use Rattle.cw_lex.proofs.item.text_end.Given as goal

abbrev pub invariant-loop-at : goal.invariant-loop-at
invariant-loop-at l = record {
  within : l.at ≤ length l.bytes;
  end_within : IfSome l.end (λ n. n ≤ l.at);
  same : text_end false 0 None l.bytes ≡ text_end l.closed l.at l.end (drop l.at l.bytes);
}

abbrev pub decreases-loop-at : goal.decreases-loop-at
decreases-loop-at l = length l.bytes - l.at
