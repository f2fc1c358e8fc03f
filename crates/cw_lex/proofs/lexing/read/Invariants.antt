-- What is read so far, and what is still to read.
use Rattle.std.proofs.Common.{length, ◌-◌, ◌≡◌, ◌≤◌, map, take}
use Rattle.cw_lex.specs.Lexical.{view, line_behind}
use Rattle.cw_lex.proofs.Run.{Reads, FailsFrom}
use Rattle.cw_lex.proofs.lexing.read.Given as goal

abbrev pub invariant-loop-at : goal.invariant-loop-at
invariant-loop-at l = record {
  within : l.at ≤ length l.text;
  line_is : l.line ≡ line_behind (record { line = l.first_line; at = l.first_at }) (take l.at l.text);
  reads : Reads l.form (record { line = l.first_line; at = l.first_at }) l.text l.after_semicolon l.at (map view l.tokens);
  fails : FailsFrom l.form (record { line = l.first_line; at = l.first_at }) l.text l.after_semicolon l.at;
}

abbrev pub decreases-loop-at : goal.decreases-loop-at
decreases-loop-at l = length l.text - l.at
