use Rattle.std.proofs.Common.{◌≡◌, map, drop}
use Rattle.cw_judge.specs.Judged.{all_judged, declaration_judged, statement_judged}
use Rattle.cw_judge.proofs.statements.+judged.Given as goal

abbrev pub invariant-judge_block-loop-declaration : goal.invariant-judge_block-loop-declaration
invariant-judge_block-loop-declaration l = all_judged (map (declaration_judged l.named l.sites) (drop l.declaration-index l.declaration-items)) l.first ≡ all_judged (map (declaration_judged l.named l.sites) l.declaration-items) l.initial.first

abbrev pub invariant-judge_block-loop-statement : goal.invariant-judge_block-loop-statement
invariant-judge_block-loop-statement l = all_judged (map (statement_judged l.named l.sites) (drop l.statement-index l.statement-items)) l.first ≡ all_judged (map (statement_judged l.named l.sites) l.statement-items) l.initial.first
