use Rattle.std.proofs.Common.{sym, ◌∙◌}
use Rattle.std.proofs.lemmas.Bool.{true≢false}
use Rattle.cw_comm.proofs.Definers.{not_here, no_definer, none_earlier, second}
use Rattle.cw_comm.proofs.Searching.{first_definers, stands_at}
use Rattle.cw_comm.proofs.checking.second_definition_at.Goals as goal

pub returns-then-not-is_definer : goal.returns-then-not-is_definer
returns-then-not-is_definer c = not_here (first_definers c.requires.at.first) c.args.at.now.segment c.requires.at.own.own c.args.descriptor c.number-name.result (stands_at c.args.at.now c.args.descriptor c.number-name.result c.requires c.number-name.ensures) (λ e. true≢false (sym (c.is_definer.ensures.1 e) ∙ c.if-not-is_definer.true))

pub returns-then-segment-first : goal.returns-then-segment-first
returns-then-segment-first c = none_earlier (first_definers c.requires.at.first) c.args.at.now.segment c.requires.at.own.own c.args.descriptor c.number-name.result (stands_at c.args.at.now c.args.descriptor c.number-name.result c.requires c.number-name.ensures) c.in-Some.first (sym c.in-Some.ensures) c.if-segment-first.true

pub returns-else-segment-first : goal.returns-else-segment-first
returns-else-segment-first c = second (first_definers c.requires.at.first) c.args.at.now.segment c.requires.at.own.own c.args.descriptor c.number-name.result (stands_at c.args.at.now c.args.descriptor c.number-name.result c.requires c.number-name.ensures) c.in-Some.first (c.is_definer.ensures.0 c.if-not-is_definer.false) (sym c.in-Some.ensures) c.if-segment-first.false

pub returns-in-None : goal.returns-in-None
returns-in-None c = no_definer (first_definers c.requires.at.first) c.args.at.now.segment c.requires.at.own.own c.args.descriptor c.number-name.result (stands_at c.args.at.now c.args.descriptor c.number-name.result c.requires c.number-name.ensures) (sym c.in-None.ensures)
