use Rattle.cw_pick.proofs.Indexing.{entered_first, entered_new}
use Rattle.cw_pick.proofs.index.number_of.Goals as goal

pub returns-in_ok-add_list-in-Ok-clause-same : goal.returns-in_ok-add_list-in-Ok-clause-same
returns-in_ok-add_list-in-Ok-clause-same c = λ other.
    entered_new c.args.index.now.names.keys c.insert_full.new.self.keys c.args.index.now.definers.items _ c.args.name other c.in-Ok.is_new c.in-Ok.ensures.keys c.in-Ok.ensures.added c.if-is_new.true c.in_ok-add_list-in-Ok.ensures c.requires

pub returns-in_ok-add_list-in-Ok-clause-first : goal.returns-in_ok-add_list-in-Ok-clause-first
returns-in_ok-add_list-in-Ok-clause-first c = entered_first c.args.name c.args.index.now.names.keys c.insert_full.new.self.keys c.in-Ok.n c.in-Ok.ensures.keys c.in-Ok.ensures.index

pub returns-else-is_new-clause-first : goal.returns-else-is_new-clause-first
returns-else-is_new-clause-first c = entered_first c.args.name c.args.index.now.names.keys c.insert_full.new.self.keys c.in-Ok.n c.in-Ok.ensures.keys c.in-Ok.ensures.index
