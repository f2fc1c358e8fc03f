use Rattle.std.proofs.Common.{arith}
use Rattle.cw_pick.proofs.Indexing.{first_within, one_added}
use Rattle.cw_pick.proofs.index.enter.Goals as goal

pub add_member-requires : goal.add_member-requires
add_member-requires c = let lt = first_within c.args.name c.number_of.new.index.names.keys c.in_ok-n.n c.in_ok-n.ensures.first in omega (arith, lt, c.in_ok-n.ensures.lists)

pub returns-clause-entered : goal.returns-clause-entered
returns-clause-entered c = λ other k.
    one_added c.number_of.new.index.names.keys c.number_of.new.index.definers.items _ c.args.name other c.in_ok-n.n c.args.member k _ c.in_ok-n.ensures.lists c.in_ok-n.ensures.first c.in_ok-add_member.ensures (c.in_ok-n.ensures.same other)
