use Rattle.std.proofs.Common.{◌+◌, arith, sym, ◌∙◌, ap}
use Rattle.byteorder.specs.Endian.{little_number}
use Rattle.cw_view.proofs.Marked.{tail_is}
use Rattle.cw_view.proofs.Opening.{fails_at_end, fails_out_of_order, fails_cut, short_head, short_payload, has_record}
use Rattle.cw_view.proofs.view.record_at.Goals as goal

pub returns-then-left-eq0 : goal.returns-then-left-eq0
returns-then-left-eq0 c = fails_at_end c.args.version c.args.last c.args.bytes.now c.args.at c.requires.goes_on c.requires.within c.if-left-eq0.true

pub returns-then-not-can_follow : goal.returns-then-not-can_follow
returns-then-not-can_follow c = fails_out_of_order c.args.version c.args.last c.args.bytes.now c.args.at c.requires.goes_on (omega arith) (sym c.can_follow.ensures ∙ c.if-not-can_follow.true)

pub returns-then-left-lt-HEAD : goal.returns-then-left-lt-HEAD
returns-then-left-lt-HEAD c = fails_cut c.args.version c.args.last c.args.bytes.now c.args.at (omega arith) (sym c.can_follow.ensures ∙ c.if-not-can_follow.false) (short_head c.args.bytes.now c.args.at c.requires.within (omega arith))

pub returns-then-left-size : goal.returns-then-left-size
returns-then-left-size c = fails_cut c.args.version c.args.last c.args.bytes.now c.args.at (omega arith) (sym c.can_follow.ensures ∙ c.if-not-can_follow.false) (short_payload c.args.bytes.now c.args.at c.requires.within (let e = c.read_u32-size.ensures ∙ ap (little_number 4) (tail_is c.args.bytes.now (c.args.at + 1)) in omega (arith, e)) (omega arith))

pub returns : goal.returns
returns c = has_record c.args.version c.args.last c.args.bytes.now c.args.at c.read_u32-size.result (λ i. omega (arith, c.type_inv.bytes i)) c.requires.within (omega arith) (sym c.can_follow.ensures ∙ c.if-not-can_follow.false) (c.read_u32-size.ensures ∙ ap (little_number 4) (tail_is c.args.bytes.now (c.args.at + 1))) (omega arith) (omega arith)
