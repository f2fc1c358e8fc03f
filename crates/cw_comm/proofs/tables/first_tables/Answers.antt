use Rattle.std.proofs.Common.{◌≡◌, ◌-◌, ◌<◌, length, subst, arith}
use Rattle.cw_comm.specs.Tables.{TellFrom}
use Rattle.cw_comm.proofs.Searching.{none_from, entered_first}
use Rattle.cw_comm.proofs.tables.first_tables.Goals as goal

pub loop-segment-init : goal.loop-segment-init
loop-segment-init c = none_from c.args.listed.now c.in_ok-tables.tables c.in_ok-tables.ensures

pub enter-requires : goal.enter-requires
enter-requires c =
    let within : c.loop-segment.segment - 1 < length c.args.listed.now.segments.now = omega (arith, c.loop-segment-test.true, c.loop-segment.auto.segment) in
    record { listed = c.requires; segment = within; each = c.loop-segment.invariant.each }

pub loop-segment-preserved : goal.loop-segment-preserved
loop-segment-preserved c =
    entered_first c.args.listed.now c.loop-segment.segment c.loop-segment.tables c.enter.new.self (omega (arith, c.loop-segment-test.true)) (omega (arith, c.loop-segment.auto.segment)) c.loop-segment.invariant c.enter.ensures

pub returns : goal.returns
returns c =
    let none : c.loop-segment.segment ≡ 0 = omega (arith, c.loop-segment-test.false) in
    subst (λ g. TellFrom c.args.listed.now g c.loop-segment.tables) none c.loop-segment.invariant
