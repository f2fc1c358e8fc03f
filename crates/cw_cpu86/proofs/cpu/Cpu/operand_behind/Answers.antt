use Rattle.std.proofs.Common.{rules, false, ◌%◌}
use Rattle.cw_i86.specs.State.{operand, sized_register}
use Rattle.cw_i86.specs.declared.instr.Rm.TheVariants.{Reg, Mem}
use Rattle.cw_cpu86.proofs.Rows.{at_register, read_operand}
use Rattle.cw_cpu86.proofs.cpu.Cpu.operand_behind.Goals as goal

pub returns-then-mode-ge192 : goal.returns-then-mode-ge192
unfolding operand sized_register
returns-then-mode-ge192 c = (Reg (c.args.mode % 8), at_register _ _ c.requires c.ranges.mode.fits c.if-mode-ge192.true, c.register.ensures)

pub returns : goal.returns
returns c =
    let at = c.in-Some.ensures in
    (Mem (record { cs = false; place = at.0 }), at.1, read_operand _ _ at.0 _ _ _ (search rules) at.2 at.3 c.read_word.ensures)
