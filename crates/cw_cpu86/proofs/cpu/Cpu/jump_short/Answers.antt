use Rattle.std.proofs.Common.{◌∙◌, ap}
use Rattle.cw_i86.specs.State.{State, past}
use Rattle.cw_cpu86.proofs.Rows.{jump_short_steps}
use Rattle.cw_cpu86.proofs.cpu.Cpu.jump_short.Goals as goal

pub returns : goal.returns
returns c =
    jump_short_steps c.args.self.now c.advance.new.self _ _ c.requires c.byte_behind-by.type_inv c.byte_behind-by.ensures c.advance.ensures
    (c.advance-2.ensures ∙ ap (past c.advance.new.self) c.sign_extended.ensures)
