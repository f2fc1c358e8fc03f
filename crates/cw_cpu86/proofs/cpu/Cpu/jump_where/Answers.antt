use Rattle.std.proofs.Common.{◌∙◌, ap}
use Rattle.cw_i86.specs.State.{State}
use Rattle.cw_i86.specs.Effect.{holds}
use Rattle.cw_cpu86.proofs.Rows.{jump_if_steps}
use Rattle.cw_cpu86.proofs.cpu.Cpu.jump_where.Goals as goal

pub returns : goal.returns
returns c =
    jump_if_steps c.args.self.now c.advance.new.self _ _ _ c.holds-is_so.result c.requires.cond c.requires.stands c.byte_behind-by.type_inv c.byte_behind-by.ensures c.advance.ensures
    (c.holds-is_so.ensures ∙ ap (λ (s : State). holds s.flags c.args.cond) c.self.view_is) c.jump_if.ensures
