use Rattle.std.proofs.Common.{◌+◌, ◌%◌, ap}
use Rattle.cw_i86.specs.State.{State}
use Rattle.cw_cpu86.proofs.Rows.{call_steps}
use Rattle.cw_cpu86.proofs.cpu.Cpu.call_near.Goals as goal

pub returns : goal.returns
returns c =
    call_steps c.args.self.now c.advance.new.self _ c.word_behind-by.result _ c.requires c.word_behind-by.type_inv c.word_behind-by.ensures c.advance.ensures
    (ap (λ (s : State). (s.instruction_pointer + c.word_behind-by.result) % 65536) c.self.view_is) c.call.ensures
