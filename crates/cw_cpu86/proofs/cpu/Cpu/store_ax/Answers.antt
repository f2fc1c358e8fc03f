use Rattle.cw_cpu86.proofs.Rows.{store_ax_steps}
use Rattle.cw_cpu86.proofs.cpu.Cpu.store_ax.Goals as goal

pub returns : goal.returns
returns c = store_ax_steps _ _ _ _ _ c.requires c.word_behind-at.type_inv c.word_behind-at.ensures c.advance.ensures c.register-word.ensures c.set_value_at.ensures
