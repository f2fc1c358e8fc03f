use Rattle.std.proofs.Common.{rules}
use Rattle.cw_cpu86.proofs.Rows.{load_ax_steps}
use Rattle.cw_cpu86.proofs.cpu.Cpu.load_ax.Goals as goal

pub returns : goal.returns
returns c = load_ax_steps c.args.self.now c.advance.new.self _ _ c.read_word-word.result c.requires c.word_behind-at.type_inv c.word_behind-at.ensures c.advance.ensures (search rules) c.set_register.ensures
