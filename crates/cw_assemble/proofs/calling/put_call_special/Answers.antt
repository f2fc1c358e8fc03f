use Rattle.std.proofs.Common.{◌+◌, length, ap, ap₂, ◌∙◌}
use Rattle.cw_tmpl.specs.Mnemonics.{load, argument}
use Rattle.cw_tmpl.specs.Names.{own}
use Rattle.cw_assemble.proofs.Composed.{special_added}
use Rattle.cw_assemble.proofs.calling.put_call_special.Goals as goal

pub returns : goal.returns
returns c =
    special_added c.args.code.now c.put_all.new.self c.put_back_jump.new.code c.args.words c.args.line c.set_word.result c.load.result c.own-behind.result c.put_all.ensures c.set_word.ensures (c.load.ensures ∙ ap (load 0) (c.argument.ensures.value ∙ ap argument c.from-2.ensures))
    (c.own-behind.ensures ∙ ap₂ (λ bs n. own (length bs + n)) c.as_slice.ensures (c.from.ensures ∙ c.call_special_size.ensures.is)) c.put_back_jump.ensures
