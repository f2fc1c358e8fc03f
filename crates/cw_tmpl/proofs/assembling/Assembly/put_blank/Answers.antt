use Rattle.std.proofs.Common.{◌++◌, sym, ap, ◌∙◌}
use Rattle.std.proofs.lemmas.Result.{on_ok_weaker}
use Rattle.cw_tmpl.proofs.Growing.{instruction_bytes, instruction_coded}
use Rattle.cw_tmpl.proofs.assembling.Assembly.put_blank.Goals as goal

pub put_instruction-requires : goal.put_instruction-requires
put_instruction-requires c = instruction_coded c.args.piece.now c.in-Some.instruction c.requires (sym c.in-Some.ensures)

pub returns-in-Some-clause-bytes : goal.returns-in-Some-clause-bytes
returns-in-Some-clause-bytes c =
    on_ok_weaker c.put_instruction.result
    (λ added. added ∙ ap (λ bs. c.args.self.now.bytes ++ bs) (instruction_bytes c.args.piece.now c.in-Some.instruction (sym c.in-Some.ensures)))
    c.put_instruction.ensures.bytes
