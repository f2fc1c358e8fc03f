use Rattle.std.proofs.Common.{◌<◌, All, arith}
use Rattle.std.proofs.lemmas.List.Elements.{All-from_get_or}
use Rattle.std.proofs.lemmas.Result.{IfOk-weaker}
use Rattle.cw_files.proofs.Next.{made_unit, unit_no_memory}
use Rattle.cw_texts.proofs.texts.compile_text.Goals as goal

pub compile_unit-requires : goal.compile_unit-requires
compile_unit-requires c =
    let bytes : All (λ b. b < 256) c.args.text.now = All-from_get_or (λ b. b < 256) c.args.text.now 0 (λ i within. omega (arith, c.type_inv.text i)) in
    c.text_units.ensures c.args.text.now c.in-Ok.unit bytes c.in-Ok.ensures.unit

pub returns-in-Ok-clause-made : goal.returns-in-Ok-clause-made
returns-in-Ok-clause-made c =
    let bytes : All (λ b. b < 256) c.args.text.now = All-from_get_or (λ b. b < 256) c.args.text.now 0 (λ i within. omega (arith, c.type_inv.text i)) in
    IfOk-weaker c.compile_unit.result _ _ (λ segment made. made_unit c.args.text.now c.in-Ok.unit segment bytes c.in-Ok.ensures.unit made) c.compile_unit.ensures.made

pub returns-in-Ok-clause-stops : goal.returns-in-Ok-clause-stops
returns-in-Ok-clause-stops c = λ told texts before after at. unit_no_memory told texts c.args.number before after c.compile_unit.result c.compile_unit.ensures.memory
