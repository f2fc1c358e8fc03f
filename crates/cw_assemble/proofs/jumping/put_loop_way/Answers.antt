use Rattle.std.proofs.Common.{◌≡◌, ◌+◌, ◌*◌, length, ap, ap₂, ◌∙◌, arith}
use Rattle.cw_tmpl.specs.Names.{own}
use Rattle.cw_tmpl.specs.Templates.{distance}
use Rattle.cw_assemble.proofs.Composed.{loop_added}
use Rattle.cw_assemble.proofs.Growing.{lost}
use Rattle.cw_assemble.proofs.jumping.put_loop_way.Goals as goal

pub returns-in-Ok : goal.returns-in-Ok
returns-in-Ok c =
    let old = length c.args.code.now.assembly.bytes in
    let l2 : length c.as_slice-2.result.now ≡ old = ap length c.as_slice-2.ensures in
    let end : length c.as_slice-2.result.now + 13 ≡ old + 13 = omega arith in
    let past : length c.as_slice-2.result.now + 13 + 7 + 2 * length c.args.marks.now ≡ old + 20 + 2 * length c.args.marks.now = omega arith in
    loop_added c.args.code.now c.put_number_compared.new.code c.put_all.new.self c.put_mark_words.new.code c.in-Ok.number c.distance.result c.double.result c.jump_if_below.result c.own.result c.args.names.now c.args.marks.now
    c.put_number_compared.ensures c.in-Ok.ensures.1 (c.distance.ensures ∙ ap₂ distance end past) c.double.ensures c.jump_if_below.ensures (c.own.ensures ∙ ap (λ bs. own (length bs + 20)) c.as_slice.ensures) c.put_all.ensures c.put_mark_words.ensures

pub returns-in-Err : goal.returns-in-Err
returns-in-Err c = lost c.fail.ensures
