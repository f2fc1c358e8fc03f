use Rattle.std.proofs.Common.{rules, ◌∷◌, []}
use Rattle.cw_i86.specs.declared.instr.Instr.TheVariants as i86
use Rattle.cw_run86.specs.Views.{with_number}
use Rattle.cw_word.specs.BitField.{field_mask}
use Rattle.cw_tmpl.specs.declared.pieces.Coded.TheVariants as coded
use Rattle.cw_tmpl.specs.Mnemonics.{move, double, operate, change, at_bx}
use Rattle.cw_assemble.specs.Growing.{Adds}
use Rattle.cw_assemble.proofs.Composed.{◌⨟◌}
use Rattle.cw_assemble.proofs.parts.put_store_part.Goals as goal

pub returns : goal.returns
returns c =
    let first : Adds c.args.code.now (coded.Whole (move 3 0) ∷ coded.Whole (i86.Pop 0) ∷ coded.Whole (double 3) ∷ []) c.put_all.new.self = search rules in
    let last : Adds c.put_shifted_up.new.code (coded.Whole (operate 6 0 at_bx) ∷ coded.Whole (with_number 4 (field_mask c.args.t c.args.b)) ∷ coded.Whole (change 6 at_bx 0) ∷ []) c.put_all-2.new.self = search rules in
    let all = first ⨟ c.put_shifted_up.ensures ⨟ last in
    all
