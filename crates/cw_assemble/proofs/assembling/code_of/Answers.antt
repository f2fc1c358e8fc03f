use Rattle.std.proofs.Common.{◌≡◌, false, ap, ◌∙◌}
use Rattle.std.proofs.lemmas.Result.{IfOk-weaker}
use Rattle.cw_tmpl.specs.declared.assembling.Assembly.{Assembly}
use Rattle.cw_tmpl.specs.Pieces.{blanks, relocations}
use Rattle.cw_tmpl.specs.ReferenceCode.{pieces_of}
use Rattle.cw_assemble.proofs.Composed.{whole_from}
use Rattle.cw_assemble.proofs.assembling.code_of.Goals as goal

pub returns-clause-bytes : goal.returns-clause-bytes
returns-clause-bytes c =
    let whole =
    whole_from c.new-code.result c.put_entry.new.code c.put_orders.new.code c.put_landings.new.code c.put_switches.new.code c.args.orders.now c.args.names.now c.as_slice.result.now c.new-code.ensures c.as_slice.ensures c.requires.names
    c.put_entry.ensures c.put_orders.ensures c.put_landings.ensures c.put_switches.ensures in
    IfOk-weaker c.finish.result (λ code. (c.put_switches.new.code.failed ≡ false) × (code ≡ c.put_switches.new.code.assembly))
    (λ code. code.bytes ≡ blanks (pieces_of c.args.orders.now)) (λ code is. ap (λ (a : Assembly). a.bytes) is.1 ∙ (whole is.0).0) c.finish.ensures

pub returns-clause-relocs : goal.returns-clause-relocs
returns-clause-relocs c =
    let whole =
    whole_from c.new-code.result c.put_entry.new.code c.put_orders.new.code c.put_landings.new.code c.put_switches.new.code c.args.orders.now c.args.names.now c.as_slice.result.now c.new-code.ensures c.as_slice.ensures c.requires.names
    c.put_entry.ensures c.put_orders.ensures c.put_landings.ensures c.put_switches.ensures in
    IfOk-weaker c.finish.result (λ code. (c.put_switches.new.code.failed ≡ false) × (code ≡ c.put_switches.new.code.assembly))
    (λ code. code.relocs ≡ relocations 0 (pieces_of c.args.orders.now)) (λ code is. ap (λ (a : Assembly). a.relocs) is.1 ∙ (whole is.0).1) c.finish.ensures
