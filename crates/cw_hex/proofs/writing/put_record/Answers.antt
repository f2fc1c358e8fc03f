use Rattle.std.proofs.Common.{refl, ◌/◌, ◌%◌, length}
use Rattle.cw_hex.proofs.Written.{check_is, record_put}
use Rattle.cw_hex.proofs.writing.put_record.Goals as goal

pub returns : goal.returns
returns c =
    let l = length c.args.bytes.now in
    let h = c.args.address / 256 in
    let a = c.args.address % 256 in
    rw (c.in_ok-put-2.ensures, c.in_ok-put_digits-3.ensures, c.in_ok-put_digits-2.ensures, c.in_ok-put_digits.ensures, c.in_ok-put.ensures)
    (record_put c.args.text.now.items l h a c.args.kind c.args.bytes.now _
    (check_is l h a c.args.kind c.args.bytes.now c.sum.result c.sum-2.result _ c.sum.ensures.is c.sum-2.ensures.is refl))
