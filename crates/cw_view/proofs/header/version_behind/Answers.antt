use Rattle.std.proofs.Common.{◌<◌, arith}
use Rattle.cw_view.proofs.Marked.{other_mark, same_mark, header_is}
use Rattle.cw_view.proofs.header.version_behind.Goals as goal

pub returns-then-ne : goal.returns-then-ne
returns-then-ne c = other_mark c.args.mark c.args.bytes.now c.min-size.result c.ne.result c.requires c.min-size.ensures c.ne.ensures c.if-ne.true

pub returns-then-bytes-lt-HEADER : goal.returns-then-bytes-lt-HEADER
returns-then-bytes-lt-HEADER c =
    (same_mark c.args.mark c.args.bytes.now c.min-size.result c.ne.result c.requires c.min-size.ensures c.ne.ensures c.if-ne.false, c.if-bytes-lt-HEADER.true)

pub returns : goal.returns
returns c =
    let short : c.read_u16.result < 65536 = omega arith in (
      short,
      header_is c.args.mark c.args.bytes.now c.read_u16.result c.requires (λ i. omega (arith, c.type_inv.bytes i)) (omega arith)
          (same_mark c.args.mark c.args.bytes.now c.min-size.result c.ne.result c.requires c.min-size.ensures c.ne.ensures c.if-ne.false) c.read_u16.ensures,
    )
