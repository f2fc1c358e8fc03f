use Rattle.std.proofs.Common.{ap, length, arith}
use Rattle.cw_hex.proofs.Written.{length-word_bytes}
use Rattle.cw_hex.proofs.writing.put_words.Goals as goal

pub put_pieces-requires : goal.put_pieces-requires
put_pieces-requires c =
    let e = ap length c.as_slice.ensures.value in
    let f = ap length c.in_ok-bytes.ensures in
    omega (arith, e, f, length-word_bytes c.args.words.now, c.requires)
