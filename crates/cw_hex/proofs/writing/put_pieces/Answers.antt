use Rattle.cw_hex.proofs.Written.{pieces_put}
use Rattle.cw_hex.proofs.writing.put_pieces.Goals as goal

pub loop-k-preserved : goal.loop-k-preserved
loop-k-preserved c =
    pieces_put c.args.text.now.items c.loop-k.text.items c.put_record.new.text.items c.loop-k.k c.args.bytes.now c.piece.result.now
    c.piece.ensures.is c.loop-k.invariant c.in_ok-put_record.ensures
