use Rattle.std.proofs.Common.{sym}
use Rattle.cw_hex.proofs.Digits.{bytes_at}
use Rattle.cw_hex.proofs.line.byte.Goals as goal

pub returns : goal.returns
returns c = rw (c.digit_value.ensures.is, c.digit_value-2.ensures.is) (sym (bytes_at c.args.digits.now c.args.k c.requires))
