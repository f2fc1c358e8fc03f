use Rattle.cw_writable.proofs.Back.Back.{body}
use Rattle.cw_writable.proofs.laws.back.body_fits.Goals as goal

pub returns : goal.returns
returns c u ready small need = body u ready small need
