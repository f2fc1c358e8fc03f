use Rattle.cw_dec86.proofs.Again.{again}
use Rattle.cw_dec86.proofs.rows_read_back.Goals as goal

pub returns : goal.returns
returns c = again
