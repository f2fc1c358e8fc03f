use Rattle.cw_link.proofs.OtherBytes.{size_is, bytes_are}
use Rattle.cw_link.proofs.laws.other_bytes.Goals as goal

pub returns-clause-size : goal.returns-clause-size
returns-clause-size c = size_is

pub returns-clause-bytes : goal.returns-clause-bytes
returns-clause-bytes c = bytes_are
