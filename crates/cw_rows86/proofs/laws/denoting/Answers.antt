use Rattle.cw_rows86.proofs.Denoting.{of_register, at_offset, at_bx, at_si, near_bx, far_bx, near_bp, far_bp, at_code, read_there}
use Rattle.cw_rows86.proofs.laws.denoting.Goals as goal

pub returns : goal.returns
returns c = record { of_register = of_register; at_offset = at_offset; at_bx = at_bx; at_si = at_si; near_bx = near_bx; far_bx = far_bx; near_bp = near_bp; far_bp = far_bp; at_code = at_code; read_there = read_there }
