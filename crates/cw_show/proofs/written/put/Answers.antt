use Rattle.std.proofs.Common.{rules}
use Rattle.cw_show.proofs.written.put.Goals as goal

pub returns-in-Ok : goal.returns-in-Ok
returns-in-Ok c = record { before = λ e. e; there = λ e. search rules }

pub returns-in-Err : goal.returns-in-Err
returns-in-Err c = record { before = λ e. absurd (cc); there = λ e. absurd (cc) }
