use Rattle.cw_listed.proofs.ProgramShown.{program_lines_are, program_text}
use Rattle.cw_listed.proofs.laws.program_shown.Goals as goal

pub returns-clause-lines : goal.returns-clause-lines
returns-clause-lines c = program_lines_are c.standing.ensures.library

pub returns-clause-text : goal.returns-clause-text
returns-clause-text c = program_text c.standing.ensures.library
