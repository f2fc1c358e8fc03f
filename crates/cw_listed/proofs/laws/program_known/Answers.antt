use Rattle.cw_listed.proofs.Program.{program_known, library_known}
use Rattle.cw_listed.proofs.laws.program_known.Goals as goal

pub returns-clause-words : goal.returns-clause-words
returns-clause-words c = program_known

pub returns-clause-library : goal.returns-clause-library
returns-clause-library c = library_known
