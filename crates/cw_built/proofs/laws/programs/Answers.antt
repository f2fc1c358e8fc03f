use Rattle.cw_built.proofs.Programs.{codes, lines, tables, switches, marks, callable}
use Rattle.cw_built.proofs.Sharing.{definitions-shared}
use Rattle.cw_built.proofs.laws.programs.Goals as goal

pub returns-clause-codes : goal.returns-clause-codes
returns-clause-codes c us m limits room g place o h = codes us m limits room h g place o

pub returns-clause-lines : goal.returns-clause-lines
returns-clause-lines c = lines

pub returns-clause-tables : goal.returns-clause-tables
returns-clause-tables c = tables

pub returns-clause-switches : goal.returns-clause-switches
returns-clause-switches c us m limits room g n o gs h = switches us m limits room h g n o gs

pub returns-clause-marks : goal.returns-clause-marks
returns-clause-marks c us m limits room g mark place h = marks us m limits room h g mark place

pub returns-clause-callable : goal.returns-clause-callable
returns-clause-callable c us m limits room passed h frames = callable us m limits room h passed frames

pub returns-clause-shared : goal.returns-clause-shared
returns-clause-shared c = definitions-shared
