-- The code of a unit tells the lines of its statements.
use Rattle.cw_traced.proofs.Lines.Units.{code-tells}
use Rattle.cw_traced.proofs.laws.lines.lines_of_code.Goals as goal

pub returns : goal.returns
returns c = code-tells
