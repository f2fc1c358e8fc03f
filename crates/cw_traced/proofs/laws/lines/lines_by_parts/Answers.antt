-- The lines of a statement are its own and those of its parts.
use Rattle.cw_traced.proofs.Lines.Statements.{by-parts}
use Rattle.cw_traced.proofs.laws.lines.lines_by_parts.Goals as goal

pub returns : goal.returns
returns c = by-parts
