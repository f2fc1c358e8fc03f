use Rattle.std.proofs.Common.{ℕ}
use Rattle.cw_gen_expr.specs.Pieces.{plain}
use Rattle.cw_gen_unit.specs.ReferenceStatements.{simple_beginning}
use Rattle.cw_gen_unit.proofs.Chains.{stepped}
use Rattle.cw_gen_unit.proofs.begun.begin_simple.Goals as goal

pub returns : goal.returns
returns c s ey el =
    stepped s c.args.layout.now c.args.line c.args.looped (λ (k : ℕ). plain (simple_beginning c.args.layout.now c.args.looped c.args.x k)) ey el c.reserve-end.ensures c.reserve-start.ensures c.put_simple_beginning.ensures c.put_mark.ensures
