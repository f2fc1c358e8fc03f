use Rattle.cw_depth.specs.Building.{IsRowFor}
use Rattle.cw_keyed.specs.Numbered.{Keeps}
use Rattle.cw_depth.proofs.rows.row_for.Given as goal

abbrev pub invariant-loop-mention : goal.invariant-loop-mention
invariant-loop-mention l = record {
  row : IsRowFor l.units l.heads l.node l.row l.mention-index;
  extends : Keeps l.initial.heads l.heads;
}
