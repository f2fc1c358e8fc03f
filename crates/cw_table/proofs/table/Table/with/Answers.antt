use Rattle.std.proofs.Common.{sym, ap, subst, refl, length}
use Rattle.cw_table.specs.Rows.{Finds}
use Rattle.cw_table.proofs.First.{finds_more}
use Rattle.cw_table.proofs.table.Table.with.Goals as goal

pub invariant_of-result : goal.invariant_of-result
invariant_of-result g c =
    subst (Finds c.note_first.new.places.items) (sym c.in_ok-push.ensures.ok)
    (finds_more c.self.inside.places.items c.note_first.new.places.items c.self.inside.rows _ _ _ refl (ap length c.as_slice.ensures) c.self.invariant c.in_ok-note_first.ensures)
