use Rattle.std.proofs.Common.{sym, ap, subst, refl, length}
use Rattle.cw_scope.specs.Names.{Finds}
use Rattle.cw_scope.proofs.FirstPlaces.{finds-more}
use Rattle.cw_scope.proofs.names.Names.with.Goals as goal

pub invariant_of-result : goal.invariant_of-result
invariant_of-result c =
    subst (Finds c.note_first.new.first) (sym c.in_ok-push.ensures.ok)
    (finds-more c.self.inside.first c.note_first.new.first c.self.inside.all c.args.declaration.now _ _ refl (ap length c.as_slice.ensures) c.self.invariant c.in_ok-note_first.ensures)
