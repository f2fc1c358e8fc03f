use Rattle.std.proofs.Common.{◌≡◌, ◌∙◌, Some, arith, subst, sym}
use Rattle.std.specs.Prelude.{slice_get}
use Rattle.cw_unit.specs.Storage.{layout_of}
use Rattle.cw_listing.proofs.Told.{of_family}
use Rattle.cw_listing.proofs.laws.named_by_own.Goals as goal

pub returns : goal.returns
returns c = λ u family item e.
    let o = of_family 0 0 (layout_of u).homes family item e in
    (o.home, subst (λ n. slice_get (layout_of u).homes n ≡ Some o.home) (omega (arith, o.is)) o.there, omega (arith, o.of))
