use Rattle.std.proofs.Common.{◌≡◌, false, subst, get_or}
use Rattle.std.proofs.lemmas.Option.{slice_get-get_or, slice_get_within, get_or_from_slice_get}
use Rattle.cw_unit.specs.Allocation.{meets}
use Rattle.cw_unit.proofs.FirstFit.{first_fit-after, first_fit-clear, first_fit-least}
use Rattle.cw_unit.proofs.laws.fits_first.Goals as goal

pub returns-clause-after : goal.returns-clause-after
returns-clause-after c rs extent a = first_fit-after rs extent a

pub returns-clause-clear : goal.returns-clause-clear
returns-clause-clear c rs extent a k d h = first_fit-clear rs extent a k (get_or rs k d) (slice_get-get_or rs k d h)

pub returns-clause-least : goal.returns-clause-least
returns-clause-least c rs extent a b h clear =
    first_fit-least rs extent a b h
    (λ k r e. subst (λ x. meets b extent x ≡ false) (get_or_from_slice_get rs k r r e) (clear k r (slice_get_within rs k r e)))
