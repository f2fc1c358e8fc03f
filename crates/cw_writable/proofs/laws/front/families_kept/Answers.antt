-- The families are in the format.
use Rattle.cw_writable.proofs.Front.Families.{families_kept}
use Rattle.cw_writable.proofs.laws.front.families_kept.Goals as goal

pub returns : goal.returns
returns c u fit homes = families_kept u fit homes
