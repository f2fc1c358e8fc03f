use Rattle.cw_build.proofs.Objects.{map-same}
use Rattle.cw_build.proofs.Sizes.{size, code}
use Rattle.cw_build.proofs.laws.linked_units.Goals as goal

pub returns : goal.returns
returns c = record {
  size = λ us limits is. size us c.sizes.ensures.library is;
  code = λ us limits. code us limits c.other_bytes.ensures.size;
  map = map-same;
}
