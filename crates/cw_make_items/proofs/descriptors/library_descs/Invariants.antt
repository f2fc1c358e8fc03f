use Rattle.std.proofs.Common.{◌≡◌, ◌++◌, drop}
use Rattle.cw_make_items.specs.Descriptors.{library_descs}
use Rattle.cw_make_items.proofs.descriptors.library_descs.Given as goal

abbrev pub invariant-loop-spec : goal.invariant-loop-spec
invariant-loop-spec l = l.out ++ library_descs (drop l.spec-index l.specs) ≡ l.initial.out ++ library_descs l.specs
