-- What each layer of a specification is spelled as.
use Rattle.std.proofs.Common.{◌≡◌}
use Rattle.cw_unit.specs.declared.descriptor.Spec.{Spec, Spec-F, map-Spec, out-Spec, fold_out-Spec}
use Rattle.cw_unit.specs.declared.descriptor.SpecParam.{SpecParam, SpecParam-F, map-SpecParam, out-SpecParam, fold_out-SpecParam}
use Rattle.cw_keyed.specs.Spelling.{Spelled, spec_step, taken_step, spelled, spelled_taken}

abbrev pub spec_layer : Spec-F SpecParam Spec → Spelled
spec_layer x = spec_step (map-Spec SpecParam Spec Spelled Spelled spelled_taken spelled x)

abbrev pub taken_layer : SpecParam-F SpecParam Spec → Spelled
taken_layer x = taken_step (map-SpecParam SpecParam Spec Spelled Spelled spelled_taken spelled x)

pub spec-by_layer : (x : Spec) → spelled x ≡ spec_layer (out-Spec x)
spec-by_layer = fold_out-Spec Spelled Spelled taken_step spec_step

pub taken-by_layer : (x : SpecParam) → spelled_taken x ≡ taken_layer (out-SpecParam x)
taken-by_layer = fold_out-SpecParam Spelled Spelled taken_step spec_step

pub ruleset layers = (spec-by_layer, taken-by_layer)
