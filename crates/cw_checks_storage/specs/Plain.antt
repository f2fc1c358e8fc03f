-- Segments whose families no other segment shares.
use Rattle.std.specs.Prelude.{Bool, true, false}
use Rattle.std.specs.List.{list_all}
use Rattle.cw_unit.specs.declared.layout.Sort.{Sort}
use Rattle.cw_unit.specs.declared.layout.Sort.TheVariants as sort
use Rattle.cw_place.specs.declared.space.Space.{Space}

abbrev pub is_plain : Sort → Bool
is_plain (sort.Common d) = false
is_plain _ = true

abbrev pub has_plain : Space → Bool
has_plain s = list_all (λ family. is_plain family.sort) s.families
