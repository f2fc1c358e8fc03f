-- Objects that were made apart.
use Rattle.std.proofs.Common.{◌≡◌, ℕ, List, ◌++◌, drop, ap}
use Rattle.cw_unit.specs.declared.unit.Unit.{Unit as SourceUnit}
use Rattle.cw_unit.specs.declared.layout.Limits.{Limits}
use Rattle.cw_view.specs.ObjectFormat.{header}
use Rattle.cw_link.specs.Contents.{Contents}
use Rattle.cw_link.specs.LinkedImage.{linked_image}
use Rattle.cw_object.specs.ObjectContents.{contents_in}
use Rattle.cw_build.specs.Compiled.{contents_of_units}
use Rattle.cw_build.specs.Linking.{image_of}

pub same-image : (us : List SourceUnit) (limits : Limits) (cs : List Contents) → cs ≡ contents_of_units us → linked_image cs limits ≡ image_of us limits
unfolding image_of
same-image us limits cs same = ap (λ (xs : List Contents). linked_image xs limits) same

-- what stands behind the header is all that an object tells
pub same-contents : (object migrated : List ℕ) → migrated ≡ header 2 ++ drop 6 object → contents_in migrated ≡ contents_in object
same-contents object migrated is = ap contents_in is
