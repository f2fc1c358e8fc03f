-- The image of objects.
use Rattle.std.specs.Prelude.{◌≤◌, ℕ, List, length, map, All}
use Rattle.cw_unit.specs.declared.layout.Limits.{Limits}
use Rattle.cw_view.specs.ObjectFormat.{IsObject}
use Rattle.cw_place.specs.Placement.{IsLimits}
use Rattle.cw_image.specs.ImageFormat.{IsImage}
use Rattle.cw_link.specs.LinkedImage.{linked_size, linked_image}
use Rattle.cw_object.specs.ObjectContents.{contents_in}

-- limits under which a program may run
pub record AreLimits (limits : Limits) : Type 0 where
  pub within : IsLimits limits
  pub some_area : 1 ≤ limits.area
  pub some_depth : 1 ≤ limits.depth
  pub depth : limits.depth ≤ 4096

-- The image of 1 to 200 objects whose code is not too long is in the format.
abbrev pub LinksToImages : Type 0
LinksToImages =
    (objects : List (List ℕ)) (limits : Limits) → All IsObject objects → 1 ≤ length objects → length objects ≤ 200
    → AreLimits limits → linked_size (map contents_in objects) ≤ 65536
    → IsImage (linked_image (map contents_in objects) limits)
