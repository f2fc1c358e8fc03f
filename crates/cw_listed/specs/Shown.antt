-- What a listing shows.
use Rattle.std.specs.Prelude.{ℕ, ◌≡◌, List, length, map}
use Rattle.cw_unit.specs.declared.unit.Unit.{Unit as SourceUnit}
use Rattle.cw_order.specs.declared.order.Orders.{Orders}
use Rattle.cw_tmpl.specs.Pieces.{Filling}
use Rattle.cw_tmpl.specs.ReferenceCode.{orders_code}
use Rattle.cw_listing.specs.Listing.{listing}
use Rattle.cw_listing.specs.CodeListing.{notes_of, words_of}
use Rattle.cw_listed.specs.ProgramLines.{program_code, program_lines}

-- The image is the library and the codes of segments with words filled in, and the text has a line for each
-- instruction of the library and for each piece of these.
pub record ShowsPieces (os : List Orders) (image : List ℕ) (us : List SourceUnit) (sources : List (List ℕ)) (text : List ℕ) : Type 0 where
  pub values : List Filling
  pub each : length values ≡ length os
  pub image_is : image ≡ program_code values os
  pub text_is : text ≡ listing image (program_lines values os) (notes_of us (map orders_code os) sources) (words_of us (map orders_code os))
