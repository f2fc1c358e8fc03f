-- The listing of a linked program.
use Rattle.std.specs.Prelude.{ℕ, List, ◌++◌, length}
use Rattle.cw_unit.specs.declared.unit.Unit.{Unit as SourceUnit}
use Rattle.cw_tmpl.specs.Library.{library_bytes}
use Rattle.cw_tmpl.specs.declared.assembling.Code.{Code}
use Rattle.cw_list.specs.Order.{in_order}
use Rattle.cw_nasm.specs.Names.{Text}
use Rattle.cw_listing.specs.declared.remark.Remark.{Remark}
use Rattle.cw_listing.specs.Listing.{IsListing}
use Rattle.cw_listing.specs.Remarks.{library_remarks, remarks_from, words_from, data_from}

-- all remarks, in order of their places
abbrev pub notes_of : List SourceUnit → List Code → (sources : List Text) → List Remark
notes_of us cs sources = in_order (λ r. r.place) (library_remarks ++ remarks_from 0 (length library_bytes) sources us cs)

-- the relocated words
abbrev pub words_of : List SourceUnit → List Code → List Remark
words_of us cs = words_from 0 (length library_bytes) us cs

-- the words of data behind calls of the library
abbrev pub data_of : List Code → List ℕ
data_of cs = data_from (length library_bytes) cs

-- The text is the listing of linked code, of units with the relocatable code of each and their source texts.
abbrev pub IsCodeListing : (code : List ℕ) → List SourceUnit → List Code → (sources : List Text) → (text : Text) → Type 0
IsCodeListing code us cs sources text = IsListing code (notes_of us cs sources) (words_of us cs) (data_of cs) text
