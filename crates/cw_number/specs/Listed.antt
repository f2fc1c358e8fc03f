-- The names that COMMON and LIBRARY list, in order of the text. They are the descriptors of a segment, whose numbers are their places here.
-- READBYTE, WRITEBYTE and BOUNDS of a LIBRARY list are none of them.
-- Official Definition of CORAL 66, "Communicators"; BS 5905, "Communicators". What LIBRARY lists besides procedures of other segments is
-- this project's profile.
use Rattle.std.specs.Prelude.{ℕ, nat_eq, List, [], ◌∷◌, ◌++◌, codes, Bool, ◌||◌, if◌then◌else◌}
use Rattle.std.specs.Cmp.Lexicographic.{pointwise}
use Rattle.cw_table.specs.declared.table.Row.{Row}
use Rattle.cw_tree.specs.declared.leaf.RawName.{RawName}
use Rattle.cw_tree.specs.declared.items.RawGroup.{RawGroup}
use Rattle.cw_tree.specs.declared.items.RawData.{RawData}
use Rattle.cw_tree.specs.declared.items.RawData.TheVariants as items
use Rattle.cw_tree.specs.declared.segment.Raw.{Raw}
use Rattle.cw_tree.specs.declared.segment.RawComm.{RawComm}
use Rattle.cw_tree.specs.declared.segment.RawComm.TheVariants as comm
use Rattle.cw_tree.specs.declared.segment.RawCitem.{RawCitem}
use Rattle.cw_tree.specs.declared.segment.RawCitem.TheVariants as citem
use Rattle.cw_tree.specs.declared.segment.RawSpec.{RawSpec}
use Rattle.cw_number.specs.declared.listed.Listing.{Listing}
use Rattle.cw_number.specs.declared.listed.Listing.TheVariants as listing

abbrev pub row : Listing → RawName → Row Listing
row l n = record { token = n.at.token; item = l }

abbrev pub each_listed : Listing → List RawName → List (Row Listing)
each_listed l [] = []
each_listed l (n ∷ ns) = row l n ∷ each_listed l ns

abbrev pub groups_listed : List RawGroup → List (Row Listing)
groups_listed [] = []
groups_listed (g ∷ gs) = each_listed listing.Data g.names ++ groups_listed gs

abbrev pub data_listed : RawData → List (Row Listing)
data_listed (items.Singles t ns presets) = each_listed listing.Data ns
data_listed (items.Arrays t gs presets) = groups_listed gs
data_listed (items.Table t inside behind) = row listing.Data t.name ∷ []

abbrev pub citem_listed : RawCitem → List (Row Listing)
citem_listed (citem.Data d) = data_listed d
citem_listed (citem.Overlay at b d) = data_listed d
citem_listed (citem.Label at ns) = each_listed listing.Label ns
citem_listed (citem.Switch at ns) = each_listed listing.Switch ns
citem_listed (citem.Spec s) = row listing.Proc s.name ∷ []

abbrev pub citems_listed : List RawCitem → List (Row Listing)
citems_listed [] = []
citems_listed (i ∷ is) = citem_listed i ++ citems_listed is

abbrev pub is_built_in : (name : List ℕ) → Bool
is_built_in n = pointwise nat_eq n (codes "READBYTE") || (pointwise nat_eq n (codes "WRITEBYTE") || pointwise nat_eq n (codes "BOUNDS"))

abbrev pub spec_listed : RawSpec → List (Row Listing)
spec_listed s = if is_built_in s.name.name then [] else row listing.Proc s.name ∷ []

abbrev pub specs_listed : List RawSpec → List (Row Listing)
specs_listed [] = []
specs_listed (s ∷ ss) = spec_listed s ++ specs_listed ss

abbrev pub communicator_listed : RawComm → List (Row Listing)
communicator_listed (comm.Common at is) = citems_listed is
communicator_listed (comm.Library at ss) = specs_listed ss
communicator_listed (comm.Absolute at is) = []

abbrev pub communicators_listed : List RawComm → List (Row Listing)
communicators_listed [] = []
communicators_listed (c ∷ cs) = communicator_listed c ++ communicators_listed cs

abbrev pub listed_of : Raw → List (Row Listing)
listed_of raw = communicators_listed raw.comms
