-- The items of a unit: what the text stores, in order of the text, each with what is declared of it, its home, and the words that it holds
-- at the start.
-- Official Definition of CORAL 66, "Data", "Overlay declarations"; BS 5905, "Overlaying of data".
use Rattle.std.specs.Prelude.{ℕ, min, List, [], ◌∷◌, ◌++◌, Bool, true, false, Option, Some, None, is_some}
use Rattle.cw_table.specs.declared.table.Row.{Row}
use Rattle.cw_table.specs.Rows.{item_at, place_at}
use Rattle.cw_tree.specs.declared.segment.RawComm.{RawComm}
use Rattle.cw_tree.specs.declared.segment.RawComm.TheVariants as comm
use Rattle.cw_tree.specs.declared.segment.RawAitem.{RawAitem}
use Rattle.cw_tree.specs.declared.segment.RawAitem.TheVariants as aitem
use Rattle.cw_tree.specs.declared.leaf.RawName.{RawName}
use Rattle.cw_tree.specs.declared.leaf.RawInt.{RawInt}
use Rattle.cw_tree.specs.declared.leaf.Position.{Position}
use Rattle.cw_amount.specs.Amounts.{place_amount}
use Rattle.cw_facts.specs.declared.fact.Declaration.{Declaration}
use Rattle.cw_facts.specs.declared.fact.Kind.{Kind}
use Rattle.cw_facts.specs.declared.fact.Kind.TheVariants as declared
use Rattle.cw_number.specs.things.declared.thing.Base.{Base}
use Rattle.cw_number.specs.things.declared.thing.Owner.{Owner}
use Rattle.cw_number.specs.things.declared.thing.Sort.{Sort}
use Rattle.cw_number.specs.things.declared.thing.Sort.TheVariants as sort
use Rattle.cw_number.specs.things.declared.thing.Thing.{Thing}
use Rattle.cw_number.specs.things.Families.{frame_of}
use Rattle.cw_number.specs.declared.listed.Listing.{Listing}
use Rattle.cw_number.specs.declared.numbered.Numbered.{Numbered}
use Rattle.cw_unit.specs.declared.unit.Item.{Item}
use Rattle.cw_unit.specs.declared.unit.ItemKind.{ItemKind}
use Rattle.cw_unit.specs.declared.unit.ItemKind.TheVariants as kind
use Rattle.cw_unit.specs.declared.unit.Home.{Home}
use Rattle.cw_unit.specs.declared.unit.Home.TheVariants as home
use Rattle.cw_unit.specs.declared.descriptor.Scale.{Scale}
use Rattle.cw_make_items.specs.Lookup.{item_here, proc_here, line_of}
use Rattle.cw_make_items.specs.Types.{within, scale_of}

-- ---- the addresses that ABSOLUTE lists give

abbrev pub address_row : RawName → RawInt → Row ℕ
address_row n a = record { token = n.at.token; item = within 65535 (place_amount a) }

abbrev pub aitem_address : RawAitem → Row ℕ
aitem_address (aitem.Single t n a) = address_row n a
aitem_address (aitem.Array t n b a) = address_row n a
aitem_address (aitem.Table t a) = address_row t.name a

abbrev pub aitems_addresses : List RawAitem → List (Row ℕ)
aitems_addresses [] = []
aitems_addresses (i ∷ is) = aitem_address i ∷ aitems_addresses is

abbrev pub communicator_addresses : RawComm → List (Row ℕ)
communicator_addresses (comm.Common at is) = []
communicator_addresses (comm.Library at ss) = []
communicator_addresses (comm.Absolute at is) = aitems_addresses is

abbrev pub addresses_of : List RawComm → List (Row ℕ)
addresses_of [] = []
addresses_of (c ∷ cs) = communicator_addresses c ++ addresses_of cs

-- ---- what is declared of an item

abbrev pub kind_in : Option Declaration → Option Kind
kind_in None = None
kind_in (Some d) = Some d.kind

-- each parameter is a word
abbrev pub declared_kind : Option Kind → ItemKind
declared_kind (Some (declared.Array t bounds)) = kind.Array
declared_kind (Some (declared.Table s)) = kind.Table
declared_kind _ = kind.Single

abbrev pub item_kind : Sort → Option Kind → ItemKind
item_kind sort.Named k = declared_kind k
item_kind sort.Text k = kind.Text
item_kind sort.Loop k = kind.Loop

abbrev pub whole_scale : Scale
whole_scale = record { t = 16; f = 0 }

abbrev pub declared_scale : Option Kind → Scale
declared_scale (Some (declared.Single t)) = scale_of t
declared_scale (Some (declared.Array t bounds)) = scale_of t
declared_scale (Some (declared.Value t)) = scale_of t
declared_scale (Some (declared.Location t)) = scale_of t
declared_scale (Some (declared.ArrayParam t)) = scale_of t
declared_scale _ = whole_scale

abbrev pub item_scale : Sort → Option Kind → Scale
item_scale sort.Named k = declared_scale k
item_scale sort.Text k = whole_scale
item_scale sort.Loop k = whole_scale

abbrev pub declared_name : Option Declaration → Option (List ℕ)
declared_name None = None
declared_name (Some d) = Some d.name.name

-- a string and a FOR have a line in place of a name
abbrev pub item_name : Sort → Option Declaration → Option (List ℕ)
item_name sort.Named d = declared_name d
item_name sort.Text d = None
item_name sort.Loop d = None

abbrev pub item_line : Sort → Position → ℕ
item_line sort.Named at = 0
item_line sort.Text at = line_of at
item_line sort.Loop at = line_of at

-- ---- where it stands: what a list says of it, else on its base, else in the frame of its procedure, else by itself

abbrev pub home_in : (in_frame : Bool) → Home
home_in false = home.Own
home_in true = home.Frame

module _ (numbers : List (Row Numbered)) where
  abbrev pub proc_of_owner : Option Owner → Option ℕ
  proc_of_owner None = None
  proc_of_owner (Some o) = Some (proc_here numbers o.token)

  abbrev pub home_on : Option Base → (in_frame : Bool) → Home
  home_on None f = home_in f
  home_on (Some b) f = home.Over (item_here numbers b.token) (min b.word 65535)

  abbrev pub home_at : (address : Option ℕ) → Thing → Home
  home_at None t = home_on t.base (is_some (frame_of t.sort t.owner))
  home_at (Some a) t = home.Absolute a

  abbrev pub home_listed : (descriptor address : Option ℕ) → Thing → Home
  home_listed None a t = home_at a t
  home_listed (Some d) a t = home.Common (min d 65535)

-- the words that are held at the start, by offsets
abbrev pub Held : Type 0
Held = List (ℕ × ℕ)

abbrev pub held_or_none : Option Held → Held
held_or_none None = []
held_or_none (Some h) = h

module _ (declarations : List (Row Declaration)) (numbers : List (Row Numbered)) (listed : List (Row Listing)) (addresses : List (Row ℕ)) (held : List (Row Held)) where
  abbrev pub item_of : Thing → Item
  item_of t =
      record {
        name = item_name t.sort (item_at declarations t.at.token);
        owner = proc_of_owner numbers t.owner;
        line = item_line t.sort t.at;
        kind = item_kind t.sort (kind_in (item_at declarations t.at.token));
        scale = item_scale t.sort (kind_in (item_at declarations t.at.token));
        home = home_listed numbers (place_at listed t.at.token) (item_at addresses t.at.token) t;
        words = t.words;
        presets = held_or_none (item_at held t.at.token);
      }

  abbrev pub items_of : List Thing → List Item
  items_of [] = []
  items_of (t ∷ ts) = item_of t ∷ items_of ts
