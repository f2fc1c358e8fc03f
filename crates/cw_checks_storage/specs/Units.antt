-- Short words for units of which only the storage matters.
use Rattle.std.specs.Prelude.{ℕ, ◌+◌, List, [], ◌∷◌, ◌++◌, length, codes, false, true, Option, Some, None}
use Rattle.cw_unit.specs.declared.unit.Unit.{Unit as SourceUnit}
use Rattle.cw_unit.specs.declared.unit.Item.{Item}
use Rattle.cw_unit.specs.declared.unit.ItemKind.{ItemKind}
use Rattle.cw_unit.specs.declared.unit.ItemKind.TheVariants as kind
use Rattle.cw_unit.specs.declared.unit.Home.{Home}
use Rattle.cw_unit.specs.declared.unit.Home.TheVariants as home
use Rattle.cw_unit.specs.declared.unit.Proc.{Proc}
use Rattle.cw_unit.specs.declared.unit.Stmt.{roll-Stmt}
use Rattle.cw_unit.specs.declared.unit.Stmt.TheOpen as statement
use Rattle.cw_unit.specs.declared.descriptor.Scale.{Scale}
use Rattle.cw_unit.specs.declared.descriptor.Desc.{Desc}
use Rattle.cw_unit.specs.declared.descriptor.DescBody.TheVariants as body
use Rattle.cw_unit.specs.declared.layout.Limits.{Limits}
use Rattle.cw_unit.specs.Allocation.{storage_map}
use Rattle.cw_unit.specs.InitialMemory.{filled_words}
use Rattle.cw_unit.specs.Program.{program_of}
use Rattle.cw_list.specs.Rows.{program_listing}

-- ---- items

abbrev pub integer : Scale
integer = record { t = 16; f = 0 }

abbrev pub item : Option (List ℕ) → (line : ℕ) → ItemKind → (words : ℕ) → List (ℕ × ℕ) → Item
item name line k n presets = record { name = name; owner = None; line = line; kind = k; scale = integer; home = home.Own; words = n; presets = presets }

abbrev pub named : ItemKind → (name : List ℕ) → (words : ℕ) → Item
named k name n = item (Some name) 0 k n []

abbrev pub single : (name : List ℕ) → Item
single name = named kind.Single name 1

abbrev pub array : (name : List ℕ) → (words : ℕ) → Item
array name n = named kind.Array name n

abbrev pub table : (name : List ℕ) → (words : ℕ) → Item
table name n = named kind.Table name n

abbrev pub characters : (place : ℕ) → List ℕ → List (ℕ × ℕ)
characters n [] = []
characters n (c ∷ cs) = (n, c) ∷ characters (n + 1) cs

-- its length and its characters
abbrev pub text : (line : ℕ) → List ℕ → Item
text line cs = item None line kind.Text (1 + length cs) (characters 0 (length cs ∷ cs))

abbrev pub loop : (line : ℕ) → Item
loop line = item None line kind.Loop 4 []

abbrev pub at : Home → Item → Item
at h i = record i { home = h }

abbrev pub over : (base offset : ℕ) → Item → Item
over base offset i = at (home.Over base offset) i

abbrev pub absolute : (address : ℕ) → Item → Item
absolute address i = at (home.Absolute address) i

abbrev pub common : (descriptor : ℕ) → Item → Item
common descriptor i = at (home.Common descriptor) i

abbrev pub of : (procedure : ℕ) → Item → Item
of q i = record i { owner = Some q }

-- a local of a procedure, in its frame
abbrev pub local : (procedure : ℕ) → Item → Item
local q i = at home.Frame (of q i)

abbrev pub preset : List (ℕ × ℕ) → Item → Item
preset ps i = record i { presets = ps }

-- ---- segments

abbrev pub word : (name : List ℕ) → Desc
word name = record { name = name; library = false; over = None; body = body.Word integer }

abbrev pub overlay : (name : List ℕ) → (base offset : ℕ) → Desc
overlay name base offset = record { name = name; library = false; over = Some (base, offset); body = body.Word integer }

abbrev pub procedure : (name : List ℕ) → Proc
procedure name = record { name = name; answer = None; recursive = true; params = []; specials = 0; body = roll-Stmt (statement.Seq []) }

abbrev pub segment : (name : List ℕ) → List Desc → List Item → List Proc → SourceUnit
segment name descs items procs =
    record {
      name = name;
      tokens = 0;
      bounds = false;
      descs = descs;
      items = items;
      procs = procs;
      labels = [];
      switches = [];
      defined = [];
      body = roll-Stmt (statement.Seq []);
    }

-- one segment of items alone
abbrev pub alone : List Item → List SourceUnit
alone items = segment (codes "A") [] items [] ∷ []

-- ---- examples

-- units, the text of their map, and the words that are filled
pub record Example : Type 0 where
  pub units : List SourceUnit
  pub text : List ℕ
  pub words : List (ℕ × ℕ)

-- the text of a map, with the frames behind what is told of it
abbrev pub filled : List SourceUnit → (told : List ℕ) → (words : List (ℕ × ℕ)) → Example
filled units told words = record { units = units; text = told ++ codes "12288 04096 FRAMES\n"; words = words }

-- one in which no words are filled
abbrev pub placed : List SourceUnit → (told : List ℕ) → Example
placed units told = filled units told []

abbrev pub usual : Limits
usual = record { area = 16384; frames = 4096; depth = 256 }

abbrev pub result_of : Example → List ℕ × List (ℕ × ℕ)
result_of x = (program_listing (program_of x.units usual), filled_words x.units (storage_map x.units))

abbrev pub wanted_of : Example → List ℕ × List (ℕ × ℕ)
wanted_of x = (x.text, x.words)
