-- What is asked of how many parts the things have that communicators list: parameters are counted by a byte, elements by a word.
use Rattle.std.specs.Prelude.{◌≤◌, List, [], ◌∷◌, length}
use Rattle.cw_tree.specs.declared.items.RawData.{RawData}
use Rattle.cw_tree.specs.declared.items.RawData.TheVariants as items
use Rattle.cw_tree.specs.declared.segment.RawPs.{RawPs}
use Rattle.cw_tree.specs.declared.segment.RawPs.TheVariants as ps
use Rattle.cw_tree.specs.declared.segment.RawSpec.{RawSpec}
use Rattle.cw_tree.specs.declared.segment.RawCitem.{RawCitem}
use Rattle.cw_tree.specs.declared.segment.RawCitem.TheVariants as citem
use Rattle.cw_tree.specs.declared.segment.RawComm.{RawComm}
use Rattle.cw_tree.specs.declared.segment.RawComm.TheVariants as comm

abbrev pub Each : {A : Type 0} → (A → Type 0) → List A → Type 0
Each P [] = Unit {0}
Each P (x ∷ xs) = P x × Each P xs

abbrev pub HasFewPlain : RawPs → Type 0
HasFewPlain (ps.Plain p) = Unit {0}
HasFewPlain (ps.Proc answer at params) = length params ≤ 255

pub record SpecCounts (s : RawSpec) : Type 0 where
  pub params : length s.params ≤ 255
  pub plain : Each HasFewPlain s.params

abbrev pub DataCounts : RawData → Type 0
DataCounts (items.Singles t ns presets) = Unit {0}
DataCounts (items.Arrays t gs presets) = Unit {0}
DataCounts (items.Table t inside behind) = length t.elems ≤ 65535

abbrev pub CitemCounts : RawCitem → Type 0
CitemCounts (citem.Data d) = DataCounts d
CitemCounts (citem.Overlay at b d) = DataCounts d
CitemCounts (citem.Label at ns) = Unit {0}
CitemCounts (citem.Switch at ns) = Unit {0}
CitemCounts (citem.Spec s) = SpecCounts s

abbrev pub CommCounts : RawComm → Type 0
CommCounts (comm.Common at is) = Each CitemCounts is
CommCounts (comm.Library at ss) = Each SpecCounts ss
CommCounts (comm.Absolute at is) = Unit {0}

abbrev pub CountsFit : List RawComm → Type 0
CountsFit cs = Each CommCounts cs
