-- The facts of a whole text.
use Rattle.std.specs.Prelude.{ℕ, List, [], ◌∷◌, ◌++◌, codes, true, cond, nat_eq}
use Rattle.std.specs.Cmp.Lexicographic.{pointwise}
use Rattle.cw_tree.specs.declared.segment.Raw.{Raw}
use Rattle.cw_tree.specs.declared.segment.RawComm.{RawComm}
use Rattle.cw_tree.specs.declared.segment.RawComm.TheVariants as comm
use Rattle.cw_tree.specs.declared.segment.RawCitem.{RawCitem}
use Rattle.cw_tree.specs.declared.segment.RawCitem.TheVariants as citem
use Rattle.cw_tree.specs.declared.segment.RawAitem.{RawAitem}
use Rattle.cw_tree.specs.declared.segment.RawAitem.TheVariants as aitem
use Rattle.cw_tree.specs.declared.segment.RawSpec.{RawSpec}
use Rattle.cw_facts.specs.declared.fact.Fact.{Fact}
use Rattle.cw_facts.specs.declared.fact.Kind.{Kind}
use Rattle.cw_facts.specs.declared.fact.Kind.TheVariants as kind
use Rattle.cw_facts.specs.Facts.{declares, specifies, each_declares, data_facts, base_facts, table_facts, block_facts}

-- READBYTE, WRITEBYTE and BOUNDS of a LIBRARY list are not procedures like others
abbrev pub library_kind : (name : List ℕ) → Kind → Kind
library_kind n k =
    cond (pointwise nat_eq n (codes "READBYTE")) kind.ReadByte
    (cond (pointwise nat_eq n (codes "WRITEBYTE")) kind.WriteByte (cond (pointwise nat_eq n (codes "BOUNDS")) kind.Bounds k))

-- a procedure that is listed, of a kind
abbrev pub spec_facts : Kind → RawSpec → List Fact
spec_facts k s = declares s.name k ∷ specifies s.name.at.token s.answer s.params ∷ []

abbrev pub library_facts : List RawSpec → List Fact
library_facts [] = []
library_facts (s ∷ ss) = spec_facts (library_kind s.name.name (kind.Proc s.answer)) s ++ library_facts ss

abbrev pub citem_facts : RawCitem → List Fact
citem_facts (citem.Data d) = data_facts d
citem_facts (citem.Overlay at b d) = base_facts b ++ data_facts d
citem_facts (citem.Label at ns) = each_declares kind.Label ns
citem_facts (citem.Switch at ns) = each_declares kind.Switch ns
citem_facts (citem.Spec s) = spec_facts (kind.Proc s.answer) s

abbrev pub citems_facts : List RawCitem → List Fact
citems_facts [] = []
citems_facts (i ∷ is) = citem_facts i ++ citems_facts is

abbrev pub aitem_facts : RawAitem → List Fact
aitem_facts (aitem.Single t n at) = declares n (kind.Single t) ∷ []
aitem_facts (aitem.Array t n b at) = declares n (kind.Array t b) ∷ []
aitem_facts (aitem.Table t at) = table_facts (kind.Table t.size) t

abbrev pub aitems_facts : List RawAitem → List Fact
aitems_facts [] = []
aitems_facts (i ∷ is) = aitem_facts i ++ aitems_facts is

abbrev pub communicator_facts : RawComm → List Fact
communicator_facts (comm.Common at is) = citems_facts is
communicator_facts (comm.Library at ss) = library_facts ss
communicator_facts (comm.Absolute at is) = aitems_facts is

abbrev pub communicators_facts : List RawComm → List Fact
communicators_facts [] = []
communicators_facts (c ∷ cs) = communicator_facts c ++ communicators_facts cs

-- all communicators are one scope, and the outermost block stands in it
abbrev pub text_facts : Raw → List Fact
text_facts raw = communicators_facts raw.comms ++ block_facts raw.block true
