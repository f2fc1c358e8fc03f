-- What the communicators declare.
use Rattle.std.proofs.Common.{◌≡◌, ◌⊎◌, inl, inr, ℕ, List, [], ◌∷◌, ◌++◌, Bool, true, false, cond, IsTrue, Option, Some, None, refl, sym, ap, subst, ◌∙◌, codes, nat_eq}
use Rattle.std.specs.Cmp.Lexicographic.{pointwise}
use Rattle.cw_tree.specs.declared.leaf.RawName.{RawName}
use Rattle.cw_tree.specs.declared.leaf.RawType.{RawType}
use Rattle.cw_tree.specs.declared.items.RawBase.{RawBase}
use Rattle.cw_tree.specs.declared.items.RawData.{RawData}
use Rattle.cw_tree.specs.declared.segment.RawComm.{RawComm}
use Rattle.cw_tree.specs.declared.segment.RawComm.TheVariants as comm
use Rattle.cw_tree.specs.declared.segment.RawCitem.{RawCitem}
use Rattle.cw_tree.specs.declared.segment.RawCitem.TheVariants as citem
use Rattle.cw_tree.specs.declared.segment.RawAitem.{RawAitem}
use Rattle.cw_tree.specs.declared.segment.RawAitem.TheVariants as aitem
use Rattle.cw_tree.specs.declared.segment.RawSpec.{RawSpec}
use Rattle.cw_facts.specs.declared.fact.Fact.{Fact}
use Rattle.cw_facts.specs.declared.fact.Form.TheVariants as form
use Rattle.cw_facts.specs.declared.fact.Kind.{Kind as NameKind}
use Rattle.cw_facts.specs.declared.fact.Kind.TheVariants as kind
use Rattle.cw_facts.specs.Facts.{declares, specifies, each_declares, elements_facts, data_facts, base_facts, base_name}
use Rattle.cw_facts.specs.Text.{library_kind, spec_facts, library_facts, citem_facts, citems_facts, aitem_facts, aitems_facts, communicator_facts, communicators_facts}
use Rattle.cw_make_items.specs.Lookup.{Numbers}
use Rattle.cw_sound.specs.Uses.Mentions.{In, Mention, Here, here, declares as declared, uses, stores, facts_mentions}
use Rattle.cw_sound.proofs.Names.Sorts.{of_kind}
use Rattle.cw_sound.proofs.Names.MentionsOf.{Says, says_nothing, says_both, says_declared, says_each, says_elements, says_use, specified_first}
use Rattle.std.specs.Prelude.{not}
use Rattle.cw_sound.proofs.Names.InProcedure.{is_parameter}
use Rattle.cw_sound.proofs.Names.PartKinds.{IsData, is_data, data_say}

abbrev pub is_listed : NameKind → Bool
is_listed (kind.Element t e) = true
is_listed k = not (is_parameter k)

abbrev pub IsListed : Mention → Type 0
IsListed (declared d) = IsTrue (is_listed d.kind)
IsListed (uses x) = Unit {0}
IsListed (stores token n) = Unit {0}

data_listed : (k : NameKind) → IsTrue (is_data k) → IsTrue (is_listed k)
data_listed (kind.Value t) h = absurd (cc)
data_listed (kind.Location t) h = absurd (cc)
data_listed (kind.ArrayParam t) h = absurd (cc)
data_listed (kind.TableParam s) h = absurd (cc)
data_listed kind.LabelParam h = absurd (cc)
data_listed kind.SwitchParam h = absurd (cc)
data_listed (kind.ProcParam t) h = absurd (cc)
data_listed (kind.Answer t) h = absurd (cc)
data_listed _ h = refl

data_so : (m : Mention) → IsData m → IsListed m
data_so (declared d) h = data_listed d.kind h
data_so (uses x) h = tt
data_so (stores token n) h = tt

if_listed : (b : Bool) (k j : NameKind) → IsTrue (is_listed k) → IsTrue (is_listed j) → IsTrue (is_listed (cond b k j))
if_listed true k j h g = h
if_listed false k j h g = g

library_listed : (n : List ℕ) (k : NameKind) → IsTrue (is_listed k) → IsTrue (is_listed (library_kind n k))
library_listed n k h =
    if_listed (pointwise nat_eq n (codes "READBYTE")) kind.ReadByte (cond (pointwise nat_eq n (codes "WRITEBYTE")) kind.WriteByte (cond (pointwise nat_eq n (codes "BOUNDS")) kind.Bounds k)) refl
    (if_listed (pointwise nat_eq n (codes "WRITEBYTE")) kind.WriteByte (cond (pointwise nat_eq n (codes "BOUNDS")) kind.Bounds k) refl
    (if_listed (pointwise nat_eq n (codes "BOUNDS")) kind.Bounds k refl h))

module _ (numbers : Numbers) where
  data_facts_say : (d : RawData) → Says numbers IsListed (data_facts d)
  data_facts_say d q m i = let s = data_say numbers d q m i in (s.0, data_so m.mention s.1)

  spec_says : (k : NameKind) (s : RawSpec) → IsTrue (is_listed k) → Says numbers IsListed (spec_facts k s)
  spec_says k s h =
      says_declared numbers IsListed s.name k (specifies s.name.at.token s.answer s.params ∷ []) h
      (λ q m i. absurd (subst (In m) (specified_first numbers s.name.at.token s.answer s.params [] q) i))

  citem_says : (i : RawCitem) → Says numbers IsListed (citem_facts i)
  citem_says (citem.Data d) = data_facts_say d
  citem_says (citem.Overlay at b d) =
      says_both numbers IsListed (base_facts b) (data_facts d) (says_use numbers IsListed (record { name = base_name b; form = form.Base }) [] tt (says_nothing numbers IsListed)) (data_facts_say d)
  citem_says (citem.Label at ns) = says_each numbers IsListed kind.Label ns (λ n. refl)
  citem_says (citem.Switch at ns) = says_each numbers IsListed kind.Switch ns (λ n. refl)
  citem_says (citem.Spec s) = spec_says (kind.Proc s.answer) s refl

  citems_say : (is : List RawCitem) → Says numbers IsListed (citems_facts is)
  citems_say [] = says_nothing numbers IsListed
  citems_say (i ∷ is) = says_both numbers IsListed (citem_facts i) (citems_facts is) (citem_says i) (citems_say is)

  library_says : (ss : List RawSpec) → Says numbers IsListed (library_facts ss)
  library_says [] = says_nothing numbers IsListed
  library_says (s ∷ ss) =
      says_both numbers IsListed (spec_facts (library_kind s.name.name (kind.Proc s.answer)) s) (library_facts ss)
      (spec_says (library_kind s.name.name (kind.Proc s.answer)) s (library_listed s.name.name (kind.Proc s.answer) refl)) (library_says ss)

  aitem_says : (i : RawAitem) → Says numbers IsListed (aitem_facts i)
  aitem_says (aitem.Single t n at) = says_declared numbers IsListed n (kind.Single t) [] refl (says_nothing numbers IsListed)
  aitem_says (aitem.Array t n b at) = says_declared numbers IsListed n (kind.Array t b) [] refl (says_nothing numbers IsListed)
  aitem_says (aitem.Table t at) =
      says_declared numbers IsListed t.name (kind.Table t.size) (elements_facts t.name t.elems) refl (says_elements numbers IsListed t.name t.elems (λ n e. refl))

  aitems_say : (is : List RawAitem) → Says numbers IsListed (aitems_facts is)
  aitems_say [] = says_nothing numbers IsListed
  aitems_say (i ∷ is) = says_both numbers IsListed (aitem_facts i) (aitems_facts is) (aitem_says i) (aitems_say is)

  communicator_says : (c : RawComm) → Says numbers IsListed (communicator_facts c)
  communicator_says (comm.Common at is) = citems_say is
  communicator_says (comm.Library at ss) = library_says ss
  communicator_says (comm.Absolute at is) = aitems_say is

  pub communicators_say : (cs : List RawComm) → Says numbers IsListed (communicators_facts cs)
  communicators_say [] = says_nothing numbers IsListed
  communicators_say (c ∷ cs) = says_both numbers IsListed (communicator_facts c) (communicators_facts cs) (communicator_says c) (communicators_say cs)
