-- What the communicators of a text store.
use Rattle.std.proofs.Common.{List, [], ◌∷◌, true, false, Bool, cond, Some, None, refl, arith}
use Rattle.cw_tree.specs.declared.segment.Raw.{Raw}
use Rattle.cw_tree.specs.declared.segment.RawComm.{RawComm}
use Rattle.cw_tree.specs.declared.segment.RawComm.TheVariants as comm
use Rattle.cw_tree.specs.declared.segment.RawCitem.{RawCitem}
use Rattle.cw_tree.specs.declared.segment.RawCitem.TheVariants as citem
use Rattle.cw_tree.specs.declared.segment.RawAitem.{RawAitem}
use Rattle.cw_tree.specs.declared.segment.RawAitem.TheVariants as aitem
use Rattle.cw_tree.specs.declared.segment.RawSpec.{RawSpec}
use Rattle.cw_facts.specs.declared.fact.Kind.{Kind}
use Rattle.cw_facts.specs.declared.fact.Kind.TheVariants as kind
use Rattle.cw_facts.specs.Facts.{declares, specifies, block_facts}
use Rattle.cw_facts.specs.Text.{library_kind, spec_facts, library_facts, citem_facts, citems_facts, aitem_facts, aitems_facts, communicator_facts, communicators_facts, text_facts}
use Rattle.cw_scope.specs.declared.resolve.Named.{Named}
use Rattle.cw_amount.specs.Amounts.{place_amount}
use Rattle.cw_items.specs.Things.{base_at, words_of_table, aitem_things, aitems_things, citem_things, citems_things, communicator_things, communicators_things, block_things, text_things}
use Rattle.cw_make_items.specs.Lookup.{Numbers}
use Rattle.cw_sound.specs.Items.Bodies.{Stored}
use Rattle.cw_sound.proofs.Items.Stores.{Stores, IsOtherKind, stores-both, stores-none, stores-item, stores-other, stores-others, stores-specification, stores-table, stores-data, stores-overlay, array-has-word, table-has-word}
use Rattle.cw_sound.proofs.Items.Trees.{block_stores}

module _ (H : Stored → Type 0) (numbers : Numbers) (named : Named) where
  spec-stores : (k : Kind) (s : RawSpec) → IsOtherKind H numbers k → Stores H numbers None (spec_facts k s) []
  spec-stores k s h =
      stores-both H numbers None (declares s.name k ∷ []) (specifies s.name.at.token s.answer s.params ∷ []) [] [] (stores-other H numbers None k s.name h) (stores-specification H numbers None s.name.at.token s.answer s.params)

  other-kind : (a b c : Bool) (k : Kind) → IsOtherKind H numbers k → IsOtherKind H numbers (cond a kind.ReadByte (cond b kind.WriteByte (cond c kind.Bounds k)))
  other-kind true b c k h = ((λ who token. tt), refl)
  other-kind false true c k h = ((λ who token. tt), refl)
  other-kind false false true k h = ((λ who token. tt), refl)
  other-kind false false false k h = h

  library-stores : (ss : List RawSpec) → Stores H numbers None (library_facts ss) []
  library-stores [] = stores-none H numbers None
  library-stores (s ∷ ss) =
      stores-both H numbers None (spec_facts (library_kind s.name.name (kind.Proc s.answer)) s) (library_facts ss) [] []
      (spec-stores (library_kind s.name.name (kind.Proc s.answer)) s (other-kind _ _ _ (kind.Proc s.answer) ((λ who token. tt), refl))) (library-stores ss)

  citem-stores : (i : RawCitem) → Stores H numbers None (citem_facts i) (citem_things named i)
  citem-stores (citem.Data d) = stores-data H numbers None None d
  citem-stores (citem.Overlay at b d) = stores-overlay H numbers None b (Some (base_at named b)) d
  citem-stores (citem.Label at ns) = stores-others H numbers None kind.Label ns ((λ who token. tt), refl)
  citem-stores (citem.Switch at ns) = stores-others H numbers None kind.Switch ns ((λ who token. tt), refl)
  citem-stores (citem.Spec s) = spec-stores (kind.Proc s.answer) s ((λ who token. tt), refl)

  citems-store : (is : List RawCitem) → Stores H numbers None (citems_facts is) (citems_things named is)
  citems-store [] = stores-none H numbers None
  citems-store (i ∷ is) = stores-both H numbers None (citem_facts i) (citems_facts is) (citem_things named i) (citems_things named is) (citem-stores i) (citems-store is)

  aitem-stores : (i : RawAitem) → Stores H numbers None (aitem_facts i) (aitem_things i)
  aitem-stores (aitem.Single t n a) = stores-item H numbers None None 1 (kind.Single t) n ((λ who token h. (h, tt)), refl) (λ token. refl) (omega arith)
  aitem-stores (aitem.Array t n b a) = stores-item H numbers None None _ (kind.Array t b) n ((λ who token h. (h, tt)), refl) (λ token. refl) (array-has-word b.first b.second)
  aitem-stores (aitem.Table t a) =
      stores-table H numbers None None (words_of_table t) (kind.Table t.size) t ((λ who token h. (h, tt)), refl) (λ token. refl) (table-has-word (place_amount t.size.first) (place_amount t.size.second))

  aitems-store : (is : List RawAitem) → Stores H numbers None (aitems_facts is) (aitems_things is)
  aitems-store [] = stores-none H numbers None
  aitems-store (i ∷ is) = stores-both H numbers None (aitem_facts i) (aitems_facts is) (aitem_things i) (aitems_things is) (aitem-stores i) (aitems-store is)

  communicator-stores : (c : RawComm) → Stores H numbers None (communicator_facts c) (communicator_things named c)
  communicator-stores (comm.Common at is) = citems-store is
  communicator-stores (comm.Library at ss) = library-stores ss
  communicator-stores (comm.Absolute at is) = aitems-store is

  communicators-store : (cs : List RawComm) → Stores H numbers None (communicators_facts cs) (communicators_things named cs)
  communicators-store [] = stores-none H numbers None
  communicators-store (c ∷ cs) = stores-both H numbers None (communicator_facts c) (communicators_facts cs) (communicator_things named c) (communicators_things named cs) (communicator-stores c) (communicators-store cs)

  -- a text stores its things
  pub text-stores : (raw : Raw) → Stores H numbers None (text_facts raw) (text_things named raw)
  text-stores raw =
      stores-both H numbers None (communicators_facts raw.comms) (block_facts raw.block true) (communicators_things named raw.comms) (block_things named raw.block None) (communicators-store raw.comms) (block_stores H numbers named raw.block true None)
