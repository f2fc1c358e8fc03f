-- What the communicators list stands at tokens of what they declare.
use Rattle.std.proofs.Common.{◌≡◌, ℕ, List, [], ◌∷◌, ◌++◌, map, Bool, true, false, cond, Option, Some, None, refl, sym, ap, subst, ◌∙◌}
use Rattle.cw_table.specs.declared.table.Row.{Row}
use Rattle.cw_tree.specs.declared.leaf.RawName.{RawName}
use Rattle.cw_tree.specs.declared.items.RawGroup.{RawGroup}
use Rattle.cw_tree.specs.declared.items.RawElem.{RawElem}
use Rattle.cw_tree.specs.declared.items.RawData.{RawData}
use Rattle.cw_tree.specs.declared.items.RawData.TheVariants as items
use Rattle.cw_tree.specs.declared.items.RawBase.{RawBase}
use Rattle.cw_tree.specs.declared.leaf.RawType.{RawType}
use Rattle.cw_tree.specs.declared.segment.RawComm.{RawComm}
use Rattle.cw_tree.specs.declared.segment.RawComm.TheVariants as comm
use Rattle.cw_tree.specs.declared.segment.RawCitem.{RawCitem}
use Rattle.cw_tree.specs.declared.segment.RawCitem.TheVariants as citem
use Rattle.cw_tree.specs.declared.segment.RawSpec.{RawSpec}
use Rattle.cw_facts.specs.declared.fact.Fact.{Fact}
use Rattle.cw_facts.specs.declared.fact.Fact.TheFolds.{fold-roll-Fact}
use Rattle.cw_facts.specs.declared.fact.Fact.TheVariants as fact
use Rattle.cw_facts.specs.declared.fact.Fact.TheOpen as layer
use Rattle.cw_facts.specs.declared.fact.Declaration.{Declaration}
use Rattle.cw_facts.specs.declared.fact.Kind.{Kind}
use Rattle.cw_facts.specs.declared.fact.Kind.TheVariants as kind
use Rattle.cw_facts.specs.Facts.{declares, specifies, each_declares, groups_facts, elements_facts, table_facts, data_facts, base_facts}
use Rattle.cw_facts.specs.Text.{library_kind, spec_facts, library_facts, citem_facts, citems_facts, communicator_facts, communicators_facts}
use Rattle.cw_scope.specs.Resolved.{declarations_step, fact_declarations, text_declarations}
use Rattle.cw_number.specs.declared.listed.Listing.{Listing}
use Rattle.cw_number.specs.declared.listed.Listing.TheVariants as listing
use Rattle.cw_number.specs.declared.numbered.Numbered.{Numbered}
use Rattle.cw_number.specs.Listed.{each_listed, groups_listed, data_listed, citem_listed, citems_listed, is_built_in, spec_listed, specs_listed, communicator_listed, communicators_listed}
use Rattle.cw_number.specs.Numbers.{row_if, listed_number, listed_rows, next_short}
use Rattle.cw_sound.specs.Names.Placed.{tokens, Each}

module _ (P : ℕ → Type 0) where
  abbrev pub Rows : {T : Type 0} → List (Row T) → Type 0
  Rows rs = Each P (tokens rs)

  pub rows_both : {T : Type 0} → (xs ys : List (Row T)) → Rows xs → Rows ys → Rows (xs ++ ys)
  rows_both [] ys h k = k
  rows_both (x ∷ xs) ys h k = (h.0, rows_both xs ys h.1 k)

  pub rows_first : {T : Type 0} → (xs ys : List (Row T)) → Rows (xs ++ ys) → Rows xs
  rows_first [] ys h = tt
  rows_first (x ∷ xs) ys h = (h.0, rows_first xs ys h.1)

  pub rows_second : {T : Type 0} → (xs ys : List (Row T)) → Rows (xs ++ ys) → Rows ys
  rows_second [] ys h = h
  rows_second (x ∷ xs) ys h = rows_second xs ys h.1

  abbrev Said : List Fact → Type 0
  Said fs = Rows (text_declarations fs)

  pub said_first : (xs ys : List Fact) → Said (xs ++ ys) → Said xs
  said_first [] ys h = tt
  said_first (x ∷ xs) ys h = rows_both (fact_declarations x) (text_declarations xs) (rows_first (fact_declarations x) (text_declarations (xs ++ ys)) h) (said_first xs ys (rows_second (fact_declarations x) (text_declarations (xs ++ ys)) h))

  pub said_second : (xs ys : List Fact) → Said (xs ++ ys) → Said ys
  said_second [] ys h = h
  said_second (x ∷ xs) ys h = said_second xs ys (rows_second (fact_declarations x) (text_declarations (xs ++ ys)) h)

  pub declared_row : (n : RawName) (k : Kind) → fact_declarations (declares n k) ≡ record { token = n.at.token; item = record { name = n; kind = k } } ∷ []
  declared_row n k =
      ap fact_declarations (sym (fact.rolls-Declares (record { name = n; kind = k })))
      ∙ fold-roll-Fact (List (Row Declaration)) declarations_step (layer.Declares (record { name = n; kind = k }))

  pub said_name : (n : RawName) (k : Kind) (fs : List Fact) → Said (declares n k ∷ fs) → P n.at.token
  said_name n k fs h = (subst (λ rs. Rows (rs ++ text_declarations fs)) (declared_row n k) h).0

  said_behind : (n : RawName) (k : Kind) (fs : List Fact) → Said (declares n k ∷ fs) → Said fs
  said_behind n k fs h = rows_second (fact_declarations (declares n k)) (text_declarations fs) h

  -- ---- what is listed

  names : (l : Listing) (k : Kind) (ns : List RawName) → Said (each_declares k ns) → Rows (each_listed l ns)
  names l k [] h = tt
  names l k (n ∷ ns) h = (said_name n k (each_declares k ns) h, names l k ns (said_behind n k (each_declares k ns) h))

  groups : (t : RawType) (gs : List RawGroup) → Said (groups_facts t gs) → Rows (groups_listed gs)
  groups t [] h = tt
  groups t (g ∷ gs) h =
      rows_both (each_listed listing.Data g.names) (groups_listed gs)
      (names listing.Data (kind.Array t g.bounds) g.names (said_first (each_declares (kind.Array t g.bounds) g.names) (groups_facts t gs) h))
      (groups t gs (said_second (each_declares (kind.Array t g.bounds) g.names) (groups_facts t gs) h))

  data_rows : (d : RawData) → Said (data_facts d) → Rows (data_listed d)
  data_rows (items.Singles t ns presets) h = names listing.Data (kind.Single t) ns h
  data_rows (items.Arrays t gs presets) h = groups t gs h
  data_rows (items.Table t inside behind) h = (said_name t.name (kind.Table t.size) (elements_facts t.name t.elems) h, tt)

  item_rows : (i : RawCitem) → Said (citem_facts i) → Rows (citem_listed i)
  item_rows (citem.Data d) h = data_rows d h
  item_rows (citem.Overlay at b d) h = data_rows d (said_second (base_facts b) (data_facts d) h)
  item_rows (citem.Label at ns) h = names listing.Label kind.Label ns h
  item_rows (citem.Switch at ns) h = names listing.Switch kind.Switch ns h
  item_rows (citem.Spec s) h = (said_name s.name (kind.Proc s.answer) (specifies s.name.at.token s.answer s.params ∷ []) h, tt)

  items_rows : (is : List RawCitem) → Said (citems_facts is) → Rows (citems_listed is)
  items_rows [] h = tt
  items_rows (i ∷ is) h =
      rows_both (citem_listed i) (citems_listed is) (item_rows i (said_first (citem_facts i) (citems_facts is) h)) (items_rows is (said_second (citem_facts i) (citems_facts is) h))

  spec_rows : (s : RawSpec) (k : Kind) → Said (spec_facts k s) → Rows (spec_listed s)
  spec_rows s k h = by_test (is_built_in s.name.name)
    where
      by_test : (b : Bool) → Rows (cond b [] (record { token = s.name.at.token; item = listing.Proc } ∷ []))
      by_test true = tt
      by_test false = (said_name s.name k (specifies s.name.at.token s.answer s.params ∷ []) h, tt)

  specs_rows : (ss : List RawSpec) → Said (library_facts ss) → Rows (specs_listed ss)
  specs_rows [] h = tt
  specs_rows (s ∷ ss) h =
      let k = library_kind s.name.name (kind.Proc s.answer) in
      rows_both (spec_listed s) (specs_listed ss) (spec_rows s k (said_first (spec_facts k s) (library_facts ss) h)) (specs_rows ss (said_second (spec_facts k s) (library_facts ss) h))

  one_rows : (c : RawComm) → Said (communicator_facts c) → Rows (communicator_listed c)
  one_rows (comm.Common at is) h = items_rows is h
  one_rows (comm.Library at ss) h = specs_rows ss h
  one_rows (comm.Absolute at is) h = tt

  pub communicators_rows : (cs : List RawComm) → Said (communicators_facts cs) → Rows (communicators_listed cs)
  communicators_rows [] h = tt
  communicators_rows (c ∷ cs) h =
      rows_both (communicator_listed c) (communicators_listed cs) (one_rows c (said_first (communicator_facts c) (communicators_facts cs) h))
      (communicators_rows cs (said_second (communicator_facts c) (communicators_facts cs) h))

  -- and their numbers
  pub if_rows : (token : ℕ) (o : Option Numbered) → P token → Rows (row_if token o)
  if_rows token None h = tt
  if_rows token (Some n) h = (h, tt)

  pub numbered_rows : (d : ℕ) (rs : List (Row Listing)) → Rows rs → Rows (listed_rows d rs)
  numbered_rows d [] h = tt
  numbered_rows d (r ∷ rs) h = rows_both (row_if r.token (listed_number d r.item)) (listed_rows (next_short d) rs) (if_rows r.token (listed_number d r.item) h.0) (numbered_rows (next_short d) rs h.1)
