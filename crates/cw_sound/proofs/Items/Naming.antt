-- The descriptors of a unit have the names that COMMON and LIBRARY list, each declared once.
use Rattle.std.proofs.Common.{◌≡◌, ℕ, suc, ◌+◌, ◌≤◌, List, [], ◌∷◌, ◌++◌, length, map, Bool, true, false, ◌&&◌, ◌||◌, not, IsTrue, cond, None, refl, sym, ap, ap₂, subst, ◌∙◌, arith, inl, inr}
use Rattle.std.specs.Str.{bytes_eq}
use Rattle.std.specs.List.{All}
use Rattle.std.proofs.lemmas.List.Elements.{All-head, All-tail}
use Rattle.std.proofs.lemmas.Slice.Eq.{bytes_eq-Decides}
use Rattle.cw_table.specs.declared.table.Row.{Row}
use Rattle.cw_tree.specs.declared.leaf.RawName.{RawName}
use Rattle.cw_tree.specs.declared.leaf.RawType.{RawType}
use Rattle.cw_tree.specs.declared.items.RawBounds.{RawBounds}
use Rattle.cw_tree.specs.declared.items.RawGroup.{RawGroup}
use Rattle.cw_tree.specs.declared.items.RawData.{RawData}
use Rattle.cw_tree.specs.declared.items.RawData.TheVariants as items
use Rattle.cw_tree.specs.declared.segment.Raw.{Raw}
use Rattle.cw_tree.specs.declared.segment.RawComm.{RawComm}
use Rattle.cw_tree.specs.declared.segment.RawComm.TheVariants as comm
use Rattle.cw_tree.specs.declared.segment.RawCitem.{RawCitem}
use Rattle.cw_tree.specs.declared.segment.RawCitem.TheVariants as citem
use Rattle.cw_tree.specs.declared.segment.RawSpec.{RawSpec}
use Rattle.cw_facts.specs.declared.fact.Kind.{Kind}
use Rattle.cw_facts.specs.declared.fact.Kind.TheVariants as kind
use Rattle.cw_facts.specs.Facts.{declares, specifies, each_declares, groups_facts, elements_facts, data_facts, base_facts, block_facts}
use Rattle.cw_facts.specs.Text.{library_kind, spec_facts, library_facts, citem_facts, citems_facts, communicator_facts, communicators_facts, text_facts}
use Rattle.cw_scope.specs.Text.{declarations_of, first_name_fault}
use Rattle.cw_items.specs.declared.thing.Thing.{Thing}
use Rattle.cw_number.specs.declared.listed.Listing.{Listing}
use Rattle.cw_number.specs.declared.numbered.Numbered.{Numbered}
use Rattle.cw_number.specs.declared.listed.Listing.TheVariants as listing
use Rattle.cw_number.specs.Listed.{row, each_listed, groups_listed, data_listed, citem_listed, citems_listed, is_built_in, spec_listed, specs_listed, communicator_listed, communicators_listed}
use Rattle.cw_unit.specs.declared.descriptor.Desc.{Desc}
use Rattle.cw_make_items.specs.Descriptors.{word_descs, array_descs, group_descs, data_descs, label_descs, switch_descs, spec_desc, library_desc, library_descs, citem_descs, citems_descs, communicator_descs, descs_of}
use Rattle.cw_built.specs.Listed.{is_empty, lists_name, are_named}
use Rattle.cw_sound.specs.Items.Derived.{IsRising, facts_tokens, HasRisingTokens, IsNamed, HasNames}
use Rattle.cw_sound.proofs.Items.Lists.{In, in-left, each-in, not-below, rising-within, rising-left, few-tokens, within-in}
use Rattle.cw_sound.proofs.Items.NameFaults.{names-fine, one-declaration}
use Rattle.cw_sound.proofs.Items.Resolving.{row_tokens}
use Rattle.cw_sound.proofs.Items.Says.{Says, IsDeclared, token_of, HasToken, declared, declared-append, tokens-append, says-both, says-nothing, says-one, says-each, row-of}

-- ---- the names that are listed

group_names : List RawGroup → List RawName
group_names [] = []
group_names (g ∷ gs) = g.names ++ group_names gs

data_names : RawData → List RawName
unfolding group_names
data_names (items.Singles t ns presets) = ns
data_names (items.Arrays t gs presets) = group_names gs
data_names (items.Table t inside behind) = t.name ∷ []

abbrev citem_names : RawCitem → List RawName
citem_names (citem.Data d) = data_names d
citem_names (citem.Overlay at b d) = data_names d
citem_names (citem.Label at ns) = ns
citem_names (citem.Switch at ns) = ns
citem_names (citem.Spec s) = s.name ∷ []

abbrev citems_names : List RawCitem → List RawName
citems_names [] = []
citems_names (i ∷ is) = citem_names i ++ citems_names is

abbrev name_if : (built_in : Bool) → RawName → List RawName
name_if true n = []
name_if false n = n ∷ []

abbrev library_names : List RawSpec → List RawName
library_names [] = []
library_names (s ∷ ss) = name_if (is_built_in s.name.name) s.name ++ library_names ss

abbrev communicator_names : RawComm → List RawName
communicator_names (comm.Common at is) = citems_names is
communicator_names (comm.Library at ss) = library_names ss
communicator_names (comm.Absolute at is) = []

abbrev names_of : List RawComm → List RawName
names_of [] = []
names_of (c ∷ cs) = communicator_names c ++ names_of cs

-- ---- descriptors have these names

abbrev Have : List Desc → List RawName → Type 0
Have [] [] = Unit {0}
Have (d ∷ ds) (n ∷ ns) = (d.name ≡ n.name) × Have ds ns
Have _ _ = ⊥

have-both : (ds es : List Desc) (ns ms : List RawName) → Have ds ns → Have es ms → Have (ds ++ es) (ns ++ ms)
have-both [] es [] ms h k = k
have-both (d ∷ ds) es (n ∷ ns) ms h k = (h.0, have-both ds es ns ms h.1 k)
have-both [] es (n ∷ ns) ms h k = absurd h
have-both (d ∷ ds) es [] ms h k = absurd h

module _ (numbers : List (Row Numbered)) (listed : List (Row Listing)) (things : List Thing) where
  have-words : (t : RawType) (ns : List RawName) → Have (word_descs numbers listed things t ns) ns
  have-words t [] = tt
  have-words t (n ∷ ns) = (refl, have-words t ns)

  have-arrays : (t : RawType) (b : RawBounds) (ns : List RawName) → Have (array_descs numbers listed things t b ns) ns
  have-arrays t b [] = tt
  have-arrays t b (n ∷ ns) = (refl, have-arrays t b ns)

  have-groups : (t : RawType) (gs : List RawGroup) → Have (group_descs numbers listed things t gs) (group_names gs)
  unfolding group_names
  have-groups t [] = tt
  have-groups t (g ∷ gs) = have-both (array_descs numbers listed things t g.bounds g.names) (group_descs numbers listed things t gs) g.names (group_names gs) (have-arrays t g.bounds g.names) (have-groups t gs)

  have-data : (d : RawData) → Have (data_descs numbers listed things d) (data_names d)
  unfolding data_names group_names
  have-data (items.Singles t ns presets) = have-words t ns
  have-data (items.Arrays t gs presets) = have-groups t gs
  have-data (items.Table t inside behind) = (refl, tt)

  have-labels : (ns : List RawName) → Have (label_descs ns) ns
  have-labels [] = tt
  have-labels (n ∷ ns) = (refl, have-labels ns)

  have-switches : (ns : List RawName) → Have (switch_descs ns) ns
  have-switches [] = tt
  have-switches (n ∷ ns) = (refl, have-switches ns)

  have-citem : (i : RawCitem) → Have (citem_descs numbers listed things i) (citem_names i)
  have-citem (citem.Data d) = have-data d
  have-citem (citem.Overlay at b d) = have-data d
  have-citem (citem.Label at ns) = have-labels ns
  have-citem (citem.Switch at ns) = have-switches ns
  have-citem (citem.Spec s) = (refl, tt)

  have-citems : (is : List RawCitem) → Have (citems_descs numbers listed things is) (citems_names is)
  have-citems [] = tt
  have-citems (i ∷ is) = have-both (citem_descs numbers listed things i) (citems_descs numbers listed things is) (citem_names i) (citems_names is) (have-citem i) (have-citems is)

  have-if : (b : Bool) (s : RawSpec) → Have (cond b [] (spec_desc true s ∷ [])) (name_if b s.name)
  have-if true s = tt
  have-if false s = (refl, tt)

  have-library : (ss : List RawSpec) → Have (library_descs ss) (library_names ss)
  have-library [] = tt
  have-library (s ∷ ss) = have-both (library_desc s) (library_descs ss) (name_if (is_built_in s.name.name) s.name) (library_names ss) (have-if (is_built_in s.name.name) s) (have-library ss)

  have-communicator : (c : RawComm) → Have (communicator_descs numbers listed things c) (communicator_names c)
  have-communicator (comm.Common at is) = have-citems is
  have-communicator (comm.Library at ss) = have-library ss
  have-communicator (comm.Absolute at is) = tt

  have-all : (cs : List RawComm) → Have (descs_of numbers listed things cs) (names_of cs)
  have-all [] = tt
  have-all (c ∷ cs) = have-both (communicator_descs numbers listed things c) (descs_of numbers listed things cs) (communicator_names c) (names_of cs) (have-communicator c) (have-all cs)

-- ---- facts declare these names

says-groups : (t : RawType) (gs : List RawGroup) → Says (groups_facts t gs) (group_names gs)
unfolding group_names
says-groups t [] = says-nothing []
says-groups t (g ∷ gs) =
    says-both (each_declares (kind.Array t g.bounds) g.names) (groups_facts t gs) g.names (group_names gs) (says-each (kind.Array t g.bounds) g.names (λ token. refl)) (says-groups t gs)

says-data : (d : RawData) → Says (data_facts d) (data_names d)
unfolding data_names group_names
says-data (items.Singles t ns presets) = says-each (kind.Single t) ns (λ token. refl)
says-data (items.Arrays t gs presets) = says-groups t gs
says-data (items.Table t inside behind) =
    says-both (declares t.name (kind.Table t.size) ∷ []) (elements_facts t.name t.elems) (t.name ∷ []) [] (says-one (kind.Table t.size) t.name (λ token. refl)) (says-nothing (elements_facts t.name t.elems))

says-spec : (k : Kind) (s : RawSpec) → HasToken k → Says (spec_facts k s) (s.name ∷ [])
says-spec k s h = says-both (declares s.name k ∷ []) (specifies s.name.at.token s.answer s.params ∷ []) (s.name ∷ []) [] (says-one k s.name h) (says-nothing (specifies s.name.at.token s.answer s.params ∷ []))

says-citem : (i : RawCitem) → Says (citem_facts i) (citem_names i)
says-citem (citem.Data d) = says-data d
says-citem (citem.Overlay at b d) = says-both (base_facts b) (data_facts d) [] (data_names d) (says-nothing (base_facts b)) (says-data d)
says-citem (citem.Label at ns) = says-each kind.Label ns (λ token. refl)
says-citem (citem.Switch at ns) = says-each kind.Switch ns (λ token. refl)
says-citem (citem.Spec s) = says-spec (kind.Proc s.answer) s (λ token. refl)

says-citems : (is : List RawCitem) → Says (citems_facts is) (citems_names is)
says-citems [] = says-nothing []
says-citems (i ∷ is) = says-both (citem_facts i) (citems_facts is) (citem_names i) (citems_names is) (says-citem i) (says-citems is)

kind-token : (a b c : Bool) (k : Kind) → HasToken k → HasToken (cond a kind.ReadByte (cond b kind.WriteByte (cond c kind.Bounds k)))
kind-token true b c k h token = refl
kind-token false true c k h token = refl
kind-token false false true k h token = refl
kind-token false false false k h token = h token

says-if : (b : Bool) (k : Kind) (s : RawSpec) → HasToken k → Says (spec_facts k s) (name_if b s.name)
says-if true k s h = says-nothing (spec_facts k s)
says-if false k s h = says-spec k s h

says-library : (ss : List RawSpec) → Says (library_facts ss) (library_names ss)
says-library [] = says-nothing []
says-library (s ∷ ss) =
    says-both (spec_facts (library_kind s.name.name (kind.Proc s.answer)) s) (library_facts ss) (name_if (is_built_in s.name.name) s.name) (library_names ss)
    (says-if (is_built_in s.name.name) (library_kind s.name.name (kind.Proc s.answer)) s (kind-token _ _ _ (kind.Proc s.answer) (λ token. refl))) (says-library ss)

says-communicator : (c : RawComm) → Says (communicator_facts c) (communicator_names c)
says-communicator (comm.Common at is) = says-citems is
says-communicator (comm.Library at ss) = says-library ss
says-communicator (comm.Absolute at is) = says-nothing (communicator_facts (comm.Absolute at is))

says-all : (cs : List RawComm) → Says (communicators_facts cs) (names_of cs)
says-all [] = says-nothing []
says-all (c ∷ cs) = says-both (communicator_facts c) (communicators_facts cs) (communicator_names c) (names_of cs) (says-communicator c) (says-all cs)

-- ---- what is listed has these tokens

abbrev AreTokens : List (Row Listing) → List RawName → Type 0
AreTokens rows ns = row_tokens rows ≡ map token_of ns

join-tokens : (ls bs : List (Row Listing)) (ns ms : List RawName) → AreTokens ls ns → AreTokens bs ms → AreTokens (ls ++ bs) (ns ++ ms)
join-tokens [] bs [] ms h k = k
join-tokens (r ∷ ls) bs (n ∷ ns) ms h k = let same : (r.token ≡ n.at.token) × (row_tokens ls ≡ map token_of ns) = (cc, cc) in ap₂ (λ x xs. x ∷ xs) same.0 (join-tokens ls bs ns ms same.1 k)
join-tokens [] bs (n ∷ ns) ms h k = absurd cc
join-tokens (r ∷ ls) bs [] ms h k = absurd cc

each-tokens : (l : Listing) (ns : List RawName) → AreTokens (each_listed l ns) ns
each-tokens l [] = refl
each-tokens l (n ∷ ns) = ap (λ ts. n.at.token ∷ ts) (each-tokens l ns)

group-tokens : (gs : List RawGroup) → AreTokens (groups_listed gs) (group_names gs)
unfolding group_names
group-tokens [] = refl
group-tokens (g ∷ gs) = join-tokens (each_listed listing.Data g.names) (groups_listed gs) g.names (group_names gs) (each-tokens listing.Data g.names) (group-tokens gs)

data-tokens : (d : RawData) → AreTokens (data_listed d) (data_names d)
unfolding data_names group_names
data-tokens (items.Singles t ns presets) = each-tokens listing.Data ns
data-tokens (items.Arrays t gs presets) = group-tokens gs
data-tokens (items.Table t inside behind) = refl

citem-tokens : (i : RawCitem) → AreTokens (citem_listed i) (citem_names i)
citem-tokens (citem.Data d) = data-tokens d
citem-tokens (citem.Overlay at b d) = data-tokens d
citem-tokens (citem.Label at ns) = each-tokens listing.Label ns
citem-tokens (citem.Switch at ns) = each-tokens listing.Switch ns
citem-tokens (citem.Spec s) = refl

citems-tokens : (is : List RawCitem) → AreTokens (citems_listed is) (citems_names is)
citems-tokens [] = refl
citems-tokens (i ∷ is) = join-tokens (citem_listed i) (citems_listed is) (citem_names i) (citems_names is) (citem-tokens i) (citems-tokens is)

tokens-if : (b : Bool) (s : RawSpec) → AreTokens (cond b [] (row listing.Proc s.name ∷ [])) (name_if b s.name)
tokens-if true s = refl
tokens-if false s = refl

library-tokens : (ss : List RawSpec) → AreTokens (specs_listed ss) (library_names ss)
library-tokens [] = refl
library-tokens (s ∷ ss) = join-tokens (spec_listed s) (specs_listed ss) (name_if (is_built_in s.name.name) s.name) (library_names ss) (tokens-if (is_built_in s.name.name) s) (library-tokens ss)

communicator-tokens : (c : RawComm) → AreTokens (communicator_listed c) (communicator_names c)
communicator-tokens (comm.Common at is) = citems-tokens is
communicator-tokens (comm.Library at ss) = library-tokens ss
communicator-tokens (comm.Absolute at is) = refl

all-tokens : (cs : List RawComm) → AreTokens (communicators_listed cs) (names_of cs)
all-tokens [] = refl
all-tokens (c ∷ cs) = join-tokens (communicator_listed c) (communicators_listed cs) (communicator_names c) (names_of cs) (communicator-tokens c) (all-tokens cs)

-- the communicators have the tokens of what they list
pub listed-token : (cs : List RawComm) (t : ℕ) → In t (row_tokens (communicators_listed cs)) → In t (facts_tokens (communicators_facts cs))
listed-token cs t i = within-in t (says-all cs).tokens (subst (In t) (all-tokens cs) i)

-- ---- so no two are the same

abbrev AreOne : List RawName → Type 0
AreOne ns = (n m : RawName) → In n ns → In m ns → n.name ≡ m.name → n.at.token ≡ m.at.token

in-tokens : (n : RawName) (ns : List RawName) → In n ns → In n.at.token (map token_of ns)
in-tokens n [] i = absurd i
in-tokens n (m ∷ ns) (inl e) = inl (ap token_of e)
in-tokens n (m ∷ ns) (inr i) = inr (in-tokens n ns i)

not-same : (a b : List ℕ) (t : Bool) → bytes_eq a b ≡ t → (a ≡ b → ⊥) → t ≡ false
not-same a b true e h = absurd (h ((bytes_eq-Decides a b).0 e))
not-same a b false e h = refl

not-listed : (name : List ℕ) (ds : List Desc) (ns : List RawName) → Have ds ns → ((m : RawName) → In m ns → name ≡ m.name → ⊥) → lists_name name ds ≡ false
not-listed name [] [] h k = refl
not-listed name (d ∷ ds) (n ∷ ns) h k =
    let here : bytes_eq name d.name ≡ false = not-same name d.name (bytes_eq name d.name) refl (λ e. k n (inl refl) (e ∙ h.0)) in
    let rest : lists_name name ds ≡ false = not-listed name ds ns h.1 (λ m i. k m (inr i)) in
    ap₂ (λ a b. a || b) here rest
not-listed name [] (n ∷ ns) h k = absurd h
not-listed name (d ∷ ds) [] h k = absurd h

not-empty : (name : List ℕ) → (name ≡ [] → ⊥) → is_empty name ≡ false
not-empty [] h = absurd (h refl)
not-empty (c ∷ cs) h = refl

all-true : (a b c : Bool) → a ≡ false → b ≡ false → IsTrue c → IsTrue ((not a && not b) && c)
all-true a b c e f h = subst (λ x. IsTrue ((not x && not b) && c)) (sym e) (subst (λ x. IsTrue ((true && not x) && c)) (sym f) h)

named-apart : (first : ℕ) (ds : List Desc) (ns : List RawName) → Have ds ns → IsRising first (map token_of ns) → AreOne ns → ((n : RawName) → In n ns → n.name ≡ [] → ⊥) → IsTrue (are_named ds)
named-apart first [] [] h r one k = refl
named-apart first (d ∷ ds) (n ∷ ns) h r one k =
    all-true (is_empty d.name) (lists_name d.name ds) (are_named ds)
    (not-empty d.name (λ e. k n (inl refl) (sym h.0 ∙ e)))
    (not-listed d.name ds ns h.1 (λ m i e.
    let same : n.at.token ≡ m.at.token = one n m (inl refl) (inr i) (sym h.0 ∙ e) in
    let later : suc n.at.token ≤ m.at.token = not-below (suc n.at.token) (map token_of ns) m.at.token r.1 (in-tokens m ns i) in
    absurd (omega (arith, same, later))))
    (named-apart (suc n.at.token) ds ns h.1 r.1 (λ a b i j. one a b (inr i) (inr j)) (λ a i. k a (inr i)))
named-apart first [] (n ∷ ns) h r one k = absurd h
named-apart first (d ∷ ds) [] h r one k = absurd h

-- ---- of a text

each-row : {A : Type 0} (P : A → Type 0) (xs : List A) → All P xs → (x : A) → In x xs → P x
each-row P [] h x i = absurd i
each-row P (y ∷ ys) h x (inl e) = subst P (sym e) (All-head P y ys h)
each-row P (y ∷ ys) h x (inr i) = each-row P ys (All-tail P y ys h) x i

are-rising : (raw : Raw) → HasRisingTokens raw → IsRising 1 (map token_of (names_of raw.comms))
are-rising raw r =
    rising-within 1 (says-all raw.comms).tokens
    (rising-left 1 (facts_tokens (communicators_facts raw.comms)) (facts_tokens (block_facts raw.block true))
    (subst (IsRising 1) (tokens-append (communicators_facts raw.comms) (block_facts raw.block true)) r))

have-length : (ds : List Desc) (ns : List RawName) → Have ds ns → length ds ≡ length (map token_of ns)
have-length [] [] h = refl
have-length (d ∷ ds) (n ∷ ns) h = ap suc (have-length ds ns h.1)
have-length [] (n ∷ ns) h = absurd h
have-length (d ∷ ds) [] h = absurd h

pub few-descriptors : (raw : Raw) (numbers : List (Row Numbered)) (listed : List (Row Listing)) (things : List Thing) → HasRisingTokens raw → length (descs_of numbers listed things raw.comms) ≤ 65535
few-descriptors raw numbers listed things r =
    let a : length (descs_of numbers listed things raw.comms) ≡ length (map token_of (names_of raw.comms)) = have-length (descs_of numbers listed things raw.comms) (names_of raw.comms) (have-all numbers listed things raw.comms) in
    let b : 1 + length (map token_of (names_of raw.comms)) ≤ 65536 = few-tokens 1 (map token_of (names_of raw.comms)) (are-rising raw r) in
    omega (arith, a, b)

module _ (raw : Raw) (fine : first_name_fault raw ≡ None) where
  in-text : (n : RawName) → IsDeclared (communicators_facts raw.comms) n → IsDeclared (text_facts raw) n
  in-text n h = (h.0, subst (In h.0) (sym (declared-append (communicators_facts raw.comms) (block_facts raw.block true))) (in-left h.0 (declared (communicators_facts raw.comms)) (declared (block_facts raw.block true)) h.1), h.2)

  declared-in-text : (n : RawName) → In n (names_of raw.comms) → IsDeclared (text_facts raw) n
  declared-in-text n i = in-text n (each-in (IsDeclared (communicators_facts raw.comms)) (names_of raw.comms) (says-all raw.comms).each n i)

  are-one : AreOne (names_of raw.comms)
  are-one n m i j e =
      let a = declared-in-text n i in
      let b = declared-in-text m j in
      let same : a.0.name.name ≡ b.0.name.name = ap (λ (x : RawName). x.name) a.2 ∙ e ∙ sym (ap (λ (x : RawName). x.name) b.2) in
      sym (ap token_of a.2) ∙ one-declaration (text_facts raw) a.0 b.0 (names-fine (text_facts raw) fine) a.1 b.1 same ∙ ap token_of b.2

  have-letters : HasNames raw → (n : RawName) → In n (names_of raw.comms) → n.name ≡ [] → ⊥
  have-letters h n i e =
      let a = declared-in-text n i in
      each-row IsNamed (declarations_of raw) h (record { token = a.0.name.at.token; item = a.0 }) (row-of (text_facts raw) a.0 a.1) (ap (λ (x : RawName). x.name) a.2 ∙ e)

  pub descriptors-named : (numbers : List (Row Numbered)) (listed : List (Row Listing)) (things : List Thing) → HasRisingTokens raw → HasNames raw → IsTrue (are_named (descs_of numbers listed things raw.comms))
  descriptors-named numbers listed things r h =
      named-apart 1 (descs_of numbers listed things raw.comms) (names_of raw.comms) (have-all numbers listed things raw.comms) (are-rising raw r) are-one (have-letters h)
