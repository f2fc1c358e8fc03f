-- Specifications and communicators are read as their canonical tokens, the same but for positions.
use Rattle.std.proofs.Common.{◌≡◌, ℕ, Bool, true, false, List, [], ◌∷◌, ◌++◌, map, Option, Some, None, refl, sym, ap, ap₂, ◌∙◌, append_assoc}
use Rattle.std.specs.Prelude.{option_map}
use Rattle.cw_lex.specs.declared.token.Symbol.TheVariants as symbols
use Rattle.cw_lex.specs.declared.token.Word.TheVariants as words
use Rattle.cw_tree.specs.declared.leaf.Position.{Position}
use Rattle.cw_tree.specs.declared.leaf.RawName.{RawName}
use Rattle.cw_tree.specs.declared.leaf.RawInt.{RawInt}
use Rattle.cw_tree.specs.declared.leaf.RawSize.{RawSize}
use Rattle.cw_tree.specs.declared.leaf.RawType.{RawType}
use Rattle.cw_tree.specs.declared.items.RawBounds.{RawBounds}
use Rattle.cw_tree.specs.declared.items.RawGroup.{RawGroup}
use Rattle.cw_tree.specs.declared.items.RawPresets.{RawPresets}
use Rattle.cw_tree.specs.declared.items.RawTable.{RawTable}
use Rattle.cw_tree.specs.declared.items.RawData.{RawData}
use Rattle.cw_tree.specs.declared.items.RawData.TheVariants as data_tree
use Rattle.cw_tree.specs.declared.items.RawBase.{RawBase}
use Rattle.cw_tree.specs.declared.statement.RawDecl.TheVariants as decl_tree
use Rattle.cw_tree.specs.declared.statement.RawPtag.{RawPtag}
use Rattle.cw_tree.specs.declared.statement.RawPtag.TheVariants as ptag_tree
use Rattle.cw_tree.specs.declared.segment.RawIps.{RawIps}
use Rattle.cw_tree.specs.declared.segment.RawIps.TheVariants as ips_tree
use Rattle.cw_tree.specs.declared.segment.RawPs.{RawPs}
use Rattle.cw_tree.specs.declared.segment.RawPs.TheVariants as ps_tree
use Rattle.cw_tree.specs.declared.segment.RawSpec.{RawSpec}
use Rattle.cw_tree.specs.declared.segment.RawCitem.{RawCitem}
use Rattle.cw_tree.specs.declared.segment.RawCitem.TheVariants as citem_tree
use Rattle.cw_tree.specs.declared.segment.RawAitem.{RawAitem}
use Rattle.cw_tree.specs.declared.segment.RawAitem.TheVariants as aitem_tree
use Rattle.cw_tree.specs.declared.segment.RawComm.{RawComm}
use Rattle.cw_tree.specs.declared.segment.RawComm.TheVariants as comm_tree
use Rattle.cw_grammar.specs.Grammar.{a_token, a_pair, a_list, an_option, a_from, an_int, a_size, a_type, a_group, a_data, a_base, a_decl, a_ptag, an_ips, a_ps, a_spec, a_citem, an_aitem, a_comm}
use Rattle.cw_grammar.specs.Rules.{name, size}
use Rattle.cw_grammar.specs.Statements.{item_data, singles, arrays, data_table, base, group, overlay, ptag, worded_ips, ips, ips_list, procedure_ps, ps, spec_behind, spec, citem, typed_aitem, unplaced_aitem as behind_address, aitem, comm, decl, worded_decl}
use Rattle.cw_show.specs.Spelling.{word}
use Rattle.cw_show.specs.Canonical.{Tokens, name as name_spelling, size_tokens, type_tokens, listed, comma, semicolon}
use Rattle.cw_show.specs.ItemTokens.{name_tokens, names_tokens, assigned_tokens, groups_tokens, group_tokens, table_with, data_tokens, base_tokens, overlay_tokens, bounds_tokens}
use Rattle.cw_show.specs.SegmentTokens.{tag, ips_tokens, ps_tokens, spec_tokens, citem_tokens, address_tokens, aitem_tokens, comm_tokens}
use Rattle.cw_read_back.specs.Expressions.Unplaced.{nowhere, unplaced_int, unplaced_size, unplaced_type}
use Rattle.cw_read_back.specs.Trees.UnplacedItems.{unplaced_group, unplaced_data, unplaced_base, unplaced_ptag, unplaced_ips, unplaced_ps, unplaced_spec, unplaced_citem, unplaced_aitem, unplaced_comm}
use Rattle.cw_read_back.specs.Trees.UnplacedStatements.{unplaced_decl}
use Rattle.cw_read_back.proofs.Expressions.Reading.{Reads, Back, Each, Held, word_is, symbol_is, ◌&◌, left, right, mapped, second, first, respelled, rounded, absent_read, between_read}
use Rattle.cw_read_back.proofs.Trees.Forms.{ap₃, ap₄, each_map, started, listed_read}
use Rattle.cw_read_back.proofs.Trees.Data.{Name, Int, NumberType, PresetsRead, BoundsRead, TableRead, Typed, names_read, singles_read, arrays_read}
use Rattle.cw_read_back.proofs.Trees.StatementLayers.{data_decl-bare}

-- ---- data, where they may stand

-- data alone, in COMMON, and as a declaration
pub record DataRead (n : ℕ) (x : RawData) : Type 0 where
  pub alone : Reads n a_data item_data (data_tokens x) (λ d. unplaced_data d ≡ unplaced_data x)
  pub in_common : Reads n a_citem citem (data_tokens x) (λ d. unplaced_citem d ≡ unplaced_citem (citem_tree.Data x))
  pub declared : (p : Bool) → Reads n a_decl (decl p) (data_tokens x) (λ d. unplaced_decl d ≡ unplaced_decl (decl_tree.Data x))

declared_same : (d x : RawData) → unplaced_data d ≡ unplaced_data x → unplaced_decl (decl_tree.Data d) ≡ unplaced_decl (decl_tree.Data x)
declared_same d x e = data_decl-bare d ∙ ap (λ v. decl_tree.Data v) e ∙ sym (data_decl-bare x)

pub single_data_read : {n : ℕ} (t : RawType) (x : RawName) (xs : List RawName) (o : Option RawPresets) → NumberType n t → Name n x × Each (Name n) xs → Held (PresetsRead n) o → DataRead n (data_tree.Singles t (x ∷ xs) o)
unfolding item_data citem decl
single_data_read {n = n} t x xs o h k l =
    let r : Reads n (a_from a_type a_data) singles (names_tokens (x ∷ xs) ++ assigned_tokens o) (Typed t (data_tree.Singles t (x ∷ xs) o)) = singles_read t x xs o k l in
    record { alone = left (started h (left r)); in_common = left (started h (left (mapped r (λ f p z e. ap (λ v. citem_tree.Data v) (p z e))))); declared = at r }
  where
    at : Reads n (a_from a_type a_data) singles (names_tokens (x ∷ xs) ++ assigned_tokens o) (Typed t (data_tree.Singles t (x ∷ xs) o)) → (p : Bool) → Reads n a_decl (decl p) (data_tokens (data_tree.Singles t (x ∷ xs) o)) (λ d. unplaced_decl d ≡ unplaced_decl (decl_tree.Data (data_tree.Singles t (x ∷ xs) o)))
    at r true = left (started h (left (mapped r (λ f p z e. declared_same (f z) (data_tree.Singles t (x ∷ xs) o) (p z e)))))
    at r false = left (started h (left (mapped r (λ f p z e. declared_same (f z) (data_tree.Singles t (x ∷ xs) o) (p z e)))))

pub array_data_read : {n : ℕ} (t : RawType) (x : RawGroup) (xs : List RawGroup) (o : Option RawPresets) → NumberType n t → Back n a_group group group_tokens unplaced_group x × Each (Back n a_group group group_tokens unplaced_group) xs → Held (PresetsRead n) o → DataRead n (data_tree.Arrays t (x ∷ xs) o)
unfolding item_data citem decl
array_data_read {n = n} t x xs o h k l =
    let r : Reads n (a_from a_type a_data) arrays (word words.Array ∷ (groups_tokens (x ∷ xs) ++ assigned_tokens o)) (Typed t (data_tree.Arrays t (x ∷ xs) o)) = arrays_read t x xs o k l in
    record { alone = left (started h (right r)); in_common = left (started h (right (left (mapped r (λ f p z e. ap (λ v. citem_tree.Data v) (p z e)))))); declared = at r }
  where
    at : Reads n (a_from a_type a_data) arrays (word words.Array ∷ (groups_tokens (x ∷ xs) ++ assigned_tokens o)) (Typed t (data_tree.Arrays t (x ∷ xs) o)) → (p : Bool) → Reads n a_decl (decl p) (data_tokens (data_tree.Arrays t (x ∷ xs) o)) (λ d. unplaced_decl d ≡ unplaced_decl (decl_tree.Data (data_tree.Arrays t (x ∷ xs) o)))
    at r true = left (started h (right (mapped r (λ f p z e. declared_same (f z) (data_tree.Arrays t (x ∷ xs) o) (p z e)))))
    at r false = left (started h (right (left (mapped r (λ f p z e. declared_same (f z) (data_tree.Arrays t (x ∷ xs) o) (p z e))))))

pub table_data_read : {n : ℕ} (x : RawData) → Reads n a_data data_table (data_tokens x) (λ d. unplaced_data d ≡ unplaced_data x) → DataRead n x
unfolding item_data citem decl worded_decl
table_data_read {n = n} x r = record { alone = right r; in_common = right (left (mapped r (λ d e. ap (λ v. citem_tree.Data v) e))); declared = at }
  where
    at : (p : Bool) → Reads n a_decl (decl p) (data_tokens x) (λ d. unplaced_decl d ≡ unplaced_decl (decl_tree.Data x))
    at true = right (left (mapped r (λ d e. declared_same d x e)))
    at false = right (left (left (mapped r (λ d e. declared_same d x e))))

pub overlay_read : {n : ℕ} (x : RawBase) (y : RawData) → Back n a_base base base_tokens unplaced_base x → DataRead n y → Reads n (a_pair a_token (a_pair a_base a_data)) overlay (overlay_tokens x y) (λ z. (unplaced_base z.1.0 ≡ unplaced_base x) × (unplaced_data z.1.1 ≡ unplaced_data y))
unfolding overlay
overlay_read x y h k = respelled refl (word_is words.Overlay refl & h & second (word_is words.With refl) k.alone) (λ z p. (p.1.0, p.1.1))

-- ---- specifications

abbrev pub tag_tokens : RawPtag → Tokens
tag_tokens t = tag t ∷ []

pub procedure_tag_read : {n : ℕ} (at : Position) → Back n a_ptag ptag tag_tokens unplaced_ptag (ptag_tree.Procedure at)
unfolding ptag
procedure_tag_read at = left (mapped (word_is words.Procedure refl) (λ z p. refl))

pub recursive_tag_read : {n : ℕ} (at : Position) → Back n a_ptag ptag tag_tokens unplaced_ptag (ptag_tree.Recursive at)
unfolding ptag
recursive_tag_read at = right (mapped (first (word_is words.Recursive refl) absent_read) (λ z p. refl))

-- what a parameter is specified as, by itself and as what stands in a specification
abbrev pub IpsRead : ℕ → RawIps → Type 0
IpsRead n x = Back n an_ips ips ips_tokens unplaced_ips x × Reads n a_ps ps (ips_tokens x) (λ d. unplaced_ps d ≡ unplaced_ps (ps_tree.Plain x))

worded_read : {n : ℕ} (x : RawIps) → Reads n an_ips worded_ips (ips_tokens x) (λ d. unplaced_ips d ≡ unplaced_ips x) → IpsRead n x
unfolding ips ps
worded_read x r = (left r, right (right (mapped r (λ d e. ap (λ v. ps_tree.Plain v) e))))

pub value_ips_read : {n : ℕ} (at : Position) (t : RawType) → NumberType n t → IpsRead n (ips_tree.Value at t)
unfolding worded_ips
value_ips_read at t h = worded_read (ips_tree.Value at t) (left (mapped (word_is words.Value refl & h) (λ z p. ap (λ v. ips_tree.Value nowhere v) p.1)))

pub location_ips_read : {n : ℕ} (at : Position) (t : RawType) → NumberType n t → IpsRead n (ips_tree.Location at t)
unfolding worded_ips
location_ips_read at t h = worded_read (ips_tree.Location at t) (right (left (mapped (word_is words.Location refl & h) (λ z p. ap (λ v. ips_tree.Location nowhere v) p.1))))

pub table_ips_read : {n : ℕ} (at : Position) (s : RawSize) → Back n a_size size size_tokens unplaced_size s → IpsRead n (ips_tree.Table at s)
unfolding worded_ips
table_ips_read at s h = worded_read (ips_tree.Table at s) (right (right (left (mapped (word_is words.Table refl & h) (λ z p. ap (λ v. ips_tree.Table nowhere v) p.1)))))

pub label_ips_read : {n : ℕ} (at : Position) → IpsRead n (ips_tree.Label at)
unfolding worded_ips
label_ips_read at = worded_read (ips_tree.Label at) (right (right (right (left (mapped (word_is words.Label refl) (λ z p. refl))))))

pub switch_ips_read : {n : ℕ} (at : Position) → IpsRead n (ips_tree.Switch at)
unfolding worded_ips
switch_ips_read at = worded_read (ips_tree.Switch at) (right (right (right (right (mapped (word_is words.Switch refl) (λ z p. refl))))))

pub array_ips_read : {n : ℕ} (t : RawType) → NumberType n t → IpsRead n (ips_tree.Array t)
unfolding ips ps
array_ips_read t h = (
  right (mapped (first h (word_is words.Array refl)) (λ z e. ap (λ v. ips_tree.Array v) e)),
  left (started h (left (mapped (word_is words.Array refl) (λ z p u e. ap (λ v. ps_tree.Plain (ips_tree.Array v)) e)))),
)

pub ips_list_read : {n : ℕ} (xs : List RawIps) → Each (IpsRead n) xs → Reads n (a_list an_ips) ips_list (listed comma (map ips_tokens xs)) (λ ds. map unplaced_ips ds ≡ map unplaced_ips xs)
unfolding ips_list
ips_list_read xs h = listed_read ips_tokens unplaced_ips xs (each_map (λ x k. k.0) xs h)

abbrev Ps : ℕ → RawPs → Type 0
Ps n x = Back n a_ps ps ps_tokens unplaced_ps x

pub plain_ps_read : {n : ℕ} (x : RawIps) → IpsRead n x → Ps n (ps_tree.Plain x)
plain_ps_read x h = h.1

procedure_behind : {n : ℕ} (at : Position) (o : Option RawType) (xs : List RawIps) → Each (IpsRead n) xs → Reads n (a_from (an_option a_type) a_ps) procedure_ps (word words.Procedure ∷ listed comma (map ips_tokens xs)) (λ f. (c : Option RawType) → option_map unplaced_type c ≡ option_map unplaced_type o → unplaced_ps (f c) ≡ unplaced_ps (ps_tree.Proc o at xs))
unfolding procedure_ps
procedure_behind at o xs h = mapped (word_is words.Procedure refl & ips_list_read xs h) (λ z p c e. ap₂ (λ u v. ps_tree.Proc u nowhere v) e p.1)

pub procedure_ps_read : {n : ℕ} (o : Option RawType) (at : Position) (xs : List RawIps) → Held (NumberType n) o → Each (IpsRead n) xs → Ps n (ps_tree.Proc o at xs)
unfolding ps
procedure_ps_read None at xs h k = right (left (mapped (procedure_behind at None xs k) (λ f p. p None refl)))
procedure_ps_read (Some t) at xs h k = left (started h (right (mapped (procedure_behind at (Some t) xs k) (λ f p z e. p (Some z) (ap (λ v. Some v) e)))))

-- a specification by itself and in COMMON
abbrev pub SpecRead : ℕ → RawSpec → Type 0
SpecRead n x = Back n a_spec spec spec_tokens unplaced_spec x × Reads n a_citem citem (spec_tokens x) (λ d. unplaced_citem d ≡ unplaced_citem (citem_tree.Spec x))

abbrev specified : Option RawType → RawPtag → RawName → List RawPs → RawSpec
specified o t f xs = record { answer = o; tag = t; name = f; params = xs }

abbrev Behind : ℕ → Option RawType → RawPtag → RawName → List RawPs → Type 0
Behind n o t f xs = Reads n (a_from (an_option a_type) a_spec) spec_behind (tag t ∷ name_spelling f.name ∷ listed comma (map ps_tokens xs)) (λ g. (c : Option RawType) → option_map unplaced_type c ≡ option_map unplaced_type o → unplaced_spec (g c) ≡ unplaced_spec (specified o t f xs))

spec_from : {n : ℕ} (o : Option RawType) (t : RawPtag) (f : RawName) (xs : List RawPs) → Held (NumberType n) o → Behind n o t f xs → SpecRead n (specified o t f xs)
unfolding spec citem
spec_from None t f xs h r =
    (right (mapped r (λ g p. p None refl)), right (right (right (right (right (mapped r (λ g p. ap (λ v. citem_tree.Spec v) (p None refl))))))))
spec_from (Some y) t f xs h r = (
  left (started h (mapped r (λ g p z e. p (Some z) (ap (λ v. Some v) e)))),
  left (started h (right (right (mapped r (λ g p z e. ap (λ v. citem_tree.Spec v) (p (Some z) (ap (λ v. Some v) e))))))),
)

pub spec_read : {n : ℕ} (o : Option RawType) (t : RawPtag) (f : RawName) (xs : List RawPs) → Held (NumberType n) o → Back n a_ptag ptag tag_tokens unplaced_ptag t → Name n f → Each (Ps n) xs → SpecRead n (record { answer = o; tag = t; name = f; params = xs })
unfolding spec_behind
spec_read o t f xs h k l m = spec_from o t f xs h (mapped (k & l & listed_read ps_tokens unplaced_ps xs m) (λ z p c e. ap₄ specified e p.0 p.1.0 p.1.1))

-- ---- communicators

abbrev Citem : ℕ → RawCitem → Type 0
Citem n x = Back n a_citem citem citem_tokens unplaced_citem x

pub overlay_citem_read : {n : ℕ} (at : Position) (x : RawBase) (y : RawData) → Back n a_base base base_tokens unplaced_base x → DataRead n y → Citem n (citem_tree.Overlay at x y)
unfolding citem
overlay_citem_read at x y h k = right (right (left (mapped (overlay_read x y h k) (λ z p. ap₂ (λ u v. citem_tree.Overlay nowhere u v) p.0 p.1))))

pub label_citem_read : {n : ℕ} (at : Position) (x : RawName) (xs : List RawName) → Name n x × Each (Name n) xs → Citem n (citem_tree.Label at (x ∷ xs))
unfolding citem
label_citem_read at x xs h = right (right (right (left (mapped (word_is words.Label refl & names_read x xs h) (λ z p. ap (λ v. citem_tree.Label nowhere v) p.1)))))

pub switch_citem_read : {n : ℕ} (at : Position) (x : RawName) (xs : List RawName) → Name n x × Each (Name n) xs → Citem n (citem_tree.Switch at (x ∷ xs))
unfolding citem
switch_citem_read at x xs h = right (right (right (right (left (mapped (word_is words.Switch refl & names_read x xs h) (λ z p. ap (λ v. citem_tree.Switch nowhere v) p.1))))))

abbrev Aitem : ℕ → RawAitem → Type 0
Aitem n x = Back n an_aitem aitem aitem_tokens unplaced_aitem x

-- what stands before the address
abbrev Addressed : ℕ → RawInt → RawAitem → Tokens → Type 0
Addressed n i x a = Reads n (a_from an_int an_aitem) behind_address a (λ f. (z : RawInt) → unplaced_int z ≡ unplaced_int i → unplaced_aitem (f z) ≡ unplaced_aitem x)

aitem_from : {n : ℕ} (i : RawInt) (x : RawAitem) (a : Tokens) → aitem_tokens x ≡ a ++ address_tokens i → Addressed n i x a → Int n i → Aitem n x
unfolding aitem
aitem_from i x a e r h = respelled e (mapped (r & second (symbol_is symbols.Divide) h) (λ z p. p.0 z.1 p.1)) (λ z q. q)

pub single_aitem_read : {n : ℕ} (t : RawType) (f : RawName) (i : RawInt) → NumberType n t → Name n f → Int n i → Aitem n (aitem_tree.Single t f i)
unfolding behind_address typed_aitem
single_aitem_read {n = n} t f i h k l =
    let r : Addressed n i (aitem_tree.Single t f i) (type_tokens t ++ name_tokens f) = left (started h (left (mapped k (λ m q u e z d. ap₃ (λ a b c. aitem_tree.Single a b c) e q d)))) in
    aitem_from i (aitem_tree.Single t f i) (type_tokens t ++ name_tokens f) (sym (append_assoc (type_tokens t) (name_tokens f) (address_tokens i))) r l

pub array_aitem_read : {n : ℕ} (t : RawType) (f : RawName) (y : RawBounds) (i : RawInt) → NumberType n t → Name n f → BoundsRead n y → Int n i → Aitem n (aitem_tree.Array t f y i)
unfolding behind_address typed_aitem
array_aitem_read {n = n} t f y i h k b l =
    let a : Tokens = word words.Array ∷ name_spelling f.name ∷ bounds_tokens y in
    let r : Addressed n i (aitem_tree.Array t f y i) (type_tokens t ++ a) = left (started h (right (mapped (second (word_is words.Array refl) (k & b)) (λ w q u e z d. ap₄ (λ p x v c. aitem_tree.Array p x v c) e q.0 q.1 d)))) in
    aitem_from i (aitem_tree.Array t f y i) (type_tokens t ++ a) (sym (append_assoc (type_tokens t) a (address_tokens i))) r l

pub table_aitem_read : {n : ℕ} (t : RawTable) (i : RawInt) → TableRead n t → Int n i → Aitem n (aitem_tree.Table t i)
unfolding behind_address
table_aitem_read {n = n} t i h l =
    let r : Addressed n i (aitem_tree.Table t i) (table_with t []) = right (mapped h (λ u e z d. ap₂ (λ a b. aitem_tree.Table a b) e d)) in
    aitem_from i (aitem_tree.Table t i) (table_with t []) refl r l

abbrev Comm : ℕ → RawComm → Type 0
Comm n x = Back n a_comm comm comm_tokens unplaced_comm x

pub common_read : {n : ℕ} (at : Position) (x : RawCitem) (xs : List RawCitem) → Citem n x × Each (Citem n) xs → Comm n (comm_tree.Common at (x ∷ xs))
unfolding comm
common_read at x xs h = left (mapped (word_is words.Common refl & rounded (between_read citem_tokens unplaced_citem semicolon (symbol_is symbols.Semicolon) x xs h)) (λ z p. ap (λ v. comm_tree.Common nowhere v) p.1))

pub library_read : {n : ℕ} (at : Position) (x : RawSpec) (xs : List RawSpec) → SpecRead n x × Each (SpecRead n) xs → Comm n (comm_tree.Library at (x ∷ xs))
unfolding comm
library_read at x xs h = right (left (mapped (word_is words.Library refl & rounded (between_read spec_tokens unplaced_spec semicolon (symbol_is symbols.Semicolon) x xs (h.0.0, each_map (λ y k. k.0) xs h.1))) (λ z p. ap (λ v. comm_tree.Library nowhere v) p.1)))

pub absolute_read : {n : ℕ} (at : Position) (x : RawAitem) (xs : List RawAitem) → Aitem n x × Each (Aitem n) xs → Comm n (comm_tree.Absolute at (x ∷ xs))
unfolding comm
absolute_read at x xs h = right (right (mapped (word_is words.Absolute refl & rounded (between_read aitem_tokens unplaced_aitem semicolon (symbol_is symbols.Semicolon) x xs h)) (λ z p. ap (λ v. comm_tree.Absolute nowhere v) p.1)))
