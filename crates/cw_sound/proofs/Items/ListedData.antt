-- The items that the communicators declare are those that COMMON lists and those with an address.
use Rattle.std.proofs.Common.{◌≡◌, ℕ, suc, List, [], ◌∷◌, ◌++◌, Bool, true, false, cond, Some, nat_eq, refl, sym, ap, subst, ◌∙◌, ◌⊎◌, inl, inr}
use Rattle.std.specs.Prelude.{option_map}
use Rattle.std.proofs.lemmas.Bool.{eq-eqb}
use Rattle.cw_table.specs.declared.table.Row.{Row}
use Rattle.cw_table.specs.Rows.{place_at}
use Rattle.cw_tree.specs.declared.leaf.RawName.{RawName}
use Rattle.cw_tree.specs.declared.leaf.RawType.{RawType}
use Rattle.cw_tree.specs.declared.items.RawElem.{RawElem}
use Rattle.cw_tree.specs.declared.items.RawGroup.{RawGroup}
use Rattle.cw_tree.specs.declared.items.RawTable.{RawTable}
use Rattle.cw_tree.specs.declared.items.RawData.{RawData}
use Rattle.cw_tree.specs.declared.items.RawData.TheVariants as items
use Rattle.cw_tree.specs.declared.segment.RawComm.{RawComm}
use Rattle.cw_tree.specs.declared.segment.RawComm.TheVariants as comm
use Rattle.cw_tree.specs.declared.segment.RawCitem.{RawCitem}
use Rattle.cw_tree.specs.declared.segment.RawCitem.TheVariants as citem
use Rattle.cw_tree.specs.declared.segment.RawAitem.{RawAitem}
use Rattle.cw_tree.specs.declared.segment.RawAitem.TheVariants as aitem
use Rattle.cw_tree.specs.declared.segment.RawSpec.{RawSpec}
use Rattle.cw_facts.specs.declared.fact.Declaration.{Declaration}
use Rattle.cw_facts.specs.declared.fact.Fact.{Fact}
use Rattle.cw_facts.specs.declared.fact.Fact.TheFolds.{fold-roll-Fact}
use Rattle.cw_facts.specs.declared.fact.Fact.TheOpen as layer
use Rattle.cw_facts.specs.declared.fact.Fact.TheVariants as fact
use Rattle.cw_facts.specs.declared.fact.Kind.{Kind}
use Rattle.cw_facts.specs.declared.fact.Kind.TheVariants as kind
use Rattle.cw_facts.specs.declared.fact.Signature.{Signature}
use Rattle.cw_facts.specs.declared.fact.Use.{Use}
use Rattle.cw_facts.specs.declared.fact.Form.TheVariants as form
use Rattle.cw_facts.specs.Facts.{declares, specifies, each_declares, groups_facts, elements_facts, element_name, table_facts, data_facts, base_name, base_facts}
use Rattle.cw_facts.specs.Text.{library_kind, spec_facts, library_facts, citem_facts, citems_facts, aitem_facts, aitems_facts, communicator_facts, communicators_facts}
use Rattle.cw_scope.specs.NameRules.{Said, said, said_step, is_data}
use Rattle.cw_number.specs.declared.listed.Listing.{Listing}
use Rattle.cw_number.specs.declared.listed.Listing.TheVariants as listing
use Rattle.cw_number.specs.Listed.{each_listed, groups_listed, data_listed, citem_listed, citems_listed, specs_listed, communicator_listed, communicators_listed}
use Rattle.cw_judge.specs.Judged.{aitem_address, aitems_addresses, communicator_addresses, absolute_addresses}
use Rattle.cw_sound.proofs.Items.Lists.{In, in-left, in-right, in-either}
use Rattle.cw_sound.proofs.Items.Says.{declared, declared-append, said-declares}
use Rattle.cw_sound.proofs.Items.Resolving.{row_tokens}

-- ---- the tokens of rows joined

tokens-join : {T : Type 0} (ls bs : List (Row T)) → row_tokens (ls ++ bs) ≡ row_tokens ls ++ row_tokens bs
tokens-join [] bs = refl
tokens-join (r ∷ ls) bs = ap (λ ts. r.token ∷ ts) (tokens-join ls bs)

token-left : {T : Type 0} (t : ℕ) (ls bs : List (Row T)) → In t (row_tokens ls) → In t (row_tokens (ls ++ bs))
token-left t ls bs i = subst (In t) (sym (tokens-join ls bs)) (in-left t (row_tokens ls) (row_tokens bs) i)

token-right : {T : Type 0} (t : ℕ) (ls bs : List (Row T)) → In t (row_tokens bs) → In t (row_tokens (ls ++ bs))
token-right t ls bs i = subst (In t) (sym (tokens-join ls bs)) (in-right t (row_tokens ls) (row_tokens bs) i)

-- ---- data of facts

-- each declared item has a token with a property
abbrev DataIn : (ℕ → Type 0) → List Fact → Type 0
DataIn P facts = (d : Declaration) → In d (declared facts) → is_data d.kind ≡ true → P d.name.at.token

nothing-in : (P : ℕ → Type 0) → DataIn P []
nothing-in P d i y = absurd i

both-in : (P : ℕ → Type 0) (a b : List Fact) → DataIn P a → DataIn P b → DataIn P (a ++ b)
both-in P a b h k d i y = elim (in-either d (declared a) (declared b) (subst (In d) (declared-append a b) i)) [ inl l ↦ h d l y | inr r ↦ k d r y ]

weaker-in : (P Q : ℕ → Type 0) (a : List Fact) → ((t : ℕ) → P t → Q t) → DataIn P a → DataIn Q a
weaker-in P Q a w h d i y = w d.name.at.token (h d i y)

of-one : (P : ℕ → Type 0) (c : Declaration) → (is_data c.kind ≡ true → P c.name.at.token) → DataIn P (fact.Declares c ∷ [])
of-one P c h d i y = of-declared (subst (λ (x : Said). In d (x.declared ++ [])) (said-declares c) i)
  where
    of-declared : In d (c ∷ []) → P d.name.at.token
    of-declared (inl e) = subst (λ (x : Declaration). P x.name.at.token) (sym e) (h (sym (ap (λ (x : Declaration). is_data x.kind) e) ∙ y))
    of-declared (inr j) = absurd j

other-kind : (P : ℕ → Type 0) (k : Kind) (n : RawName) → is_data k ≡ false → DataIn P (declares n k ∷ [])
other-kind P k n h = of-one P (record { name = n; kind = k }) (λ y. absurd (let no : true ≡ false = sym y ∙ h in absurd cc))

other-kinds : (P : ℕ → Type 0) (k : Kind) (ns : List RawName) → is_data k ≡ false → DataIn P (each_declares k ns)
other-kinds P k [] h = nothing-in P
other-kinds P k (n ∷ ns) h = both-in P (declares n k ∷ []) (each_declares k ns) (other-kind P k n h) (other-kinds P k ns h)

said-specifies : (token : ℕ) (s : Signature) → said (fact.Specifies token s) ≡ said_step (layer.Specifies token s)
said-specifies token s = ap said (sym (fact.rolls-Specifies token s)) ∙ fold-roll-Fact Said said_step (layer.Specifies token s)

said-uses : (u : Use) → said (fact.Uses u) ≡ said_step (layer.Uses u)
said-uses u = ap said (sym (fact.rolls-Uses u)) ∙ fold-roll-Fact Said said_step (layer.Uses u)

of-base : (P : ℕ → Type 0) (n : RawName) → DataIn P (fact.Uses (record { name = n; form = form.Base }) ∷ [])
of-base P n d i y = absurd (subst (λ (x : Said). In d (x.declared ++ [])) (said-uses (record { name = n; form = form.Base })) i)

of-spec : (P : ℕ → Type 0) (k : Kind) (s : RawSpec) → is_data k ≡ false → DataIn P (spec_facts k s)
of-spec P k s h =
    both-in P (declares s.name k ∷ []) (specifies s.name.at.token s.answer s.params ∷ []) (other-kind P k s.name h)
    (λ d i y. absurd (subst (λ (x : Said). In d (x.declared ++ [])) (said-specifies s.name.at.token (record { answer = s.answer; params = s.params })) i))

of-elements : (P : ℕ → Type 0) (table : RawName) (es : List RawElem) → DataIn P (elements_facts table es)
of-elements P table [] = nothing-in P
of-elements P table (e ∷ es) = both-in P (declares (element_name e) (kind.Element table e) ∷ []) (elements_facts table es) (other-kind P (kind.Element table e) (element_name e) refl) (of-elements P table es)

of-table : (P : ℕ → Type 0) (k : Kind) (t : RawTable) → P t.name.at.token → DataIn P (table_facts k t)
of-table P k t h = both-in P (declares t.name k ∷ []) (elements_facts t.name t.elems) (of-one P (record { name = t.name; kind = k }) (λ y. h)) (of-elements P t.name t.elems)

-- ---- COMMON

abbrev Lists : List (Row Listing) → ℕ → Type 0
Lists rows t = In t (row_tokens rows)

of-each : (k : Kind) (ns : List RawName) → DataIn (Lists (each_listed listing.Data ns)) (each_declares k ns)
of-each k [] = nothing-in (Lists [])
of-each k (n ∷ ns) =
    both-in (Lists (each_listed listing.Data (n ∷ ns))) (declares n k ∷ []) (each_declares k ns) (of-one (Lists (each_listed listing.Data (n ∷ ns))) (record { name = n; kind = k }) (λ y. inl refl))
    (weaker-in (Lists (each_listed listing.Data ns)) (Lists (each_listed listing.Data (n ∷ ns))) (each_declares k ns) (λ t i. inr i) (of-each k ns))

two-lists : (ls bs : List (Row Listing)) (a b : List Fact) → DataIn (Lists ls) a → DataIn (Lists bs) b → DataIn (Lists (ls ++ bs)) (a ++ b)
two-lists ls bs a b h k = both-in (Lists (ls ++ bs)) a b (weaker-in (Lists ls) (Lists (ls ++ bs)) a (λ t i. token-left t ls bs i) h) (weaker-in (Lists bs) (Lists (ls ++ bs)) b (λ t i. token-right t ls bs i) k)

of-groups : (t : RawType) (gs : List RawGroup) → DataIn (Lists (groups_listed gs)) (groups_facts t gs)
of-groups t [] = nothing-in (Lists [])
of-groups t (g ∷ gs) = two-lists (each_listed listing.Data g.names) (groups_listed gs) (each_declares (kind.Array t g.bounds) g.names) (groups_facts t gs) (of-each (kind.Array t g.bounds) g.names) (of-groups t gs)

of-data : (d : RawData) → DataIn (Lists (data_listed d)) (data_facts d)
of-data (items.Singles t ns presets) = of-each (kind.Single t) ns
of-data (items.Arrays t gs presets) = of-groups t gs
of-data (items.Table t inside behind) = of-table (Lists (data_listed (items.Table t inside behind))) (kind.Table t.size) t (inl refl)

of-citem : (i : RawCitem) → DataIn (Lists (citem_listed i)) (citem_facts i)
of-citem (citem.Data d) = of-data d
of-citem (citem.Overlay at b d) = both-in (Lists (data_listed d)) (base_facts b) (data_facts d) (of-base (Lists (data_listed d)) (base_name b)) (of-data d)
of-citem (citem.Label at ns) = other-kinds (Lists (each_listed listing.Label ns)) kind.Label ns refl
of-citem (citem.Switch at ns) = other-kinds (Lists (each_listed listing.Switch ns)) kind.Switch ns refl
of-citem (citem.Spec s) = of-spec (Lists (citem_listed (citem.Spec s))) (kind.Proc s.answer) s refl

of-citems : (is : List RawCitem) → DataIn (Lists (citems_listed is)) (citems_facts is)
of-citems [] = nothing-in (Lists [])
of-citems (i ∷ is) = two-lists (citem_listed i) (citems_listed is) (citem_facts i) (citems_facts is) (of-citem i) (of-citems is)

no-data : (a b c : Bool) (k : Kind) → is_data k ≡ false → is_data (cond a kind.ReadByte (cond b kind.WriteByte (cond c kind.Bounds k))) ≡ false
no-data true b c k h = refl
no-data false true c k h = refl
no-data false false true k h = refl
no-data false false false k h = h

of-library : (P : ℕ → Type 0) (ss : List RawSpec) → DataIn P (library_facts ss)
of-library P [] = nothing-in P
of-library P (s ∷ ss) = both-in P (spec_facts (library_kind s.name.name (kind.Proc s.answer)) s) (library_facts ss) (of-spec P (library_kind s.name.name (kind.Proc s.answer)) s (no-data _ _ _ (kind.Proc s.answer) refl)) (of-library P ss)

-- ---- ABSOLUTE

abbrev At : List (Row ℕ) → ℕ → Type 0
At rows t = In t (row_tokens rows)

of-aitem : (i : RawAitem) → DataIn (At (aitem_address i ∷ [])) (aitem_facts i)
of-aitem (aitem.Single t n a) = of-one (At (aitem_address (aitem.Single t n a) ∷ [])) (record { name = n; kind = kind.Single t }) (λ y. inl refl)
of-aitem (aitem.Array t n b a) = of-one (At (aitem_address (aitem.Array t n b a) ∷ [])) (record { name = n; kind = kind.Array t b }) (λ y. inl refl)
of-aitem (aitem.Table t a) = of-table (At (aitem_address (aitem.Table t a) ∷ [])) (kind.Table t.size) t (inl refl)

of-aitems : (is : List RawAitem) → DataIn (At (aitems_addresses is)) (aitems_facts is)
of-aitems [] = nothing-in (At [])
of-aitems (i ∷ is) =
    both-in (At (aitems_addresses (i ∷ is))) (aitem_facts i) (aitems_facts is) (weaker-in (At (aitem_address i ∷ [])) (At (aitems_addresses (i ∷ is))) (aitem_facts i) (λ t j. elim j [ inl e ↦ inl e | inr k ↦ absurd k ]) (of-aitem i))
    (weaker-in (At (aitems_addresses is)) (At (aitems_addresses (i ∷ is))) (aitems_facts is) (λ t j. inr j) (of-aitems is))

-- ---- all communicators

abbrev Either : List RawComm → ℕ → Type 0
Either cs t = Lists (communicators_listed cs) t ⊎ At (absolute_addresses cs) t

of-communicator : (c : RawComm) → DataIn (λ t. Lists (communicator_listed c) t ⊎ At (communicator_addresses c) t) (communicator_facts c)
of-communicator (comm.Common at is) = weaker-in (Lists (citems_listed is)) (λ t. Lists (citems_listed is) t ⊎ At [] t) (citems_facts is) (λ t i. inl i) (of-citems is)
of-communicator (comm.Library at ss) = of-library (λ t. Lists (specs_listed ss) t ⊎ At [] t) ss
of-communicator (comm.Absolute at is) = weaker-in (At (aitems_addresses is)) (λ t. Lists [] t ⊎ At (aitems_addresses is) t) (aitems_facts is) (λ t i. inr i) (of-aitems is)

pub of-communicators : (cs : List RawComm) → DataIn (Either cs) (communicators_facts cs)
of-communicators [] = nothing-in (Either [])
of-communicators (c ∷ cs) =
    both-in (Either (c ∷ cs)) (communicator_facts c) (communicators_facts cs)
    (weaker-in (λ t. Lists (communicator_listed c) t ⊎ At (communicator_addresses c) t) (Either (c ∷ cs)) (communicator_facts c)
    (λ t i. elim i [ inl l ↦ inl (token-left t (communicator_listed c) (communicators_listed cs) l) | inr a ↦ inr (token-left t (communicator_addresses c) (absolute_addresses cs) a) ]) (of-communicator c))
    (weaker-in (Either cs) (Either (c ∷ cs)) (communicators_facts cs)
    (λ t i. elim i [ inl l ↦ inl (token-right t (communicator_listed c) (communicators_listed cs) l) | inr a ↦ inr (token-right t (communicator_addresses c) (absolute_addresses cs) a) ]) (of-communicators cs))

-- ---- rows of a token that is there

abbrev HasPlace : {T : Type 0} → List (Row T) → ℕ → Type 0
HasPlace rows t = (d : ℕ) × (place_at rows t ≡ Some d)

placed-next : {T : Type 0} (r : Row T) (rs : List (Row T)) (t : ℕ) (b : Bool) → nat_eq t r.token ≡ b → HasPlace rs t ⊎ (t ≡ r.token) → HasPlace (r ∷ rs) t
placed-next r rs t true e h = (0, ap (λ b. cond b (Some 0) (option_map suc (place_at rs t))) e)
placed-next r rs t false e (inl p) = (suc p.0, ap (λ b. cond b (Some 0) (option_map suc (place_at rs t))) e ∙ ap (option_map suc) p.1)
placed-next r rs t false e (inr s) = absurd (let no : true ≡ false = sym (eq-eqb t r.token s) ∙ e in absurd cc)

pub placed : {T : Type 0} (rs : List (Row T)) (t : ℕ) → In t (row_tokens rs) → HasPlace rs t
placed [] t i = absurd i
placed (r ∷ rs) t (inl e) = placed-next r rs t (nat_eq t r.token) refl (inr e)
placed (r ∷ rs) t (inr i) = placed-next r rs t (nat_eq t r.token) refl (inl (placed rs t i))
