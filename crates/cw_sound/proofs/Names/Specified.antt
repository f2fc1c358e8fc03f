-- Each specification is of a procedure that is declared.
use Rattle.std.proofs.Common.{◌≡◌, ◌⊎◌, inl, inr, ℕ, List, [], ◌∷◌, ◌++◌, Bool, true, false, IsTrue, Option, Some, None, refl, sym, ap, ap₂, subst, ◌∙◌, append-nil}
use Rattle.cw_table.specs.declared.table.Row.{Row}
use Rattle.cw_tree.specs.declared.leaf.RawName.{RawName}
use Rattle.cw_tree.specs.declared.leaf.RawType.{RawType}
use Rattle.cw_tree.specs.declared.items.RawElem.{RawElem}
use Rattle.cw_tree.specs.declared.items.RawGroup.{RawGroup}
use Rattle.cw_tree.specs.declared.items.RawData.{RawData}
use Rattle.cw_tree.specs.declared.items.RawData.TheVariants as items
use Rattle.cw_tree.specs.declared.statement.RawParam.{RawParam}
use Rattle.cw_tree.specs.declared.statement.RawParam.TheVariants as raw
use Rattle.cw_tree.specs.declared.statement.RawProc.{out-RawProc}
use Rattle.cw_tree.specs.declared.segment.RawPs.{RawPs}
use Rattle.cw_make.specs.Labels.{proc_within}
use Rattle.cw_facts.specs.declared.fact.Fact.{Fact}
use Rattle.cw_facts.specs.declared.fact.Fact.TheVariants as fact
use Rattle.cw_facts.specs.declared.fact.Form.TheVariants as form
use Rattle.cw_facts.specs.declared.fact.Declaration.{Declaration}
use Rattle.cw_facts.specs.declared.fact.Kind.{Kind as NameKind}
use Rattle.cw_facts.specs.declared.fact.Kind.TheVariants as kind
use Rattle.cw_facts.specs.declared.fact.Signature.{Signature}
use Rattle.cw_facts.specs.Facts.{declares, specifies, each_declares, each_uses, element_name, elements_facts, groups_facts, data_facts, parameter_facts, parameters_facts, answer_facts, answer_name, type_position}
use Rattle.cw_facts.specs.Signatures.{plain, flattened}
use Rattle.cw_scope.specs.declared.resolve.Named.{Named}
use Rattle.cw_scope.specs.Resolved.{fact_signatures, text_signatures}
use Rattle.cw_make_items.specs.Lookup.{Numbers}
use Rattle.cw_number.specs.declared.listed.Listing.{Listing}
use Rattle.cw_unit.specs.declared.unit.Proc.{Proc}
use Rattle.cw_unit.specs.declared.unit.Switch.{Switch}
use Rattle.cw_unit.specs.declared.descriptor.Desc.{Desc}
use Rattle.cw_sound.specs.Uses.Mentions.{In, Here, here, declares as declared, facts_mentions}
use Rattle.cw_sound.proofs.Names.Parts as part
use Rattle.cw_sound.proofs.Names.Parts.{Part}
use Rattle.cw_sound.proofs.Names.Lists.{in_left, in_right, in_either}
use Rattle.cw_sound.proofs.Names.Rows.{mentions_append}
use Rattle.cw_sound.proofs.Names.MentionsOf.{declared_first, specified_first, block_alone, signatures_use, signatures_block, signatures_append, declared_before, specified_before}
use Rattle.cw_sound.proofs.Names.PartKinds.{params}
use Rattle.cw_sound.proofs.Names.ListedParts as listed
use Rattle.cw_sound.proofs.Names.ListedParts.{Listed, is_special}

abbrev pub is_specified : NameKind → Bool
is_specified (kind.Proc t) = true
is_specified (kind.ProcParam t) = true
is_specified kind.ReadByte = true
is_specified kind.WriteByte = true
is_specified kind.Bounds = true
is_specified _ = false

pub record SpecifiedIn (ms : List Here) (r : Row Signature) : Type 0 where
  pub owner : Option ℕ
  pub declaration : Declaration
  pub is_declared : In (here owner (declared declaration)) ms
  pub is_token : declaration.name.at.token ≡ r.token
  pub is_kind : IsTrue (is_specified declaration.kind)

more_specified : (ms ns : List Here) (r : Row Signature) → ((h : Here) → In h ms → In h ns) → SpecifiedIn ms r → SpecifiedIn ns r
more_specified ms ns r sub s = record { owner = s.owner; declaration = s.declaration; is_declared = sub (here s.owner (declared s.declaration)) s.is_declared; is_token = s.is_token; is_kind = s.is_kind }

not_in : {X : Type 0} → (x : X) (xs : List X) → xs ≡ [] → In x xs → ⊥
not_in x xs e i = subst (In x) e i

either : {A B C : Type 0} → A ⊎ B → (A → C) → (B → C) → C
either (inl x) h k = h x
either (inr y) h k = k y

-- ---- facts without specifications

pub each_none : (k : NameKind) (ns : List RawName) → text_signatures (each_declares k ns) ≡ []
each_none k [] = refl
each_none k (n ∷ ns) = declared_before n k (each_declares k ns) ∙ each_none k ns

pub elements_none : (table : RawName) (es : List RawElem) → text_signatures (elements_facts table es) ≡ []
elements_none table [] = refl
elements_none table (e ∷ es) = declared_before (element_name e) (kind.Element table e) (elements_facts table es) ∙ elements_none table es

pub uses_none : (ns : List RawName) → text_signatures (each_uses ns) ≡ []
uses_none [] = refl
uses_none (n ∷ ns) = ap (λ rs. rs ++ text_signatures (each_uses ns)) (signatures_use (record { name = n; form = form.Listed })) ∙ uses_none ns

groups_none : (t : RawType) (gs : List RawGroup) → text_signatures (groups_facts t gs) ≡ []
groups_none t [] = refl
groups_none t (g ∷ gs) = signatures_append (each_declares (kind.Array t g.bounds) g.names) (groups_facts t gs) ∙ ap₂ (λ a b. a ++ b) (each_none (kind.Array t g.bounds) g.names) (groups_none t gs)

pub data_none : (d : RawData) → text_signatures (data_facts d) ≡ []
data_none (items.Singles t ns presets) = each_none (kind.Single t) ns
data_none (items.Arrays t gs presets) = groups_none t gs
data_none (items.Table t inside behind) = declared_before t.name (kind.Table t.size) (elements_facts t.name t.elems) ∙ elements_none t.name t.elems

pub answer_none : (o : Option RawType) → text_signatures (answer_facts o) ≡ []
answer_none None = refl
answer_none (Some t) = declared_before (answer_name (type_position t)) (kind.Answer t) []

module _ (numbers : Numbers) where
  abbrev pub AllSpecified : List Fact → Type 0
  AllSpecified fs = (q : Option ℕ) (r : Row Signature) → In r (text_signatures fs) → SpecifiedIn (facts_mentions numbers fs q) r

  without : (fs : List Fact) → text_signatures fs ≡ [] → AllSpecified fs
  without fs e q r i = absurd (not_in r (text_signatures fs) e i)

  pub specified_both : (fs gs : List Fact) → AllSpecified fs → AllSpecified gs → AllSpecified (fs ++ gs)
  specified_both fs gs h k q r i =
      subst (λ ms. SpecifiedIn ms r) (sym (mentions_append numbers fs gs q))
      (either (in_either r (text_signatures fs) (text_signatures gs) (subst (In r) (signatures_append fs gs) i))
      (λ j. more_specified (facts_mentions numbers fs q) (facts_mentions numbers fs q ++ facts_mentions numbers gs q) r (λ x. in_left x (facts_mentions numbers fs q) (facts_mentions numbers gs q)) (h q r j))
      (λ j. more_specified (facts_mentions numbers gs q) (facts_mentions numbers fs q ++ facts_mentions numbers gs q) r (λ x. in_right x (facts_mentions numbers fs q) (facts_mentions numbers gs q)) (k q r j)))

  -- a declaration with its specification, before other facts
  one_specified : (n : RawName) (k : NameKind) (answer : Option RawType) (ps : List RawPs) (fs : List Fact) → IsTrue (is_specified k) → AllSpecified fs → AllSpecified (declares n k ∷ specifies n.at.token answer ps ∷ fs)
  one_specified n k answer ps fs h rest q r i =
      subst (λ ms. SpecifiedIn ms r) (sym (declared_first numbers n k (specifies n.at.token answer ps ∷ fs) q ∙ ap (λ ms. here q (declared (record { name = n; kind = k })) ∷ ms) (specified_first numbers n.at.token answer ps fs q)))
      (by_side (subst (In r) (declared_before n k (specifies n.at.token answer ps ∷ fs) ∙ specified_before n.at.token answer ps fs) i))
    where
      by_side : In r (record { token = n.at.token; item = record { answer = answer; params = ps } } ∷ text_signatures fs) → SpecifiedIn (here q (declared (record { name = n; kind = k })) ∷ facts_mentions numbers fs q) r
      by_side (inl e) = record { owner = q; declaration = record { name = n; kind = k }; is_declared = inl refl; is_token = ap (λ (x : Row Signature). x.token) e; is_kind = h }
      by_side (inr j) = more_specified (facts_mentions numbers fs q) (here q (declared (record { name = n; kind = k })) ∷ facts_mentions numbers fs q) r (λ x y. inr y) (rest q r j)

  parameter_specified : (p : RawParam) → AllSpecified (parameter_facts p)
  parameter_specified (raw.Value at t ns) = without (parameter_facts (raw.Value at t ns)) (each_none (kind.Value t) ns)
  parameter_specified (raw.Location at t ns) = without (parameter_facts (raw.Location at t ns)) (each_none (kind.Location t) ns)
  parameter_specified (raw.Array t ns) = without (parameter_facts (raw.Array t ns)) (each_none (kind.ArrayParam t) ns)
  parameter_specified (raw.Table t) = without (parameter_facts (raw.Table t)) (declared_before t.name (kind.TableParam t.size) (elements_facts t.name t.elems) ∙ elements_none t.name t.elems)
  parameter_specified (raw.Label at ns) = without (parameter_facts (raw.Label at ns)) (each_none kind.LabelParam ns)
  parameter_specified (raw.Switch at ns) = without (parameter_facts (raw.Switch at ns)) (each_none kind.SwitchParam ns)
  parameter_specified (raw.Proc answer at n ps) = one_specified n (kind.ProcParam answer) answer (plain ps) [] refl (without [] refl)

  parameters_specified : (ps : List RawParam) → AllSpecified (parameters_facts ps)
  parameters_specified [] = without [] refl
  parameters_specified (p ∷ ps) = specified_both (parameter_facts p) (parameters_facts ps) (parameter_specified p) (parameters_specified ps)

  in_block : (owner : Option ℕ) (fs : List Fact) → AllSpecified fs → AllSpecified (fact.Block owner fs ∷ [])
  in_block owner fs h q r i =
      subst (λ ms. SpecifiedIn ms r) (sym (block_alone numbers owner fs q))
      (h (proc_within numbers owner q) r (subst (In r) (append-nil (fact_signatures (fact.Block owner fs)) ∙ signatures_block owner fs) i))

  special_kind : (k : NameKind) → IsTrue (is_special k) → IsTrue (is_specified k)
  special_kind kind.ReadByte h = refl
  special_kind kind.WriteByte h = refl
  special_kind kind.Bounds h = refl
  special_kind (kind.Proc t) h = refl
  special_kind (kind.ProcParam t) h = refl
  special_kind _ h = absurd (cc)

  pub listed_specified : {fs : List Fact} {rs : List (Row Listing)} {ds : List Desc} → Listed fs rs ds → AllSpecified fs
  listed_specified listed.none = without [] refl
  listed_specified (listed.also {fs} {gs} a b) = specified_both fs gs (listed_specified a) (listed_specified b)
  listed_specified (listed.used x) = without (fact.Uses x ∷ []) (ap (λ rs. rs ++ []) (signatures_use x))
  listed_specified (listed.stored n k d e w) = without (declares n k ∷ []) (declared_before n k [])
  listed_specified (listed.unlisted n k e) = without (declares n k ∷ []) (declared_before n k [])
  listed_specified (listed.label n) = without (declares n kind.Label ∷ []) (declared_before n kind.Label [])
  listed_specified (listed.switch n) = without (declares n kind.Switch ∷ []) (declared_before n kind.Switch [])
  listed_specified (listed.procedure l s) = one_specified s.name (kind.Proc s.answer) s.answer s.params [] refl (without [] refl)
  listed_specified (listed.special k s e) = one_specified s.name k s.answer s.params [] (special_kind k e) (without [] refl)

module _ (named : Named) (numbers : Numbers) where
  pub part_specified : {fs : List Fact} {ws : Option ℕ → List Switch} {ps : List Proc} {s : ℕ → Bool} → Part named numbers fs ws ps s → AllSpecified numbers fs
  part_specified part.empty = without numbers [] refl
  part_specified (part.both {fs} {gs} a b) = specified_both numbers fs gs (part_specified a) (part_specified b)
  part_specified (part.plain {fs} h) = without numbers fs h.signatures
  part_specified (part.items d) = without numbers (data_facts d) (data_none d)
  part_specified (part.label n) = without numbers (declares n kind.Label ∷ []) (declared_before n kind.Label [])
  part_specified (part.switch n labels) = without numbers (declares n kind.Switch ∷ each_uses labels) (declared_before n kind.Switch (each_uses labels) ∙ uses_none labels)
  part_specified (part.block {fs} a) = in_block numbers None fs (part_specified a)
  part_specified (part.procedure p {fs} a) =
      one_specified numbers (out-RawProc p).name (kind.Proc (out-RawProc p).answer) (out-RawProc p).answer (flattened (out-RawProc p).params) (fact.Block (Some (out-RawProc p).name.at.token) (answer_facts (out-RawProc p).answer ++ (parameters_facts (out-RawProc p).params ++ fs)) ∷ []) refl
      (in_block numbers (Some (out-RawProc p).name.at.token) (answer_facts (out-RawProc p).answer ++ (parameters_facts (out-RawProc p).params ++ fs))
      (specified_both numbers (answer_facts (out-RawProc p).answer) (parameters_facts (out-RawProc p).params ++ fs) (without numbers (answer_facts (out-RawProc p).answer) (answer_none (out-RawProc p).answer))
      (specified_both numbers (parameters_facts (out-RawProc p).params) fs (parameters_specified numbers (out-RawProc p).params) (part_specified a))))
  part_specified (part.more h a) = part_specified a
