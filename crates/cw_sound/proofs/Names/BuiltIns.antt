-- READBYTE, WRITEBYTE and BOUNDS are listed by a LIBRARY, as they are specified.
use Rattle.std.proofs.Common.{◌≡◌, ◌⊎◌, inl, inr, ℕ, List, [], ◌∷◌, ◌++◌, map, Bool, true, false, not, nat_eq, IsTrue, ◌&&◌, Option, Some, None, is_some, refl, sym, ap, ap₂, subst, ◌∙◌}
use Rattle.std.proofs.lemmas.Bool.{eqb-true}
use Rattle.std.proofs.lemmas.Option.{same_Some}
use Rattle.std.specs.declared.result.Result.TheVariants as result
use Rattle.cw_table.specs.declared.table.Row.{Row}
use Rattle.cw_table.specs.Rows.{item_at}
use Rattle.cw_tree.specs.declared.leaf.RawName.{RawName}
use Rattle.cw_tree.specs.declared.segment.RawSpec.{RawSpec}
use Rattle.cw_facts.specs.declared.fact.Fact.{Fact, Fact-F, map-Fact, roll-Fact}
use Rattle.cw_facts.specs.declared.fact.Fact.TheFolds.{fold-roll-Fact, ind-Fact}
use Rattle.cw_facts.specs.declared.fact.Fact.TheOpen as layer
use Rattle.cw_facts.specs.declared.fact.Fact.TheVariants as fact
use Rattle.cw_facts.specs.declared.fact.Declaration.{Declaration}
use Rattle.cw_facts.specs.declared.fact.Kind.{Kind as NameKind}
use Rattle.cw_facts.specs.declared.fact.Kind.TheVariants as kind
use Rattle.cw_facts.specs.declared.fact.Signature.{Signature}
use Rattle.cw_facts.specs.declared.fact.Use.{Use}
use Rattle.cw_tree.specs.declared.leaf.RawType.{RawType}
use Rattle.cw_tree.specs.declared.statement.RawProc.{out-RawProc}
use Rattle.cw_facts.specs.Facts.{declares, specifies, each_uses, block_facts}
use Rattle.cw_facts.specs.Text.{spec_facts, communicators_facts, text_facts}
use Rattle.cw_scope.specs.declared.resolve.Named.{Named}
use Rattle.cw_scope.specs.declared.fault.Rule.TheVariants as rule
use Rattle.cw_scope.specs.Outcome.{Resolves}
use Rattle.cw_scope.specs.NameRules.{Said, said, said_step, all_declared, is_procedure}
use Rattle.cw_scope.specs.Definitions.{answers_nothing, takes_nothing, Defined, defined, defined_step, each_listed, fits_built_in_if}
use Rattle.cw_scope.specs.Resolved.{text_signatures}
use Rattle.cw_scale.specs.Arguments.{answers_alone, takes_none}
use Rattle.cw_number.specs.declared.listed.Listing.{Listing}
use Rattle.cw_number.specs.Listed.{listed_of}
use Rattle.cw_make_items.specs.Lookup.{Numbers}
use Rattle.cw_make_items.specs.Descriptors.{descs_of}
use Rattle.cw_unit.specs.declared.unit.Proc.{Proc}
use Rattle.cw_unit.specs.declared.unit.Switch.{Switch}
use Rattle.cw_unit.specs.declared.descriptor.Desc.{Desc}
use Rattle.cw_items.specs.declared.thing.Thing.{Thing}
use Rattle.cw_sound.specs.Uses.Mentions.{In, Mention, Here, here, declares as declared, uses, stores, facts_mentions, listed_mentions, block_mentions, text_mentions}
use Rattle.cw_sound.specs.Names.Placed.{Placed}
use Rattle.cw_sound.specs.Names.Standing.{AnswersAreCalled}
use Rattle.cw_sound.proofs.Names.Parts as part
use Rattle.cw_sound.proofs.Names.Parts.{Part}
use Rattle.cw_sound.proofs.Names.Lists.{in_left, in_right, in_either}
use Rattle.cw_sound.proofs.Names.NoFaults.{parts, holds, definitions_keep}
use Rattle.cw_sound.proofs.Names.FoundRows.{at_first, at_later}
use Rattle.cw_sound.proofs.Names.Rows.{mentions_append}
use Rattle.cw_sound.proofs.Names.MentionsOf.{declared_first, specified_first, block_alone, of_use}
use Rattle.cw_sound.proofs.Names.InProcedure.{is_parameter, parameters_say, answer_says}
use Rattle.cw_sound.proofs.Names.PartKinds.{is_data, data_say, uses_say, shape, answers, params, body, first_mention, within_it, data_not, parameter_not, plain_not}
use Rattle.cw_sound.proofs.Names.Sorts.{of_kind}
use Rattle.cw_sound.proofs.Names.UsesFound.{no_faults, is_declared}
use Rattle.cw_sound.proofs.Names.TreeParts.{block_parts}
use Rattle.cw_sound.proofs.Names.ListedParts as listed
use Rattle.cw_sound.proofs.Names.ListedParts.{Listed, is_special, communicators_parts}
use Rattle.cw_sound.proofs.Names.DescriptorNames.{declared_append, declares_it}
use Rattle.cw_sound.proofs.Names.Specified.{is_specified, SpecifiedIn, specified_both, listed_specified, part_specified}

-- ---- what is declared in a block itself has the specification that its kind asks for

module _ (sigs : List (Row Signature)) where
  abbrev Fits : Declaration → Type 0
  Fits d = IsTrue (fits_built_in_if d.kind (item_at sigs d.name.at.token))

  abbrev FitsSaid : Said → Defined sigs → Type 0
  FitsSaid s x = (cs : List Declaration) (d : Declaration) → In d s.declared → x.listed cs None ≡ None → Fits d

  fits : (x : Fact-F Fact) → FitsSaid (said_step (map-Fact Fact Said said x)) (defined_step sigs (map-Fact Fact (Defined sigs) (defined sigs) x))
  fits (layer.Declares c) cs d (inl e) f = subst Fits e (holds (fits_built_in_if c.kind (item_at sigs c.name.at.token)) rule.SpecDiffers c.name f)
  fits (layer.Declares c) cs d (inr h) f = absurd h
  fits _ cs d h f = absurd h

  fact_fits : (f : Fact) → FitsSaid (said f) (defined sigs f)
  fact_fits = ind-Fact (λ f. FitsSaid (said f) (defined sigs f)) (λ x y is.
      subst (λ s. FitsSaid s (defined sigs (roll-Fact x))) (sym (fold-roll-Fact Said said_step x))
      (subst (FitsSaid (said_step (map-Fact Fact Said said x))) (sym (fold-roll-Fact (Defined sigs) (defined_step sigs) x)) (fits x)))

  either : {A B C : Type 0} → A ⊎ B → (A → C) → (B → C) → C
  either (inl x) h k = h x
  either (inr y) h k = k y

  facts_fit : (fs : List Fact) (cs : List Declaration) (d : Declaration) → In d (all_declared (map said fs)) → each_listed sigs cs (map (defined sigs) fs) None ≡ None → Fits d
  facts_fit [] cs d h e = absurd h
  facts_fit (f ∷ fs) cs d h e =
      let free = parts ((defined sigs f).listed cs) (each_listed sigs cs (map (defined sigs) fs)) (definitions_keep sigs fs cs) e in
      either (in_either d (said f).declared (all_declared (map said fs)) h) (λ i. fact_fits f cs d i free.0) (λ i. facts_fit fs cs d i free.1)

-- ---- what the communicators declare stands in no block of theirs

abbrev declaration_or : Declaration → Mention → Declaration
declaration_or c (declared d) = d
declaration_or c (uses x) = c
declaration_or c (stores token n) = c

abbrev is_declaration : Mention → Bool
is_declaration (declared d) = true
is_declaration (uses x) = false
is_declaration (stores token n) = false

module _ (numbers : Numbers) where
  abbrev Top : List Fact → Type 0
  Top fs = (q owner : Option ℕ) (d : Declaration) → In (here owner (declared d)) (facts_mentions numbers fs q) → In d (all_declared (map said fs))

  top_first : (n : RawName) (k : NameKind) (fs : List Fact) → Top fs → Top (declares n k ∷ fs)
  top_first n k fs rest q owner d i = by_side (subst (In (here owner (declared d))) (declared_first numbers n k fs q) i)
    where
      by_side : In (here owner (declared d)) (here q (declared (record { name = n; kind = k })) ∷ facts_mentions numbers fs q) → In d (all_declared (map said (declares n k ∷ fs)))
      by_side (inl e) =
          let same : record { name = n; kind = k } ≡ d = ap (λ (h : Here). declaration_or d h.mention) e in
          subst (λ z. In z (all_declared (map said (declares n k ∷ fs)))) same (declares_it n k fs)
      by_side (inr j) = in_right d (said (declares n k)).declared (all_declared (map said fs)) (rest q owner d j)

  top_none : Top []
  top_none q owner d i = absurd i

  top_spec : (k : NameKind) (s : RawSpec) → Top (spec_facts k s)
  top_spec k s =
      top_first s.name k (specifies s.name.at.token s.answer s.params ∷ [])
      (λ q owner d i. absurd (subst (In (here owner (declared d))) (specified_first numbers s.name.at.token s.answer s.params [] q) i))

  no_use : (x : Use) → Top (fact.Uses x ∷ [])
  no_use x q owner d i = absurd (by_side (subst (In (here owner (declared d))) (ap (λ ms. ms ++ []) (of_use numbers x q)) i))
    where
      by_side : In (here owner (declared d)) (here q (uses x) ∷ []) → ⊥
      by_side (inl e) = let wrong = ap (λ (h : Here). is_declaration h.mention) e in cc
      by_side (inr j) = j

  both_top : (fs gs : List Fact) → Top fs → Top gs → Top (fs ++ gs)
  both_top fs gs h k q owner d i =
      subst (In d) (sym (declared_append fs gs))
      (by_side (in_either (here owner (declared d)) (facts_mentions numbers fs q) (facts_mentions numbers gs q) (subst (In (here owner (declared d))) (mentions_append numbers fs gs q) i)))
    where
      by_side : In (here owner (declared d)) (facts_mentions numbers fs q) ⊎ In (here owner (declared d)) (facts_mentions numbers gs q) → In d (all_declared (map said fs) ++ all_declared (map said gs))
      by_side (inl j) = in_left d (all_declared (map said fs)) (all_declared (map said gs)) (h q owner d j)
      by_side (inr j) = in_right d (all_declared (map said fs)) (all_declared (map said gs)) (k q owner d j)

  pub top : {fs : List Fact} {rs : List (Row Listing)} {ds : List Desc} → Listed fs rs ds → Top fs
  top listed.none = top_none
  top (listed.also {fs} {gs} a b) = both_top fs gs (top a) (top b)
  top (listed.used x) = no_use x
  top (listed.stored n k d e w) = top_first n k [] top_none
  top (listed.unlisted n k e) = top_first n k [] top_none
  top (listed.label n) = top_first n kind.Label [] top_none
  top (listed.switch n) = top_first n kind.Switch [] top_none
  top (listed.procedure l s) = top_spec (kind.Proc s.answer) s
  top (listed.special k s e) = top_spec k s

-- ---- a block declares none of them

pub data_kind : (k : NameKind) → IsTrue (is_data k) → is_special k ≡ false
data_kind kind.ReadByte h = absurd (cc)
data_kind kind.WriteByte h = absurd (cc)
data_kind kind.Bounds h = absurd (cc)
data_kind _ h = refl

parameter_kind : (k : NameKind) → IsTrue (is_parameter k) → is_special k ≡ false
parameter_kind kind.ReadByte h = absurd (cc)
parameter_kind kind.WriteByte h = absurd (cc)
parameter_kind kind.Bounds h = absurd (cc)
parameter_kind _ h = refl

module _ (named : Named) (numbers : Numbers) where
  abbrev Without : List Here → Type 0
  Without ms = (m : Here) → In m ms → of_kind is_special m.mention ≡ false

  first_without : (q : Option ℕ) (x : Mention) (ms : List Here) → of_kind is_special x ≡ false → Without ms → Without (here q x ∷ ms)
  first_without q x ms e h m (inl is) = subst (λ (n : Here). of_kind is_special n.mention ≡ false) is e
  first_without q x ms e h m (inr i) = h m i

  append_without : (xs ys : List Here) → Without xs → Without ys → Without (xs ++ ys)
  append_without [] ys h k m i = k m i
  append_without (x ∷ xs) ys h k m (inl e) = h m (inl e)
  append_without (x ∷ xs) ys h k m (inr i) = append_without xs ys (λ n j. h n (inr j)) k m i

  pub part_without : {fs : List Fact} {ws : Option ℕ → List Switch} {ps : List Proc} {s : ℕ → Bool} → Part named numbers fs ws ps s → (q : Option ℕ) → Without (facts_mentions numbers fs q)
  part_without part.empty q = λ m i. absurd i
  part_without (part.both {fs} {gs} a b) q = subst Without (sym (mentions_append numbers fs gs q)) (append_without (facts_mentions numbers fs q) (facts_mentions numbers gs q) (part_without a q) (part_without b q))
  part_without (part.plain {fs} h) q = λ m i. plain_not is_special m.mention (h.mentions q m i).1
  part_without (part.items d) q = λ m i. data_not is_special data_kind m.mention (data_say numbers d q m i).1
  part_without (part.label n) q = subst Without (sym (declared_first numbers n kind.Label [] q)) (first_without q (declared (record { name = n; kind = kind.Label })) [] refl (λ m i. absurd i))
  part_without (part.switch n labels) q =
      subst Without (sym (declared_first numbers n kind.Switch (each_uses labels) q))
      (first_without q (declared (record { name = n; kind = kind.Switch })) (facts_mentions numbers (each_uses labels) q) refl (λ m i. plain_not is_special m.mention (uses_say numbers labels q m i).1))
  part_without (part.block {fs} a) q = subst Without (sym (block_alone numbers None fs q)) (part_without a q)
  part_without (part.procedure p {fs} a) q =
      let who : Option ℕ = within_it named numbers p fs q in
      subst Without (sym (shape named numbers p fs q))
      (first_without q (first_mention named numbers p fs q).mention (answers named numbers p fs q ++ (params named numbers p fs q ++ body named numbers p fs q)) refl
      (append_without (answers named numbers p fs q) (params named numbers p fs q ++ body named numbers p fs q) (λ m i. parameter_not is_special parameter_kind m.mention (answer_says numbers (out-RawProc p).answer who m i).1)
      (append_without (params named numbers p fs q) (body named numbers p fs q) (λ m i. parameter_not is_special parameter_kind m.mention (parameters_say numbers (out-RawProc p).params who m i).1) (part_without a who))))
  part_without (part.more h a) q = part_without a q

-- ---- what answers by itself is called

module _ {T : Type 0} where
  row_at : (rs : List (Row T)) (t : ℕ) (v : T) → item_at rs t ≡ Some v → In (record { token = t; item = v }) rs
  row_at [] t v e = absurd (cc)
  row_at (x ∷ xs) t v e = by_test (row_at xs t v) (nat_eq t x.token) refl
    where
      by_test : (item_at xs t ≡ Some v → In (record { token = t; item = v }) xs) → (b : Bool) → nat_eq t x.token ≡ b → In (record { token = t; item = v }) (x ∷ xs)
      by_test rest true is =
          inl (ap₂ (λ (a : ℕ) (b : T). record { token = a; item = b }) (sym (eqb-true t x.token is)) (same_Some x.item v (sym (at_first x xs t is) ∙ e)))
      by_test rest false is = inr (rest (sym (at_later x xs t is) ∙ e))

and_first : (a b : Bool) → IsTrue (a && b) → IsTrue a
and_first true b h = refl
and_first false b h = absurd (cc)

module _ (named : Named) (numbers : Numbers) (things : List Thing) (resolves : Resolves named.raw.now (result.Ok named)) (placed : Placed named.raw.now) where
  abbrev facts : List Fact
  facts = text_facts named.raw.now

  comm_parts : Listed (communicators_facts named.raw.now.comms) (listed_of named.raw.now) (descs_of numbers (listed_of named.raw.now) things named.raw.now.comms)
  comm_parts = communicators_parts numbers (listed_of named.raw.now) things named.raw.now.comms

  pub own_parted : text_mentions numbers named.raw.now ≡ listed_mentions numbers named.raw.now ++ block_mentions numbers named.raw.now
  own_parted = mentions_append numbers (communicators_facts named.raw.now.comms) (block_facts named.raw.now.block true) None

  not_own : (b : Bool) → b ≡ true → b ≡ false → ⊥
  not_own true e f = cc
  not_own false e f = cc

  -- what is special is listed
  pub is_listed : (owner : Option ℕ) (d : Declaration) → IsTrue (is_special d.kind) → In (here owner (declared d)) (text_mentions numbers named.raw.now) → In (here owner (declared d)) (listed_mentions numbers named.raw.now)
  is_listed owner d h i = by_side (in_either (here owner (declared d)) (listed_mentions numbers named.raw.now) (block_mentions numbers named.raw.now) (subst (In (here owner (declared d))) own_parted i))
    where
      by_side : In (here owner (declared d)) (listed_mentions numbers named.raw.now) ⊎ In (here owner (declared d)) (block_mentions numbers named.raw.now) → In (here owner (declared d)) (listed_mentions numbers named.raw.now)
      by_side (inl j) = j
      by_side (inr j) = absurd (not_own (is_special d.kind) h (part_without named numbers (block_parts named numbers named.raw.now.block true) None (here owner (declared d)) j))

  -- and specified as its kind asks
  pub is_fitting : (owner : Option ℕ) (d : Declaration) → IsTrue (is_special d.kind) → In (here owner (declared d)) (text_mentions numbers named.raw.now) → IsTrue (fits_built_in_if d.kind (item_at named.signatures d.name.at.token))
  is_fitting owner d h i =
      subst (λ rs. IsTrue (fits_built_in_if d.kind (item_at rs d.name.at.token))) (sym resolves.4)
      (facts_fit (text_signatures facts) facts (all_declared (map said facts)) d
      (subst (In d) (sym (declared_append (communicators_facts named.raw.now.comms) (block_facts named.raw.now.block true)))
      (in_left d (all_declared (map said (communicators_facts named.raw.now.comms))) (all_declared (map said (block_facts named.raw.now.block true))) (top numbers comm_parts None owner d (is_listed owner d h i))))
      (no_faults named resolves placed).1)

  all_specified : (r : Row Signature) → In r named.signatures → SpecifiedIn (text_mentions numbers named.raw.now) r
  all_specified r i =
      specified_both numbers (communicators_facts named.raw.now.comms) (block_facts named.raw.now.block true) (listed_specified numbers comm_parts) (part_specified named numbers (block_parts named numbers named.raw.now.block true)) None r
      (subst (In r) resolves.4 i)

  same_declaration : (owner : Option ℕ) (d : Declaration) → In (here owner (declared d)) (text_mentions numbers named.raw.now) → (s : Signature) → item_at named.signatures d.name.at.token ≡ Some s → IsTrue (is_specified d.kind)
  same_declaration owner d i s e =
      let at = all_specified (record { token = d.name.at.token; item = s }) (row_at named.signatures d.name.at.token s e) in
      let one = is_declared named resolves placed numbers at.owner at.declaration at.is_declared in
      let other = is_declared named resolves placed numbers owner d i in
      let same : at.declaration ≡ d = same_Some at.declaration d (sym one ∙ ap (item_at named.declarations) at.is_token ∙ other) in
      subst (λ (z : Declaration). IsTrue (is_specified z.kind)) same at.is_kind

  nothing_answered : (s : Signature) → IsTrue (fits_built_in_if kind.Bounds (Some s)) → IsTrue (answers_alone (Some s)) → ⊥
  nothing_answered s f a = by_answer s.answer (and_first (answers_nothing s.answer) (takes_nothing s.params) f) (and_first (is_some s.answer) (takes_none s.params) a)
    where
      by_answer : (o : Option RawType) → IsTrue (answers_nothing o) → IsTrue (is_some o) → ⊥
      by_answer None h k = cc
      by_answer (Some t) h k = cc

  called_kind : (k : NameKind) (s : Signature) → IsTrue (is_specified k) → (IsTrue (is_special k) → IsTrue (fits_built_in_if k (Some s))) → IsTrue (answers_alone (Some s)) → IsTrue (is_procedure k)
  called_kind (kind.Proc t) s h f a = refl
  called_kind (kind.ProcParam t) s h f a = refl
  called_kind kind.ReadByte s h f a = refl
  called_kind kind.WriteByte s h f a = refl
  called_kind kind.Bounds s h f a = absurd (nothing_answered s (f refl) a)
  called_kind _ s h f a = absurd (cc)

  pub answers_called : AnswersAreCalled named numbers
  answers_called owner d i h = by_signature (item_at named.signatures d.name.at.token) refl h
    where
      by_signature : (o : Option Signature) → item_at named.signatures d.name.at.token ≡ o → IsTrue (answers_alone o) → IsTrue (is_procedure d.kind)
      by_signature None e a = absurd (cc)
      by_signature (Some s) e a =
          called_kind d.kind s (same_declaration owner d i s e) (λ k. subst (λ o. IsTrue (fits_built_in_if d.kind o)) e (is_fitting owner d k i)) a
