-- Each definition of a text without faults is of what its descriptor says, whatever a definition has to meet then.
use Rattle.std.proofs.Common.{◌≡◌, inl, inr, ℕ, suc, ◌+◌, ◌≤◌, List, [], ◌∷◌, map, length, Bool, true, false, cond, ◌&&◌, IsTrue, Option, Some, None, slice_get, refl, sym, ap, ap₂, subst, ◌∙◌, arith, length-append}
use Rattle.std.specs.Prelude.{find}
use Rattle.std.specs.Cmp.Lexicographic.{bytes_decides}
use Rattle.std.specs.declared.result.Result.TheVariants as result
use Rattle.std.proofs.lemmas.Option.{same_Some}
use Rattle.cw_table.specs.declared.table.Row.{Row}
use Rattle.cw_table.specs.Rows.{item_at}
use Rattle.cw_tree.specs.declared.leaf.RawType.{RawType}
use Rattle.cw_tree.specs.declared.segment.RawPs.{RawPs}
use Rattle.cw_tree.specs.declared.statement.RawBlock.{RawBlock, fold_out-RawBlock}
use Rattle.cw_tree.specs.declared.statement.RawProc.{out-RawProc}
use Rattle.cw_facts.specs.declared.fact.Fact.{Fact, out-Fact}
use Rattle.cw_facts.specs.declared.fact.Fact.TheViews.{out-roll-Fact}
use Rattle.cw_facts.specs.declared.fact.Fact.TheOpen as layer
use Rattle.cw_facts.specs.declared.fact.Fact.TheVariants as fact
use Rattle.cw_facts.specs.declared.fact.Declaration.{Declaration}
use Rattle.cw_facts.specs.declared.fact.Kind.TheVariants as kind
use Rattle.cw_facts.specs.Signatures.{flattened}
use Rattle.cw_facts.specs.Facts.{BlockFacts, declaration_step, form_step, simple_step, block_step, procedure_step, statement_step, block_facts}
use Rattle.cw_facts.specs.Text.{communicators_facts, text_facts}
use Rattle.cw_scope.specs.declared.resolve.Named.{Named}
use Rattle.cw_scope.specs.declared.fault.Rule.{Rule}
use Rattle.cw_scope.specs.declared.fault.Rule.TheVariants as rule
use Rattle.cw_tree.specs.declared.leaf.RawName.{RawName}
use Rattle.cw_scope.specs.Outcome.{Resolves}
use Rattle.cw_scope.specs.Scope.{has_name, declared_in}
use Rattle.cw_scope.specs.Same.{same_signature}
use Rattle.cw_scope.specs.Resolved.{text_declarations, text_signatures}
use Rattle.cw_scope.specs.NameRules.{said, all_declared as all_said, name_faults, is_own_label, is_own_switch}
use Rattle.cw_scope.specs.Definitions.{definitions_judged, definition_faults, broken_rule, rule_unless, wrong_if, same_if, same_specified, is_own_procedure}
use Rattle.cw_number.specs.declared.listed.Listing.{Listing}
use Rattle.cw_number.specs.declared.listed.Listing.TheVariants as listing
use Rattle.cw_number.specs.Listed.{listed_of}
use Rattle.cw_number.specs.Numbers.{next_short}
use Rattle.cw_items.specs.declared.thing.Thing.{Thing}
use Rattle.cw_make_items.specs.Descriptors.{descs_of}
use Rattle.cw_make_items.specs.Lookup.{Numbers}
use Rattle.cw_make_items.specs.Types.{spec_of}
use Rattle.cw_make.specs.Definitions.{all_declared, inside, inside_first, outermost_declared, def_in, def_if, def_by, def_named, def_of, defs_from}
use Rattle.cw_unit.specs.declared.unit.Unit.{Unit as SourceUnit}
use Rattle.cw_unit.specs.declared.unit.Def.{Def}
use Rattle.cw_unit.specs.declared.unit.Def.TheVariants as def
use Rattle.cw_unit.specs.declared.descriptor.Desc.{Desc}
use Rattle.cw_unit.specs.declared.descriptor.DescBody.{DescBody}
use Rattle.cw_unit.specs.declared.descriptor.DescBody.TheVariants as bodies
use Rattle.cw_sound.specs.Uses.Mentions.{In, here, declares, facts_mentions, block_mentions}
use Rattle.cw_sound.specs.Names.Placed.{Placed, tokens, Differ}
use Rattle.cw_sound.specs.Names.Standing.{CountsOwn}
use Rattle.cw_sound.proofs.Names.Lists.{in_left, in_right, in_either}
use Rattle.cw_sound.proofs.Names.FoundRows.{found}
use Rattle.cw_sound.proofs.Names.Inside.{Goal, ProcedureAt}
use Rattle.cw_sound.proofs.Names.OwnDeclarations.{Made, goals}
use Rattle.cw_sound.proofs.Names.MentionsOf.{block_alone, signatures_append}
use Rattle.cw_sound.proofs.Names.Resolving.{block_mentioned}
use Rattle.cw_sound.proofs.Names.UsesFound.{no_faults, is_declared}
use Rattle.cw_sound.proofs.Names.DescriptorNames.{declared_append}
use Rattle.cw_sound.proofs.Names.ListedNumbers.{listed_few, declarations_append}
use Rattle.cw_sound.proofs.Names.ListedParts.{Listed, communicators_parts}
use Rattle.cw_sound.proofs.Items.Lists.{In as Among}
use Rattle.cw_sound.proofs.Items.NameFaults.{is-found, one-declaration}
use Rattle.cw_sound.proofs.Storage.SortsOf.{procedure_is}
use Rattle.cw_sound.proofs.Storage.Origins.{specified, Says, AllSay, all_say}
use Rattle.cw_sound.proofs.Storage.OwnFaults.{same_declared, Fine, block_fine}
use Rattle.cw_sound.proofs.Storage.SameKinds.{both_true}
use Rattle.cw_unit.specs.declared.unit.Proc.{Proc}
use Rattle.cw_facts.specs.declared.fact.Kind.{Kind}

-- ---- lists

among : {X : Type 0} → (x : X) (xs : List X) → In x xs → Among x xs
among x [] h = absurd h
among x (y ∷ ys) (inl e) = inl (sym e)
among x (y ∷ ys) (inr h) = inr (among x ys h)

found_in : (ds : List Declaration) (name : List ℕ) (d : Declaration) → declared_in ds name ≡ Some d → In d ds × (name ≡ d.name.name)
found_in [] name d e = absurd (cc)
found_in (x ∷ xs) name d e = by_test (found_in xs name d) (has_name name x) refl e
  where
    by_test : (declared_in xs name ≡ Some d → In d xs × (name ≡ d.name.name)) → (b : Bool) → has_name name x ≡ b → cond b (Some x) (find (has_name name) xs) ≡ Some d → In d (x ∷ xs) × (name ≡ d.name.name)
    by_test rest true t f = let is : x ≡ d = same_Some x d f in (inl is, (bytes_decides name x.name.name).0 t ∙ ap (λ (y : Declaration). y.name.name) is)
    by_test rest false t f = let r = rest f in (inr r.0, r.1)

-- ---- the outermost block

abbrev IsBlock : List Fact → Type 0
IsBlock facts = (fs : List Fact) × (facts ≡ fact.Block None fs ∷ [])

is_block : (b : RawBlock) → IsBlock (block_facts b true)
is_block b = (_, ap (λ (f : BlockFacts). f true) (fold_out-RawBlock (List Fact) (List Fact) (List Fact) BlockFacts (List Fact) (List Fact) declaration_step form_step simple_step block_step procedure_step statement_step b))

inside_block : (fs : List Fact) → inside_first (fact.Block None fs ∷ []) ≡ all_declared fs
inside_block fs = ap inside (ap out-Fact (sym (fact.rolls-Block None fs)) ∙ out-roll-Fact (layer.Block None fs))

-- ---- rules

not_wrong : (o : Option Rule) (n : RawName) → wrong_if o n None ≡ None → o ≡ None
not_wrong None n e = refl
not_wrong (Some r) n e = absurd (cc)

is_so : (b : Bool) (r : Rule) → rule_unless b r ≡ None → b ≡ true
is_so true r e = refl
is_so false r e = absurd (cc)

module _ (u : SourceUnit) (Meets : DescBody → Def → Type 0) where
  -- the descriptor of a definition, and that it is met
  pub record MetAt (d : ℕ) (y : Def) : Type 0 where
    pub descriptor : Desc
    pub is_there : slice_get u.descs d ≡ Some descriptor
    pub meets_it : Meets descriptor.body y

module _ (named : Named) (numbers : Numbers) (u : SourceUnit) (resolves : Resolves named.raw.now (result.Ok named)) (placed : Placed named.raw.now)
    (counts : CountsOwn named numbers) (made : Made named numbers u) where
  abbrev facts : List Fact
  facts = text_facts named.raw.now

  abbrev comms : List Fact
  comms = communicators_facts named.raw.now.comms

  abbrev block : List Fact
  block = block_facts named.raw.now.block true

  abbrev cs : List Declaration
  cs = all_said (map said facts)

  abbrev own : List Declaration
  own = outermost_declared named.raw.now

  faults : (name_faults facts None ≡ None) × (definitions_judged facts None ≡ None)
  faults = no_faults named resolves placed

  row_of : (d : Declaration) → In d cs → item_at named.declarations d.name.at.token ≡ Some d
  row_of d i = is_declared named resolves placed numbers None d (block_mentioned numbers facts None d i)

  -- a name is declared once
  first_of : (c : Declaration) → In c cs → (o : Option Declaration) → declared_in cs c.name.name ≡ o → o ≡ Some c
  first_of c i None e = absurd (is-found cs c (among c cs i) e)
  first_of c i (Some f) e =
      let there = found_in cs c.name.name f e in
      let token = one-declaration facts c f faults.0 (among c cs i) (among f cs there.0) there.1 in
      sym (row_of f there.0) ∙ ap (item_at named.declarations) (sym token) ∙ row_of c i

  its_block : IsBlock block
  its_block = is_block named.raw.now.block

  own_inside : (d : Declaration) → In d own → In d (all_declared its_block.0)
  own_inside d i = subst (In d) (ap inside_first its_block.1 ∙ inside_block its_block.0) i

  own_here : (d : Declaration) → In d own → In (here None (declares d)) (block_mentions numbers named.raw.now)
  own_here d i =
      subst (In (here None (declares d))) (sym (ap (λ fs. facts_mentions numbers fs None) its_block.1 ∙ block_alone numbers None its_block.0 None))
      (block_mentioned numbers its_block.0 None d (subst (In d) (same_declared its_block.0) (own_inside d i)))

  own_fine : (d : Declaration) → In d own → Fine named.signatures cs d
  own_fine d i =
      let there : In (fact.Block None its_block.0) facts = in_right (fact.Block None its_block.0) comms block (subst (In (fact.Block None its_block.0)) (sym its_block.1) (inl refl)) in
      subst (λ rs. Fine rs cs d) (sym resolves.4) (block_fine (text_signatures facts) cs facts its_block.0 there faults.1 d (own_inside d i))

  -- a listed name that is declared there breaks no rule
  kept : (c d : Declaration) → In c cs → In d own → c.name.name ≡ d.name.name → broken_rule c.kind d.kind (same_specified named.signatures c.name.at.token d.name.at.token) ≡ None
  kept c d i j same =
      let first : declared_in cs d.name.name ≡ Some c = ap (declared_in cs) (sym same) ∙ first_of c i (declared_in cs c.name.name) refl in
      not_wrong (broken_rule c.kind d.kind (same_specified named.signatures c.name.at.token d.name.at.token)) d.name
      (subst (λ o. definition_faults named.signatures o d None ≡ None) first (own_fine d j))

  -- ---- what a definition is of

  record Definition (c : Declaration) (y : Def) : Type 0 where
    declaration : Declaration
    is_own : In declaration own
    is_name : c.name.name ≡ declaration.name.name
    is_def : def_in (item_at numbers declaration.name.at.token) ≡ Some y

  definition : (c : Declaration) (y : Def) → In c cs → def_named named numbers own (item_at named.declarations c.name.at.token) ≡ Some y → Definition c y
  definition c y i e = by_found (declared_in own c.name.name) refl (ap (def_named named numbers own) (sym (row_of c i)) ∙ e)
    where
      by_found : (o : Option Declaration) → declared_in own c.name.name ≡ o → def_by numbers o ≡ Some y → Definition c y
      by_found None f g = absurd (cc)
      by_found (Some d) f g = let r = found_in own c.name.name d f in record { declaration = d; is_own = r.0; is_name = r.1; is_def = g }

  named_by : (token : ℕ) (c : Declaration) (y : Def) → c.name.at.token ≡ token → In c cs → def_named named numbers own (item_at named.declarations token) ≡ Some y → Definition c y
  named_by token c y t i e = definition c y i (ap (λ s. def_named named numbers own (item_at named.declarations s)) t ∙ e)

  signature_found : (t : ℕ) (answer : Option RawType) (params : List RawPs) → In (specified t answer params) named.signatures → item_at named.signatures t ≡ Some (record { answer = answer; params = params })
  signature_found t answer params i = found named.signatures (specified t answer params) (subst (λ rs. Differ (tokens rs)) (sym resolves.4) placed.signatures) i

  -- as the listed name is declared, so is the own one
  unbroken : (c : Declaration) (k : Kind) (y : Def) → In c cs → c.kind ≡ k → (x : Definition c y)
      → broken_rule k x.declaration.kind (same_specified named.signatures c.name.at.token x.declaration.name.at.token) ≡ None
  unbroken c k y i is x =
      subst (λ z. broken_rule z x.declaration.kind (same_specified named.signatures c.name.at.token x.declaration.name.at.token) ≡ None) is (kept c x.declaration i x.is_own x.is_name)

  -- ---- what is met, by an own label, an own switch and an own procedure

  module _ (Meets : DescBody → Def → Type 0)
      (label_met : (d : Declaration) (y : Def) → is_own_label d.kind ≡ true → In (here None (declares d)) (block_mentions numbers named.raw.now) → def_in (item_at numbers d.name.at.token) ≡ Some y → Meets bodies.Label y)
      (switch_met : (d : Declaration) (y : Def) → is_own_switch d.kind ≡ true → In (here None (declares d)) (block_mentions numbers named.raw.now) → def_in (item_at numbers d.name.at.token) ≡ Some y → Meets bodies.Switch y)
      (procedure_met : (answer : Option RawType) (params : List RawPs) (n : RawName) (own_answer : Option RawType) (at : ProcedureAt named numbers u n own_answer)
      → IsTrue (same_signature (record { answer = answer; params = params }) (record { answer = own_answer; params = flattened (out-RawProc at.proc).params })) → Meets (bodies.Proc (spec_of answer params)) (def.Proc at.number)) where
    label_kept : (c : Declaration) → In c cs → c.kind ≡ kind.Label → (y : Def) → Definition c y → Meets bodies.Label y
    label_kept c i k y x =
        let d = x.declaration in
        label_met d y (is_so (is_own_label d.kind) rule.SpecDiffers (unbroken c kind.Label y i k x)) (own_here d x.is_own) x.is_def

    switch_kept : (c : Declaration) → In c cs → c.kind ≡ kind.Switch → (y : Def) → Definition c y → Meets bodies.Switch y
    switch_kept c i k y x =
        let d = x.declaration in
        switch_met d y (is_so (is_own_switch d.kind) rule.SpecDiffers (unbroken c kind.Switch y i k x)) (own_here d x.is_own) x.is_def

    procedure_kept : (answer : Option RawType) (params : List RawPs) (c : Declaration) → In c cs → c.kind ≡ kind.Proc answer → In (specified c.name.at.token answer params) named.signatures → (y : Def) → Definition c y
        → Meets (bodies.Proc (spec_of answer params)) y
    procedure_kept answer params c i k signed y x =
        let d = x.declaration in
        let alike : Bool = same_specified named.signatures c.name.at.token d.name.at.token in
        let both = both_true (is_own_procedure d.kind) alike (is_so (is_own_procedure d.kind && alike) rule.SpecDiffers (unbroken c (kind.Proc answer) y i k x)) in
        let p = procedure_is d.kind both.0 in
        let at : ProcedureAt named numbers u d.name p.0 = subst (Goal named numbers u None d.name) p.1 (goals named numbers u resolves placed counts made (here None (declares d)) (own_here d x.is_own)) in
        let specs : List RawPs = flattened (out-RawProc at.proc).params in
        let same : IsTrue (same_signature (record { answer = answer; params = params }) (record { answer = p.0; params = specs })) =
        subst IsTrue (ap₂ same_if (signature_found c.name.at.token answer params signed) (signature_found d.name.at.token p.0 specs at.signature)) both.1 in
        subst (Meets (bodies.Proc (spec_of answer params))) (same_Some (def.Proc at.number) y (ap def_in (sym at.is_number) ∙ x.is_def)) (procedure_met answer params d.name p.0 at same)

    row_met : (token : ℕ) (l : Listing) (b : DescBody) → Says cs named.signatures token l b → (y : Def) → def_of named numbers own l token ≡ Some y → Meets b y
    row_met token listing.Data b s y e = absurd (cc)
    row_met token listing.Label b s y e =
        let f = s.0 in subst (λ z. Meets z y) (sym s.1) (label_kept f.declaration f.is_in f.is_kind y (named_by token f.declaration y f.is_token f.is_in e))
    row_met token listing.Switch b s y e =
        let f = s.0 in subst (λ z. Meets z y) (sym s.1) (switch_kept f.declaration f.is_in f.is_kind y (named_by token f.declaration y f.is_token f.is_in e))
    row_met token listing.Proc b s y e =
        let f = s.2 in
        subst (λ z. Meets z y) (sym s.3)
        (procedure_kept s.0 s.1 f.declaration f.is_in f.is_kind (subst (λ t. In (specified t s.0 s.1) named.signatures) (sym f.is_token) s.4) y (named_by token f.declaration y f.is_token f.is_in e))

    abbrev pub AllMet : List (ℕ × Def) → Type 0
    AllMet ds = (x : ℕ × Def) → In x ds → MetAt u Meets x.0 x.1

    one_met : (d : ℕ) (x : Desc) (o : Option Def) → ((y : Def) → o ≡ Some y → Meets x.body y) → slice_get u.descs d ≡ Some x → AllMet (def_if d o)
    one_met d x None h e z i = absurd i
    one_met d x (Some y) h e z (inl is) = subst (λ (w : ℕ × Def). MetAt u Meets w.0 w.1) is (record { descriptor = x; is_there = e; meets_it = h y refl })
    one_met d x (Some y) h e z (inr i) = absurd i

    rows_met : (d : ℕ) (rs : List (Row Listing)) (ds : List Desc) → AllSay cs named.signatures rs ds → ((i : ℕ) (x : Desc) → slice_get ds i ≡ Some x → slice_get u.descs (d + i) ≡ Some x) → d + length rs ≤ 65535
        → AllMet (defs_from named numbers own d rs)
    rows_met d [] ds h at few z i = absurd i
    rows_met d (r ∷ rs) [] h at few z i = absurd h
    rows_met d (r ∷ rs) (x ∷ xs) h at few z i =
        let here_is : d + 0 ≡ d = omega arith in
        let next : next_short d ≡ d + 1 = omega (arith, few) in
        let behind = λ (i : ℕ). (let same : next_short d + i ≡ d + suc i = omega (arith, next) in same) in
        let o = def_of named numbers own r.item r.token in
        let first : AllMet (def_if d o) = one_met d x o (row_met r.token r.item x.body h.0) (ap (slice_get u.descs) (sym here_is) ∙ at 0 x refl) in
        let rest : AllMet (defs_from named numbers own (next_short d) rs) = rows_met (next_short d) rs xs h.1 (λ i z e. ap (slice_get u.descs) (behind i) ∙ at (suc i) z e) (omega (arith, next, few)) in
        elim (in_either z (def_if d o) (defs_from named numbers own (next_short d) rs) i) [ inl j ↦ first z j | inr j ↦ rest z j ]

    -- ---- the text

    module _ (things : List Thing) (descs : u.descs ≡ descs_of numbers (listed_of named.raw.now) things named.raw.now.comms) where
      parts : Listed comms (listed_of named.raw.now) (descs_of numbers (listed_of named.raw.now) things named.raw.now.comms)
      parts = communicators_parts numbers (listed_of named.raw.now) things named.raw.now.comms

      few : 0 + length (listed_of named.raw.now) ≤ 65535
      few =
          let few_rows = listed_few parts in
          let size = ap length (declarations_append comms block) ∙ length-append (text_declarations comms) (text_declarations block) in
          omega (arith, few_rows, size, placed.few)

      all_said_here : AllSay cs named.signatures (listed_of named.raw.now) (descs_of numbers (listed_of named.raw.now) things named.raw.now.comms)
      all_said_here =
          all_say cs named.signatures parts (λ d i. subst (In d) (sym (declared_append comms block)) (in_left d (all_said (map said comms)) (all_said (map said block)) i))
          (λ r i. subst (In r) (sym (resolves.4 ∙ signatures_append comms block)) (in_left r (text_signatures comms) (text_signatures block) i))

      pub all_met : AllMet (defs_from named numbers own 0 (listed_of named.raw.now))
      all_met =
          let same = λ (i : ℕ). (let none : 0 + i ≡ i = omega arith in none) in
          rows_met 0 (listed_of named.raw.now) (descs_of numbers (listed_of named.raw.now) things named.raw.now.comms) all_said_here
          (λ i x e. ap (slice_get u.descs) (same i) ∙ ap (λ ds. slice_get ds i) descs ∙ e) few
