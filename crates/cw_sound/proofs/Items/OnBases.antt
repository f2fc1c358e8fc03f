-- What a text overlays stands on things before it.
use Rattle.std.proofs.Common.{◌≡◌, ℕ, zero, suc, nat_eq, eqb-true, ◌<◌, List, [], ◌∷◌, ◌++◌, map, Bool, true, false, Option, Some, None, is_none, slice_get, refl, sym, ap, subst, ◌∙◌, ◌⊎◌, inl, inr, arith}
use Rattle.std.proofs.lemmas.Bool.{eq-eqb}
use Rattle.std.proofs.lemmas.Option.{none-some, same_Some}
use Rattle.cw_table.specs.declared.table.Row.{Row}
use Rattle.cw_table.specs.Rows.{item_at, place_at}
use Rattle.cw_tree.specs.declared.items.RawBase.{RawBase}
use Rattle.cw_tree.specs.declared.items.RawData.{RawData}
use Rattle.cw_tree.specs.declared.segment.RawAitem.{RawAitem}
use Rattle.cw_tree.specs.declared.segment.RawAitem.TheVariants as aitem
use Rattle.cw_tree.specs.declared.segment.RawComm.{RawComm}
use Rattle.cw_tree.specs.declared.segment.RawComm.TheVariants as comm
use Rattle.cw_tree.specs.declared.segment.RawCitem.{RawCitem}
use Rattle.cw_tree.specs.declared.segment.RawCitem.TheVariants as citem
use Rattle.cw_tree.specs.declared.statement.RawBlock.{RawBlock, fold_out-RawBlock}
use Rattle.cw_facts.specs.declared.fact.Declaration.{Declaration}
use Rattle.cw_facts.specs.declared.fact.Fact.{Fact}
use Rattle.cw_facts.specs.declared.fact.Fact.TheFolds.{fold-roll-Fact}
use Rattle.cw_facts.specs.declared.fact.Fact.TheOpen as layer
use Rattle.cw_facts.specs.declared.fact.Fact.TheVariants as fact
use Rattle.cw_facts.specs.Facts.{BlockFacts, base_name, base_facts, data_facts, declaration_step, form_step, simple_step, block_step, procedure_step, statement_step, block_facts}
use Rattle.cw_facts.specs.Text.{citem_facts, citems_facts, communicator_facts, communicators_facts, text_facts}
use Rattle.cw_scope.specs.declared.resolve.Named.{Named}
use Rattle.cw_scope.specs.Scope.{Environment, declaration_of}
use Rattle.cw_scope.specs.NameRules.{Said, said, said_step, all_resolved, within, is_data}
use Rattle.cw_scope.specs.Text.{first_name_fault, resolutions_of}
use Rattle.cw_scale.specs.declared.fault.Rule.TheVariants as rule
use Rattle.cw_scale.specs.Faults.{unless, both}
use Rattle.cw_data.specs.Overlays.{base_judged}
use Rattle.cw_items.specs.declared.families.Site.{Site}
use Rattle.cw_items.specs.declared.thing.Base.{Base}
use Rattle.cw_items.specs.declared.thing.Owner.{Owner}
use Rattle.cw_items.specs.declared.thing.Sort.{Sort}
use Rattle.cw_items.specs.declared.thing.Sort.TheVariants as sort
use Rattle.cw_items.specs.declared.thing.Thing.{Thing}
use Rattle.cw_items.specs.Families.{frame_of, things_judged, nothing_known}
use Rattle.cw_items.specs.Things.{amount_or_none, base_at, data_things, aitem_things, aitems_things, citem_things, citems_things, communicator_things, communicators_things, block_things, text_things}
use Rattle.cw_number.specs.Listed.{listed_of}
use Rattle.cw_judge.specs.Declarations.{declared_judged, stands_in_common, common_base_judged, common_overlaid_judged}
use Rattle.cw_judge.specs.Judged.{sites_of, absolute_addresses, citem_judged, citems_judged, communicator_judged, communicators_judged, block_judged, first_type_fault}
use Rattle.cw_make_items.specs.Lookup.{Numbers}
use Rattle.cw_sound.specs.Items.Derived.{IsRising, facts_tokens, HasRisingTokens, HasPlainProcedures}
use Rattle.cw_sound.specs.Items.Bodies.{MayName}
use Rattle.cw_sound.specs.Items.Free.{PartsFree}
use Rattle.cw_sound.specs.Items.Bases.{BaseStands, BasesStand}
use Rattle.cw_sound.proofs.Items.Lists.{In, in-right, in-either, in-place, at-place, each-append, each-in, from-in, within-in, rising-within, stands-before}
use Rattle.cw_sound.proofs.Items.NameFaults.{names-fine}
use Rattle.cw_sound.proofs.Items.Says.{declared, declared-append, tokens-append}
use Rattle.cw_sound.proofs.Items.Naming.{listed-token}
use Rattle.cw_sound.proofs.Items.Numbering.{tokens_of_things, lower-before, row-at, found-here, found-later}
use Rattle.cw_sound.proofs.Items.Stores.{Stores}
use Rattle.cw_sound.proofs.Items.Trees.{block_stores}
use Rattle.cw_sound.proofs.Items.Listing.{text-stores}
use Rattle.cw_sound.proofs.Items.Sound.{Sound, sound-parts, base-found}
use Rattle.cw_sound.proofs.Items.Bases.{OfData, of-data, OnBase, HasBase, HasBases, EnvSeen, found-in, on-base, env-inside, token-in}
use Rattle.cw_sound.proofs.Items.Overlays.{block_based}
use Rattle.cw_sound.proofs.Items.Resolving.{row_tokens, facts-rows, each-found}
use Rattle.cw_sound.proofs.Items.ListedData.{of-communicators, placed}
use Rattle.cw_sound.proofs.Statements.Keeping.{block_keeps}
use Rattle.cw_sound.proofs.Expressions.Judging.{keeps_both, keeps_unless, both_free, holds}
use Rattle.cw_sound.proofs.Items.Keeping.{keeps_declared, keeps_citems, keeps_communicators}
use Rattle.cw_macro.specs.Premises.{Each}

module _ (named : Named) (sites : List (Row Site)) (absolute : List (Row ℕ)) where
  -- ---- overlays in COMMON

  module _ (all : List Thing) (top : List Declaration) where
    -- a base that has no address, declared among these
    pub record OnCommon (t : Thing) (b : Base) : Type 0 where
      pub on : OnBase all t b
      pub free : item_at absolute b.token ≡ None
      pub declaration : Declaration
      pub known : In declaration top
      pub is_item : is_data declaration.kind ≡ true
      pub at_base : declaration.name.at.token ≡ b.token

    abbrev pub InCommon : Thing → Type 0
    InCommon t = (b : Base) → t.base ≡ Some b → OnCommon t b

    baseless-common : (o : Option Owner) (ts : List Thing) → Each (OfData o None) ts → Each InCommon ts
    baseless-common o [] h = tt
    baseless-common o (t ∷ ts) h = ((λ b e. absurd (none-some b (sym h.0.2 ∙ e))), baseless-common o ts h.1)

    none-free : (o : Option ℕ) → is_none o ≡ true → o ≡ None
    none-free None e = refl
    none-free (Some x) e = absurd cc

    abbrev KnownIn : Environment → Type 0
    KnownIn env = (n : List ℕ) (d : Declaration) → declaration_of env n ≡ Some d → In d top

    overlay-common : (env : Environment) (b : RawBase) (d : RawData) → Sound named env false (base_facts b ++ data_facts d) → EnvSeen all env None → KnownIn env → common_overlaid_judged named sites absolute b d None ≡ None
        → Each InCommon (data_things None (Some (base_at named b)) d)
    unfolding common_overlaid_judged
    overlay-common env b d s seen known free =
        let n = base_name b in
        let base : Option Base = Some (base_at named b) in
        let frees = both_free (common_base_judged named absolute b) (declared_judged sites d) (keeps_declared sites d) free in
        let halves = both_free (base_judged named b) (unless (stands_in_common absolute (item_at named.uses n.at.token)) rule.BadOverlay n.at) (keeps_unless (stands_in_common absolute (item_at named.uses n.at.token)) rule.BadOverlay n.at) frees.0 in
        let stands : stands_in_common absolute (item_at named.uses n.at.token) ≡ true = holds (stands_in_common absolute (item_at named.uses n.at.token)) rule.BadOverlay n.at halves.1 in
        let found = base-found named env false n (sound-parts named env false (base_facts b) (data_facts d) s).0 in
        let clear : item_at absolute found.0.name.at.token ≡ None = none-free (item_at absolute found.0.name.at.token) (sym (ap (stands_in_common absolute) found.3) ∙ stands) in
        let based = on-base all named env None b d s seen halves.0 in
        from-in InCommon (data_things None base d) (λ x i c e.
        let of : OfData None base x = each-in (OfData None base) (data_things None base d) (of-data None base d) x i in
        let same : of.2.0 ≡ c = same_Some of.2.0 c (sym of.2.1 ∙ e) in
        let at : c.token ≡ found.0.name.at.token = sym (ap (λ (y : Base). y.token) same) ∙ of.2.2 ∙ ap amount_or_none found.3 in
        record {
          on = each-in (HasBase all) (data_things None base d) based x i c e;
          free = ap (item_at absolute) at ∙ clear;
          declaration = found.0;
          known = known n.name found.0 found.1;
          is_item = found.2;
          at_base = sym at;
        })

    module _ (env : Environment) (seen : EnvSeen all env None) (known : KnownIn env) where
      citem-common : (i : RawCitem) → Sound named env false (citem_facts i) → citem_judged named sites absolute i None ≡ None → Each InCommon (citem_things named i)
      citem-common (citem.Data d) s free = baseless-common None (data_things None None d) (of-data None None d)
      citem-common (citem.Overlay at b d) s free = overlay-common env b d s seen known free
      citem-common _ s free = tt

      citems-common : (is : List RawCitem) → Sound named env false (citems_facts is) → citems_judged named sites absolute is None ≡ None → Each InCommon (citems_things named is)
      citems-common [] s free = tt
      citems-common (i ∷ is) s free =
          let parts = sound-parts named env false (citem_facts i) (citems_facts is) s in
          let frees = both_free (citem_judged named sites absolute i) (citems_judged named sites absolute is) (keeps_citems named sites absolute is) free in
          each-append InCommon (citem_things named i) (citems_things named is) (citem-common i parts.0 frees.0) (citems-common is parts.1 frees.1)

      aitem-common : (i : RawAitem) → Each InCommon (aitem_things i)
      aitem-common (aitem.Single t n a) = ((λ b e. absurd (none-some b e)), tt)
      aitem-common (aitem.Array t n b a) = ((λ b e. absurd (none-some b e)), tt)
      aitem-common (aitem.Table t a) = ((λ b e. absurd (none-some b e)), tt)

      aitems-common : (is : List RawAitem) → Each InCommon (aitems_things is)
      aitems-common [] = tt
      aitems-common (i ∷ is) = each-append InCommon (aitem_things i) (aitems_things is) (aitem-common i) (aitems-common is)

      communicator-common : (c : RawComm) → Sound named env false (communicator_facts c) → communicator_judged named sites absolute c None ≡ None → Each InCommon (communicator_things named c)
      communicator-common (comm.Common at is) s free = citems-common is s free
      communicator-common (comm.Library at ss) s free = tt
      communicator-common (comm.Absolute at is) s free = aitems-common is

      pub communicators-common : (cs : List RawComm) → Sound named env false (communicators_facts cs) → communicators_judged named sites absolute cs None ≡ None → Each InCommon (communicators_things named cs)
      communicators-common [] s free = tt
      communicators-common (c ∷ cs) s free =
          let parts = sound-parts named env false (communicator_facts c) (communicators_facts cs) s in
          let frees = both_free (communicator_judged named sites absolute c) (communicators_judged named sites absolute cs) (keeps_communicators named sites absolute cs) free in
          each-append InCommon (communicator_things named c) (communicators_things named cs) (communicator-common c parts.0 frees.0) (communicators-common cs parts.1 frees.1)

-- ---- the outermost block

-- it declares nothing around itself
declares-none : (b : RawBlock) → declared (block_facts b true) ≡ []
declares-none b =
    ap (λ (f : BlockFacts). declared (f true)) (fold_out-RawBlock (List Fact) (List Fact) (List Fact) BlockFacts (List Fact) (List Fact) declaration_step form_step simple_step block_step procedure_step statement_step b)
    ∙ of-block _
  where
    of-block : (xs : List Fact) → declared (fact.Block None xs ∷ []) ≡ []
    of-block xs = ap (λ (s : Said). s.declared ++ []) (ap said (sym (fact.rolls-Block None xs)) ∙ fold-roll-Fact Said said_step (layer.Block None xs))

missing-next : (r : Row ℕ) (rs : List (Row ℕ)) (t : ℕ) (b : Bool) → nat_eq t r.token ≡ b → In t (row_tokens (r ∷ rs)) → item_at (r ∷ rs) t ≡ None → (In t (row_tokens rs) → item_at rs t ≡ None → ⊥) → ⊥
missing-next r rs t true f j e rest = none-some r.item (sym e ∙ found-here r rs t (eqb-true t r.token f))
missing-next r rs t false f (inl s) e rest = absurd (let no : true ≡ false = sym (eq-eqb t r.token s) ∙ f in absurd cc)
missing-next r rs t false f (inr j) e rest = rest j (sym (found-later r rs t (λ s. absurd (let no : true ≡ false = sym (eq-eqb t r.token s) ∙ f in absurd cc))) ∙ e)

not-missing : (rs : List (Row ℕ)) (t : ℕ) → In t (row_tokens rs) → item_at rs t ≡ None → ⊥
not-missing [] t i e = absurd i
not-missing (r ∷ rs) t i e = missing-next r rs t (nat_eq t r.token) refl i e (not-missing rs t)

row-in : {T : Type 0} (rs : List (Row T)) (d : ℕ) (r : Row T) → slice_get rs d ≡ Some r → In r.token (row_tokens rs)
row-in [] d r e = absurd (none-some r e)
row-in (q ∷ rs) zero r e = inl (ap (λ x. x.token) (sym (same_Some q r e)))
row-in (q ∷ rs) (suc d) r e = inr (row-in rs d r e)

-- ---- a text

may-name : (numbers : Numbers) (s x : Sort) (o p : Option Owner) (who : Option ℕ) → s ≡ sort.Named → x ≡ sort.Named → (p ≡ None) ⊎ (p ≡ o) → MayName numbers who (frame_of s o) → MayName numbers who (frame_of x p)
may-name numbers s x o p who e f (inl none) h = subst (λ (y : Sort). MayName numbers who (frame_of y p)) (sym f) (subst (λ (q : Option Owner). MayName numbers who (frame_of sort.Named q)) (sym none) tt)
may-name numbers s x o p who e f (inr own) h =
    subst (λ (y : Sort). MayName numbers who (frame_of y p)) (sym f) (subst (λ (q : Option Owner). MayName numbers who (frame_of sort.Named q)) (sym own) (subst (λ (y : Sort). MayName numbers who (frame_of y o)) e h))

-- no part of a text without faults has one
pub parts-of-text : (named : Named) → first_type_fault named ≡ None → PartsFree named
parts-of-text named fine =
    let things = text_things named named.raw.now in
    let sites = sites_of things in
    let c = communicators_judged named sites (absolute_addresses named.raw.now.comms) named.raw.now.comms in
    let b = block_judged named sites named.raw.now.block in
    let kb = block_keeps named sites named.raw.now.block in
    let kc = keeps_communicators named sites (absolute_addresses named.raw.now.comms) named.raw.now.comms in
    let first = both_free (things_judged nothing_known things) (both c b) (keeps_both kc kb) fine in
    let rest = both_free c b kb first.1 in
    record { things = first.0; communicators = rest.0; block = rest.1 }

module _ (named : Named) (fine_names : first_name_fault named.raw.now ≡ None) (uses : named.uses ≡ resolutions_of named.raw.now) (fine_types : first_type_fault named ≡ None)
    (rising : HasRisingTokens named.raw.now) (plain : HasPlainProcedures named.raw.now) where
  abbrev facts : List Fact
  facts = text_facts named.raw.now

  abbrev things : List Thing
  things = text_things named named.raw.now

  abbrev sites : List (Row Site)
  sites = sites_of (text_things named named.raw.now)

  abbrev absolute : List (Row ℕ)
  absolute = absolute_addresses named.raw.now.comms

  abbrev env : Environment
  env = within [] (map said facts)

  sound : Sound named env false facts
  sound =
      let rows = all_resolved env (map said facts) in
      record {
        faults = names-fine facts fine_names;
        resolved = subst (λ (us : List (Row ℕ)). Each (λ (r : Row ℕ). item_at us r.token ≡ Some r.item) rows) (sym uses) (each-found 1 rows (rising-within 1 (facts-rows facts env) rising));
        plain = plain;
        first = 1;
        rising = rising;
      }

  stores : Stores (λ x. Unit {0}) [] None facts things
  stores = text-stores (λ x. Unit {0}) [] named named.raw.now

  seen : EnvSeen things env None
  seen = env-inside things [] None None facts things (inl refl) stores (λ t i. i) (λ n d e k. absurd (none-some d e))

  known : (n : List ℕ) (d : Declaration) → declaration_of env n ≡ Some d → In d (declared facts)
  known n d e = found-in things (declared facts) n d e

  parts : Sound named env false (communicators_facts named.raw.now.comms) × Sound named env false (block_facts named.raw.now.block true)
  parts = sound-parts named env false (communicators_facts named.raw.now.comms) (block_facts named.raw.now.block true) sound

  free : PartsFree named
  free = parts-of-text named fine_types

  listed-things : Each (InCommon named sites absolute things (declared facts)) (communicators_things named named.raw.now.comms)
  listed-things = communicators-common named sites absolute things (declared facts) env seen known named.raw.now.comms parts.0 free.communicators

  block-based : HasBases things (block_things named named.raw.now.block None)
  block-based =
      block_based named sites things named.raw.now.block true env None parts.1 seen free.block
      (λ t i. in-right t (communicators_things named named.raw.now.comms) (block_things named named.raw.now.block None) i)

  things-rise : IsRising 1 (tokens_of_things things)
  things-rise = rising-within 1 stores.tokens rising

  -- a base stands before, whatever is listed
  stands-on : (numbers : Numbers) (i : ℕ) (t : Thing) (b : Base) → slice_get things i ≡ Some t → OnBase things t b → ((d : ℕ) → place_at (listed_of named.raw.now) t.at.token ≡ Some d → (e : ℕ) × (place_at (listed_of named.raw.now) b.token ≡ Some e))
      → BaseStands numbers (listed_of named.raw.now) things i t b
  stands-on numbers i t b e on listed =
      let p = in-place on.base things on.there in
      let low : on.base.at.token < t.at.token = subst (λ n. n < t.at.token) (sym on.at_token) on.lower in
      record {
        place = p.0;
        base = on.base;
        there = p.1;
        at_token = on.at_token;
        before = lower-before 1 things i p.0 t on.base things-rise e p.1 low;
        seen = λ who h. may-name numbers t.sort on.base.sort t.owner on.base.owner who on.is_named on.base_named on.owner h;
        listed_too = listed;
      }

  listed-base : (t : Thing) (b : Base) → OnCommon named sites absolute things (declared facts) t b → (e : ℕ) × (place_at (listed_of named.raw.now) b.token ≡ Some e)
  listed-base t b on =
      let d = on.declaration in
      elim (in-either d (declared (communicators_facts named.raw.now.comms)) (declared (block_facts named.raw.now.block true))
      (subst (In d) (declared-append (communicators_facts named.raw.now.comms) (block_facts named.raw.now.block true)) on.known)) [
        | inl l ↦ elim (of-communicators named.raw.now.comms d l on.is_item) [
          | inl in_list ↦ placed (listed_of named.raw.now) b.token (subst (λ n. In n (row_tokens (listed_of named.raw.now))) on.at_base in_list)
          | inr at ↦ absurd (not-missing absolute b.token (subst (λ n. In n (row_tokens absolute)) on.at_base at) on.free)
        ]
        | inr r ↦ absurd (subst (In d) (declares-none named.raw.now.block) r)
      ]

  -- what a block declares is not listed
  not-listed : (t : Thing) (d : ℕ) → In t (block_things named named.raw.now.block None) → place_at (listed_of named.raw.now) t.at.token ≡ Some d → ⊥
  not-listed t d i e =
      let r = row-at (listed_of named.raw.now) t.at.token d e in
      let listed : In t.at.token (facts_tokens (communicators_facts named.raw.now.comms)) =
      listed-token named.raw.now.comms t.at.token (subst (λ n. In n (row_tokens (listed_of named.raw.now))) r.2 (row-in (listed_of named.raw.now) d r.0 r.1)) in
      let inside : In t.at.token (facts_tokens (block_facts named.raw.now.block true)) =
      within-in t.at.token (block_stores (λ x. Unit {0}) [] named named.raw.now.block true None).tokens (token-in things t (block_things named named.raw.now.block None) i) in
      let whole : IsRising 1 (facts_tokens (communicators_facts named.raw.now.comms) ++ facts_tokens (block_facts named.raw.now.block true)) =
      subst (IsRising 1) (tokens-append (communicators_facts named.raw.now.comms) (block_facts named.raw.now.block true)) rising in
      let low : t.at.token < t.at.token = stands-before 1 (facts_tokens (communicators_facts named.raw.now.comms)) (facts_tokens (block_facts named.raw.now.block true)) t.at.token t.at.token whole listed inside in
      omega (arith, low)

  pub bases-stand : (numbers : Numbers) → BasesStand numbers (listed_of named.raw.now) things
  bases-stand numbers i t b e f =
      elim (in-either t (communicators_things named named.raw.now.comms) (block_things named named.raw.now.block None) (at-place things i t e)) [
        | inl l ↦
            (let on = each-in (InCommon named sites absolute things (declared facts)) (communicators_things named named.raw.now.comms) listed-things t l b f in
            stands-on numbers i t b e on.on (λ d k. listed-base t b on))
        | inr r ↦
            stands-on numbers i t b e (each-in (HasBase things) (block_things named named.raw.now.block None) block-based t r b f) (λ d k. absurd (not-listed t d r k))
      ]
