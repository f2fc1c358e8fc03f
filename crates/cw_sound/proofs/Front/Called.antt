-- Each item of a text's unit has a name, but for its strings and the words of its FORs, which no COMMON list has.
use Rattle.std.proofs.Common.{◌≡◌, ℕ, List, [], ◌∷◌, Bool, true, false, not, ◌&&◌, IsTrue, cond, nat_eq, Option, Some, None, is_some, slice_get, refl, sym, subst, ◌∙◌, arith, eqb-true, inl, inr}
use Rattle.std.proofs.lemmas.Bool.{eq-eqb}
use Rattle.std.specs.declared.result.Result.TheVariants as results
use Rattle.cw_table.specs.declared.table.Row.{Row}
use Rattle.cw_table.specs.Rows.{item_at, place_at}
use Rattle.cw_facts.specs.declared.fact.Declaration.{Declaration}
use Rattle.cw_facts.specs.declared.fact.Kind.{Kind}
use Rattle.cw_facts.specs.declared.fact.Kind.TheVariants as kind
use Rattle.cw_facts.specs.Facts.{block_facts}
use Rattle.cw_facts.specs.Text.{communicators_facts}
use Rattle.cw_grammar.specs.Tokens.{is_identifier}
use Rattle.cw_grammar.specs.Grammar.{a_raw}
use Rattle.cw_derived.specs.NormalForm.{IsNormal}
use Rattle.cw_scope.specs.declared.resolve.Named.{Named}
use Rattle.cw_scope.specs.Outcome.{Resolves}
use Rattle.cw_scope.specs.Text.{declarations_of}
use Rattle.cw_items.specs.declared.thing.Base.{Base}
use Rattle.cw_items.specs.declared.thing.Sort.{Sort}
use Rattle.cw_items.specs.declared.thing.Sort.TheVariants as sort
use Rattle.cw_items.specs.declared.thing.Thing.{Thing}
use Rattle.cw_items.specs.Families.{frame_of}
use Rattle.cw_items.specs.Things.{communicators_things, block_things}
use Rattle.cw_number.specs.declared.listed.Listing.{Listing}
use Rattle.cw_number.specs.Listed.{listed_of}
use Rattle.cw_number.specs.Numbers.{numbers_of}
use Rattle.cw_make_items.specs.Lookup.{Numbers}
use Rattle.cw_make_items.specs.Items.{addresses_of, kind_in, declared_kind, item_kind, declared_name, item_name, home_on, home_at, home_listed}
use Rattle.cw_preset.specs.Held.{held_of}
use Rattle.cw_make.specs.Made.{unit_of}
use Rattle.cw_unit.specs.declared.unit.Item.{Item}
use Rattle.cw_unit.specs.declared.unit.ItemKind.{ItemKind}
use Rattle.cw_fields.specs.Names.{is_empty}
use Rattle.cw_view.specs.ObjectFormat.{has_name, is_named}
use Rattle.cw_obj.specs.ReferenceObject.{name_or_none, is_common, entry_of}
use Rattle.cw_sound.specs.Items.Derived.{IsRising, facts_tokens, HasRisingTokens}
use Rattle.cw_sound.specs.Items.Items.{things_of}
use Rattle.cw_sound.proofs.Items.Lists.{In, in-either, at-place, each-in, within-in, stands-before}
use Rattle.cw_sound.proofs.Items.Says.{tokens-append}
use Rattle.cw_sound.proofs.Items.Naming.{listed-token}
use Rattle.cw_sound.proofs.Items.Resolving.{row_tokens}
use Rattle.cw_sound.proofs.Items.Numbering.{token_of_thing, found-here, found-later, made-of, row-at}
use Rattle.cw_sound.proofs.Items.Trees.{block_stores}
use Rattle.cw_sound.specs.Names.Placed.{tokens}
use Rattle.cw_sound.specs.Written.Counts.{Each}
use Rattle.cw_sound.specs.Written.Identified.{IsIdentified, HasIdentifiers}
use Rattle.cw_sound.proofs.Front.Lists.{token_in}
use Rattle.cw_sound.proofs.Front.Declared.{at_declaration, things_declared, communicators_named}

-- ---- names

abbrev HasDeclaration : List (Row Declaration) → (token : ℕ) → Type 0
HasDeclaration rs token = (d : Declaration) × (item_at rs token ≡ Some d) × (is_identifier d.name.name ≡ true)

declaration_at : (rs : List (Row Declaration)) → Each IsIdentified rs → (token : ℕ) → In token (tokens rs) → HasDeclaration rs token
declaration_at [] h token i = absurd i
declaration_at (r ∷ rs) h token i = of_test (nat_eq token r.token) refl i (declaration_at rs h.1 token)
  where
    of_test : (b : Bool) → nat_eq token r.token ≡ b → In token (tokens (r ∷ rs)) → (In token (tokens rs) → HasDeclaration rs token) → HasDeclaration (r ∷ rs) token
    of_test true q j later = (r.item, found-here r rs token (eqb-true token r.token q), h.0)
    of_test false q (inl e) later = let other : true ≡ false = sym (eq-eqb token r.token e) ∙ q in absurd (cc)
    of_test false q (inr j) later =
        let d = later j in
        (d.0, found-later r rs token (λ e. let other : true ≡ false = sym (eq-eqb token r.token e) ∙ q in absurd (cc)) ∙ d.1, d.2)

declared_has_name : (o : Option Kind) → has_name (declared_kind o) ≡ true
declared_has_name (Some (kind.Array t bounds)) = refl
declared_has_name (Some (kind.Table s)) = refl
declared_has_name _ = refl

not_empty : (w : List ℕ) → is_identifier w ≡ true → IsTrue (not (is_empty w))
not_empty [] h = absurd (cc)
not_empty (c ∷ w) h = refl

-- ---- homes

module _ (numbers : Numbers) (t : Thing) where
  uncommon_on : (b : Option Base) (f : Bool) → is_common (home_on numbers b f) ≡ false
  uncommon_on None true = refl
  uncommon_on None false = refl
  uncommon_on (Some b) f = refl

  uncommon : (a : Option ℕ) → is_common (home_at numbers a t) ≡ false
  uncommon None = uncommon_on t.base (is_some (frame_of t.sort t.owner))
  uncommon (Some a) = refl

-- what is_named asks
abbrev is_called : ItemKind → (name : List ℕ) → (common : Bool) → Bool
is_called k name common = cond (has_name k) (not (is_empty name)) (is_empty name && not common)

by_sort : (s : Sort) (o : Option Declaration) (common : Bool) → (s ≡ sort.Named → (d : Declaration) × (o ≡ Some d) × (is_identifier d.name.name ≡ true)) → ((s ≡ sort.Named → ⊥) → common ≡ false)
    → IsTrue (is_called (item_kind s (kind_in o)) (name_or_none (item_name s o)) common)
by_sort sort.Named o common declared unlisted =
    let d = declared refl in
    subst (λ (b : Bool). IsTrue (cond b (not (is_empty (name_or_none (declared_name o)))) (is_empty (name_or_none (declared_name o)) && not common))) (sym (declared_has_name (kind_in o)))
    (subst (λ (x : Option Declaration). IsTrue (not (is_empty (name_or_none (declared_name x))))) (sym d.1) (not_empty d.0.name.name d.2))
by_sort sort.Text o common declared unlisted = subst (λ (b : Bool). IsTrue (not b)) (sym (unlisted (λ e. cc))) refl
by_sort sort.Loop o common declared unlisted = subst (λ (b : Bool). IsTrue (not b)) (sym (unlisted (λ e. cc))) refl

-- ---- items

module _ (named : Named) (resolves : Resolves named.raw.now (results.Ok named)) (names : HasIdentifiers named.raw.now) (rising : HasRisingTokens named.raw.now) {n : ℕ} {marks : List ℕ} (tree : IsNormal n false a_raw named.raw.now marks) where
  -- what has no name is not listed: it stands in the outermost block
  not_listed : (t : Thing) (d : ℕ) → In t (block_things named named.raw.now.block None) → place_at (listed_of named.raw.now) t.at.token ≡ Some d → ⊥
  not_listed t d i e =
      let comms = communicators_facts named.raw.now.comms in
      let block = block_facts named.raw.now.block true in
      let r = row-at (listed_of named.raw.now) t.at.token d e in
      let before : In t.at.token (facts_tokens comms) =
      listed-token named.raw.now.comms t.at.token (subst (λ n. In n (row_tokens (listed_of named.raw.now))) r.2 (token_in (λ (x : Row Listing). x.token) (listed_of named.raw.now) r.0 (at-place (listed_of named.raw.now) d r.0 r.1))) in
      let behind : In t.at.token (facts_tokens block) =
      within-in t.at.token (block_stores (λ x. Unit {0}) [] named named.raw.now.block true None).tokens (token_in token_of_thing (block_things named named.raw.now.block None) t i) in
      let low = stands-before 1 (facts_tokens comms) (facts_tokens block) t.at.token t.at.token (subst (IsRising 1) (tokens-append comms block) rising) before behind in
      omega (arith, low)

  unlisted : (t : Thing) → In t (things_of named) → (t.sort ≡ sort.Named → ⊥) → (o : Option ℕ) → place_at (listed_of named.raw.now) t.at.token ≡ o → o ≡ None
  unlisted t i unnamed None e = refl
  unlisted t i unnamed (Some d) e =
      elim (in-either t (communicators_things named named.raw.now.comms) (block_things named named.raw.now.block None) i) [
        | inl l ↦ absurd (unnamed (each-in (λ (x : Thing). x.sort ≡ sort.Named) (communicators_things named named.raw.now.comms) (communicators_named named named.raw.now.comms) t l))
        | inr r ↦ absurd (not_listed t d r e)
      ]

  declaration_of : (t : Thing) → In t (things_of named) → t.sort ≡ sort.Named → HasDeclaration named.declarations t.at.token
  declaration_of t i e =
      subst (λ (rs : List (Row Declaration)). HasDeclaration rs t.at.token) (sym resolves.3)
      (declaration_at (declarations_of named.raw.now) names t.at.token (at_declaration (things_declared named tree) t i e))

  pub items_called : (i : ℕ) (x : Item) → slice_get (unit_of named).items i ≡ Some x → IsTrue (is_named (entry_of (unit_of named) (0, 0) x))
  items_called i x e =
      let m = made-of named.declarations (numbers_of named) (listed_of named.raw.now) (addresses_of named.raw.now.comms) (held_of named.raw.now) (things_of named) i x e in
      let t = m.0 in
      let there = at-place (things_of named) i t m.1 in
      let address : Option ℕ = item_at (addresses_of named.raw.now.comms) t.at.token in
      let apart : (t.sort ≡ sort.Named → ⊥) → is_common (home_listed (numbers_of named) (place_at (listed_of named.raw.now) t.at.token) address t) ≡ false =
      λ unnamed. subst (λ (o : Option ℕ). is_common (home_listed (numbers_of named) o address t) ≡ false) (sym (unlisted t there unnamed (place_at (listed_of named.raw.now) t.at.token) refl)) (uncommon (numbers_of named) t address) in
      subst (λ (y : Item). IsTrue (is_named (entry_of (unit_of named) (0, 0) y))) m.2
      (by_sort t.sort (item_at named.declarations t.at.token) (is_common (home_listed (numbers_of named) (place_at (listed_of named.raw.now) t.at.token) address t)) (declaration_of t there) apart)
