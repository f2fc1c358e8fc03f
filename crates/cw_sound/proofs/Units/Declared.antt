-- What a text stores stands where its names ask for it.
use Rattle.std.proofs.Common.{◌≡◌, inl, inr, ℕ, List, [], ◌∷◌, ◌++◌, map, true, IsTrue, Option, Some, None, refl, sym, ap, ap₂, subst, ◌∙◌, append_assoc, append-nil}
use Rattle.std.specs.List.{All}
use Rattle.std.specs.declared.result.Result.TheVariants.{Ok}
use Rattle.std.proofs.lemmas.List.Elements.{All-head, All-tail}
use Rattle.cw_table.specs.declared.table.Row.{Row}
use Rattle.cw_table.specs.Rows.{item_at}
use Rattle.cw_facts.specs.declared.fact.Fact.{Fact, Fact-F, map-Fact}
use Rattle.cw_facts.specs.declared.fact.Fact.TheOpen as layer
use Rattle.cw_facts.specs.declared.fact.Declaration.{Declaration}
use Rattle.cw_facts.specs.declared.fact.Kind.{Kind}
use Rattle.cw_facts.specs.declared.fact.Kind.TheVariants as kind
use Rattle.cw_facts.specs.Text.{text_facts}
use Rattle.cw_scope.specs.declared.resolve.Named.{Named}
use Rattle.cw_scope.specs.Outcome.{Resolves}
use Rattle.cw_items.specs.Things.{text_things}
use Rattle.cw_number.specs.Numbers.{item_rows, numbers_of}
use Rattle.cw_make_items.specs.Lookup.{Numbers}
use Rattle.cw_make.specs.Labels.{proc_within}
use Rattle.cw_make.specs.Made.{unit_of}
use Rattle.cw_sound.specs.Uses.Mentions.{In, Mention, Here, here, declares, uses, stores, Mentions, mentions_step, fact_mentions, facts_mentions, text_mentions}
use Rattle.cw_sound.specs.Names.Standing as names
use Rattle.cw_sound.specs.Names.Standing.{is_item, IsItemFrom}
use Rattle.cw_sound.proofs.Names.Lists.{in_left, in_right}
use Rattle.cw_sound.proofs.Names.FactFolds.{RelatedLayer, each_related}
use Rattle.cw_sound.proofs.Names.Rows.{row, in_rows, facts_rows}
use Rattle.cw_sound.specs.Items.Bodies.{Stored, AllStored, stored_at, declared_stored, is_other, stored_step, fact_stored, facts_stored}
use Rattle.cw_sound.specs.Items.Items.{ItemsStand, IsThere}

each : {X : Type 0} (P : X → Type 0) (xs : List X) → All P xs → (x : X) → In x xs → P x
each P [] h x i = absurd i
each P (y ∷ ys) h x (inl e) = subst P e (All-head P y ys h)
each P (y ∷ ys) h x (inr i) = each P ys (All-tail P y ys h) x i

-- ---- what is stored, by its mentions

abbrev stored_by : Mention → AllStored
stored_by (declares d) who = declared_stored d.kind d.name.at.token who
stored_by (uses x) who = []
stored_by (stores token words) who = stored_at who token words ∷ []

abbrev stored_in : List Here → List Stored
stored_in [] = []
stored_in (m ∷ ms) = stored_by m.mention m.who ++ stored_in ms

stored_append : (xs ys : List Here) → stored_in (xs ++ ys) ≡ stored_in xs ++ stored_in ys
stored_append [] ys = refl
stored_append (x ∷ xs) ys = ap (λ zs. stored_by x.mention x.who ++ zs) (stored_append xs ys) ∙ sym (append_assoc (stored_by x.mention x.who) (stored_in xs) (stored_in ys))

is_stored : (m : Here) (ms : List Here) → In m ms → (s : Stored) → In s (stored_by m.mention m.who) → In s (stored_in ms)
is_stored m [] i s j = absurd i
is_stored m (n ∷ ms) (inl e) s j = in_left s (stored_by n.mention n.who) (stored_in ms) (subst (λ (x : Here). In s (stored_by x.mention x.who)) (sym e) j)
is_stored m (n ∷ ms) (inr i) s j = in_right s (stored_by n.mention n.who) (stored_in ms) (is_stored m ms i s j)

module _ (numbers : Numbers) where
  abbrev HasStored : Mentions → AllStored → Type 0
  HasStored ms xs = (who : Option ℕ) → stored_in (ms who) ≡ xs who

  abbrev FactHas : Fact → Type 0
  FactHas f = HasStored (fact_mentions numbers f) (fact_stored numbers f)

  all_have : (es : List ((f : Fact) × FactHas f)) (who : Option ℕ) → let fs : List Fact = map (λ e. e.0) es in stored_in (facts_mentions numbers fs who) ≡ facts_stored numbers fs who
  all_have [] who = refl
  all_have (e ∷ es) who = stored_append (fact_mentions numbers e.0 who) (facts_mentions numbers (map (λ z. z.0) es) who) ∙ ap₂ (λ a b. a ++ b) (e.1 who) (all_have es who)

  have_stored : (y : Fact-F ((f : Fact) × FactHas f)) → RelatedLayer (mentions_step numbers) (stored_step numbers) HasStored (map-Fact ((f : Fact) × FactHas f) Fact (λ e. e.0) y)
  have_stored (layer.Declares d) who = append-nil (declared_stored d.kind d.name.at.token who)
  have_stored (layer.Block owner es) who = all_have es (proc_within numbers owner who)
  have_stored _ who = refl

  fact_has : (f : Fact) → FactHas f
  fact_has = each_related (mentions_step numbers) (stored_step numbers) HasStored have_stored

  facts_have : (fs : List Fact) (who : Option ℕ) → stored_in (facts_mentions numbers fs who) ≡ facts_stored numbers fs who
  facts_have [] who = refl
  facts_have (f ∷ fs) who = stored_append (fact_mentions numbers f who) (facts_mentions numbers fs who) ∙ ap₂ (λ a b. a ++ b) (fact_has f who) (facts_have fs who)

-- ---- sorts of declarations

one_word : (k : Kind) (token : ℕ) (who : Option ℕ) → IsTrue (is_item k) → In (stored_at who token 1) (declared_stored k token who)
one_word (kind.Single t) token who h = inl refl
one_word (kind.Array t b) token who h = inl refl
one_word (kind.Table s) token who h = inl refl
one_word (kind.Value t) token who h = inl refl
one_word (kind.Location t) token who h = inl refl
one_word (kind.ArrayParam t) token who h = inl refl
one_word (kind.TableParam s) token who h = inl refl
one_word _ token who h = absurd (cc)

-- ---- the text

module _ (named : Named) (resolves : Resolves named.raw.now (Ok named)) (stand : ItemsStand named) where
  abbrev all : List Here
  all = text_mentions (numbers_of named) named.raw.now

  there : (m : Here) → In m all → (s : Stored) → In s (stored_by m.mention m.who) → IsThere named s
  there m i s j =
      each (IsThere named) (facts_stored (numbers_of named) (text_facts named.raw.now) None) stand.facts s
      (subst (In s) (facts_have (numbers_of named) (text_facts named.raw.now) None) (is_stored m all i s j))

  from : (owner : Option ℕ) (token : ℕ) → IsThere named (stored_at owner token 1) → IsItemFrom named (numbers_of named) (unit_of named) owner (item_at (numbers_of named) token)
  from None token t = λ who. (t.0, t.1, stand.anywhere who t.0 1 t.2)
  from (Some p) token t = t

  others : (owner : Option ℕ) (d : Declaration) → IsTrue (names.is_other d.kind) → In (here owner (declares d)) all → item_at (item_rows 0 (text_things named named.raw.now)) d.name.at.token ≡ None
  others owner d h i =
      let r : In (row d) named.declarations = subst (In (row d)) (facts_rows (numbers_of named) (text_facts named.raw.now) None ∙ sym resolves.3) (in_rows owner d all i) in
      each (λ (x : Row Declaration). is_other x.item.kind ≡ true → item_at (item_rows 0 (text_things named named.raw.now)) x.token ≡ None) named.declarations stand.others (row d) r h

  pub items_declared : names.ItemsStand named (numbers_of named) (unit_of named)
  items_declared = record {
    declared = λ owner d h i. from owner d.name.at.token (there (here owner (declares d)) i (stored_at owner d.name.at.token 1) (one_word d.kind d.name.at.token owner h));
    unnamed = λ who token words i. there (here who (stores token words)) i (stored_at who token words) (inl refl);
    others = others;
  }
