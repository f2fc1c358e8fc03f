-- What facts store: each declared item, string and FOR is a thing at its token, in the same order.
use Rattle.std.proofs.Common.{◌≡◌, ℕ, ◌+◌, ◌*◌, ◌≤◌, List, [], ◌∷◌, ◌++◌, map, Bool, true, false, ◌&&◌, cond, nat_le, Option, Some, None, refl, sym, ap, subst, ◌∙◌, arith, append-nil, append_assoc, inl, inr}
use Rattle.std.proofs.lemmas.Bool.Decides.{nat_tests}
use Rattle.cw_tree.specs.declared.leaf.Position.{Position}
use Rattle.cw_tree.specs.declared.leaf.RawName.{RawName}
use Rattle.cw_tree.specs.declared.leaf.RawType.{RawType}
use Rattle.cw_tree.specs.declared.items.RawBase.{RawBase}
use Rattle.cw_tree.specs.declared.items.RawElem.{RawElem}
use Rattle.cw_tree.specs.declared.items.RawGroup.{RawGroup}
use Rattle.cw_tree.specs.declared.items.RawRange.{RawRange}
use Rattle.cw_tree.specs.declared.items.RawTable.{RawTable}
use Rattle.cw_tree.specs.declared.items.RawData.{RawData}
use Rattle.cw_tree.specs.declared.items.RawData.TheVariants as items
use Rattle.cw_tree.specs.declared.segment.RawPs.{RawPs}
use Rattle.cw_tree.specs.declared.statement.RawParam.{RawParam}
use Rattle.cw_tree.specs.declared.statement.RawParam.TheVariants as param
use Rattle.cw_facts.specs.declared.fact.Fact.{Fact, Fact-F, map-Fact, out-Fact, roll-Fact, fold_out-Fact}
use Rattle.cw_facts.specs.declared.fact.Fact.TheFolds.{fold-roll-Fact}
use Rattle.cw_facts.specs.declared.fact.Fact.TheOpen as layer
use Rattle.cw_facts.specs.declared.fact.Fact.TheVariants as fact
use Rattle.cw_facts.specs.declared.fact.Declaration.{Declaration}
use Rattle.cw_facts.specs.declared.fact.Form.{Form}
use Rattle.cw_facts.specs.declared.fact.Form.TheVariants as form
use Rattle.cw_facts.specs.declared.fact.Kind.{Kind}
use Rattle.cw_facts.specs.declared.fact.Kind.TheVariants as kind
use Rattle.cw_facts.specs.declared.fact.Signature.{Signature}
use Rattle.cw_facts.specs.declared.fact.Use.{Use}
use Rattle.cw_facts.specs.Uses.{uses_of}
use Rattle.cw_facts.specs.Facts.{declares, specifies, each_declares, each_uses, groups_facts, elements_facts, element_name, table_facts, data_facts, base_facts, parameter_facts, parameters_facts, answer_facts, answer_name, base_name, type_position}
use Rattle.cw_facts.specs.Signatures.{plain}
use Rattle.cw_data.specs.Data.{range_span, fits_area, good_bounds, good_size}
use Rattle.cw_data.specs.Presets.{array_words, table_words}
use Rattle.cw_items.specs.declared.thing.Owner.{Owner}
use Rattle.cw_items.specs.declared.thing.Base.{Base}
use Rattle.cw_items.specs.declared.thing.Sort.TheVariants as sort
use Rattle.cw_items.specs.declared.thing.Thing.{Thing}
use Rattle.cw_items.specs.Things.{capped, thing, moved, moved_past, named_things, group_words, groups_things, words_of_table, data_things, parameter_things, parameters_things, fact_texts, texts}
use Rattle.cw_table.specs.declared.table.Row.{Row}
use Rattle.cw_scope.specs.Resolved.{fact_declarations, declarations_step}
use Rattle.cw_scope.specs.NameRules.{Said, said, said_step, is_data}
use Rattle.cw_amount.specs.Amounts.{place_amount}
use Rattle.cw_make_items.specs.Lookup.{Numbers}
use Rattle.cw_make_items.specs.Items.{proc_of_owner}
use Rattle.cw_sound.specs.Items.Derived.{fact_tokens, facts_tokens, tokens_step}
use Rattle.cw_sound.specs.Items.Bodies.{Stored, stored_at, AllStored, is_other, declared_stored, stored_step, fact_stored, facts_stored}
use Rattle.cw_sound.proofs.Expressions.Truth.{first_true, second_true}
use Rattle.cw_sound.proofs.Items.Lists.{In, in-left, in-right, in-either, each-append, each-left, each-right, Within, nothing, with, none-within, within-append, Merged, neither, left, right}
use Rattle.cw_sound.proofs.Items.Apart.{Apart, apart-both, apart-none, apart-item, apart-fact, apart-one, apart-other, apart-block}
use Rattle.cw_sound.proofs.Items.Leaf.{IsLeaf, IsLeafLayer}
use Rattle.cw_sound.proofs.Items.Says.{HasToken, declared, declared-append, said-declares, tokens-append, tokens-declares}
use Rattle.cw_sound.proofs.Items.Numbering.{tokens_of_things}
use Rattle.cw_macro.specs.Premises.{Each}

-- ---- each thing has a word

product : (a b : ℕ) → 1 ≤ a → 1 ≤ b → 1 ≤ a * b
product a b h k = grind arith

one-span : (b : Bool) (n : ℕ) → (b ≡ true → 1 ≤ n) → 1 ≤ cond b n 1
one-span true n h = h refl
one-span false n h = omega arith

at-least : (m n : ℕ) → nat_le m n ≡ true → m ≤ n
at-least m n e = grind (arith, nat_tests)

pub array-has-word : (r : RawRange) (s : Option RawRange) → 1 ≤ array_words r s
array-has-word r None = one-span (good_bounds r None) (range_span r) (λ e. at-least 1 (range_span r) (first_true (nat_le 1 (range_span r)) (fits_area (range_span r)) e))
array-has-word r (Some s) =
    one-span (good_bounds r (Some s)) (range_span r * range_span s)
    (λ e.
    let rest : (nat_le 1 (range_span s) && fits_area (range_span r * range_span s)) ≡ true = second_true (nat_le 1 (range_span r)) (nat_le 1 (range_span s) && fits_area (range_span r * range_span s)) e in
    product (range_span r) (range_span s) (at-least 1 (range_span r) (first_true (nat_le 1 (range_span r)) (nat_le 1 (range_span s) && fits_area (range_span r * range_span s)) e))
    (at-least 1 (range_span s) (first_true (nat_le 1 (range_span s)) (fits_area (range_span r * range_span s)) rest)))

pub table-has-word : (w n : Option ℕ) → 1 ≤ table_words w n
table-has-word None n = omega arith
table-has-word (Some w) None = omega arith
table-has-word (Some w) (Some n) =
    one-span (good_size (Some w) (Some n)) (w * n)
    (λ e.
    let rest : (nat_le 1 n && fits_area (w * n)) ≡ true = second_true (nat_le 1 w) (nat_le 1 n && fits_area (w * n)) e in
    product w n (at-least 1 w (first_true (nat_le 1 w) (nat_le 1 n && fits_area (w * n)) e)) (at-least 1 n (first_true (nat_le 1 n) (fits_area (w * n)) rest)))

text-has-word : (n : ℕ) → 1 ≤ capped (n + 1)
text-has-word n = of-test (nat_le (n + 1) 32768)
  where
    of-test : (b : Bool) → 1 ≤ cond b (n + 1) 32769
    of-test true = omega arith
    of-test false = omega arith

no-loop : {A : Type 0} → sort.Named ≡ sort.Loop → A
no-loop e = absurd cc

no-loop-of-text : {A : Type 0} → sort.Text ≡ sort.Loop → A
no-loop-of-text e = absurd cc

-- ---- facts beside things

module _ (H : Stored → Type 0) (numbers : Numbers) where
  -- what stands for a thing has as many words
  abbrev pub Kept : Thing → Type 0
  Kept t = (words : ℕ) → words ≤ t.words → H (stored_at (proc_of_owner numbers t.owner) t.at.token words)

  abbrev pub IsLong : Thing → Type 0
  IsLong t = (1 ≤ t.words) × (t.sort ≡ sort.Loop → t.words ≡ 4)

  -- what is declared here is a thing of this owner
  abbrev pub DataThing : Option Owner → List Thing → Declaration → Type 0
  DataThing o things d = (s : Thing) × In s things × (s.at.token ≡ d.name.at.token) × (s.owner ≡ o) × (s.sort ≡ sort.Named)

  abbrev pub DataThings : Option Owner → List Fact → List Thing → Type 0
  DataThings o facts things = (d : Declaration) → In d (declared facts) → is_data d.kind ≡ true → DataThing o things d

  pub record Stores (o : Option Owner) (facts : List Fact) (things : List Thing) : Type 0 where
    pub apart : Apart facts (tokens_of_things things)
    pub things_of_data : DataThings o facts things
    pub long : Each IsLong things
    pub tokens : Within (tokens_of_things things) (facts_tokens facts)
    pub gives : Each Kept things → Each H (facts_stored numbers facts (proc_of_owner numbers o))

  stored-append : (a b : List Fact) (who : Option ℕ) → facts_stored numbers (a ++ b) who ≡ facts_stored numbers a who ++ facts_stored numbers b who
  stored-append [] b who = refl
  stored-append (f ∷ a) b who = ap (λ xs. fact_stored numbers f who ++ xs) (stored-append a b who) ∙ sym (append_assoc (fact_stored numbers f who) (facts_stored numbers a who) (facts_stored numbers b who))

  stored-both : (a b : List Fact) (who : Option ℕ) → Each H (facts_stored numbers a who) → Each H (facts_stored numbers b who) → Each H (facts_stored numbers (a ++ b) who)
  stored-both a b who h k = subst (Each H) (sym (stored-append a b who)) (each-append H (facts_stored numbers a who) (facts_stored numbers b who) h k)

  tokens-of-both : (ts ss : List Thing) → tokens_of_things (ts ++ ss) ≡ tokens_of_things ts ++ tokens_of_things ss
  tokens-of-both [] ss = refl
  tokens-of-both (t ∷ ts) ss = ap (λ l. t.at.token ∷ l) (tokens-of-both ts ss)

  pub stores-both : (o : Option Owner) (a b : List Fact) (ts ss : List Thing) → Stores o a ts → Stores o b ss → Stores o (a ++ b) (ts ++ ss)
  stores-both o a b ts ss h k = record {
    apart = subst (Apart (a ++ b)) (sym (tokens-of-both ts ss)) (apart-both a b (tokens_of_things ts) (tokens_of_things ss) h.apart k.apart);
    things_of_data =
        λ d i y. elim (in-either d (declared a) (declared b) (subst (In d) (declared-append a b) i)) [
          | inl l ↦ let t = h.things_of_data d l y in (t.0, in-left t.0 ts ss t.1, t.2, t.3, t.4)
          | inr r ↦ let t = k.things_of_data d r y in (t.0, in-right t.0 ts ss t.1, t.2, t.3, t.4)
        ];
    long = each-append IsLong ts ss h.long k.long;
    tokens =
        subst (λ l. Within l (facts_tokens (a ++ b))) (sym (tokens-of-both ts ss))
        (subst (Within (tokens_of_things ts ++ tokens_of_things ss)) (sym (tokens-append a b)) (within-append h.tokens k.tokens));
    gives = λ each. stored-both a b (proc_of_owner numbers o) (h.gives (each-left Kept ts ss each)) (k.gives (each-right Kept ts ss each));
  }

  pub stores-none : (o : Option Owner) → Stores o [] []
  stores-none o = record { apart = apart-none; things_of_data = λ d i y. absurd i; long = tt; tokens = nothing; gives = λ each. tt }

  -- ---- single facts

  one-declared : (d c : Declaration) → In d (declared (fact.Declares c ∷ [])) → d ≡ c
  one-declared d c i = of-one (subst (λ (x : Said). In d (x.declared ++ [])) (said-declares c) i)
    where
      of-one : In d (c ∷ []) → d ≡ c
      of-one (inl e) = e
      of-one (inr j) = absurd j

  none-declared : (o : Option Owner) (f : Fact) (x : Said) (ts : List Thing) → said f ≡ x → x.declared ≡ [] → DataThings o (f ∷ []) ts
  none-declared o f x ts e n d i y = absurd (subst (In d) n (none-behind (subst (λ (z : Said). In d (z.declared ++ [])) e i)))
    where
      none-behind : In d (x.declared ++ []) → In d x.declared
      none-behind j = subst (In d) (append-nil x.declared) j

  said-layer : (f : Fact) (y : Fact-F Fact) → roll-Fact y ≡ f → said f ≡ said_step (map-Fact Fact Said said y)
  said-layer f y e = ap said (sym e) ∙ fold-roll-Fact Said said_step y

  one-stored : (f : Fact) (y : AllStored) (who : Option ℕ) → fact_stored numbers f ≡ y → Each H (y who) → Each H (facts_stored numbers (f ∷ []) who)
  one-stored f y who e h = subst (λ (F : AllStored). Each H (F who ++ [])) (sym e) (each-append H (y who) [] h tt)

  stored-declares : (d : Declaration) → fact_stored numbers (fact.Declares d) ≡ stored_step numbers (layer.Declares d)
  stored-declares d = ap (fact_stored numbers) (sym (fact.rolls-Declares d)) ∙ fold-roll-Fact AllStored (stored_step numbers) (layer.Declares d)

  stored-uses : (u : Use) → fact_stored numbers (fact.Uses u) ≡ stored_step numbers (layer.Uses u)
  stored-uses u = ap (fact_stored numbers) (sym (fact.rolls-Uses u)) ∙ fold-roll-Fact AllStored (stored_step numbers) (layer.Uses u)

  stored-specifies : (token : ℕ) (s : Signature) → fact_stored numbers (fact.Specifies token s) ≡ stored_step numbers (layer.Specifies token s)
  stored-specifies token s = ap (fact_stored numbers) (sym (fact.rolls-Specifies token s)) ∙ fold-roll-Fact AllStored (stored_step numbers) (layer.Specifies token s)

  stored-loop : (at : Position) → fact_stored numbers (fact.Loop at) ≡ stored_step numbers (layer.Loop at)
  stored-loop at = ap (fact_stored numbers) (sym (fact.rolls-Loop at)) ∙ fold-roll-Fact AllStored (stored_step numbers) (layer.Loop at)

  stored-block : (owner : Option ℕ) (xs : List Fact) → fact_stored numbers (fact.Block owner xs) ≡ stored_step numbers (layer.Block owner (map (fact_stored numbers) xs))
  stored-block owner xs = ap (fact_stored numbers) (sym (fact.rolls-Block owner xs)) ∙ fold-roll-Fact AllStored (stored_step numbers) (layer.Block owner xs)

  tokens-loop : (at : Position) → fact_tokens (fact.Loop at) ≡ at.token ∷ []
  tokens-loop at = ap fact_tokens (sym (fact.rolls-Loop at)) ∙ fold-roll-Fact (List ℕ) tokens_step (layer.Loop at)

  tokens-block : (owner : Option ℕ) (xs : List Fact) → fact_tokens (fact.Block owner xs) ≡ facts_tokens xs
  tokens-block owner xs = ap fact_tokens (sym (fact.rolls-Block owner xs)) ∙ fold-roll-Fact (List ℕ) tokens_step (layer.Block owner xs)

  -- a declaration that stores a thing, and one that stores none
  abbrev pub IsItemKind : Kind → Type 0
  IsItemKind k = ((who : Option ℕ) (token : ℕ) → H (stored_at who token 1) → Each H (declared_stored k token who)) × (is_other k ≡ false)

  abbrev pub IsOtherKind : Kind → Type 0
  IsOtherKind k = ((who : Option ℕ) (token : ℕ) → Each H (declared_stored k token who)) × (is_data k ≡ false)

  pub stores-item : (o : Option Owner) (b : Option Base) (w : ℕ) (k : Kind) (n : RawName) → IsItemKind k → HasToken k → 1 ≤ w → Stores o (declares n k ∷ []) (thing sort.Named n.at o b w ∷ [])
  stores-item o b w k n h t l =
      let d : Declaration = record { name = n; kind = k } in
      let e : fact_tokens (fact.Declares d) ≡ n.at.token ∷ [] = tokens-declares d ∙ t n.at.token in
      record {
        apart = apart-item k n t h.1;
        things_of_data = λ c i y. (thing sort.Named n.at o b w, inl refl, ap (λ (x : Declaration). x.name.at.token) (sym (one-declared c d i)), refl, refl);
        long = ((l, no-loop), tt);
        tokens = subst (λ l. Within (n.at.token ∷ []) (l ++ [])) (sym e) (with nothing);
        gives = λ each. one-stored (fact.Declares d) (stored_step numbers (layer.Declares d)) (proc_of_owner numbers o) (stored-declares d) (h.0 (proc_of_owner numbers o) n.at.token (each.0 1 l));
      }

  pub stores-other : (o : Option Owner) (k : Kind) (n : RawName) → IsOtherKind k → Stores o (declares n k ∷ []) []
  stores-other o k n h =
      let d : Declaration = record { name = n; kind = k } in
      record {
        apart = apart-other k n;
        things_of_data = λ c i y. absurd (let no : true ≡ false = sym y ∙ ap (λ (x : Declaration). is_data x.kind) (one-declared c d i) ∙ h.1 in absurd cc);
        long = tt;
        tokens = none-within (facts_tokens (declares n k ∷ []));
        gives = λ each. one-stored (fact.Declares d) (stored_step numbers (layer.Declares d)) (proc_of_owner numbers o) (stored-declares d) (h.0 (proc_of_owner numbers o) n.at.token);
      }

  pub stores-use : (o : Option Owner) (n : RawName) (f : Form) → Stores o (uses_of n f) []
  stores-use o n f =
      let u : Use = record { name = n; form = f } in
      record {
        apart = apart-fact (fact.Uses u) (ap fact_declarations (sym (fact.rolls-Uses u)) ∙ fold-roll-Fact (List (Row Declaration)) declarations_step (layer.Uses u));
        things_of_data = none-declared o (fact.Uses u) (said_step (layer.Uses u)) [] (said-layer (fact.Uses u) (layer.Uses u) (fact.rolls-Uses u)) refl;
        long = tt;
        tokens = none-within (facts_tokens (uses_of n f));
        gives = λ each. one-stored (fact.Uses u) (stored_step numbers (layer.Uses u)) (proc_of_owner numbers o) (stored-uses u) tt;
      }

  pub stores-specification : (o : Option Owner) (token : ℕ) (answer : Option RawType) (params : List RawPs) → Stores o (specifies token answer params ∷ []) []
  stores-specification o token answer params =
      let s : Signature = record { answer = answer; params = params } in
      record {
        apart = apart-fact (fact.Specifies token s) (ap fact_declarations (sym (fact.rolls-Specifies token s)) ∙ fold-roll-Fact (List (Row Declaration)) declarations_step (layer.Specifies token s));
        things_of_data = none-declared o (fact.Specifies token s) (said_step (layer.Specifies token s)) [] (said-layer (fact.Specifies token s) (layer.Specifies token s) (fact.rolls-Specifies token s)) refl;
        long = tt;
        tokens = none-within (facts_tokens (specifies token answer params ∷ []));
        gives = λ each. one-stored (fact.Specifies token s) (stored_step numbers (layer.Specifies token s)) (proc_of_owner numbers o) (stored-specifies token s) tt;
      }

  pub stores-loop : (o : Option Owner) (at : Position) → Stores o (fact.Loop at ∷ []) (thing sort.Loop at o None 4 ∷ [])
  stores-loop o at = record {
    apart = apart-one (fact.Loop at) at.token (tokens-loop at) (ap fact_declarations (sym (fact.rolls-Loop at)) ∙ fold-roll-Fact (List (Row Declaration)) declarations_step (layer.Loop at));
    things_of_data = none-declared o (fact.Loop at) (said_step (layer.Loop at)) (thing sort.Loop at o None 4 ∷ []) (said-layer (fact.Loop at) (layer.Loop at) (fact.rolls-Loop at)) refl;
    long = ((omega arith, λ e. refl), tt);
    tokens = subst (λ l. Within (at.token ∷ []) (l ++ [])) (sym (tokens-loop at)) (with nothing);
    gives = λ each. one-stored (fact.Loop at) (stored_step numbers (layer.Loop at)) (proc_of_owner numbers o) (stored-loop at) (each.0 4 (omega arith), tt);
  }

  block-tokens : (owner : Option ℕ) (xs : List Fact) → facts_tokens (fact.Block owner xs ∷ []) ≡ facts_tokens xs ++ []
  block-tokens owner xs = ap (λ l. l ++ []) (tokens-block owner xs)

  pub stores-block : (o : Option Owner) (xs : List Fact) (ts : List Thing) → Stores o xs ts → Stores o (fact.Block None xs ∷ []) ts
  stores-block o xs ts h = record {
    apart = apart-block None xs (tokens_of_things ts) h.apart;
    things_of_data = none-declared o (fact.Block None xs) (said_step (layer.Block None (map said xs))) ts (said-layer (fact.Block None xs) (layer.Block None xs) (fact.rolls-Block None xs)) refl;
    long = h.long;
    tokens = subst (Within (tokens_of_things ts)) (sym (block-tokens None xs ∙ append-nil (facts_tokens xs))) h.tokens;
    gives = λ each. one-stored (fact.Block None xs) (stored_step numbers (layer.Block None (map (fact_stored numbers) xs))) (proc_of_owner numbers o) (stored-block None xs) (h.gives each);
  }

  -- the body of a procedure is in no other
  pub stores-procedure : (o : Option Owner) (w : Owner) (xs : List Fact) (ts : List Thing) → Stores (Some w) xs ts → Stores o (fact.Block (Some w.token) xs ∷ []) ts
  stores-procedure o w xs ts h = record {
    apart = apart-block (Some w.token) xs (tokens_of_things ts) h.apart;
    things_of_data = none-declared o (fact.Block (Some w.token) xs) (said_step (layer.Block (Some w.token) (map said xs))) ts (said-layer (fact.Block (Some w.token) xs) (layer.Block (Some w.token) xs) (fact.rolls-Block (Some w.token) xs)) refl;
    long = h.long;
    tokens = subst (Within (tokens_of_things ts)) (sym (block-tokens (Some w.token) xs ∙ append-nil (facts_tokens xs))) h.tokens;
    gives = λ each. one-stored (fact.Block (Some w.token) xs) (stored_step numbers (layer.Block (Some w.token) (map (fact_stored numbers) xs))) (proc_of_owner numbers o) (stored-block (Some w.token) xs) (h.gives each);
  }

  -- ---- lists of names

  pub stores-named : (o : Option Owner) (b : Option Base) (w : ℕ) (k : Kind) (ns : List RawName) → IsItemKind k → HasToken k → 1 ≤ w → Stores o (each_declares k ns) (named_things o w b ns)
  stores-named o b w k [] h t l = stores-none o
  stores-named o b w k (n ∷ ns) h t l =
      stores-both o (declares n k ∷ []) (each_declares k ns) (thing sort.Named n.at o b w ∷ []) (named_things o w (moved w b) ns) (stores-item o b w k n h t l) (stores-named o (moved w b) w k ns h t l)

  pub stores-others : (o : Option Owner) (k : Kind) (ns : List RawName) → IsOtherKind k → Stores o (each_declares k ns) []
  stores-others o k [] h = stores-none o
  stores-others o k (n ∷ ns) h = stores-both o (declares n k ∷ []) (each_declares k ns) [] [] (stores-other o k n h) (stores-others o k ns h)

  pub stores-uses : (o : Option Owner) (ns : List RawName) → Stores o (each_uses ns) []
  stores-uses o [] = stores-none o
  stores-uses o (n ∷ ns) = stores-both o (uses_of n form.Listed) (each_uses ns) [] [] (stores-use o n form.Listed) (stores-uses o ns)

  -- ---- data

  stores-groups : (o : Option Owner) (b : Option Base) (t : RawType) (gs : List RawGroup) → Stores o (groups_facts t gs) (groups_things o b gs)
  stores-groups o b t [] = stores-none o
  stores-groups o b t (g ∷ gs) =
      stores-both o (each_declares (kind.Array t g.bounds) g.names) (groups_facts t gs) (named_things o (group_words g) b g.names) (groups_things o (moved_past (group_words g) g.names b) gs)
      (stores-named o b (group_words g) (kind.Array t g.bounds) g.names ((λ who token h. (h, tt)), refl) (λ token. refl) (array-has-word g.bounds.first g.bounds.second))
      (stores-groups o (moved_past (group_words g) g.names b) t gs)

  stores-elements : (o : Option Owner) (table : RawName) (es : List RawElem) → Stores o (elements_facts table es) []
  stores-elements o table [] = stores-none o
  stores-elements o table (e ∷ es) =
      stores-both o (declares (element_name e) (kind.Element table e) ∷ []) (elements_facts table es) [] [] (stores-other o (kind.Element table e) (element_name e) ((λ who token. tt), refl)) (stores-elements o table es)

  pub stores-table : (o : Option Owner) (b : Option Base) (w : ℕ) (k : Kind) (t : RawTable) → IsItemKind k → HasToken k → 1 ≤ w → Stores o (table_facts k t) (thing sort.Named t.name.at o b w ∷ [])
  stores-table o b w k t h e l =
      stores-both o (declares t.name k ∷ []) (elements_facts t.name t.elems) (thing sort.Named t.name.at o b w ∷ []) [] (stores-item o b w k t.name h e l) (stores-elements o t.name t.elems)

  pub stores-data : (o : Option Owner) (b : Option Base) (d : RawData) → Stores o (data_facts d) (data_things o b d)
  stores-data o b (items.Singles t ns presets) = stores-named o b 1 (kind.Single t) ns ((λ who token h. (h, tt)), refl) (λ token. refl) (omega arith)
  stores-data o b (items.Arrays t gs presets) = stores-groups o b t gs
  stores-data o b (items.Table t inside behind) =
      stores-table o b (words_of_table t) (kind.Table t.size) t ((λ who token h. (h, tt)), refl) (λ token. refl) (table-has-word (place_amount t.size.first) (place_amount t.size.second))

  pub stores-overlay : (o : Option Owner) (base : RawBase) (b : Option Base) (d : RawData) → Stores o (base_facts base ++ data_facts d) (data_things o b d)
  stores-overlay o base b d = stores-both o (base_facts base) (data_facts d) [] (data_things o b d) (stores-use o (base_name base) form.Base) (stores-data o b d)

  -- ---- parameters

  stores-parameter : (o : Option Owner) (p : RawParam) → Stores o (parameter_facts p) (parameter_things o p)
  stores-parameter o (param.Value at t ns) = stores-named o None 1 (kind.Value t) ns ((λ who token h. (h, tt)), refl) (λ token. refl) (omega arith)
  stores-parameter o (param.Location at t ns) = stores-named o None 1 (kind.Location t) ns ((λ who token h. (h, tt)), refl) (λ token. refl) (omega arith)
  stores-parameter o (param.Array t ns) = stores-named o None 1 (kind.ArrayParam t) ns ((λ who token h. (h, tt)), refl) (λ token. refl) (omega arith)
  stores-parameter o (param.Table t) = stores-table o None 1 (kind.TableParam t.size) t ((λ who token h. (h, tt)), refl) (λ token. refl) (omega arith)
  stores-parameter o (param.Label at ns) = stores-others o kind.LabelParam ns ((λ who token. tt), refl)
  stores-parameter o (param.Switch at ns) = stores-others o kind.SwitchParam ns ((λ who token. tt), refl)
  stores-parameter o (param.Proc answer at n params) =
      stores-both o (declares n (kind.ProcParam answer) ∷ []) (specifies n.at.token answer (plain params) ∷ []) [] [] (stores-other o (kind.ProcParam answer) n ((λ who token. tt), refl))
      (stores-specification o n.at.token answer (plain params))

  pub stores-parameters : (o : Option Owner) (ps : List RawParam) → Stores o (parameters_facts ps) (parameters_things o ps)
  stores-parameters o [] = stores-none o
  stores-parameters o (p ∷ ps) = stores-both o (parameter_facts p) (parameters_facts ps) (parameter_things o p) (parameters_things o ps) (stores-parameter o p) (stores-parameters o ps)

  pub stores-answer : (o : Option Owner) (answer : Option RawType) → Stores o (answer_facts answer) []
  stores-answer o None = stores-none o
  stores-answer o (Some t) = stores-other o (kind.Answer t) (answer_name (type_position t)) ((λ who token. tt), refl)

  -- ---- strings: of facts that are uses and strings alone

  record LeafStores (o : Option Owner) (y : Fact-F Fact) : Type 0 where
    none : (said_step (map-Fact Fact Said said y)).declared ≡ []
    rows : declarations_step (map-Fact Fact (List (Row Declaration)) fact_declarations y) ≡ []
    rest : List ℕ
    merged : Merged (tokens_of_things (fact_texts o y)) rest (tokens_step (map-Fact Fact (List ℕ) fact_tokens y))
    long : Each IsLong (fact_texts o y)
    tokens : Within (tokens_of_things (fact_texts o y)) (tokens_step (map-Fact Fact (List ℕ) fact_tokens y))
    gives : Each Kept (fact_texts o y) → Each H (stored_step numbers (map-Fact Fact AllStored (fact_stored numbers) y) (proc_of_owner numbers o))

  leaf-layer : (o : Option Owner) (y : Fact-F Fact) → IsLeafLayer y → LeafStores o y
  leaf-layer o (layer.Uses u) l = record { none = refl; rows = refl; rest = u.name.at.token ∷ []; merged = right neither; long = tt; tokens = none-within (u.name.at.token ∷ []); gives = λ each. tt }
  leaf-layer o (layer.Text at n) l = record { none = refl; rows = refl; rest = []; merged = left neither; long = ((text-has-word n, no-loop-of-text), tt); tokens = with nothing; gives = λ each. (each.0 1 (text-has-word n), tt) }
  leaf-layer o _ l = absurd l

  leaf-tokens : (f : Fact) → facts_tokens (f ∷ []) ≡ tokens_step (map-Fact Fact (List ℕ) fact_tokens (out-Fact f)) ++ []
  leaf-tokens f = ap (λ l. l ++ []) (fold_out-Fact (List ℕ) tokens_step f)

  stores-leaf : (o : Option Owner) (f : Fact) → IsLeaf f → Stores o (f ∷ []) (fact_texts o (out-Fact f))
  stores-leaf o f l =
      let s = leaf-layer o (out-Fact f) l in
      record {
        apart = record {
          rest = s.rest;
          merged = subst (Merged (tokens_of_things (fact_texts o (out-Fact f))) s.rest) (sym (leaf-tokens f ∙ append-nil (tokens_step (map-Fact Fact (List ℕ) fact_tokens (out-Fact f))))) s.merged;
          others = λ r i e. absurd (subst (λ (rs : List (Row Declaration)). In r (rs ++ [])) (fold_out-Fact (List (Row Declaration)) declarations_step f ∙ s.rows) i);
        };
        things_of_data = none-declared o f (said_step (map-Fact Fact Said said (out-Fact f))) (fact_texts o (out-Fact f)) (fold_out-Fact Said said_step f) s.none;
        long = s.long;
        tokens = subst (Within (tokens_of_things (fact_texts o (out-Fact f)))) (sym (leaf-tokens f ∙ append-nil (tokens_step (map-Fact Fact (List ℕ) fact_tokens (out-Fact f))))) s.tokens;
        gives = λ each. one-stored f (stored_step numbers (map-Fact Fact AllStored (fact_stored numbers) (out-Fact f))) (proc_of_owner numbers o) (fold_out-Fact AllStored (stored_step numbers) f) (s.gives each);
      }

  pub stores-texts : (o : Option Owner) (fs : List Fact) → Each IsLeaf fs → Stores o fs (texts o fs)
  stores-texts o [] l = stores-none o
  stores-texts o (f ∷ fs) l = stores-both o (f ∷ []) fs (fact_texts o (out-Fact f)) (texts o fs) (stores-leaf o f l.0) (stores-texts o fs l.1)
