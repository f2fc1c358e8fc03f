-- The descriptors of a text have names, no two the same.
use Rattle.std.proofs.Common.{◌≡◌, ◌≢◌, ◌⊎◌, inl, inr, ℕ, List, [], ◌∷◌, ◌++◌, map, Bool, true, false, cond, IsTrue, ◌&&◌, ◌||◌, not, ◌==◌, Option, Some, None, refl, sym, ap, subst, ◌∙◌, append_assoc}
use Rattle.std.specs.Prelude.{find}
use Rattle.std.specs.Str.{bytes_eq}
use Rattle.std.specs.Cmp.Lexicographic.{bytes_decides}
use Rattle.std.proofs.lemmas.Bool.{eqb-true}
use Rattle.std.proofs.lemmas.Option.{same_Some}
use Rattle.std.specs.declared.result.Result.TheVariants as result
use Rattle.cw_table.specs.declared.table.Row.{Row}
use Rattle.cw_tree.specs.declared.leaf.RawName.{RawName}
use Rattle.cw_facts.specs.declared.fact.Fact.{Fact, Fact-F, map-Fact}
use Rattle.cw_facts.specs.declared.fact.Fact.TheFolds.{fold-roll-Fact, ind-Fact}
use Rattle.cw_facts.specs.declared.fact.Fact.TheOpen as layer
use Rattle.cw_facts.specs.declared.fact.Fact.TheVariants as fact
use Rattle.cw_facts.specs.declared.fact.Declaration.{Declaration}
use Rattle.cw_facts.specs.declared.fact.Kind.{Kind}
use Rattle.cw_facts.specs.declared.fact.Kind.TheVariants as kind
use Rattle.cw_facts.specs.Facts.{declares, specifies, block_facts}
use Rattle.cw_facts.specs.Text.{communicators_facts, text_facts}
use Rattle.cw_scope.specs.declared.resolve.Named.{Named}
use Rattle.cw_scope.specs.declared.fault.Rule.TheVariants as rule
use Rattle.cw_scope.specs.Outcome.{Resolves}
use Rattle.cw_scope.specs.Scope.{Environment, has_name, declared_in}
use Rattle.cw_scope.specs.NameRules.{Said, said, said_step, all_declared, all_faults, within, repeat_faults, own_block}
use Rattle.cw_number.specs.declared.listed.Listing.{Listing}
use Rattle.cw_unit.specs.declared.descriptor.Desc.{Desc}
use Rattle.cw_built.specs.Listed.{is_empty, lists_name, are_named}
use Rattle.cw_built.proofs.Apart.{name-equal}
use Rattle.cw_sound.specs.Uses.Mentions.{In, facts_mentions}
use Rattle.cw_sound.specs.Names.Placed.{Placed, tokens, Each, Differ}
use Rattle.cw_sound.proofs.Names.Lists.{in_left, in_right, in_either}
use Rattle.cw_sound.proofs.Names.NoFaults.{parts, holds, facts_keep}
use Rattle.cw_scope.specs.Resolved.{text_declarations}
use Rattle.cw_items.specs.declared.thing.Thing.{Thing}
use Rattle.cw_number.specs.declared.numbered.Numbered.{Numbered}
use Rattle.cw_number.specs.Listed.{listed_of}
use Rattle.cw_make_items.specs.Descriptors.{descs_of}
use Rattle.cw_sound.proofs.Names.Rows.{row, in_rows, facts_rows}
use Rattle.cw_sound.proofs.Names.Resolving.{block_mentioned}
use Rattle.cw_sound.proofs.Names.UsesFound.{no_faults}
use Rattle.cw_sound.proofs.Names.ListedNumbers.{listed_differ, declarations_append, differ_parts, tokens_append}
use Rattle.cw_sound.proofs.Names.ListedParts.{communicators_parts, Listed, also, stored, label, switch, procedure}

-- ---- what is declared is declared once

abbrev Once : Said → Type 0
Once s = (env : Environment) (d : Declaration) → In d s.declared → s.faults env None ≡ None → repeat_faults (declared_in (own_block env) d.name.name) d None ≡ None

once : (x : Fact-F Fact) → Once (said_step (map-Fact Fact Said said x))
once (layer.Declares c) env d (inl e) f = subst (λ z. repeat_faults (declared_in (own_block env) z.name.name) z None ≡ None) e f
once (layer.Declares c) env d (inr h) f = absurd h
once _ env d h f = absurd h

fact_once : (f : Fact) → Once (said f)
fact_once = ind-Fact (λ f. Once (said f)) (λ x y is. subst Once (sym (fold-roll-Fact Said said_step x)) (once x))

facts_once : (fs : List Fact) (env : Environment) (d : Declaration) → In d (all_declared (map said fs)) → all_faults env (map said fs) None ≡ None → repeat_faults (declared_in (own_block env) d.name.name) d None ≡ None
facts_once [] env d h e = absurd h
facts_once (f ∷ fs) env d h e =
    let free = parts ((said f).faults env) (all_faults env (map said fs)) (facts_keep fs env) e in
    by_side (in_either d (said f).declared (all_declared (map said fs)) h) (λ i. fact_once f env d i free.0) (λ i. facts_once fs env d i free.1)
  where
    by_side : {A B C : Type 0} → A ⊎ B → (A → C) → (B → C) → C
    by_side (inl x) h k = h x
    by_side (inr y) h k = k y

pub declared_append : (xs ys : List Fact) → all_declared (map said (xs ++ ys)) ≡ all_declared (map said xs) ++ all_declared (map said ys)
declared_append [] ys = refl
declared_append (x ∷ xs) ys = ap (λ ds. (said x).declared ++ ds) (declared_append xs ys) ∙ sym (append_assoc (said x).declared (all_declared (map said xs)) (all_declared (map said ys)))

pub declares_it : (n : RawName) (k : Kind) (fs : List Fact) → In (record { name = n; kind = k }) (all_declared (map said (declares n k ∷ fs)))
declares_it n k fs =
    let same : (said (declares n k)).declared ≡ record { name = n; kind = k } ∷ [] =
    ap (λ f. (said f).declared) (sym (fact.rolls-Declares (record { name = n; kind = k }))) ∙ ap (λ s. s.declared) (fold-roll-Fact Said said_step (layer.Declares (record { name = n; kind = k }))) in
    in_left (record { name = n; kind = k }) (said (declares n k)).declared (all_declared (map said fs)) (subst (In (record { name = n; kind = k })) (sym same) (inl refl))

-- ---- the first declaration of a name

is_there : (ds : List Declaration) (d : Declaration) → In d ds → declared_in ds d.name.name ≡ None → ⊥
is_there [] d h e = h
is_there (x ∷ xs) d (inl is) e = by_test (has_name d.name.name x) (ap (has_name d.name.name) is ∙ (bytes_decides d.name.name d.name.name).1 refl) e
  where
    by_test : (b : Bool) → b ≡ true → cond b (Some x) (find (has_name d.name.name) xs) ≡ None → ⊥
    by_test true h f = cc
    by_test false h f = cc
is_there (x ∷ xs) d (inr h) e = by_test (is_there xs d h) (has_name d.name.name x) e
  where
    by_test : (declared_in xs d.name.name ≡ None → ⊥) → (b : Bool) → cond b (Some x) (find (has_name d.name.name) xs) ≡ None → ⊥
    by_test rest true f = cc
    by_test rest false f = rest f

module _ (cs : List Declaration) where
  pub record FirstAt (name : List ℕ) (token : ℕ) : Type 0 where
    pub first : Declaration
    pub is_first : declared_in cs name ≡ Some first
    pub is_token : first.name.at.token ≡ token
    pub some : name ≢ []

  first_at : (d : Declaration) → In d cs → d.name.name ≢ [] → (o : Option Declaration) → declared_in cs d.name.name ≡ o → repeat_faults o d None ≡ None → FirstAt d.name.name d.name.at.token
  first_at d i some None is e = absurd (is_there cs d i is)
  first_at d i some (Some f) is e = record { first = f; is_first = is; is_token = eqb-true f.name.at.token d.name.at.token (holds (f.name.at.token == d.name.at.token) rule.Twice d.name e); some = some }

  same_token : (name : List ℕ) (s t : ℕ) → FirstAt name s → FirstAt name t → s ≡ t
  same_token name s t a b = sym a.is_token ∙ ap (λ (d : Declaration). d.name.at.token) (same_Some a.first b.first (sym a.is_first ∙ b.is_first)) ∙ b.is_token

  -- ---- descriptors beside the rows of what is listed

  abbrev AllFirst : List Fact → Type 0
  AllFirst fs = (d : Declaration) → In d (all_declared (map said fs)) → FirstAt d.name.name d.name.at.token

  abbrev NamesAt : List (Row Listing) → List Desc → Type 0
  NamesAt [] [] = Unit {0}
  NamesAt [] (x ∷ xs) = ⊥
  NamesAt (r ∷ rs) [] = ⊥
  NamesAt (r ∷ rs) (x ∷ xs) = FirstAt x.name r.token × NamesAt rs xs

  names_both : (rs qs : List (Row Listing)) (ds es : List Desc) → NamesAt rs ds → NamesAt qs es → NamesAt (rs ++ qs) (ds ++ es)
  names_both [] qs [] es h k = k
  names_both [] qs (d ∷ ds) es h k = absurd h
  names_both (r ∷ rs) qs [] es h k = absurd h
  names_both (r ∷ rs) qs (d ∷ ds) es h k = (h.0, names_both rs qs ds es h.1 k)

  pub names_at : {fs : List Fact} {rs : List (Row Listing)} {ds : List Desc} → Listed fs rs ds → AllFirst fs → NamesAt rs ds
  names_at (also {fs} {gs} {rs} {qs} {ds} {es} a b) h =
      let both_first = λ (d : Declaration) (i : In d (all_declared (map said fs) ++ all_declared (map said gs))). h d (subst (In d) (sym (declared_append fs gs)) i) in
      names_both rs qs ds es (names_at a (λ d i. both_first d (in_left d (all_declared (map said fs)) (all_declared (map said gs)) i))) (names_at b (λ d i. both_first d (in_right d (all_declared (map said fs)) (all_declared (map said gs)) i)))
  names_at (stored n k d e w) h = (subst (λ z. FirstAt z n.at.token) (sym w) (h (record { name = n; kind = k }) (declares_it n k [])), tt)
  names_at (label n) h = (h (record { name = n; kind = kind.Label }) (declares_it n kind.Label []), tt)
  names_at (switch n) h = (h (record { name = n; kind = kind.Switch }) (declares_it n kind.Switch []), tt)
  names_at (procedure l s) h = (h (record { name = s.name; kind = kind.Proc s.answer }) (declares_it s.name (kind.Proc s.answer) (specifies s.name.at.token s.answer s.params ∷ [])), tt)
  names_at _ h = tt

  other_name : (name : List ℕ) (t : ℕ) (x : Desc) (s : ℕ) → FirstAt name t → FirstAt x.name s → t ≢ s → (b : Bool) → bytes_eq name x.name ≡ b → b ≡ false
  other_name name t x s a c differ true e = absurd (differ (same_token name t s a (subst (λ n. FirstAt n s) (sym (name-equal name x.name e)) c)))
  other_name name t x s a c differ false e = refl

  both_false : (a b : Bool) → a ≡ false → b ≡ false → (a || b) ≡ false
  both_false true b e f = absurd (cc)
  both_false false b e f = f

  not_among : (name : List ℕ) (t : ℕ) (rs : List (Row Listing)) (ds : List Desc) → FirstAt name t → NamesAt rs ds → Each (λ s. t ≢ s) (tokens rs) → lists_name name ds ≡ false
  not_among name t [] [] a h e = refl
  not_among name t [] (x ∷ xs) a h e = absurd h
  not_among name t (r ∷ rs) [] a h e = refl
  not_among name t (r ∷ rs) (x ∷ xs) a h e =
      both_false (bytes_eq name x.name) (lists_name name xs) (other_name name t x r.token a h.0 e.0 (bytes_eq name x.name) refl) (not_among name t rs xs a h.1 e.1)

  some_name : (name : List ℕ) → name ≢ [] → is_empty name ≡ false
  some_name [] h = absurd (h refl)
  some_name (b ∷ bs) h = refl

  all_three : (a b c : Bool) → a ≡ false → b ≡ false → IsTrue c → IsTrue ((not a && not b) && c)
  all_three false false c e f h = h
  all_three false true c e f h = absurd (cc)
  all_three true b c e f h = absurd (cc)

  pub named_apart : (rs : List (Row Listing)) (ds : List Desc) → NamesAt rs ds → Differ (tokens rs) → IsTrue (are_named ds)
  named_apart [] [] h d = refl
  named_apart [] (x ∷ xs) h d = absurd h
  named_apart (r ∷ rs) [] h d = absurd h
  named_apart (r ∷ rs) (x ∷ xs) h d =
      all_three (is_empty x.name) (lists_name x.name xs) (are_named xs) (some_name x.name h.0.some) (not_among x.name r.token rs xs h.0 h.1 d.0) (named_apart rs xs h.1 d.1)

-- ---- the text

module _ (named : Named) (numbers : List (Row Numbered)) (things : List Thing) (resolves : Resolves named.raw.now (result.Ok named)) (placed : Placed named.raw.now) where
  abbrev facts : List Fact
  facts = text_facts named.raw.now

  abbrev comms_facts : List Fact
  comms_facts = communicators_facts named.raw.now.comms

  abbrev own_facts : List Fact
  own_facts = block_facts named.raw.now.block true

  abbrev all : List Declaration
  all = all_declared (map said facts)

  in_all : (d : Declaration) → In d (all_declared (map said comms_facts)) → In d all
  in_all d i = subst (In d) (sym (declared_append comms_facts own_facts)) (in_left d (all_declared (map said comms_facts)) (all_declared (map said own_facts)) i)

  all_first : AllFirst all comms_facts
  all_first d i =
      let row_in = subst (In (row d)) (facts_rows numbers comms_facts None) (in_rows None d (facts_mentions numbers comms_facts None) (block_mentioned numbers comms_facts None d i)) in
      first_at all d (in_all d i) (placed.names (row d) row_in) (declared_in all d.name.name) refl (facts_once facts (within [] (map said facts)) d (in_all d i) (no_faults named resolves placed).0)

  here_parts : Listed comms_facts (listed_of named.raw.now) (descs_of numbers (listed_of named.raw.now) things named.raw.now.comms)
  here_parts = communicators_parts numbers (listed_of named.raw.now) things named.raw.now.comms

  rows_differ : Differ (tokens (listed_of named.raw.now))
  rows_differ =
      listed_differ here_parts
      (differ_parts (tokens (text_declarations comms_facts)) (tokens (text_declarations own_facts))
      (subst Differ (ap tokens (declarations_append comms_facts own_facts) ∙ tokens_append (text_declarations comms_facts) (text_declarations own_facts)) placed.declarations)).0

  pub descriptors_named : IsTrue (are_named (descs_of numbers (listed_of named.raw.now) things named.raw.now.comms))
  descriptors_named = named_apart all (listed_of named.raw.now) (descs_of numbers (listed_of named.raw.now) things named.raw.now.comms) (names_at all here_parts all_first) rows_differ
