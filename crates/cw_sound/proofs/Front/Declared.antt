-- Each thing that has a name stands at the token of a declaration.
use Rattle.std.proofs.Common.{◌≡◌, ℕ, List, [], ◌∷◌, ◌++◌, map, Bool, true, false, Option, Some, None, refl, sym, ap, subst, subst₂, ◌∙◌, append-nil, inl}
use Rattle.cw_table.specs.declared.table.Row.{Row}
use Rattle.cw_tree.specs.declared.leaf.Position.{Position}
use Rattle.cw_tree.specs.declared.leaf.RawName.{RawName}
use Rattle.cw_tree.specs.declared.leaf.RawType.{RawType}
use Rattle.cw_tree.specs.declared.items.RawGroup.{RawGroup}
use Rattle.cw_tree.specs.declared.items.RawData.{RawData}
use Rattle.cw_tree.specs.declared.items.RawData.TheVariants as items
use Rattle.cw_tree.specs.declared.segment.Raw.{Raw}
use Rattle.cw_tree.specs.declared.segment.RawComm.{RawComm}
use Rattle.cw_tree.specs.declared.segment.RawComm.TheVariants as comm
use Rattle.cw_tree.specs.declared.segment.RawCitem.{RawCitem}
use Rattle.cw_tree.specs.declared.segment.RawCitem.TheVariants as citem
use Rattle.cw_tree.specs.declared.segment.RawAitem.{RawAitem}
use Rattle.cw_tree.specs.declared.segment.RawAitem.TheVariants as aitem
use Rattle.cw_tree.specs.declared.statement.RawParam.{RawParam}
use Rattle.cw_tree.specs.declared.statement.RawParam.TheVariants as param
use Rattle.cw_tree.specs.declared.statement.RawFelem.{RawFelem}
use Rattle.cw_tree.specs.declared.statement.RawFelem.TheVariants as felem
use Rattle.cw_tree.specs.declared.statement.RawDecl.{RawDecl, RawDecl-F, roll-RawDecl}
use Rattle.cw_tree.specs.declared.statement.RawDecl.TheVariants as decl_tree
use Rattle.cw_tree.specs.declared.statement.RawForm.{RawForm, roll-RawForm}
use Rattle.cw_tree.specs.declared.statement.RawForm.TheVariants as form_tree
use Rattle.cw_tree.specs.declared.statement.RawSimple.{RawSimple, roll-RawSimple}
use Rattle.cw_tree.specs.declared.statement.RawSimple.TheVariants as simple_tree
use Rattle.cw_tree.specs.declared.statement.RawBlock.{RawBlock}
use Rattle.cw_tree.specs.declared.statement.RawProc.{RawProc}
use Rattle.cw_tree.specs.declared.statement.RawStmt.{RawStmt}
use Rattle.cw_tree.specs.declared.statement.RawDecl.TheOpen as layer
use Rattle.cw_tree.specs.declared.statement.RawDecl.TheOpen.{RawForm-F, RawSimple-F}
use Rattle.cw_facts.specs.declared.fact.Declaration.{Declaration}
use Rattle.cw_facts.specs.declared.fact.Fact.{Fact, Fact-F, out-Fact}
use Rattle.cw_facts.specs.declared.fact.Fact.TheOpen as fact_layer
use Rattle.cw_facts.specs.declared.fact.Fact.TheVariants as fact
use Rattle.cw_facts.specs.declared.fact.Kind.{Kind}
use Rattle.cw_facts.specs.declared.fact.Kind.TheVariants as kind
use Rattle.cw_facts.specs.declared.fact.Reading.TheVariants as reading
use Rattle.cw_facts.specs.Signatures.{flattened}
use Rattle.cw_facts.specs.Uses.{expression_uses, condition_uses, reference_uses}
use Rattle.cw_facts.specs.Facts.{joined, declares, specifies, each_declares, groups_facts, data_facts, base_facts, parameter_facts, parameters_facts, answer_facts, felems_facts, enclosed, declaration_facts, form_facts, simple_facts, block_facts, statement_facts}
use Rattle.cw_facts.specs.Text.{citem_facts, citems_facts, aitem_facts, aitems_facts, communicator_facts, communicators_facts, text_facts}
use Rattle.cw_scope.specs.declared.resolve.Named.{Named}
use Rattle.cw_scope.specs.Resolved.{fact_declarations, text_declarations}
use Rattle.cw_grammar.specs.Grammar.{Sort, a_list, a_decl, a_form, a_simple, a_block, a_stmt, a_raw, Value}
use Rattle.cw_grammar.specs.Statements.{proc_tree}
use Rattle.cw_derived.specs.NormalForm as normal
use Rattle.cw_derived.specs.NormalForm.{IsNormal}
use Rattle.cw_items.specs.declared.thing.Owner.{Owner}
use Rattle.cw_items.specs.declared.thing.Base.{Base}
use Rattle.cw_items.specs.declared.thing.Sort.TheVariants as sort
use Rattle.cw_items.specs.declared.thing.Thing.{Thing}
use Rattle.cw_items.specs.Things.{Things, joined as joined_things, base_at, thing, moved, moved_past, named_things, group_words, groups_things, data_things, parameter_things, parameters_things, fact_texts, texts, felem_things, felems_things, is_recursive, declaration_things, form_things, simple_things, statement_things, aitem_things, aitems_things, citem_things, citems_things, communicator_things, communicators_things, block_things, text_things}
use Rattle.cw_sound.proofs.Items.Lists.{In, in-left, in-right, each-append, each-in, from-in}
use Rattle.cw_sound.proofs.Items.Bases.{OfData, of-data}
use Rattle.cw_sound.specs.Names.Placed.{tokens}
use Rattle.cw_sound.proofs.Names.ListedRows.{declared_row}
use Rattle.cw_sound.proofs.Names.ListedNumbers.{declarations_append, tokens_append}
use Rattle.cw_sound.proofs.Written.Titles.{block_rows}
use Rattle.cw_sound.proofs.Statements.Folds.{facts_pass, things_pass}
use Rattle.cw_sound.proofs.Statements.Passes.{layered, rolls}
use Rattle.cw_macro.specs.Premises.{Each}

abbrev declared : List Fact → List ℕ
declared facts = tokens (text_declarations facts)

abbrev IsDeclared : List Fact → Thing → Type 0
IsDeclared facts t = t.sort ≡ sort.Named → In t.at.token (declared facts)

pub record Declare (facts : List Fact) (things : List Thing) : Type 0 where
  pub each : Each (IsDeclared facts) things

pub at_declaration : {facts : List Fact} {things : List Thing} → Declare facts things → (t : Thing) → In t things → t.sort ≡ sort.Named → In t.at.token (tokens (text_declarations facts))
at_declaration {facts = facts} {things = things} d t i e = each-in (IsDeclared facts) things d.each t i e

nothing : (facts : List Fact) → Declare facts []
nothing facts = record { each = tt }

widened : (facts gs : List Fact) (ts : List Thing) → ((t : ℕ) → In t (declared facts) → In t (declared gs)) → Declare facts ts → Declare gs ts
widened facts gs ts h d = record { each = from-in (IsDeclared gs) ts (λ t i e. h t.at.token (each-in (IsDeclared facts) ts d.each t i e)) }

declared_both : (a b : List Fact) → declared (a ++ b) ≡ declared a ++ declared b
declared_both a b = ap tokens (declarations_append a b) ∙ tokens_append (text_declarations a) (text_declarations b)

together : (a b : List Fact) (ts ss : List Thing) → Declare a ts → Declare b ss → Declare (a ++ b) (ts ++ ss)
together a b ts ss h k =
    let first = widened a (a ++ b) ts (λ t i. subst (In t) (sym (declared_both a b)) (in-left t (declared a) (declared b) i)) h in
    let second = widened b (a ++ b) ss (λ t i. subst (In t) (sym (declared_both a b)) (in-right t (declared a) (declared b) i)) k in
    record { each = each-append (IsDeclared (a ++ b)) ts ss first.each second.each }

-- ---- data and parameters

one : (o : Option Owner) (b : Option Base) (w : ℕ) (n : RawName) (k : Kind) (fs : List Fact) → Declare (declares n k ∷ fs) (thing sort.Named n.at o b w ∷ [])
one o b w n k fs = record { each = ((λ e. subst (λ (rs : List (Row Declaration)). In n.at.token (tokens (rs ++ text_declarations fs))) (sym (declared_row (λ t. Unit {0}) n k)) (inl refl)), tt) }

names : (o : Option Owner) (b : Option Base) (w : ℕ) (k : Kind) (ns : List RawName) → Declare (each_declares k ns) (named_things o w b ns)
names o b w k [] = nothing []
names o b w k (n ∷ ns) = together (declares n k ∷ []) (each_declares k ns) (thing sort.Named n.at o b w ∷ []) (named_things o w (moved w b) ns) (one o b w n k []) (names o (moved w b) w k ns)

groups : (o : Option Owner) (b : Option Base) (t : RawType) (gs : List RawGroup) → Declare (groups_facts t gs) (groups_things o b gs)
groups o b t [] = nothing []
groups o b t (g ∷ gs) =
    let behind = moved_past (group_words g) g.names b in
    together (each_declares (kind.Array t g.bounds) g.names) (groups_facts t gs) (named_things o (group_words g) b g.names) (groups_things o behind gs) (names o b (group_words g) (kind.Array t g.bounds) g.names) (groups o behind t gs)

data_declared : (o : Option Owner) (b : Option Base) (d : RawData) → Declare (data_facts d) (data_things o b d)
data_declared o b (items.Singles t ns presets) = names o b 1 (kind.Single t) ns
data_declared o b (items.Arrays t gs presets) = groups o b t gs
data_declared o b (items.Table t inside behind) = one o b _ t.name (kind.Table t.size) _

parameter_declared : (o : Option Owner) (p : RawParam) → Declare (parameter_facts p) (parameter_things o p)
parameter_declared o (param.Value at t ns) = names o None 1 (kind.Value t) ns
parameter_declared o (param.Location at t ns) = names o None 1 (kind.Location t) ns
parameter_declared o (param.Array t ns) = names o None 1 (kind.ArrayParam t) ns
parameter_declared o (param.Table t) = one o None 1 t.name (kind.TableParam t.size) _
parameter_declared o _ = nothing _

parameters_declared : (o : Option Owner) (ps : List RawParam) → Declare (parameters_facts ps) (parameters_things o ps)
parameters_declared o [] = nothing []
parameters_declared o (p ∷ ps) = together (parameter_facts p) (parameters_facts ps) (parameter_things o p) (parameters_things o ps) (parameter_declared o p) (parameters_declared o ps)

-- ---- strings, which have no name

layer_unnamed : (facts : List Fact) (o : Option Owner) (y : Fact-F Fact) → Each (IsDeclared facts) (fact_texts o y)
layer_unnamed facts o (fact_layer.Text at n) = ((λ e. absurd (cc)), tt)
layer_unnamed facts o _ = tt

texts_unnamed : (facts : List Fact) (o : Option Owner) (fs : List Fact) → Declare facts (texts o fs)
texts_unnamed facts o [] = nothing facts
texts_unnamed facts o (f ∷ fs) = record { each = each-append (IsDeclared facts) (fact_texts o (out-Fact f)) (texts o fs) (layer_unnamed facts o (out-Fact f)) (texts_unnamed facts o fs).each }

element_unnamed : (facts : List Fact) (o : Option Owner) (e : RawFelem) → Declare facts (felem_things e o)
element_unnamed facts o (felem.One e) = texts_unnamed facts o (expression_uses e reading.Value)
element_unnamed facts o (felem.While e c) = texts_unnamed facts o (expression_uses e reading.Value ++ condition_uses c reading.Value)
element_unnamed facts o (felem.Step a b c) = texts_unnamed facts o (expression_uses a reading.Value ++ (expression_uses b reading.Value ++ expression_uses c reading.Value))

elements_unnamed : (facts : List Fact) (o : Option Owner) (es : List RawFelem) → Declare facts (felems_things es o)
elements_unnamed facts o [] = nothing facts
elements_unnamed facts o (e ∷ es) = record { each = each-append (IsDeclared facts) (felem_things e o) (felems_things es o) (element_unnamed facts o e).each (elements_unnamed facts o es).each }

loop_unnamed : (facts : List Fact) (o : Option Owner) (at : Position) → Declare facts (thing sort.Loop at o None 4 ∷ [])
loop_unnamed facts o at = record { each = ((λ e. absurd (cc)), tt) }

-- ---- blocks

block_declared : (o : Option ℕ) (fs : List Fact) (ts : List Thing) → Declare fs ts → Declare (fact.Block o fs ∷ []) ts
block_declared o fs ts h = widened fs (fact.Block o fs ∷ []) ts (λ t i. subst (λ (rs : List (Row Declaration)). In t (tokens rs)) (sym (append-nil (fact_declarations (fact.Block o fs)) ∙ block_rows o fs)) i) h

enclosed_declared : (b : Bool) (fs : List Fact) (ts : List Thing) → Declare fs ts → Declare (enclosed b fs) ts
enclosed_declared true fs ts h = block_declared None fs ts h
enclosed_declared false fs ts h = h

-- ---- statements, whatever procedure is around them

abbrev Of : List Fact → Things → Type 0
Of facts things = (o : Option Owner) → Declare facts (things o)

module _ (named : Named) where
  abbrev Told : (z : Sort) → Value z → Type 0
  Told (a_list z) xs = Each (Told z) xs
  Told a_decl x = Of (declaration_facts x) (declaration_things named x)
  Told a_form x = Of (form_facts x) (form_things named x)
  Told a_simple x = Of (simple_facts x) (simple_things named x)
  Told a_block x = (outermost : Bool) → Of (block_facts x outermost) (block_things named x)
  Told a_stmt x = Of (statement_facts x) (statement_things named x)
  Told _ x = Unit {0}

  decl : (y : RawDecl-F RawDecl RawForm RawSimple RawBlock RawProc RawStmt) (x : RawDecl) → roll-RawDecl y ≡ x → Of ((layered facts_pass).decl y) ((layered (things_pass named)).decl y) → Of (declaration_facts x) (declaration_things named x)
  decl y x e h = subst₂ Of (sym ((rolls facts_pass).decl y) ∙ ap declaration_facts e) (sym ((rolls (things_pass named)).decl y) ∙ ap (declaration_things named) e) h

  formed : (y : RawForm-F RawDecl RawForm RawSimple RawBlock RawProc RawStmt) (x : RawForm) → roll-RawForm y ≡ x → Of ((layered facts_pass).form y) ((layered (things_pass named)).form y) → Of (form_facts x) (form_things named x)
  formed y x e h = subst₂ Of (sym ((rolls facts_pass).form y) ∙ ap form_facts e) (sym ((rolls (things_pass named)).form y) ∙ ap (form_things named) e) h

  simple : (y : RawSimple-F RawDecl RawForm RawSimple RawBlock RawProc RawStmt) (x : RawSimple) → roll-RawSimple y ≡ x → Of ((layered facts_pass).simple y) ((layered (things_pass named)).simple y) → Of (simple_facts x) (simple_things named x)
  simple y x e h = subst₂ Of (sym ((rolls facts_pass).simple y) ∙ ap simple_facts e) (sym ((rolls (things_pass named)).simple y) ∙ ap (simple_things named) e) h

  each_joined : {A : Type 0} (f : A → List Fact) (g : A → Things) (xs : List A) → Each (λ x. Of (f x) (g x)) xs → Of (joined (map f xs)) (joined_things (map g xs))
  each_joined f g [] h o = nothing []
  each_joined f g (x ∷ xs) h o = together (f x) (joined (map f xs)) (g x o) (joined_things (map g xs) o) (h.0 o) (each_joined f g xs h.1 o)

  told : {n : ℕ} {p : Bool} {z : Sort} {x : Value z} {a : List ℕ} → IsNormal n p z x a → Told z x
  told normal.no_more = tt
  told (normal.one_more h k) = (told h, told k)
  told normal.no_statement = simple layer.Empty simple_tree.Empty simple_tree.rolls-Empty (λ o. nothing [])
  told (normal.assignment {r = r} {x = x} h k) = simple (layer.Assign r x) (simple_tree.Assign r x) (simple_tree.rolls-Assign r x) (λ o. texts_unnamed _ o _)
  told (normal.bits_assignment {z = z} {r = r} {x = x} i h k) = simple (layer.AssignBits z r x) (simple_tree.AssignBits z r x) (simple_tree.rolls-AssignBits z r x) (λ o. texts_unnamed _ o _)
  told (normal.jump_to at {f = f} h) = simple (layer.Goto at f) (simple_tree.Goto at f) (simple_tree.rolls-Goto at f) (λ o. nothing _)
  told (normal.jump_through at {f = f} {x = x} h k) = simple (layer.GotoSwitch at f x) (simple_tree.GotoSwitch at f x) (simple_tree.rolls-GotoSwitch at f x) (λ o. texts_unnamed _ o _)
  told (normal.called_alone {f = f} h) = simple (layer.Call f []) (simple_tree.Call f []) (simple_tree.rolls-Call f []) (λ o. nothing _)
  told (normal.called_with {f = f} {x = x} {xs = xs} h k) = simple (layer.Call f (x ∷ xs)) (simple_tree.Call f (x ∷ xs)) (simple_tree.rolls-Call f (x ∷ xs)) (λ o. texts_unnamed _ o _)
  told (normal.is_answer at {x = x} h) = simple (layer.Answer at x) (simple_tree.Answer at x) (simple_tree.rolls-Answer at x) (λ o. texts_unnamed _ o _)
  told (normal.inner_block {x = x} h) = simple (layer.Block x) (simple_tree.Block x) (simple_tree.rolls-Block x) (told h false)
  told (normal.is_block at {ds = ds} {x = x} {xs = xs} h k) =
      λ b. subst₂ (λ f. Of (f b)) (sym ((rolls facts_pass).block (record { at = at; decls = ds; stmts = x ∷ xs }))) (sym ((rolls (things_pass named)).block (record { at = at; decls = ds; stmts = x ∷ xs })))
      (λ o. enclosed_declared _ _ _
      (together (joined (map declaration_facts ds)) (joined (map statement_facts (x ∷ xs))) (joined_things (map (declaration_things named) ds) o) (joined_things (map (statement_things named) (x ∷ xs)) o)
      (each_joined declaration_facts (declaration_things named) ds (told h) o) (each_joined statement_facts (statement_things named) (x ∷ xs) (told k) o)))
  told (normal.is_stmt {ls = ls} {x = x} h k) =
      subst₂ Of (sym ((rolls facts_pass).stmt (record { labels = ls; form = x }))) (sym ((rolls (things_pass named)).stmt (record { labels = ls; form = x }))) (λ o. together (each_declares kind.Label ls) (form_facts x) [] (form_things named x o) (nothing _) (told k o))
  told (normal.simple_form {x = x} h) = formed (layer.Simple x) (form_tree.Simple x) (form_tree.rolls-Simple x) (told h)
  told (normal.if_form at {t = t} {ls = ls} {x = x} h l k) =
      formed (layer.If at t ls x None) (form_tree.If at t ls x None) (form_tree.rolls-If at t ls x None)
      (λ o.
      together (condition_uses t reading.Value) (each_declares kind.Label ls ++ (simple_facts x ++ [])) (texts o (condition_uses t reading.Value)) (simple_things named x o ++ []) (texts_unnamed _ o _)
      (together (each_declares kind.Label ls) (simple_facts x ++ []) [] (simple_things named x o ++ []) (nothing _) (together (simple_facts x) [] (simple_things named x o) [] (told k o) (nothing []))))
  told (normal.else_form at {t = t} {ls = ls} {x = x} {y = y} h l k m) =
      formed (layer.If at t ls x (Some y)) (form_tree.If at t ls x (Some y)) (form_tree.rolls-If at t ls x (Some y))
      (λ o.
      together (condition_uses t reading.Value) (each_declares kind.Label ls ++ (simple_facts x ++ statement_facts y)) (texts o (condition_uses t reading.Value)) (simple_things named x o ++ statement_things named y o) (texts_unnamed _ o _)
      (together (each_declares kind.Label ls) (simple_facts x ++ statement_facts y) [] (simple_things named x o ++ statement_things named y o) (nothing _)
      (together (simple_facts x) (statement_facts y) (simple_things named x o) (statement_things named y o) (told k o) (told m o))))
  told (normal.for_form at {r = r} {x = x} {xs = xs} {y = y} h k l) =
      formed (layer.For at r (x ∷ xs) y) (form_tree.For at r (x ∷ xs) y) (form_tree.rolls-For at r (x ∷ xs) y)
      (λ o.
      let uses = reference_uses r reading.Whole in
      let facts = felems_facts (x ∷ xs) in
      let things = felems_things (x ∷ xs) o in
      together (fact.Loop at ∷ []) (uses ++ (facts ++ statement_facts y)) (thing sort.Loop at o None 4 ∷ []) (texts o uses ++ (things ++ statement_things named y o)) (loop_unnamed _ o at)
      (together uses (facts ++ statement_facts y) (texts o uses) (things ++ statement_things named y o) (texts_unnamed _ o _)
      (together facts (statement_facts y) things (statement_things named y o) (elements_unnamed _ o (x ∷ xs)) (told l o))))
  told (normal.data_decl {x = x} h) = decl (layer.Data x) (decl_tree.Data x) (decl_tree.rolls-Data x) (λ o. data_declared o None x)
  told (normal.overlay_decl at {x = x} {y = y} h k) =
      decl (layer.Overlay at x y) (decl_tree.Overlay at x y) (decl_tree.rolls-Overlay at x y) (λ o. together (base_facts x) (data_facts y) [] (data_things o (Some (base_at named x)) y) (nothing _) (data_declared o (Some (base_at named x)) y))
  told (normal.switch_decl at {f = f} {x = x} {xs = xs} h k) = decl (layer.Switch at f (x ∷ xs)) (decl_tree.Switch at f (x ∷ xs)) (decl_tree.rolls-Switch at f (x ∷ xs)) (λ o. nothing _)
  told (normal.proc_decl {o = answer} {t = t} {f = f} {xs = xs} {x = x} h g l k m) =
      decl (layer.Proc (proc_tree answer t f xs x)) (decl_tree.Proc (proc_tree answer t f xs x)) (decl_tree.rolls-Proc (proc_tree answer t f xs x))
      (subst₂ Of (sym ((rolls facts_pass).proc (record { answer = answer; tag = t; name = f; params = xs; body = x }))) (sym ((rolls (things_pass named)).proc (record { answer = answer; tag = t; name = f; params = xs; body = x })))
      (λ o.
      let own : Option Owner = Some (record { token = f.at.token; recursive = is_recursive t }) in
      let inside : List Fact = parameters_facts xs ++ statement_facts x in
      let things : List Thing = parameters_things own xs ++ statement_things named x own in
      together (declares f (kind.Proc answer) ∷ specifies f.at.token answer (flattened xs) ∷ []) (fact.Block (Some f.at.token) (answer_facts answer ++ inside) ∷ []) [] things (nothing _)
      (block_declared (Some f.at.token) (answer_facts answer ++ inside) things
      (together (answer_facts answer) inside [] things (nothing _) (together (parameters_facts xs) (statement_facts x) (parameters_things own xs) (statement_things named x own) (parameters_declared own xs) (told m own))))))
  told _ = tt

  -- ---- communicators

  citem_declared : (i : RawCitem) → Declare (citem_facts i) (citem_things named i)
  citem_declared (citem.Data d) = data_declared None None d
  citem_declared (citem.Overlay at b d) = together (base_facts b) (data_facts d) [] (data_things None (Some (base_at named b)) d) (nothing _) (data_declared None (Some (base_at named b)) d)
  citem_declared _ = nothing _

  citems_declared : (is : List RawCitem) → Declare (citems_facts is) (citems_things named is)
  citems_declared [] = nothing []
  citems_declared (i ∷ is) = together (citem_facts i) (citems_facts is) (citem_things named i) (citems_things named is) (citem_declared i) (citems_declared is)

  aitem_declared : (i : RawAitem) → Declare (aitem_facts i) (aitem_things i)
  aitem_declared (aitem.Single t n a) = one None None _ n (kind.Single t) []
  aitem_declared (aitem.Array t n b a) = one None None _ n (kind.Array t b) []
  aitem_declared (aitem.Table t a) = one None None _ t.name (kind.Table t.size) _

  aitems_declared : (is : List RawAitem) → Declare (aitems_facts is) (aitems_things is)
  aitems_declared [] = nothing []
  aitems_declared (i ∷ is) = together (aitem_facts i) (aitems_facts is) (aitem_things i) (aitems_things is) (aitem_declared i) (aitems_declared is)

  communicator_declared : (c : RawComm) → Declare (communicator_facts c) (communicator_things named c)
  communicator_declared (comm.Common at is) = citems_declared is
  communicator_declared (comm.Library at ss) = nothing _
  communicator_declared (comm.Absolute at is) = aitems_declared is

  communicators_declared : (cs : List RawComm) → Declare (communicators_facts cs) (communicators_things named cs)
  communicators_declared [] = nothing []
  communicators_declared (c ∷ cs) = together (communicator_facts c) (communicators_facts cs) (communicator_things named c) (communicators_things named cs) (communicator_declared c) (communicators_declared cs)

  pub things_declared : {n : ℕ} {x : Raw} {a : List ℕ} → IsNormal n false a_raw x a → Declare (text_facts x) (text_things named x)
  things_declared (normal.is_raw {cs = cs} f {x = x} count h e k) =
      together (communicators_facts cs) (block_facts x true) (communicators_things named cs) (block_things named x None) (communicators_declared cs) (told k true None)

  -- ---- all that communicators list has a name

  abbrev HasName : Thing → Type 0
  HasName t = t.sort ≡ sort.Named

  data_named : (b : Option Base) (d : RawData) → Each HasName (data_things None b d)
  data_named b d = from-in HasName (data_things None b d) (λ t i. (each-in (OfData None b) (data_things None b d) (of-data None b d) t i).1)

  citem_named : (i : RawCitem) → Each HasName (citem_things named i)
  citem_named (citem.Data d) = data_named None d
  citem_named (citem.Overlay at b d) = data_named (Some (base_at named b)) d
  citem_named _ = tt

  citems_named : (is : List RawCitem) → Each HasName (citems_things named is)
  citems_named [] = tt
  citems_named (i ∷ is) = each-append HasName (citem_things named i) (citems_things named is) (citem_named i) (citems_named is)

  aitem_named : (i : RawAitem) → Each HasName (aitem_things i)
  aitem_named (aitem.Single t n a) = (refl, tt)
  aitem_named (aitem.Array t n b a) = (refl, tt)
  aitem_named (aitem.Table t a) = (refl, tt)

  aitems_named : (is : List RawAitem) → Each HasName (aitems_things is)
  aitems_named [] = tt
  aitems_named (i ∷ is) = each-append HasName (aitem_things i) (aitems_things is) (aitem_named i) (aitems_named is)

  communicator_named : (c : RawComm) → Each HasName (communicator_things named c)
  communicator_named (comm.Common at is) = citems_named is
  communicator_named (comm.Library at ss) = tt
  communicator_named (comm.Absolute at is) = aitems_named is

  pub communicators_named : (cs : List RawComm) → Each HasName (communicators_things named cs)
  communicators_named [] = tt
  communicators_named (c ∷ cs) = each-append HasName (communicator_things named c) (communicators_things named cs) (communicator_named c) (communicators_named cs)
