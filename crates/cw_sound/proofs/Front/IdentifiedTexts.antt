-- Each name that a text declares is an identifier.
use Rattle.std.proofs.Common.{◌≡◌, ℕ, List, [], ◌∷◌, ◌++◌, map, Bool, true, false, IsTrue, Some, None, inl, inr, sym, refl, ap, subst, ◌∙◌}
use Rattle.cw_lex.specs.Lexical.{Lexeme}
use Rattle.cw_tree.specs.declared.expression.RawExpr.{RawExpr}
use Rattle.cw_tree.specs.declared.expression.RawCond.{RawCond}
use Rattle.cw_tree.specs.declared.expression.RawRef.{RawRef}
use Rattle.cw_tree.specs.declared.statement.RawFelem.{RawFelem}
use Rattle.cw_tree.specs.declared.statement.RawFelem.TheVariants as felem
use Rattle.cw_tree.specs.declared.statement.RawDecl.{RawDecl, RawDecl-F, roll-RawDecl}
use Rattle.cw_tree.specs.declared.statement.RawDecl.TheVariants as decl_tree
use Rattle.cw_tree.specs.declared.statement.RawForm.{RawForm, roll-RawForm}
use Rattle.cw_tree.specs.declared.statement.RawForm.TheVariants as form_tree
use Rattle.cw_tree.specs.declared.statement.RawSimple.{RawSimple, roll-RawSimple}
use Rattle.cw_tree.specs.declared.statement.RawSimple.TheVariants as simple_tree
use Rattle.cw_tree.specs.declared.statement.RawBlock.{RawBlock}
use Rattle.cw_tree.specs.declared.statement.RawProc.{RawProc}
use Rattle.cw_tree.specs.declared.statement.RawStmt.{RawStmt}
use Rattle.cw_tree.specs.declared.statement.RawDecl.TheOpen as layer
use Rattle.cw_tree.specs.declared.statement.RawDecl.TheOpen.{RawForm-F, RawSimple-F}
use Rattle.cw_tree.specs.declared.segment.Raw.{Raw}
use Rattle.cw_facts.specs.declared.fact.Fact.{Fact}
use Rattle.cw_facts.specs.declared.fact.Form.TheVariants as form
use Rattle.cw_facts.specs.declared.fact.Kind.TheVariants as kind
use Rattle.cw_facts.specs.declared.fact.Reading.{Reading}
use Rattle.cw_facts.specs.declared.fact.Reading.TheVariants as reading
use Rattle.cw_facts.specs.Signatures.{flattened}
use Rattle.cw_facts.specs.Uses.{expression_uses, condition_uses, reference_uses, argument_uses}
use Rattle.cw_facts.specs.Facts.{joined, answer_name, felem_facts, felems_facts, enclosed, declaration_facts, form_facts, simple_facts, block_facts, statement_facts}
use Rattle.cw_facts.specs.Text.{text_facts}
use Rattle.cw_grammar.specs.Tokens.{numbered}
use Rattle.cw_grammar.specs.Grammar.{Sort, a_list, a_decl, a_form, a_simple, a_block, a_stmt, a_raw, Value}
use Rattle.cw_grammar.specs.Statements.{text, proc_tree}
use Rattle.cw_grammar.specs.Derives.{Derives}
use Rattle.cw_derived.specs.NormalForm as normal
use Rattle.cw_derived.specs.NormalForm.{IsNormal}
use Rattle.cw_derived.proofs.Statements.{text_normal}
use Rattle.cw_derived.proofs.Derived.{derived_normal}
use Rattle.cw_sound.specs.Uses.Mentions.{In, Mention, Here, declares, uses, stores, facts_mentions}
use Rattle.cw_sound.proofs.Names.Parts.{Plain, is_plain}
use Rattle.cw_sound.proofs.Names.Rows.{rows_of, rows_in, facts_rows}
use Rattle.cw_sound.proofs.Names.ExpressionUses.{expression_plain, condition_plain, reference_plain, arguments_plain}
use Rattle.cw_sound.specs.Written.Counts as counts
use Rattle.cw_sound.specs.Written.Identified.{IsIdentified, HasIdentifiers}
use Rattle.cw_sound.proofs.Statements.Folds.{facts_pass}
use Rattle.cw_sound.proofs.Statements.Passes.{layered, rolls}
use Rattle.cw_sound.proofs.Front.Identified.{Identified, nothing, together, name_identified, answer_identified, use_identified, loop_identified, block_identified, names_identified, uses_identified, specification_identified, data_identified, base_identified, parameters_identified, communicators_identified}
use Rattle.cw_macro.specs.Premises.{Each}

-- ---- expressions declare nothing

no_rows : (ms : List Here) → ((m : Here) → In m ms → IsTrue (is_plain m.mention)) → rows_in ms ≡ []
no_rows [] h = refl
no_rows (m ∷ ms) h = of_mention m.mention (h m (inl refl)) (no_rows ms (λ x i. h x (inr i)))
  where
    of_mention : (n : Mention) → IsTrue (is_plain n) → rows_in ms ≡ [] → rows_of n ++ rows_in ms ≡ []
    of_mention (declares d) k r = absurd (cc)
    of_mention (uses x) k r = r
    of_mention (stores token words) k r = r

silent : (facts : List Fact) → Plain [] facts → Identified facts
silent facts p = record { each = subst (counts.Each IsIdentified) (sym (no_rows (facts_mentions [] facts None) (λ m i. (p.mentions None m i).1)) ∙ facts_rows [] facts None) tt }

expression : (e : RawExpr) (r : Reading) → Identified (expression_uses e r)
expression e r = silent (expression_uses e r) (expression_plain [] e r)

condition : (c : RawCond) (r : Reading) → Identified (condition_uses c r)
condition c r = silent (condition_uses c r) (condition_plain [] c r)

reference : (x : RawRef) (r : Reading) → Identified (reference_uses x r)
reference x r = silent (reference_uses x r) (reference_plain [] x r)

arguments : (es : List RawExpr) → Identified (argument_uses es)
arguments es = silent (argument_uses es) (arguments_plain [] es)

element : (e : RawFelem) → Identified (felem_facts e)
element (felem.One e) = expression e reading.Value
element (felem.While e c) = together (expression e reading.Value) (condition c reading.Value)
element (felem.Step a b c) = together (expression a reading.Value) (together (expression b reading.Value) (expression c reading.Value))

elements : (es : List RawFelem) → Identified (felems_facts es)
elements [] = nothing
elements (e ∷ es) = together (element e) (elements es)

-- ---- statements

abbrev Told : (z : Sort) → Value z → Type 0
Told (a_list z) xs = Each (Told z) xs
Told a_decl x = Identified (declaration_facts x)
Told a_form x = Identified (form_facts x)
Told a_simple x = Identified (simple_facts x)
Told a_block x = (outermost : Bool) → Identified (block_facts x outermost)
Told a_stmt x = Identified (statement_facts x)
Told _ x = Unit {0}

decl : (y : RawDecl-F RawDecl RawForm RawSimple RawBlock RawProc RawStmt) (x : RawDecl) → roll-RawDecl y ≡ x → Identified ((layered facts_pass).decl y) → Identified (declaration_facts x)
decl y x e h = subst Identified (sym ((rolls facts_pass).decl y) ∙ ap declaration_facts e) h

formed : (y : RawForm-F RawDecl RawForm RawSimple RawBlock RawProc RawStmt) (x : RawForm) → roll-RawForm y ≡ x → Identified ((layered facts_pass).form y) → Identified (form_facts x)
formed y x e h = subst Identified (sym ((rolls facts_pass).form y) ∙ ap form_facts e) h

simple : (y : RawSimple-F RawDecl RawForm RawSimple RawBlock RawProc RawStmt) (x : RawSimple) → roll-RawSimple y ≡ x → Identified ((layered facts_pass).simple y) → Identified (simple_facts x)
simple y x e h = subst Identified (sym ((rolls facts_pass).simple y) ∙ ap simple_facts e) h

each_joined : {A : Type 0} (f : A → List Fact) (xs : List A) → Each (λ x. Identified (f x)) xs → Identified (joined (map f xs))
each_joined f [] h = nothing
each_joined f (x ∷ xs) h = together h.0 (each_joined f xs h.1)

enclosed_identified : (b : Bool) {facts : List Fact} → Identified facts → Identified (enclosed b facts)
enclosed_identified true h = block_identified None h
enclosed_identified false h = h

told : {n : ℕ} {p : Bool} {z : Sort} {x : Value z} {a : List ℕ} → IsNormal n p z x a → Told z x
told normal.no_more = tt
told (normal.one_more h k) = (told h, told k)
told normal.no_statement = simple layer.Empty simple_tree.Empty simple_tree.rolls-Empty nothing
told (normal.assignment {r = r} {x = x} h k) = simple (layer.Assign r x) (simple_tree.Assign r x) (simple_tree.rolls-Assign r x) (together (reference r reading.Target) (expression x reading.Value))
told (normal.bits_assignment {z = z} {r = r} {x = x} o h k) = simple (layer.AssignBits z r x) (simple_tree.AssignBits z r x) (simple_tree.rolls-AssignBits z r x) (together (reference r reading.Whole) (expression x reading.Value))
told (normal.jump_to at {f = f} h) = simple (layer.Goto at f) (simple_tree.Goto at f) (simple_tree.rolls-Goto at f) (use_identified f form.Goto)
told (normal.jump_through at {f = f} {x = x} h k) = simple (layer.GotoSwitch at f x) (simple_tree.GotoSwitch at f x) (simple_tree.rolls-GotoSwitch at f x) (together (use_identified f form.GotoSwitch) (expression x reading.Value))
told (normal.called_alone {f = f} h) = simple (layer.Call f []) (simple_tree.Call f []) (simple_tree.rolls-Call f []) (together (use_identified f form.Call) nothing)
told (normal.called_with {f = f} {x = x} {xs = xs} h k) = simple (layer.Call f (x ∷ xs)) (simple_tree.Call f (x ∷ xs)) (simple_tree.rolls-Call f (x ∷ xs)) (together (use_identified f form.Call) (arguments (x ∷ xs)))
told (normal.is_answer at {x = x} h) = simple (layer.Answer at x) (simple_tree.Answer at x) (simple_tree.rolls-Answer at x) (together (use_identified (answer_name at) form.Answer) (expression x reading.Value))
told (normal.inner_block {x = x} h) = simple (layer.Block x) (simple_tree.Block x) (simple_tree.rolls-Block x) (told h false)
told (normal.is_block at {ds = ds} {x = x} {xs = xs} h k) =
    λ o. subst (λ f. Identified (f o)) (sym ((rolls facts_pass).block (record { at = at; decls = ds; stmts = x ∷ xs }))) (enclosed_identified _ (together (each_joined declaration_facts ds (told h)) (each_joined statement_facts (x ∷ xs) (told k))))
told (normal.is_stmt {ls = ls} {x = x} h k) = subst Identified (sym ((rolls facts_pass).stmt (record { labels = ls; form = x }))) (together (names_identified kind.Label h) (told k))
told (normal.simple_form {x = x} h) = formed (layer.Simple x) (form_tree.Simple x) (form_tree.rolls-Simple x) (told h)
told (normal.if_form at {t = t} {ls = ls} {x = x} h l k) =
    formed (layer.If at t ls x None) (form_tree.If at t ls x None) (form_tree.rolls-If at t ls x None) (together (condition t reading.Value) (together (names_identified kind.Label l) (together (told k) nothing)))
told (normal.else_form at {t = t} {ls = ls} {x = x} {y = y} h l k m) =
    formed (layer.If at t ls x (Some y)) (form_tree.If at t ls x (Some y)) (form_tree.rolls-If at t ls x (Some y)) (together (condition t reading.Value) (together (names_identified kind.Label l) (together (told k) (told m))))
told (normal.for_form at {r = r} {x = x} {xs = xs} {y = y} h k l) =
    formed (layer.For at r (x ∷ xs) y) (form_tree.For at r (x ∷ xs) y) (form_tree.rolls-For at r (x ∷ xs) y) (together (loop_identified at) (together (reference r reading.Whole) (together (elements (x ∷ xs)) (told l))))
told (normal.data_decl {x = x} h) = decl (layer.Data x) (decl_tree.Data x) (decl_tree.rolls-Data x) (data_identified h)
told (normal.overlay_decl at {x = x} {y = y} h k) = decl (layer.Overlay at x y) (decl_tree.Overlay at x y) (decl_tree.rolls-Overlay at x y) (together (base_identified x) (data_identified k))
told (normal.switch_decl at {f = f} {x = x} {xs = xs} h k) = decl (layer.Switch at f (x ∷ xs)) (decl_tree.Switch at f (x ∷ xs)) (decl_tree.rolls-Switch at f (x ∷ xs)) (together (name_identified kind.Switch h) (uses_identified (x ∷ xs)))
told (normal.proc_decl {o = o} {t = t} {f = f} {xs = xs} {x = x} h g l k m) =
    decl (layer.Proc (proc_tree o t f xs x)) (decl_tree.Proc (proc_tree o t f xs x)) (decl_tree.rolls-Proc (proc_tree o t f xs x))
    (subst Identified (sym ((rolls facts_pass).proc (record { answer = o; tag = t; name = f; params = xs; body = x })))
    (together (specification_identified (kind.Proc o) o (flattened xs) l) (block_identified (Some f.at.token) (together (answer_identified o) (together (parameters_identified k) (told m))))))
told _ = tt

raw_identified : {n : ℕ} {x : Raw} {a : List ℕ} → IsNormal n false a_raw x a → Identified (text_facts x)
raw_identified (normal.is_raw f tokens h e k) = together (communicators_identified h) (told k true)

pub all_identified : (n : ℕ) (ts : List Lexeme) (raw : Raw) → Derives n a_raw text (numbered 1 ts) raw → HasIdentifiers raw
all_identified n ts raw d = (raw_identified (derived_normal false text_normal d).normal).each
