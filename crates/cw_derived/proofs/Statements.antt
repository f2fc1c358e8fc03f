-- Statements, declarations and texts in normal form.
use Rattle.std.proofs.Common.{ℕ, Bool, true, false, List, [], ◌∷◌, ◌++◌, Option, sym, ap, subst, append_assoc}
use Rattle.cw_tree.specs.declared.leaf.RawName.{RawName}
use Rattle.cw_tree.specs.declared.leaf.RawType.{RawType}
use Rattle.cw_tree.specs.declared.expression.RawExpr.{RawExpr}
use Rattle.cw_tree.specs.declared.expression.RawRef.{RawRef}
use Rattle.cw_tree.specs.declared.items.RawBase.{RawBase}
use Rattle.cw_tree.specs.declared.items.RawData.{RawData}
use Rattle.cw_tree.specs.declared.statement.RawDecl.TheViews.{out-roll-RawStmt}
use Rattle.cw_tree.specs.declared.statement.RawDecl.TheOpen.{RawStmt-F}
use Rattle.cw_tree.specs.declared.statement.RawDecl.{RawDecl}
use Rattle.cw_tree.specs.declared.statement.RawDecl.TheVariants as decl_tree
use Rattle.cw_tree.specs.declared.statement.RawForm.{RawForm}
use Rattle.cw_tree.specs.declared.statement.RawForm.TheVariants as form_tree
use Rattle.cw_tree.specs.declared.statement.RawSimple.{RawSimple}
use Rattle.cw_tree.specs.declared.statement.RawSimple.TheVariants as simple_tree
use Rattle.cw_tree.specs.declared.statement.RawBlock.{RawBlock}
use Rattle.cw_tree.specs.declared.statement.RawProc.{RawProc}
use Rattle.cw_tree.specs.declared.statement.RawStmt.{RawStmt}
use Rattle.cw_tree.specs.declared.statement.RawParam.{RawParam}
use Rattle.cw_grammar.specs.Tokens.{Item, position, name_of}
use Rattle.cw_grammar.specs.Grammar.{Sort, Value, a_pair, a_list, an_option, a_from, a_name, a_type, an_expr, a_ref, a_data, a_stmt, a_form, a_simple, a_felem, a_decl, a_param, a_raw}
use Rattle.cw_grammar.specs.Statements.{simple_behind, unnamed, stmt_tree, with_label, simple, stmt, felem, procedure_param as procedure_param_rule, param, proc_behind, worded_decl, decl, text}
use Rattle.cw_derived.specs.Marks.{mark, Within, empty, kept, skipped}
use Rattle.cw_derived.specs.NormalForm.{IsNormal, no_more, one_more, no_statement, assignment, bits_assignment, jump_to, jump_through, called_alone, called_with, is_answer, inner_block, is_stmt, simple_form, one_felem, while_felem, step_felem, data_decl, overlay_decl, switch_decl, proc_decl, value_param, location_param, array_param, table_param, label_param, switch_param, procedure_param, is_raw}
use Rattle.cw_derived.specs.Proper.{IsNormalWithin}
use Rattle.cw_derived.proofs.Withins.{all_within, join, twice, beyond}
use Rattle.cw_derived.proofs.Built.{Gives, Built, filled, marks_of, b_one, b_none, b_then, b_left, b_right, b_map, b_opens, b_again, after, before, some, nothing, many_normal, second_normal, first_normal, some_normal, listed_normal, cons_made, no_cons, in_a_row}
use Rattle.cw_derived.proofs.Leaves.{name_normal, type_normal, bits_normal, is_name_of}
use Rattle.cw_derived.proofs.Expressions.{indexed_made, bare_made, name_ref, reference_normal, expr_normal, condition_normal}
use Rattle.cw_derived.proofs.Data.{table_normal, data_table_normal, singles_made, arrays_made, Overlaid, overlaid, overlay_made}
use Rattle.cw_derived.proofs.Specifications.{tag_normal, ips_list_normal, comm_normal}

-- the mark behind a token, too
spread : {n : ℕ} {p : Bool} {s : Sort} {x : Value s} {u : List ℕ} (t : Item) → IsNormalWithin n p s x (mark (position t) ∷ u) → IsNormalWithin n p s x (marks_of t u)
spread {u = u} t k = record { marks = k.marks; within = twice k.within (kept (skipped (all_within u))); normal = k.normal }

-- ---- simple statements

assigned_made : {n : ℕ} {p : Bool} {r : RawRef} {x : RawExpr} {u v : List ℕ} → IsNormalWithin n p a_ref r u → IsNormalWithin n p an_expr x v → IsNormalWithin n p a_simple (simple_tree.Assign r x) (u ++ v)
assigned_made h k = in_a_row h k (λ a b g l. assignment g l)

simple_made : {n : ℕ} {p : Bool} {f : RawName} {g : RawName → RawSimple} {u ns : List ℕ} → IsNormalWithin n p a_name f u → Built n p (a_from a_name a_simple) simple_behind g ns → IsNormalWithin n p a_simple (g f) (u ++ ns)
unfolding simple_behind
simple_made k (b_left (b_map d)) = assigned_made (name_ref k) (second_normal expr_normal d)
simple_made {n = n} {p = p} {u = u} k (b_right (b_left (b_map (b_then {v = w} (b_opens {t = t} {u = v} e h) d)))) =
    let whole = assigned_made (indexed_made t k h) (second_normal expr_normal d) in
    record { marks = whole.marks; within = subst (λ (z : List ℕ). Within whole.marks z) (append_assoc u (marks_of t v) w) whole.within; normal = whole.normal }
simple_made k (b_right (b_right (b_left (b_map (b_opens e (filled h)))))) = record { marks = k.marks ++ h.marks; within = join k.within (skipped (skipped h.within)); normal = called_with k.normal h.normal }
simple_made k (b_right (b_right (b_right b_none))) = before [] (record { marks = k.marks; within = k.within; normal = called_alone k.normal })

unnamed_normal : {n : ℕ} (q : Bool) → Gives n q a_simple (unnamed q)
unfolding unnamed
unnamed_normal q x ns (b_left (b_map (b_then (b_opens {t = t} e h) d))) = assigned_made (bare_made t h) (second_normal expr_normal d)
unnamed_normal q x ns (b_right (b_left (b_map (b_then z (b_then r d))))) =
    let g = bits_normal _ _ z in
    let h = reference_normal _ _ r in
    let k = second_normal expr_normal d in
    record { marks = g.marks ++ (h.marks ++ k.marks); within = join g.within (join h.within k.within); normal = bits_assignment g.normal h.normal k.normal }
unnamed_normal q x ns (b_right (b_right (b_left (b_map (b_then (b_one {t = t} e) (b_then d (b_left (b_map (b_opens f h))))))))) =
    let k = name_normal _ _ d in
    record { marks = mark (position t) ∷ (k.marks ++ h.marks); within = kept (skipped (join k.within (skipped (skipped h.within)))); normal = jump_through (position t) k.normal h.normal }
unnamed_normal q x ns (b_right (b_right (b_left (b_map (b_then (b_one {t = t} e) (b_then d (b_right b_none))))))) =
    let k = before [] (name_normal _ _ d) in
    record { marks = mark (position t) ∷ k.marks; within = kept (skipped k.within); normal = jump_to (position t) k.normal }
unnamed_normal q x ns (b_right (b_right (b_right (b_left (b_map (b_then (b_one {t = t} e) d)))))) =
    let k = expr_normal _ _ d in
    record { marks = mark (position t) ∷ k.marks; within = kept (skipped k.within); normal = is_answer (position t) k.normal }
unnamed_normal q x ns (b_right (b_right (b_right (b_right (b_left (b_map (b_opens {t = t} e h))))))) =
    let k = spread t (h (position t)) in
    record { marks = k.marks; within = k.within; normal = inner_block k.normal }
unnamed_normal q x ns (b_right (b_right (b_right (b_right (b_right b_none))))) = record { marks = []; within = empty; normal = no_statement }

pub simple_normal : {n : ℕ} (q : Bool) → Gives n q (a_pair (a_list a_name) a_simple) (simple q)
unfolding simple
simple_normal q x ns (b_left (b_map (b_then d (b_left (b_map (b_map (b_then {u = u} c (b_again h)))))))) = cons_made (name_normal _ _ d) (after u h)
simple_normal q x ns (b_left (b_map (b_then d (b_right (b_map s))))) = no_cons (simple_made (name_normal _ _ d) s)
simple_normal q x ns (b_right (b_map d)) = no_cons (unnamed_normal q _ _ d)

-- ---- statements

labelled_in : {n : ℕ} {p : Bool} {f : RawName} {s : RawStmt} {a b : List ℕ} → IsNormal n p a_name f a → IsNormal n p a_stmt s b → IsNormal n p a_stmt (with_label f s) (a ++ b)
labelled_in {n = n} {p = p} {f = f} {a = a} g (is_stmt {ls = ls} {x = x} {a = b} {b = c} h k) =
    let with_more : RawStmt-F RawDecl RawForm RawSimple RawBlock RawProc RawStmt → RawStmt = λ z. stmt_tree (f ∷ z.labels) z.form in
    subst (λ (z : RawStmt). IsNormal n p a_stmt z (a ++ (b ++ c))) (sym (ap with_more (out-roll-RawStmt (record { labels = ls; form = x }))))
    (subst (λ (z : List ℕ). IsNormal n p a_stmt (stmt_tree (f ∷ ls) x) z) (append_assoc a b c) (is_stmt (one_more g h) k))

labelled_made : {n : ℕ} {p : Bool} {f : RawName} {s : RawStmt} {u v : List ℕ} → IsNormalWithin n p a_name f u → IsNormalWithin n p a_stmt s v → IsNormalWithin n p a_stmt (with_label f s) (u ++ v)
labelled_made h k = in_a_row h k (λ a b g l. labelled_in g l)

form_made : {n : ℕ} {p : Bool} {x : RawForm} {u : List ℕ} → IsNormalWithin n p a_form x u → IsNormalWithin n p a_stmt (stmt_tree [] x) u
form_made k = record { marks = k.marks; within = k.within; normal = is_stmt no_more k.normal }

simple_form_made : {n : ℕ} {p : Bool} {x : RawSimple} {u : List ℕ} → IsNormalWithin n p a_simple x u → IsNormalWithin n p a_form (form_tree.Simple x) u
simple_form_made k = record { marks = k.marks; within = k.within; normal = simple_form k.normal }

pub stmt_normal : {n : ℕ} (q : Bool) → Gives n q a_stmt (stmt q)
unfolding stmt
stmt_normal q x ns (b_left (b_map (b_then d (b_left (b_map (b_map (b_then {u = u} c (b_again h)))))))) = labelled_made (name_normal _ _ d) (after u h)
stmt_normal q x ns (b_left (b_map (b_then d (b_right (b_map s))))) = form_made (simple_form_made (simple_made (name_normal _ _ d) s))
stmt_normal q x ns (b_right (b_left (b_map (b_opens {t = t} e h)))) = form_made (spread t (h (position t)))
stmt_normal q x ns (b_right (b_right (b_left (b_map (b_opens {t = t} e h))))) = form_made (spread t (h (position t)))
stmt_normal q x ns (b_right (b_right (b_right (b_map d)))) = form_made (simple_form_made (unnamed_normal q _ _ d))

pub felem_normal : {n : ℕ} {p : Bool} → Gives n p a_felem felem
unfolding felem
felem_normal x ns (b_map (b_then d (b_left (b_map c)))) = in_a_row (expr_normal _ _ d) (second_normal condition_normal c) (λ a b h k. while_felem h k)
felem_normal x ns (b_map (b_then d (b_right (b_left (b_map (b_map (b_then {u = u} w (b_then e f)))))))) =
    let h = expr_normal _ _ d in
    let k = expr_normal _ _ e in
    let l = second_normal expr_normal f in
    record { marks = h.marks ++ (k.marks ++ l.marks); within = join h.within (beyond u (join k.within l.within)); normal = step_felem h.normal k.normal l.normal }
felem_normal x ns (b_map (b_then d (b_right (b_right b_none)))) =
    let k = before [] (expr_normal _ _ d) in
    record { marks = k.marks; within = k.within; normal = one_felem k.normal }

-- ---- declarations

procedure_param_made : {n : ℕ} {p : Bool} {f : Option RawType → RawParam} {ns : List ℕ} {o : Option RawType} {u : List ℕ} → IsNormalWithin n p (an_option a_type) o u → Built n p (a_from (an_option a_type) a_param) procedure_param_rule f ns → IsNormalWithin n p a_param (f o) (u ++ ns)
unfolding procedure_param_rule
procedure_param_made g (b_map (b_then (b_one {t = t} e) (b_then d l))) =
    let h = name_normal _ _ d in
    let k = ips_list_normal _ _ l in
    record { marks = g.marks ++ mark (position t) ∷ (h.marks ++ k.marks); within = join g.within (kept (skipped (join h.within k.within))); normal = procedure_param (position t) g.normal h.normal k.normal }

pub param_normal : {n : ℕ} {p : Bool} → Gives n p a_param param
unfolding param
param_normal x ns (b_left (b_map (b_then t (b_left (b_map (b_map (b_then {u = u} w (b_map (b_then d l))))))))) =
    in_a_row (type_normal _ _ t) (after u (some_normal name_normal d l)) (λ a b h k. array_param h k)
param_normal x ns (b_left (b_map (b_then t (b_right (b_map d))))) = procedure_param_made (some (type_normal _ _ t)) d
param_normal x ns (b_right (b_left (b_map d))) = procedure_param_made (nothing []) d
param_normal x ns (b_right (b_right (b_left (b_map (b_then (b_one {t = t} e) (b_then z (b_map (b_then d l)))))))) =
    let h = type_normal _ _ z in
    let k = some_normal name_normal d l in
    record { marks = mark (position t) ∷ (h.marks ++ k.marks); within = kept (skipped (join h.within k.within)); normal = value_param (position t) h.normal k.normal }
param_normal x ns (b_right (b_right (b_right (b_left (b_map (b_then (b_one {t = t} e) (b_then z (b_map (b_then d l))))))))) =
    let h = type_normal _ _ z in
    let k = some_normal name_normal d l in
    record { marks = mark (position t) ∷ (h.marks ++ k.marks); within = kept (skipped (join h.within k.within)); normal = location_param (position t) h.normal k.normal }
param_normal x ns (b_right (b_right (b_right (b_right (b_left (b_map d)))))) = let k = table_normal _ _ d in record { marks = k.marks; within = k.within; normal = table_param k.normal }
param_normal x ns (b_right (b_right (b_right (b_right (b_right (b_left (b_map (b_then (b_one {t = t} e) (b_map (b_then d l)))))))))) =
    let k = some_normal name_normal d l in
    record { marks = mark (position t) ∷ k.marks; within = kept (skipped k.within); normal = label_param (position t) k.normal }
param_normal x ns (b_right (b_right (b_right (b_right (b_right (b_right (b_map (b_then (b_one {t = t} e) (b_map (b_then d l)))))))))) =
    let k = some_normal name_normal d l in
    record { marks = mark (position t) ∷ k.marks; within = kept (skipped k.within); normal = switch_param (position t) k.normal }

proc_made : {n : ℕ} {f : Option RawType → RawDecl} {ns : List ℕ} {o : Option RawType} {u : List ℕ} → IsNormalWithin n false (an_option a_type) o u → Built n false (a_from (an_option a_type) a_decl) proc_behind f ns → IsNormalWithin n false a_decl (f o) (u ++ ns)
unfolding proc_behind
proc_made g (b_map (b_then t (b_then d (b_then l (b_opens e m))))) =
    let h = tag_normal _ _ t in
    let k = name_normal _ _ d in
    let i = listed_normal l param_normal in
    record {
      marks = g.marks ++ (h.marks ++ (k.marks ++ (i.marks ++ m.marks)));
      within = join g.within (join h.within (join k.within (join i.within (skipped (skipped m.within)))));
      normal = proc_decl g.normal h.normal k.normal i.normal m.normal;
    }

data_made : {n : ℕ} {p : Bool} {x : RawData} {u : List ℕ} → IsNormalWithin n p a_data x u → IsNormalWithin n p a_decl (decl_tree.Data x) u
data_made k = record { marks = k.marks; within = k.within; normal = data_decl k.normal }

overlaid_decl : {n : ℕ} {p : Bool} {x : Item × (RawBase × RawData)} {ns : List ℕ} → Overlaid n p x ns → IsNormalWithin n p a_decl (decl_tree.Overlay (position x.0) x.1.0 x.1.1) ns
overlaid_decl (overlaid {t = t} h k) = record { marks = mark (position t) ∷ (h.marks ++ k.marks); within = kept (skipped (join h.within k.within)); normal = overlay_decl (position t) h.normal k.normal }

worded_normal : {n : ℕ} {p : Bool} → Gives n p a_decl worded_decl
unfolding worded_decl
worded_normal x ns (b_left (b_map d)) = data_made (data_table_normal _ _ d)
worded_normal x ns (b_right (b_left (b_map d))) = overlaid_decl (overlay_made d)
worded_normal x ns (b_right (b_right (b_map (b_then (b_one {t = t} e) (b_then d (b_map (b_then {u = u} a (b_map (b_then f l))))))))) =
    let h = name_normal _ _ d in
    let k = after u (some_normal name_normal f l) in
    record { marks = mark (position t) ∷ (h.marks ++ k.marks); within = kept (skipped (join h.within k.within)); normal = switch_decl (position t) h.normal k.normal }

pub decl_normal : {n : ℕ} (q : Bool) → Gives n q a_decl (decl q)
unfolding decl
decl_normal true x ns (b_left (b_map (b_then t (b_left (b_map d))))) = data_made (singles_made (type_normal _ _ t) d)
decl_normal true x ns (b_left (b_map (b_then t (b_right (b_map d))))) = data_made (arrays_made (type_normal _ _ t) d)
decl_normal true x ns (b_right d) = worded_normal _ _ d
decl_normal false x ns (b_left (b_map (b_then t (b_left (b_map d))))) = data_made (singles_made (type_normal _ _ t) d)
decl_normal false x ns (b_left (b_map (b_then t (b_right (b_left (b_map d)))))) = data_made (arrays_made (type_normal _ _ t) d)
decl_normal false x ns (b_left (b_map (b_then t (b_right (b_right (b_map d)))))) = proc_made (some (type_normal _ _ t)) d
decl_normal false x ns (b_right (b_left d)) = worded_normal _ _ d
decl_normal false x ns (b_right (b_right (b_map d))) = proc_made (nothing []) d

-- ---- texts

pub text_normal : {n : ℕ} → Gives n false a_raw text
unfolding text
text_normal x ns (b_map (b_then cs (b_then (b_map (b_then {u = u} w (b_map (b_one {t = i} j)))) (b_then (b_opens {t = t} e h) (b_one {t = f} l))))) =
    let g = many_normal (λ y ms b. first_normal comm_normal b) cs in
    let k = spread t (h (position t)) in
    record {
      marks = g.marks ++ (k.marks ++ mark (position f) ∷ []);
      within = join g.within (beyond (u ++ marks_of i []) (join k.within (kept (skipped empty))));
      normal = is_raw (name_of i.text) f.number g.normal (is_name_of i.text) k.normal;
    }
