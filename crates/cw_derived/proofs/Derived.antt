-- What is derived is in normal form, and its marks are among those of its tokens.
use Rattle.std.proofs.Common.{◌≡◌, ℕ, suc, ◌+◌, ◌*◌, ◌≤◌, min, Bool, false, List, [], ◌∷◌, ◌++◌, length, Option, Some, None, refl, sym, ap, subst, arith}
use Rattle.std.proofs.Math.Nat.{min-eq_left}
use Rattle.cw_lex.specs.Lexical.{Lexeme}
use Rattle.cw_tree.specs.declared.leaf.Position.{Position}
use Rattle.cw_tree.specs.declared.leaf.RawName.{RawName}
use Rattle.cw_tree.specs.declared.expression.RawCond.{RawCond}
use Rattle.cw_tree.specs.declared.statement.RawForm.TheVariants as form_tree
use Rattle.cw_tree.specs.declared.statement.RawSimple.{RawSimple}
use Rattle.cw_tree.specs.declared.statement.RawStmt.{RawStmt}
use Rattle.cw_tree.specs.declared.segment.Raw.{Raw}
use Rattle.cw_grammar.specs.Tokens.{Item, position, numbered}
use Rattle.cw_grammar.specs.Grammar.{Sort, a_pair, a_list, an_option, a_name, a_cond, a_simple, a_stmt, a_form, a_raw, Value, Rule, bracketed, subscript, indexed, called, located, conditional, if_rest, else_rest, for_rest, block_rest, proc_body, Again, labelled, labelled_simple, more_elems, places, Grammar, ◌·◌, many, again}
use Rattle.cw_grammar.specs.Statements.{text}
use Rattle.cw_grammar.specs.Table.{rule, again_rule}
use Rattle.cw_grammar.specs.Derives.{Derives, is_one, is_none, is_then, is_left, is_right, is_end, is_more, is_map, is_opens, is_again}
use Rattle.cw_derived.specs.Marks.{mark, mark_behind, token_marks, kept, skipped, AtLeast, Rises}
use Rattle.cw_derived.specs.NormalForm.{IsNormal, both, if_form, else_form, for_form, is_block}
use Rattle.cw_derived.specs.Proper.{IsNormalWithin, IsProper}
use Rattle.cw_derived.proofs.Withins.{join, front, beyond, rises_in}
use Rattle.cw_derived.proofs.Built.{Gives, Built, Inside, Fine, flag, again_flag, filled, b_one, b_none, b_then, b_left, b_right, b_end, b_more, b_map, b_opens, b_again, before, two, many_normal, optional_normal, second_normal, first_normal, some_normal}
use Rattle.cw_derived.proofs.Expressions.{reference_normal, expr_normal, condition_normal}
use Rattle.cw_derived.proofs.Data.{behind_normal, presets_fine}
use Rattle.cw_derived.proofs.Statements.{simple_normal, stmt_normal, felem_normal, decl_normal, text_normal}

-- ---- inside the levels

pub stmt_again : {n : ℕ} (q : Bool) → Gives n q a_stmt (again (labelled q))
stmt_again q x ns (b_again h) = h

if_in : {n : ℕ} {p : Bool} (at : Position) {c : RawCond} {y : List RawName × RawSimple} {a b : List ℕ} → IsNormal n p a_cond c a → IsNormal n p (a_pair (a_list a_name) a_simple) y b → IsNormal (suc n) p a_form (form_tree.If at c y.0 y.1 None) (mark at ∷ (a ++ b))
if_in at g (both h k) = if_form at g h k

else_in : {n : ℕ} {p : Bool} (at : Position) {c : RawCond} {y : List RawName × RawSimple} {s : RawStmt} {a b d : List ℕ} → IsNormal (suc n) p a_cond c a → IsNormal (suc n) p (a_pair (a_list a_name) a_simple) y b → IsNormal n p a_stmt s d
    → IsNormal (suc (suc n)) p a_form (form_tree.If at c y.0 y.1 (Some s)) (mark at ∷ (a ++ (b ++ d)))
else_in at g (both h k) l = else_form at g h k l

if_inside : {n : ℕ} (q : Bool) {x : RawCond × ((List RawName × RawSimple) × Option RawStmt)} {ns : List ℕ} → Built n q (a_pair a_cond (a_pair (a_pair (a_list a_name) a_simple) (an_option a_stmt))) (rule (if_rest q)) x ns
    → (at : Position) → IsNormalWithin (suc n) q a_form (form_tree.If at x.0 x.1.0.0 x.1.0.1 x.1.1) (mark at ∷ ns)
unfolding rule
if_inside q (b_then c (b_then (b_map (b_then {u = u} w (b_again h))) (b_left (b_map (b_map (b_opens e k)))))) at =
    let g = condition_normal _ _ c in
    record { marks = mark at ∷ (g.marks ++ (h.marks ++ k.marks)); within = kept (join g.within (join (beyond u h.within) (skipped (skipped k.within)))); normal = else_in at g.normal h.normal k.normal }
if_inside q (b_then c (b_then (b_map (b_then {u = u} w (b_again h))) (b_right b_none))) at =
    let g = condition_normal _ _ c in
    record { marks = mark at ∷ (g.marks ++ h.marks); within = kept (join g.within (front [] (beyond u h.within))); normal = if_in at g.normal h.normal }

rule_inside : {n : ℕ} (p : Bool) {s : Sort} (r : Rule s) (x : Value s) (ns : List ℕ) → Built n (flag p r) s (rule r) x ns → Inside n p r x ns
unfolding rule
rule_inside p bracketed x ns d = first_normal expr_normal d
rule_inside p subscript x ns d = first_normal expr_normal d
rule_inside p indexed x ns (b_then d (b_map (b_then {v = v} o c))) = two (expr_normal _ _ d) (before v (optional_normal (λ y ms b. second_normal expr_normal b) o))
rule_inside p called x ns (b_map (b_then {v = v} (b_map (b_then d l)) c)) = filled (before v (some_normal expr_normal d l))
rule_inside p located x ns d = first_normal reference_normal d
rule_inside p conditional x ns (b_then d (b_then e f)) = two (condition_normal _ _ d) (two (second_normal expr_normal e) (second_normal expr_normal f))
rule_inside p (if_rest q) x ns d = if_inside q d
rule_inside p (else_rest q) x ns (b_again h) = h
rule_inside p (for_rest q) x ns (b_then r (b_then (b_map (b_then {u = u} a (b_map (b_then d l)))) (b_map (b_then {u = v} w (b_again h))))) =
    let g = reference_normal _ _ r in
    let k = some_normal felem_normal d l in
    λ at. record { marks = mark at ∷ (g.marks ++ (k.marks ++ h.marks)); within = kept (join g.within (join (beyond u k.within) (beyond v h.within))); normal = for_form at g.normal k.normal h.normal }
rule_inside p (block_rest q) x ns (b_then ds (b_map (b_then {v = v} (b_map (b_then s l)) e))) =
    let g = many_normal (λ y ms b. first_normal (decl_normal q) b) ds in
    let k = before v (some_normal (stmt_again q) s l) in
    λ at. record { marks = mark at ∷ (g.marks ++ k.marks); within = kept (join g.within k.within); normal = is_block at g.normal k.normal }
rule_inside p proc_body x ns (b_again h) = h

again_fine : {n : ℕ} (p : Bool) {s : Sort} (a : Again s) (x : Value s) (ns : List ℕ) → Built n (again_flag p a) s (again_rule a) x ns → Fine n (again_flag p a) s x ns
unfolding again_rule
again_fine p (labelled q) x ns d = stmt_normal q x ns d
again_fine p (labelled_simple q) x ns d = simple_normal q x ns d
again_fine p more_elems x ns d = behind_normal x ns d
again_fine p places x ns d = presets_fine d

-- ---- derivations

marks_append : (u v : List Item) → token_marks (u ++ v) ≡ token_marks u ++ token_marks v
marks_append [] v = refl
marks_append (t ∷ u) v = ap (λ (z : List ℕ). mark (position t) ∷ mark_behind (position t) ∷ z) (marks_append u v)

pub built : {n : ℕ} (p : Bool) {s : Sort} {g : Grammar s} {u : List Item} {x : Value s} → Derives n s g u x → Built n p s g x (token_marks u)
built p (is_one e) = b_one e
built p is_none = b_none
built {n = n} p (is_then {s = s} {t = t} {g = g} {h = h} {u = u} {v = v} {x = x} {y = y} d e) = subst (λ (z : List ℕ). Built n p (a_pair s t) (g · h) (x, y) z) (sym (marks_append u v)) (b_then (built p d) (built p e))
built p (is_left d) = b_left (built p d)
built p (is_right d) = b_right (built p d)
built p is_end = b_end
built {n = n} p (is_more {s = s} {g = g} {u = u} {v = v} {x = x} {xs = xs} d e) = subst (λ (z : List ℕ). Built n p (a_list s) (many g) (x ∷ xs) z) (sym (marks_append u v)) (b_more (built p d) (built p e))
built p (is_map d) = b_map (built p d)
built p (is_opens {r = r} {u = u} {x = x} e d) = b_opens e (rule_inside p r x (token_marks u) (built (flag p r) d))
built p (is_again {a = a} {u = u} {x = x} d) = b_again (again_fine p a x (token_marks u) (built (again_flag p a) d))

pub derived_normal : {n : ℕ} (p : Bool) {s : Sort} {g : Grammar s} {u : List Item} {x : Value s} → Gives n p s g → Derives n s g u x → IsNormalWithin n p s x (token_marks u)
derived_normal p {u = u} {x = x} f d = f x (token_marks u) (built p d)

-- ---- tokens of a list rise

weaker : (n m : ℕ) (ms : List ℕ) → n ≤ m → AtLeast m ms → AtLeast n ms
weaker n m [] h k = tt
weaker n m (x ∷ ms) h k = (omega (arith, h, k.0), weaker n m ms h k.1)

abbrev RisesFrom : ℕ → List ℕ → Type 0
RisesFrom n ms = AtLeast (2 * n) ms × Rises ms

rises_behind : (n m : ℕ) (ms : List ℕ) → m ≡ n → RisesFrom (n + 1) ms → RisesFrom n (2 * m ∷ (2 * m + 1) ∷ ms)
rises_behind n m ms e h =
    subst (λ (z : ℕ). RisesFrom n (2 * z ∷ (2 * z + 1) ∷ ms)) (sym e)
    ((omega arith, (omega arith, weaker (2 * n) (2 * (n + 1)) ms (omega arith) h.0)), ((omega arith, weaker (2 * n + 1) (2 * (n + 1)) ms (omega arith) h.0), (weaker (2 * n + 1 + 1) (2 * (n + 1)) ms (omega arith) h.0, h.1)))

rises_from : (n : ℕ) (ts : List Lexeme) → n + length ts ≤ 4294967295 → RisesFrom n (token_marks (numbered n ts))
rises_from n [] h = (tt, tt)
rises_from n (t ∷ ts) h = rises_behind n (min n 4294967295) (token_marks (numbered (n + 1) ts)) (min-eq_left (omega (arith, h))) (rises_from (n + 1) ts (omega (arith, h)))

pub numbered_rise : (n : ℕ) (ts : List Lexeme) → n + length ts ≤ 4294967295 → Rises (token_marks (numbered n ts))
numbered_rise n ts h = (rises_from n ts h).1

pub proper : (n : ℕ) (ts : List Lexeme) (x : Raw) → length ts ≤ 65535 → Derives n a_raw text (numbered 1 ts) x → IsProper n x
proper n ts x few d =
    let k = derived_normal false text_normal d in
    record { marks = k.marks; normal = k.normal; rises = rises_in k.within (numbered_rise 1 ts (omega (arith, few))) }
