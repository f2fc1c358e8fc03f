-- Expressions and conditions in normal form.
use Rattle.std.proofs.Common.{ℕ, suc, Bool, List, [], ◌∷◌, ◌++◌, Option, None, sym, subst, append-nil}
use Rattle.cw_tree.specs.declared.leaf.Position.{Position}
use Rattle.cw_tree.specs.declared.leaf.RawName.{RawName}
use Rattle.cw_tree.specs.declared.expression.RawExpr.{RawExpr}
use Rattle.cw_tree.specs.declared.expression.RawExpr.TheVariants as expr_tree
use Rattle.cw_tree.specs.declared.expression.RawCond.{RawCond}
use Rattle.cw_tree.specs.declared.expression.RawRef.{RawRef}
use Rattle.cw_tree.specs.declared.expression.RawRef.TheVariants as ref_tree
use Rattle.cw_tree.specs.declared.expression.RawPrimary.TheVariants as primary_tree
use Rattle.cw_grammar.specs.Tokens.{Item, position, characters}
use Rattle.cw_grammar.specs.Grammar.{a_pair, an_option, a_name, an_expr, a_cond, a_cand, a_cmp, a_sum, a_term, a_differ, a_union, a_mask, a_prim, a_primary, a_ref}
use Rattle.cw_grammar.specs.Rules.{raw_literal, indexed_name, reference, constant, worded, enclosed, named, primary, prim, mask, union, differ, term, sum, cmp, cand, condition, expr}
use Rattle.cw_derived.specs.Marks.{mark, empty, kept, skipped}
use Rattle.cw_derived.specs.NormalForm.{IsNormal, absent, present, both, is_literal, number as a_number_alone, octal as an_octal_alone, literal, string, location, forced, bracket, referred, call, named as named_ref, one_index, two_indexes, bare, is_cmp, is_cand, is_cond, choice}
use Rattle.cw_derived.specs.Proper.{IsNormalWithin}
use Rattle.cw_derived.proofs.Withins.{join}
use Rattle.cw_derived.proofs.Built.{Gives, marks_of, filled, b_one, b_none, b_then, b_left, b_right, b_map, b_opens, before, pairs_normal, many_normal, optional_normal, in_a_row, operation_normal}
use Rattle.cw_derived.proofs.Leaves.{name_normal, number_normal, octal_normal, sign_normal, factor_sign_normal, comparator_normal, operator_normal, type_normal, bits_normal}
use Rattle.cw_derived.proofs.Operands.{mask_made, union_made, differ_made, term_made, sum_made, expr_made, prim_made}

-- ---- references

indexed_in : {n : ℕ} {p : Bool} {f : RawName} {y : RawExpr × Option RawExpr} {a b : List ℕ} → IsNormal (suc n) p a_name f a → IsNormal n p (a_pair an_expr (an_option an_expr)) y b → IsNormal (suc n) p a_ref (indexed_name f y.0 y.1) (a ++ b)
indexed_in {n = n} {p = p} {f = f} {a = a} g (both {x = x} {a = b} h absent) = subst (λ (z : List ℕ). IsNormal (suc n) p a_ref (indexed_name f x None) (a ++ z)) (sym (append-nil b)) (one_index g h)
indexed_in g (both h (present k)) = two_indexes g h k

pub indexed_made : {n : ℕ} {p : Bool} {f : RawName} {y : RawExpr × Option RawExpr} {u v : List ℕ} (t : Item) → IsNormalWithin (suc n) p a_name f u → IsNormalWithin n p (a_pair an_expr (an_option an_expr)) y v → IsNormalWithin (suc n) p a_ref (indexed_name f y.0 y.1) (u ++ marks_of t v)
indexed_made t g k = record { marks = g.marks ++ k.marks; within = join g.within (skipped (skipped k.within)); normal = indexed_in g.normal k.normal }

pub bare_made : {n : ℕ} {p : Bool} {x : RawExpr} {v : List ℕ} (t : Item) → IsNormalWithin n p an_expr x v → IsNormalWithin (suc n) p a_ref (ref_tree.Bare (position t) x) (marks_of t v)
bare_made t k = record { marks = mark (position t) ∷ k.marks; within = kept (skipped k.within); normal = bare (position t) k.normal }

pub name_ref : {n : ℕ} {p : Bool} {f : RawName} {u : List ℕ} → IsNormalWithin n p a_name f u → IsNormalWithin n p a_ref (ref_tree.Name f) u
name_ref k = record { marks = k.marks; within = k.within; normal = named_ref k.normal }

pub reference_normal : {n : ℕ} {p : Bool} → Gives n p a_ref reference
unfolding reference
reference_normal x ns (b_left (b_map (b_then d (b_left (b_map (b_opens {t = t} e h)))))) = indexed_made t (name_normal _ _ d) h
reference_normal x ns (b_left (b_map (b_then d (b_right b_none)))) = before [] (name_ref (name_normal _ _ d))
reference_normal x ns (b_right (b_map (b_opens {t = t} e h))) = bare_made t h

-- ---- primaries

ref_primary : {n : ℕ} {p : Bool} {x : RawRef} {u : List ℕ} → IsNormalWithin n p a_ref x u → IsNormalWithin n p a_primary (primary_tree.Ref x) u
ref_primary k = record { marks = k.marks; within = k.within; normal = referred k.normal }

constant_normal : {n : ℕ} {p : Bool} → Gives n p a_primary constant
unfolding constant
constant_normal x ns (b_left (b_map d)) = let k = number_normal _ _ d in record { marks = k.marks; within = k.within; normal = a_number_alone k.normal }
constant_normal x ns (b_right (b_left (b_map d))) = let k = octal_normal _ _ d in record { marks = k.marks; within = k.within; normal = an_octal_alone k.normal }
constant_normal x ns (b_right (b_right (b_left (b_map (b_one {t = t} e))))) = record { marks = mark (position t) ∷ []; within = kept (skipped empty); normal = literal (is_literal (raw_literal t)) }
constant_normal x ns (b_right (b_right (b_right (b_map (b_one {t = t} e))))) = record { marks = mark (position t) ∷ []; within = kept (skipped empty); normal = string (position t) (characters t.kind t.text) }

worded_normal : {n : ℕ} {p : Bool} → Gives n p a_primary worded
unfolding worded
worded_normal x ns (b_left (b_map (b_then (b_one {t = w} e) (b_opens f h)))) = record { marks = mark (position w) ∷ h.marks; within = kept (skipped (skipped (skipped h.within))); normal = location (position w) h.normal }
worded_normal x ns (b_right (b_map (b_then d (b_opens f h)))) = let k = type_normal _ _ d in record { marks = k.marks ++ h.marks; within = join k.within (skipped (skipped h.within)); normal = forced k.normal h.normal }

enclosed_normal : {n : ℕ} {p : Bool} → Gives n p a_primary enclosed
unfolding enclosed
enclosed_normal x ns (b_left (b_map (b_opens {t = t} e h))) = record { marks = mark (position t) ∷ h.marks; within = kept (skipped h.within); normal = bracket (position t) h.normal }
enclosed_normal x ns (b_right (b_map (b_opens {t = t} e h))) = ref_primary (bare_made t h)

named_normal : {n : ℕ} {p : Bool} → Gives n p a_primary named
unfolding named
named_normal x ns (b_map (b_then d (b_left (b_map (b_opens {t = t} e h))))) = ref_primary (indexed_made t (name_normal _ _ d) h)
named_normal x ns (b_map (b_then d (b_right (b_left (b_map (b_opens e (filled h))))))) = let k = name_normal _ _ d in record { marks = k.marks ++ h.marks; within = join k.within (skipped (skipped h.within)); normal = call k.normal h.normal }
named_normal x ns (b_map (b_then d (b_right (b_right b_none)))) = before [] (ref_primary (name_ref (name_normal _ _ d)))

primary_normal : {n : ℕ} {p : Bool} → Gives n p a_primary primary
unfolding primary
primary_normal x ns (b_left d) = constant_normal x ns d
primary_normal x ns (b_right (b_left d)) = worded_normal x ns d
primary_normal x ns (b_right (b_right (b_left d))) = enclosed_normal x ns d
primary_normal x ns (b_right (b_right (b_right d))) = named_normal x ns d

prim_normal : {n : ℕ} {p : Bool} → Gives n p a_prim prim
unfolding prim
prim_normal x ns (b_map (b_then d e)) = prim_made (many_normal bits_normal d) (primary_normal _ _ e)

-- ---- operations

-- each over the one before it
term_normal : {n : ℕ} {p : Bool} → Gives n p a_term term
unfolding mask union differ term
term_normal {n = n} {p = p} =
    let masks : Gives n p a_mask mask = λ x ns d. operation_normal (λ y more u v h k. mask_made h k) prim_normal operator_normal x ns d in
    let unions : Gives n p a_union union = λ x ns d. operation_normal (λ y more u v h k. union_made h k) masks operator_normal x ns d in
    let differs : Gives n p a_differ differ = λ x ns d. operation_normal (λ y more u v h k. differ_made h k) unions operator_normal x ns d in
    λ x ns d. operation_normal (λ y more u v h k. term_made h k) differs factor_sign_normal x ns d

sum_normal : {n : ℕ} {p : Bool} → Gives n p a_sum sum
unfolding sum
sum_normal x ns (b_map (b_then o (b_then d e))) = sum_made (optional_normal sign_normal o) (term_normal _ _ d) (pairs_normal e sign_normal term_normal)

cmp_normal : {n : ℕ} {p : Bool} → Gives n p a_cmp cmp
unfolding cmp
cmp_normal x ns (b_map (b_then d (b_then o e))) =
    let g = sum_normal _ _ d in
    let h = comparator_normal _ _ o in
    let k = sum_normal _ _ e in
    record { marks = g.marks ++ (h.marks ++ k.marks); within = join g.within (join h.within k.within); normal = is_cmp g.normal h.normal k.normal }

cand_normal : {n : ℕ} {p : Bool} → Gives n p a_cand cand
unfolding cand
cand_normal x ns (b_map (b_then d e)) = in_a_row (cmp_normal _ _ d) (pairs_normal e operator_normal cmp_normal) (λ a b h k. is_cand h k)

pub condition_normal : {n : ℕ} {p : Bool} → Gives n p a_cond condition
unfolding condition
condition_normal x ns (b_map (b_then d e)) = in_a_row (cand_normal _ _ d) (pairs_normal e operator_normal cand_normal) (λ a b h k. is_cond h k)

chosen : {n : ℕ} {p : Bool} (at : Position) {y : RawCond × (RawExpr × RawExpr)} {a : List ℕ} → IsNormal n p (a_pair a_cond (a_pair an_expr an_expr)) y a → IsNormal (suc n) p an_expr (expr_tree.Choice at y.0 y.1.0 y.1.1) (mark at ∷ a)
chosen at (both h (both k l)) = choice at h k l

pub expr_normal : {n : ℕ} {p : Bool} → Gives n p an_expr expr
unfolding expr
expr_normal x ns (b_left (b_map (b_opens {t = t} e h))) = record { marks = mark (position t) ∷ h.marks; within = kept (skipped h.within); normal = chosen (position t) h.normal }
expr_normal x ns (b_right (b_map d)) = expr_made (sum_normal _ _ d)
