-- Each rule is alike its alternatives written out.
use Rattle.std.proofs.Common.{◌≡◌, ℕ, zero, suc, ◌+◌, Bool, true, false, List, [], ◌∷◌, refl, subst, arith}
use Rattle.cw_tree.specs.declared.segment.Raw.{Raw}
use Rattle.cw_grammar.specs.Tokens.{Item}
use Rattle.cw_grammar.specs.Grammar.{a_from, an_int, a_place, an_elem, a_data, an_ips, a_ps, a_spec, a_citem, an_aitem, a_param, a_decl, a_form, a_simple, a_raw}
use Rattle.cw_grammar.specs.Rules.{octal, int, sint, number_type, size, expr, sum}
use Rattle.cw_grammar.specs.Statements.{preset_value, elem, item_data, ips, worded_ips, data_table, singles, arrays, assigned, overlay, ips_list, procedure_ps, ps, spec_behind, spec, citem, table, typed_aitem, unplaced_aitem, procedure_param, param, worded_decl, proc_behind, decl, simple_behind, unnamed, text}
use Rattle.cw_grammar.specs.Labels.{unlabelled, unlabelled_simple}
use Rattle.cw_grammar.specs.Derives.{Derives}
use Rattle.cw_grammar.proofs.Table.{text_predictive}
use Rattle.cw_grammar.proofs.Sound.{derives_more}
use Rattle.cw_grammar.proofs.Longest.{one_tree}
use Rattle.cw_written.specs.Alike.{IsAlike}
use Rattle.cw_written.specs.Written as written
use Rattle.cw_written.proofs.Expand.{alike}

pub preset_value_alike : IsAlike a_place written.preset_value preset_value
unfolding preset_value octal
preset_value_alike = alike a_place written.preset_value preset_value (0 ∷ 1 ∷ 2 ∷ []) (0 ∷ 1 ∷ 2 ∷ []) refl refl

pub elem_alike : IsAlike an_elem written.elem elem
unfolding elem octal int
elem_alike = alike an_elem written.elem elem (0 ∷ 1 ∷ 2 ∷ 3 ∷ []) (0 ∷ 1 ∷ 2 ∷ 3 ∷ []) refl refl

pub data_alike : IsAlike a_data written.item_data item_data
unfolding item_data data_table singles arrays assigned
data_alike = alike a_data written.item_data item_data (0 ∷ 1 ∷ 2 ∷ 3 ∷ 4 ∷ 5 ∷ []) (0 ∷ 1 ∷ 2 ∷ 3 ∷ 4 ∷ 5 ∷ []) refl refl

pub ips_alike : IsAlike an_ips written.ips ips
unfolding ips worded_ips number_type size
ips_alike = alike an_ips written.ips ips (0 ∷ 1 ∷ 2 ∷ 3 ∷ 7 ∷ 4 ∷ 5 ∷ 6 ∷ []) (0 ∷ 1 ∷ 2 ∷ 3 ∷ 5 ∷ 6 ∷ 7 ∷ 4 ∷ []) refl refl

pub ps_alike : IsAlike a_ps written.ps ps
unfolding ps procedure_ps ips_list ips worded_ips number_type size
ps_alike = alike a_ps written.ps ps (5 ∷ 6 ∷ 7 ∷ 8 ∷ 9 ∷ 10 ∷ 11 ∷ 0 ∷ 3 ∷ 4 ∷ 1 ∷ 2 ∷ []) (7 ∷ 10 ∷ 11 ∷ 8 ∷ 9 ∷ 0 ∷ 1 ∷ 2 ∷ 3 ∷ 4 ∷ 5 ∷ 6 ∷ []) refl refl

pub spec_alike : IsAlike a_spec written.spec spec
unfolding spec spec_behind
spec_alike = alike a_spec written.spec spec (2 ∷ 3 ∷ 0 ∷ 1 ∷ []) (2 ∷ 3 ∷ 0 ∷ 1 ∷ []) refl refl

pub citem_alike : IsAlike a_citem written.citem citem
unfolding citem spec_behind overlay item_data data_table singles arrays assigned
citem_alike = alike a_citem written.citem citem (0 ∷ 1 ∷ 2 ∷ 3 ∷ 6 ∷ 7 ∷ 8 ∷ 9 ∷ 10 ∷ 11 ∷ 12 ∷ 13 ∷ 14 ∷ 15 ∷ 16 ∷ 17 ∷ 4 ∷ 5 ∷ []) (0 ∷ 1 ∷ 2 ∷ 3 ∷ 16 ∷ 17 ∷ 4 ∷ 5 ∷ 6 ∷ 7 ∷ 8 ∷ 9 ∷ 10 ∷ 11 ∷ 12 ∷ 13 ∷ 14 ∷ 15 ∷ []) refl refl

pub unplaced_aitem_alike : IsAlike (a_from an_int an_aitem) written.unplaced_aitem unplaced_aitem
unfolding unplaced_aitem typed_aitem table
unplaced_aitem_alike = alike (a_from an_int an_aitem) written.unplaced_aitem unplaced_aitem (0 ∷ 1 ∷ 2 ∷ []) (0 ∷ 1 ∷ 2 ∷ []) refl refl

pub param_alike : IsAlike a_param written.param param
unfolding param procedure_param ips_list table
param_alike = alike a_param written.param param (5 ∷ 6 ∷ 0 ∷ 7 ∷ 8 ∷ 9 ∷ 3 ∷ 4 ∷ 1 ∷ 2 ∷ []) (2 ∷ 8 ∷ 9 ∷ 6 ∷ 7 ∷ 0 ∷ 1 ∷ 3 ∷ 4 ∷ 5 ∷ []) refl refl

pub decl_alike : (p : Bool) → IsAlike a_decl (written.decl p) (decl p)
unfolding decl worded_decl proc_behind overlay item_data data_table singles arrays assigned
decl_alike true = alike a_decl (written.decl true) (decl true) (0 ∷ 1 ∷ 2 ∷ 3 ∷ 4 ∷ 5 ∷ 6 ∷ 7 ∷ 8 ∷ 9 ∷ 10 ∷ 11 ∷ 12 ∷ []) (0 ∷ 1 ∷ 2 ∷ 3 ∷ 4 ∷ 5 ∷ 6 ∷ 7 ∷ 8 ∷ 9 ∷ 10 ∷ 11 ∷ 12 ∷ []) refl refl
decl_alike false = alike a_decl (written.decl false) (decl false) (0 ∷ 1 ∷ 2 ∷ 3 ∷ 5 ∷ 6 ∷ 7 ∷ 8 ∷ 9 ∷ 10 ∷ 11 ∷ 12 ∷ 13 ∷ 14 ∷ 4 ∷ []) (0 ∷ 1 ∷ 2 ∷ 3 ∷ 14 ∷ 4 ∷ 5 ∷ 6 ∷ 7 ∷ 8 ∷ 9 ∷ 10 ∷ 11 ∷ 12 ∷ 13 ∷ []) refl refl

raised : (k n : ℕ) (u : List Item) (x : Raw) → Derives n a_raw text u x → Derives (k + n) a_raw text u x
raised zero n u x d = let e : n ≡ zero + n = omega arith in subst (λ (m : ℕ). Derives m a_raw text u x) e d
raised (suc k) n u x d = let e : suc (k + n) ≡ suc k + n = omega arith in subst (λ (m : ℕ). Derives m a_raw text u x) e (derives_more (raised k n u x d))

pub text_tree : (n m : ℕ) (u : List Item) (x y : Raw) → Derives n a_raw text u x → Derives m a_raw text u y → x ≡ y
text_tree n m u x y d e =
    let c : n + m ≡ m + n = omega arith in
    one_tree (m + n) a_raw text u x y text_predictive (raised m n u x d) (subst (λ (k : ℕ). Derives k a_raw text u y) c (raised n m u y e))

pub simple_alike : (p : Bool) → IsAlike a_simple (written.simple p) (unlabelled_simple p)
unfolding unlabelled_simple simple_behind unnamed expr sum
simple_alike p = alike a_simple (written.simple p) (unlabelled_simple p) (0 ∷ 1 ∷ 2 ∷ 3 ∷ 6 ∷ 7 ∷ 8 ∷ 9 ∷ 10 ∷ 11 ∷ 4 ∷ 5 ∷ 12 ∷ 13 ∷ 14 ∷ 15 ∷ []) (0 ∷ 1 ∷ 2 ∷ 3 ∷ 10 ∷ 11 ∷ 4 ∷ 5 ∷ 6 ∷ 7 ∷ 8 ∷ 9 ∷ 12 ∷ 13 ∷ 14 ∷ 15 ∷ []) refl refl

pub form_alike : (p : Bool) → IsAlike a_form (written.form p) (unlabelled p)
unfolding unlabelled simple_behind unnamed expr sum
form_alike p = alike a_form (written.form p) (unlabelled p) (0 ∷ 1 ∷ 2 ∷ 3 ∷ 8 ∷ 9 ∷ 10 ∷ 11 ∷ 12 ∷ 13 ∷ 4 ∷ 5 ∷ 14 ∷ 15 ∷ 16 ∷ 17 ∷ 6 ∷ 7 ∷ []) (0 ∷ 1 ∷ 2 ∷ 3 ∷ 10 ∷ 11 ∷ 16 ∷ 17 ∷ 4 ∷ 5 ∷ 6 ∷ 7 ∷ 8 ∷ 9 ∷ 12 ∷ 13 ∷ 14 ∷ 15 ∷ []) refl refl
