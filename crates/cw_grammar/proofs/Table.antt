-- The rules can be read with one token of look-ahead.
use Rattle.std.proofs.Common.{◌≡◌, Bool, true, false, refl}
use Rattle.cw_grammar.specs.Grammar.{Sort, Rule, bracketed, subscript, indexed, called, located, conditional, if_rest, else_rest, for_rest, block_rest, proc_body, Again, labelled, labelled_simple, more_elems, places, first, null, next, rule_next, again_first, again_next, predictive, guarded, within}
use Rattle.cw_grammar.specs.Rules.{octal, int, sint, number_type, size, bits, reference, constant, worded, enclosed, named, primary, prim, mask, union, differ, term, sum, cmp, cand, condition, expr}
use Rattle.cw_grammar.specs.Statements.{preset_value, place, further_places, presets, assigned, preset, range, bounds, group, elem, table, elems_behind, table_body, data_table, singles, arrays, item_data, base, overlay, ptag, worded_ips, ips, ips_list, procedure_ps, ps, spec_behind, spec, citem, typed_aitem, unplaced_aitem, aitem, comm, simple_behind, unnamed, simple, stmt, felem, procedure_param, param, proc_behind, worded_decl, decl, text}
use Rattle.cw_grammar.specs.Table.{rule, again_rule}

-- what holds of each rule, by a fact for each
module _ (P : (s : Sort) → Rule s → Type 0) (at_bracketed : P _ bracketed) (at_subscript : P _ subscript) (at_indexed : P _ indexed) (at_called : P _ called) (at_located : P _ located) (at_conditional : P _ conditional) (at_if_rest : (p : Bool) → P _ (if_rest p)) (at_else_rest : (p : Bool) → P _ (else_rest p)) (at_for_rest : (p : Bool) → P _ (for_rest p)) (at_block_rest_true : P _ (block_rest true)) (at_block_rest_false : P _ (block_rest false)) (at_proc_body : P _ proc_body) where
  pub each_rule : {s : Sort} (r : Rule s) → P s r
  each_rule bracketed = at_bracketed
  each_rule subscript = at_subscript
  each_rule indexed = at_indexed
  each_rule called = at_called
  each_rule located = at_located
  each_rule conditional = at_conditional
  each_rule (if_rest p) = at_if_rest p
  each_rule (else_rest p) = at_else_rest p
  each_rule (for_rest p) = at_for_rest p
  each_rule (block_rest true) = at_block_rest_true
  each_rule (block_rest false) = at_block_rest_false
  each_rule proc_body = at_proc_body

-- what holds of each rule that leads back to itself
module _ (P : (s : Sort) → Again s → Type 0) (at_labelled : (p : Bool) → P _ (labelled p)) (at_labelled_simple : (p : Bool) → P _ (labelled_simple p)) (at_more_elems : P _ more_elems) (at_places : P _ places) where
  pub each_again : {s : Sort} (a : Again s) → P s a
  each_again (labelled p) = at_labelled p
  each_again (labelled_simple p) = at_labelled_simple p
  each_again more_elems = at_more_elems
  each_again places = at_places

pub rule_predictive : {s : Sort} (r : Rule s) → predictive (rule r) ≡ true
unfolding rule again_rule octal int sint number_type size bits reference constant worded enclosed named primary prim mask union differ term sum cmp cand condition expr preset_value place further_places presets assigned preset range bounds group elem table elems_behind table_body data_table singles arrays item_data base overlay ptag worded_ips ips ips_list procedure_ps ps spec_behind spec citem typed_aitem unplaced_aitem aitem comm simple_behind unnamed simple stmt felem procedure_param param proc_behind worded_decl decl text
rule_predictive = each_rule (λ s r. predictive (rule r) ≡ true) refl refl refl refl refl refl (λ p. refl) (λ p. refl) (λ p. refl) refl refl refl

pub rule_carries_on : {s : Sort} (r : Rule s) → within (next (rule r)) (rule_next r) ≡ true
unfolding rule again_rule octal int sint number_type size bits reference constant worded enclosed named primary prim mask union differ term sum cmp cand condition expr preset_value place further_places presets assigned preset range bounds group elem table elems_behind table_body data_table singles arrays item_data base overlay ptag worded_ips ips ips_list procedure_ps ps spec_behind spec citem typed_aitem unplaced_aitem aitem comm simple_behind unnamed simple stmt felem procedure_param param proc_behind worded_decl decl text
rule_carries_on = each_rule (λ s r. within (next (rule r)) (rule_next r) ≡ true) refl refl refl refl refl refl (λ p. refl) (λ p. refl) (λ p. refl) refl refl refl

pub again_predictive : {s : Sort} (a : Again s) → predictive (again_rule a) ≡ true
unfolding rule again_rule octal int sint number_type size bits reference constant worded enclosed named primary prim mask union differ term sum cmp cand condition expr preset_value place further_places presets assigned preset range bounds group elem table elems_behind table_body data_table singles arrays item_data base overlay ptag worded_ips ips ips_list procedure_ps ps spec_behind spec citem typed_aitem unplaced_aitem aitem comm simple_behind unnamed simple stmt felem procedure_param param proc_behind worded_decl decl text
again_predictive = each_again (λ s a. predictive (again_rule a) ≡ true) (λ p. refl) (λ p. refl) refl refl

pub again_guarded : {s : Sort} (a : Again s) → guarded (again_rule a) ≡ true
unfolding rule again_rule octal int sint number_type size bits reference constant worded enclosed named primary prim mask union differ term sum cmp cand condition expr preset_value place further_places presets assigned preset range bounds group elem table elems_behind table_body data_table singles arrays item_data base overlay ptag worded_ips ips ips_list procedure_ps ps spec_behind spec citem typed_aitem unplaced_aitem aitem comm simple_behind unnamed simple stmt felem procedure_param param proc_behind worded_decl decl text
again_guarded = each_again (λ s a. guarded (again_rule a) ≡ true) (λ p. refl) (λ p. refl) refl refl

pub again_null : {s : Sort} (a : Again s) → null (again_rule a) ≡ true
unfolding rule again_rule octal int sint number_type size bits reference constant worded enclosed named primary prim mask union differ term sum cmp cand condition expr preset_value place further_places presets assigned preset range bounds group elem table elems_behind table_body data_table singles arrays item_data base overlay ptag worded_ips ips ips_list procedure_ps ps spec_behind spec citem typed_aitem unplaced_aitem aitem comm simple_behind unnamed simple stmt felem procedure_param param proc_behind worded_decl decl text
again_null = each_again (λ s a. null (again_rule a) ≡ true) (λ p. refl) (λ p. refl) refl refl

pub again_begins : {s : Sort} (a : Again s) → within (first (again_rule a)) (again_first a) ≡ true
unfolding rule again_rule octal int sint number_type size bits reference constant worded enclosed named primary prim mask union differ term sum cmp cand condition expr preset_value place further_places presets assigned preset range bounds group elem table elems_behind table_body data_table singles arrays item_data base overlay ptag worded_ips ips ips_list procedure_ps ps spec_behind spec citem typed_aitem unplaced_aitem aitem comm simple_behind unnamed simple stmt felem procedure_param param proc_behind worded_decl decl text
again_begins = each_again (λ s a. within (first (again_rule a)) (again_first a) ≡ true) (λ p. refl) (λ p. refl) refl refl

pub again_begun : {s : Sort} (a : Again s) → within (again_first a) (first (again_rule a)) ≡ true
unfolding rule again_rule octal int sint number_type size bits reference constant worded enclosed named primary prim mask union differ term sum cmp cand condition expr preset_value place further_places presets assigned preset range bounds group elem table elems_behind table_body data_table singles arrays item_data base overlay ptag worded_ips ips ips_list procedure_ps ps spec_behind spec citem typed_aitem unplaced_aitem aitem comm simple_behind unnamed simple stmt felem procedure_param param proc_behind worded_decl decl text
again_begun = each_again (λ s a. within (again_first a) (first (again_rule a)) ≡ true) (λ p. refl) (λ p. refl) refl refl

pub again_carries_on : {s : Sort} (a : Again s) → within (next (again_rule a)) (again_next a) ≡ true
unfolding rule again_rule octal int sint number_type size bits reference constant worded enclosed named primary prim mask union differ term sum cmp cand condition expr preset_value place further_places presets assigned preset range bounds group elem table elems_behind table_body data_table singles arrays item_data base overlay ptag worded_ips ips ips_list procedure_ps ps spec_behind spec citem typed_aitem unplaced_aitem aitem comm simple_behind unnamed simple stmt felem procedure_param param proc_behind worded_decl decl text
again_carries_on = each_again (λ s a. within (next (again_rule a)) (again_next a) ≡ true) (λ p. refl) (λ p. refl) refl refl

pub expr_predictive : predictive expr ≡ true
unfolding octal int sint number_type size bits reference constant worded enclosed named primary prim mask union differ term sum cmp cand condition expr
expr_predictive = refl

pub text_predictive : predictive text ≡ true
unfolding rule again_rule octal int sint number_type size bits reference constant worded enclosed named primary prim mask union differ term sum cmp cand condition expr preset_value place further_places presets assigned preset range bounds group elem table elems_behind table_body data_table singles arrays item_data base overlay ptag worded_ips ips ips_list procedure_ps ps spec_behind spec citem typed_aitem unplaced_aitem aitem comm simple_behind unnamed simple stmt felem procedure_param param proc_behind worded_decl decl text
text_predictive = refl
