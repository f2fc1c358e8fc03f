-- The trees that are read are those written out.
use Rattle.std.proofs.Common.{◌≡◌, ℕ, Bool, true, false, List, refl}
use Rattle.cw_lex.specs.Items.{word_of}
use Rattle.cw_lex.specs.Found.{piece}
use Rattle.cw_grammar.specs.Table.{rule, again_rule}
use Rattle.cw_grammar.specs.Rules.{octal, int, sint, number_type, size, bits, reference, constant, worded, enclosed, named, primary, prim, mask, union, differ, term, sum, cmp, cand, condition, expr}
use Rattle.cw_grammar.specs.Statements.{preset_value, place, further_places, presets, assigned, preset, range, bounds, group, elem, table, elems_behind, table_body, data_table, singles, arrays, item_data, base, overlay, ptag, worded_ips, ips, ips_list, procedure_ps, ps, spec_behind, spec, citem, typed_aitem, unplaced_aitem, aitem, comm, simple_behind, unnamed, simple, stmt, felem, procedure_param, param, proc_behind, worded_decl, decl, text}
use Rattle.cw_grammar.specs.Reading.{inside, turns}
use Rattle.cw_big_units.proofs.Reading.{tree_of}
use Rattle.cw_big_units.proofs.TreeText.{tree_text}

pub written : (is_last : Bool) (w : List ℕ) → tree_of is_last w ≡ tree_text is_last w
unfolding piece word_of inside turns rule again_rule octal int sint number_type size bits reference constant worded enclosed named primary prim mask union differ term sum cmp cand condition expr preset_value place further_places presets assigned preset range bounds group elem table elems_behind table_body data_table singles arrays item_data base overlay ptag worded_ips ips ips_list procedure_ps ps spec_behind spec citem typed_aitem unplaced_aitem aitem comm simple_behind unnamed simple stmt felem procedure_param param proc_behind worded_decl decl text denote.Hole.Carrier.out denote.Hole.Carrier.roll denote.Hole.Carrier.shown denote.Hole.Carrier.hidden Rattle.cw_tree.specs.declared.expression.RawExpr.TheViews.out-RawExpr Rattle.cw_tree.specs.declared.expression.RawExpr.TheViews.roll-RawExpr Rattle.cw_tree.specs.declared.expression.RawExpr.TheViews.out-RawSum Rattle.cw_tree.specs.declared.expression.RawExpr.TheViews.roll-RawSum Rattle.cw_tree.specs.declared.expression.RawExpr.TheViews.out-RawTerm Rattle.cw_tree.specs.declared.expression.RawExpr.TheViews.roll-RawTerm Rattle.cw_tree.specs.declared.expression.RawExpr.TheViews.out-RawDiffer Rattle.cw_tree.specs.declared.expression.RawExpr.TheViews.roll-RawDiffer Rattle.cw_tree.specs.declared.expression.RawExpr.TheViews.out-RawUnion Rattle.cw_tree.specs.declared.expression.RawExpr.TheViews.roll-RawUnion Rattle.cw_tree.specs.declared.expression.RawExpr.TheViews.out-RawMask Rattle.cw_tree.specs.declared.expression.RawExpr.TheViews.roll-RawMask Rattle.cw_tree.specs.declared.expression.RawExpr.TheViews.out-RawPrimary Rattle.cw_tree.specs.declared.expression.RawExpr.TheViews.roll-RawPrimary Rattle.cw_tree.specs.declared.expression.RawExpr.TheBlock.shown-the_row-RawUnion-7 Rattle.cw_tree.specs.declared.expression.RawExpr.TheBlock.shown-the_row-RawPrim-8 Rattle.cw_tree.specs.declared.expression.RawExpr.TheBlock.shown-the_row-RawTerm-9 Rattle.cw_tree.specs.declared.expression.RawExpr.TheBlock.shown-the_row-RawDiffer-10 Rattle.cw_tree.specs.declared.expression.RawExpr.TheBlock.shown-the_row-RawMask-11
written true w = refl
written false w = refl
