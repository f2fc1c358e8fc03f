-- The trees of the texts.
use Rattle.std.proofs.Common.{◌≡◌, ℕ, Bool, true, false, List, [], ◌∷◌, Ok, Err, refl}
use Rattle.cw_lex.specs.Items.{word_of}
use Rattle.cw_lex.specs.Found.{piece}
use Rattle.cw_tree.specs.declared.segment.Raw.{Raw}
use Rattle.cw_grammar.specs.Tokens.{numbered}
use Rattle.cw_grammar.specs.Grammar.{a_raw}
use Rattle.cw_grammar.specs.Table.{rule, again_rule}
use Rattle.cw_grammar.specs.Rules.{octal, int, sint, number_type, size, bits, reference, constant, worded, enclosed, named, primary, prim, mask, union, differ, term, sum, cmp, cand, condition, expr}
use Rattle.cw_grammar.specs.Statements.{preset_value, place, further_places, presets, assigned, preset, range, bounds, group, elem, table, elems_behind, table_body, data_table, singles, arrays, item_data, base, overlay, ptag, worded_ips, ips, ips_list, procedure_ps, ps, spec_behind, spec, citem, typed_aitem, unplaced_aitem, aitem, comm, simple_behind, unnamed, simple, stmt, felem, procedure_param, param, proc_behind, worded_decl, decl, text}
use Rattle.cw_grammar.specs.Derives.{Derives}
use Rattle.cw_grammar.specs.Reading.{Read, reads, inside, turns}
use Rattle.cw_grammar.proofs.Whole.{derived_whole}
use Rattle.cw_big_units.proofs.Tokens.{tokens}

abbrev pub reading : Bool → List ℕ → Read Raw
reading is_last w = reads 64 text (numbered 1 (tokens is_last w))

abbrev pub is_whole : Read Raw → Bool
is_whole (Ok (x, [])) = true
is_whole (Ok (x, t ∷ ts)) = false
is_whole (Err f) = false

pub no_tree : false ≡ true → ⊥
no_tree e = cc

abbrev pub tree_in : (o : Read Raw) → is_whole o ≡ true → Raw
tree_in (Ok (x, [])) e = x
tree_in (Ok (x, t ∷ ts)) e = absurd (no_tree e)
tree_in (Err f) e = absurd (no_tree e)

tree_is : (o : Read Raw) (e : is_whole o ≡ true) → o ≡ Ok (tree_in o e, [])
tree_is (Ok (x, [])) e = refl
tree_is (Ok (x, t ∷ ts)) e = absurd (no_tree e)
tree_is (Err f) e = absurd (no_tree e)

pub all_read : (is_last : Bool) (w : List ℕ) → is_whole (reading is_last w) ≡ true
unfolding piece word_of inside turns rule again_rule octal int sint number_type size bits reference constant worded enclosed named primary prim mask union differ term sum cmp cand condition expr preset_value place further_places presets assigned preset range bounds group elem table elems_behind table_body data_table singles arrays item_data base overlay ptag worded_ips ips ips_list procedure_ps ps spec_behind spec citem typed_aitem unplaced_aitem aitem comm simple_behind unnamed simple stmt felem procedure_param param proc_behind worded_decl decl text
all_read true w = refl
all_read false w = refl

abbrev pub tree_of : Bool → List ℕ → Raw
tree_of is_last w = tree_in (reading is_last w) (all_read is_last w)

pub derived : (is_last : Bool) (w : List ℕ) → Derives 64 a_raw text (numbered 1 (tokens is_last w)) (tree_of is_last w)
derived is_last w = derived_whole 64 a_raw text (numbered 1 (tokens is_last w)) (tree_of is_last w) [] refl (tree_is (reading is_last w) (all_read is_last w))
