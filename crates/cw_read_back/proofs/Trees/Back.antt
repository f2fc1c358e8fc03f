-- Each tree in normal form is read from its canonical tokens.
use Rattle.std.proofs.Common.{◌≡◌, ℕ, ◌+◌, Bool, true, false, List, [], ◌∷◌, map, refl, ap}
use Rattle.cw_lex.specs.declared.token.Word.TheVariants as words
use Rattle.cw_lex.specs.Lexical.{Lexeme}
use Rattle.cw_tree.specs.declared.statement.RawBlock.{RawBlock}
use Rattle.cw_tree.specs.declared.segment.RawComm.{RawComm}
use Rattle.cw_tree.specs.declared.segment.Raw.{Raw}
use Rattle.cw_grammar.specs.Tokens.{is_identifier, numbered}
use Rattle.cw_grammar.specs.Grammar.{Sort, Value, a_list, an_option, a_range, a_bounds, a_group, an_elem, a_place, a_presets, a_table, a_data, a_base, a_stmt, a_form, a_simple, a_felem, a_block, a_decl, a_ptag, a_param, an_ips, a_ps, a_spec, a_citem, an_aitem, a_comm, a_raw}
use Rattle.cw_grammar.specs.Statements.{range, group, base, ptag, ps, citem, aitem, comm, felem, param, text}
use Rattle.cw_derived.specs.NormalForm.{IsNormal, no_more, one_more, absent, present, void, number_place, octal_place, literal_place, is_presets, is_range, is_bounds, is_group, word_elem, part_elem, is_table, single_data, array_data, table_data, name_base, one_base, two_base, procedure_tag, recursive_tag, value_ips, location_ips, array_ips, table_ips, label_ips, switch_ips, plain_ps, procedure_ps, is_spec, data_citem, overlay_citem, label_citem, switch_citem, spec_citem, single_aitem, array_aitem, table_aitem, is_common, is_library, is_absolute, named, one_index, two_indexes, bare, no_statement, assignment, bits_assignment, jump_to, jump_through, called_alone, called_with, is_answer, inner_block, is_block, is_stmt, simple_form, if_form, else_form, for_form, one_felem, while_felem, step_felem, data_decl, overlay_decl, switch_decl, proc_decl, value_param, location_param, array_param, table_param, label_param, switch_param, procedure_param, is_raw}
use Rattle.cw_show.specs.Lexing.{spelling}
use Rattle.cw_show.specs.ItemTokens.{range_tokens, group_tokens, base_tokens}
use Rattle.cw_show.specs.SegmentTokens.{ps_tokens, citem_tokens, aitem_tokens, comm_tokens}
use Rattle.cw_show.specs.StatementTokens.{felem_tokens, param_tokens, canonical_tokens}
use Rattle.cw_read_back.specs.Expressions.ReadingBack.{spell}
use Rattle.cw_read_back.specs.Expressions.Unplaced.{nowhere}
use Rattle.cw_read_back.specs.Trees.UnplacedItems.{unplaced_range, unplaced_group, unplaced_base, unplaced_ptag, unplaced_ps, unplaced_citem, unplaced_aitem, unplaced_comm}
use Rattle.cw_read_back.specs.Trees.UnplacedStatements.{unplaced_felem, unplaced_param, unplaced}
use Rattle.cw_read_back.proofs.Expressions.Reading.{Reads, Back, Each, Held, word_is, ◌&◌, mapped, second}
use Rattle.cw_read_back.proofs.Expressions.Simple.{name_read}
use Rattle.cw_read_back.proofs.Expressions.Back.{Goal as LowerGoal, back as lower}
use Rattle.cw_read_back.proofs.Trees.Forms.{ap₃, ended_read}
use Rattle.cw_read_back.proofs.Trees.Data.{PlaceRead, PresetsRead, BoundsRead, Elem, TableRead, void_read, number_place_read, octal_place_read, literal_place_read, presets_read, range_read, bounds_read, group_read, word_elem_read, part_elem_read, table_read, data_table_read, name_base_read, one_base_read, two_base_read}
use Rattle.cw_read_back.proofs.Trees.Specifications.{DataRead, IpsRead, SpecRead, tag_tokens, single_data_read, array_data_read, table_data_read, procedure_tag_read, recursive_tag_read, value_ips_read, location_ips_read, table_ips_read, label_ips_read, switch_ips_read, array_ips_read, plain_ps_read, procedure_ps_read, spec_read, overlay_citem_read, label_citem_read, switch_citem_read, single_aitem_read, array_aitem_read, table_aitem_read, common_read, library_read, absolute_read}
use Rattle.cw_read_back.proofs.Trees.Statements.{SimpleRead, BlockRead, FormRead, Decl, Stmt, empty_read, name_assigned, one_assigned, two_assigned, bare_assigned, bits_assigned, goto_read, goto_switch_read, call_alone_read, call_with_read, answer_read, block_read, inner_block_read, stmt_read, simple_form_read, if_read, else_read, for_read, one_felem_read, while_felem_read, step_felem_read, value_param_read, location_param_read, array_param_read, table_param_read, label_param_read, switch_param_read, procedure_param_read, data_decl_read, overlay_decl_read, switch_decl_read, proc_read}

-- ---- texts

abbrev RawRead : ℕ → Raw → Type 0
RawRead n x = Reads n a_raw text (canonical_tokens x) (λ d. unplaced d ≡ unplaced x)

abbrev raw_with : List ℕ → List RawComm → RawBlock → Raw
raw_with f cs x = record { name = f; comms = cs; block = x; tokens = 0 }

text_read : {n : ℕ} (cs : List RawComm) (f : List ℕ) (x : RawBlock) (k : ℕ) → Each (Back n a_comm comm comm_tokens unplaced_comm) cs → is_identifier f ≡ true → BlockRead n false x → RawRead n (record { name = f; comms = cs; block = x; tokens = k })
unfolding text
text_read cs f x k h e b =
    mapped (ended_read comm_tokens unplaced_comm cs h & second (word_is words.Segment refl) (name_read (record { at = nowhere; name = f }) e) & b & word_is words.Finish refl)
    (λ z p. ap₃ raw_with (ap (λ v. v.name) p.1.0) p.0 p.1.1.0)

-- ---- every sort

-- how a tree of each sort is read
abbrev pub Goal : ℕ → Bool → (s : Sort) → Value s → Type 0
Goal n p (a_list s) xs = Each (Goal n p s) xs
Goal n p (an_option s) o = Held (Goal n p s) o
Goal n p a_place x = PlaceRead n x
Goal n p a_presets x = PresetsRead n x
Goal n p a_range x = Back n a_range range range_tokens unplaced_range x
Goal n p a_bounds x = BoundsRead n x
Goal n p a_group x = Back n a_group group group_tokens unplaced_group x
Goal n p an_elem x = Elem n x
Goal n p a_table x = TableRead n x
Goal n p a_data x = DataRead n x
Goal n p a_base x = Back n a_base base base_tokens unplaced_base x
Goal n p a_ptag x = Back n a_ptag ptag tag_tokens unplaced_ptag x
Goal n p an_ips x = IpsRead n x
Goal n p a_ps x = Back n a_ps ps ps_tokens unplaced_ps x
Goal n p a_spec x = SpecRead n x
Goal n p a_citem x = Back n a_citem citem citem_tokens unplaced_citem x
Goal n p an_aitem x = Back n an_aitem aitem aitem_tokens unplaced_aitem x
Goal n p a_comm x = Back n a_comm comm comm_tokens unplaced_comm x
Goal n p a_simple x = SimpleRead n p x
Goal n p a_block x = BlockRead n p x
Goal n p a_stmt x = Stmt n p x
Goal n p a_form x = FormRead n p x
Goal n p a_felem x = Back n a_felem felem felem_tokens unplaced_felem x
Goal n p a_decl x = Decl n p x
Goal n p a_param x = Back n a_param param param_tokens unplaced_param x
Goal n p a_raw x = RawRead n x
Goal n p s x = LowerGoal n s x

pub back : {n : ℕ} {p : Bool} {s : Sort} {x : Value s} {a : List ℕ} → IsNormal n p s x a → Goal n p s x
back no_more = tt
back (one_more h hs) = (back h, back hs)
back absent = tt
back (present h) = back h
back (void at) = void_read at
back (number_place {o = o} {x = x} h k) = number_place_read o x (back h) (back k)
back (octal_place {o = o} {x = x} h k) = octal_place_read o x (back h) (back k)
back (literal_place {o = o} {x = x} h k) = literal_place_read o x (back h)
back (is_presets at {x = x} {xs = xs} h) = presets_read at x xs (back h)
back (is_range {x = x} {y = y} h k) = range_read x y (back h) (back k)
back (is_bounds {x = x} {o = o} h k) = bounds_read x o (back h) (back k)
back (is_group {x = x} {xs = xs} {y = y} h k) = group_read x xs y (back h) (back k)
back (word_elem {f = f} {t = t} {x = x} h k l) = word_elem_read f t x (back h) (back k) (back l)
back (part_elem {f = f} u {t = t} {w = w} {i = i} {s = s} h k l m o) = part_elem_read f u t w i s (back h) (back k) (back l) (back m) (back o)
back (is_table at {f = f} {z = z} {xs = xs} h k l) = table_read at f z xs (back h) (back k) (back l)
back (single_data {t = t} {x = x} {xs = xs} {o = o} h k l) = single_data_read t x xs o (back h) (back k) (back l)
back (array_data {t = t} {x = x} {xs = xs} {o = o} h k l) = array_data_read t x xs o (back h) (back k) (back l)
back (table_data {i = i} {o = o} (is_table at {f = f} {z = z} {xs = xs} h k l) m q) = table_data_read _ (data_table_read at f z xs i o (back h) (back k) (back l) (back m) (back q))
back (name_base {f = f} h) = name_base_read f (back h)
back (one_base {f = f} {x = x} h k) = one_base_read f x (back h) (back k)
back (two_base {f = f} {x = x} {y = y} h k l) = two_base_read f x y (back h) (back k) (back l)
back (procedure_tag at) = procedure_tag_read at
back (recursive_tag at) = recursive_tag_read at
back (value_ips at {t = t} h) = value_ips_read at t (back h)
back (location_ips at {t = t} h) = location_ips_read at t (back h)
back (array_ips {t = t} h) = array_ips_read t (back h)
back (table_ips at {z = z} h) = table_ips_read at z (back h)
back (label_ips at) = label_ips_read at
back (switch_ips at) = switch_ips_read at
back (plain_ps {x = x} h) = plain_ps_read x (back h)
back (procedure_ps {o = o} at {xs = xs} h k) = procedure_ps_read o at xs (back h) (back k)
back (is_spec {o = o} {t = t} {f = f} {xs = xs} h k l m) = spec_read o t f xs (back h) (back k) (back l) (back m)
back (data_citem h) = (back h).in_common
back (overlay_citem at {x = x} {y = y} h k) = overlay_citem_read at x y (back h) (back k)
back (label_citem at {x = x} {xs = xs} h) = label_citem_read at x xs (back h)
back (switch_citem at {x = x} {xs = xs} h) = switch_citem_read at x xs (back h)
back (spec_citem h) = (back h).1
back (single_aitem {t = t} {f = f} {x = x} h k l) = single_aitem_read t f x (back h) (back k) (back l)
back (array_aitem {t = t} {f = f} {y = y} {x = x} h k l m) = array_aitem_read t f y x (back h) (back k) (back l) (back m)
back (table_aitem {t = t} {x = x} h k) = table_aitem_read t x (back h) (back k)
back (is_common at {x = x} {xs = xs} h) = common_read at x xs (back h)
back (is_library at {x = x} {xs = xs} h) = library_read at x xs (back h)
back (is_absolute at {x = x} {xs = xs} h) = absolute_read at x xs (back h)
back no_statement = empty_read
back (assignment {x = x} (named {f = f} h) k) = name_assigned f x (back h) (back k)
back (assignment {x = x} (one_index {f = f} {x = i} h l) k) = one_assigned f i x (back h) (back l) (back k)
back (assignment {x = x} (two_indexes {f = f} {x = i} {y = j} h l m) k) = two_assigned f i j x (back h) (back l) (back m) (back k)
back (assignment {x = x} (bare at {x = i} l) k) = bare_assigned at i x (back l) (back k)
back (bits_assignment {z = z} {r = r} {x = x} h k l) = bits_assigned z r x (back h) (back k) (back l)
back (jump_to at {f = f} h) = goto_read at f (back h)
back (jump_through at {f = f} {x = x} h k) = goto_switch_read at f x (back h) (back k)
back (called_alone {f = f} h) = call_alone_read f (back h)
back (called_with {f = f} {x = x} {xs = xs} h k) = call_with_read f x xs (back h) (back k)
back (is_answer at {x = x} h) = answer_read at x (back h)
back (inner_block {x = x} h) = inner_block_read x (back h)
back (is_block at {ds = ds} {x = x} {xs = xs} h k) = block_read at ds x xs (back h) (back k)
back (is_stmt {ls = ls} {x = x} h k) = stmt_read ls x (back h) (back k)
back (simple_form {x = x} h) = simple_form_read x (back h)
back (if_form at {t = t} {ls = ls} {x = x} h k l) = if_read at t ls x (back h) (back k) (back l)
back (else_form at {t = t} {ls = ls} {x = x} {y = y} h k l m) = else_read at t ls x y (back h) (back k) (back l) (back m)
back (for_form at {r = r} {x = x} {xs = xs} {y = y} h k l) = for_read at r x xs y (back h) (back k) (back l)
back (one_felem {x = x} h) = one_felem_read x (back h)
back (while_felem {x = x} {t = t} h k) = while_felem_read x t (back h) (back k)
back (step_felem {x = x} {y = y} {z = z} h k l) = step_felem_read x y z (back h) (back k) (back l)
back {p = p} (data_decl {x = x} h) = data_decl_read p x (back h)
back {p = p} (overlay_decl at {x = x} {y = y} h k) = overlay_decl_read p at x y (back h) (back k)
back {p = p} (switch_decl at {f = f} {x = x} {xs = xs} h k) = switch_decl_read p at f x xs (back h) (back k)
back (proc_decl {o = o} {t = t} {f = f} {xs = xs} {x = x} h k l m q) = proc_read o t f xs x (back h) (back k) (back l) (back m) (back q)
back (value_param at {t = t} {x = x} {xs = xs} h k) = value_param_read at t x xs (back h) (back k)
back (location_param at {t = t} {x = x} {xs = xs} h k) = location_param_read at t x xs (back h) (back k)
back (array_param {t = t} {x = x} {xs = xs} h k) = array_param_read t x xs (back h) (back k)
back (table_param {t = t} h) = table_param_read t (back h)
back (label_param at {x = x} {xs = xs} h) = label_param_read at x xs (back h)
back (switch_param at {x = x} {xs = xs} h) = switch_param_read at x xs (back h)
back (procedure_param {o = o} at {f = f} {xs = xs} h k l) = procedure_param_read o at f xs (back h) (back k) (back l)
back (is_raw {cs = cs} f {x = x} k h e l) = text_read cs f x k (back h) e (back l)
back h = lower h

-- the spellings of numbered tokens
pub numbered_spelled : (ts : List Lexeme) (k : ℕ) → map spell (numbered k ts) ≡ map spelling ts
numbered_spelled [] k = refl
numbered_spelled (t ∷ ts) k = ap (λ u. spelling t ∷ u) (numbered_spelled ts (k + 1))
