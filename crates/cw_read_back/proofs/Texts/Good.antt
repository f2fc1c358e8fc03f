-- What is known of each value that a text of the grammar stands for, where each rule keeps it: of a tree that its names, strings and literals can be written
-- again. Where a sort has none of them nothing need be known.
use Rattle.std.proofs.Common.{◌≡◌, ℕ, Bool, true, false, ◌&&◌, List, [], ◌∷◌, ◌++◌, Option, Some, None, refl}
use Rattle.cw_grammar.specs.Tokens.{Item, same}
use Rattle.cw_grammar.specs.Grammar.{Sort, a_token, a_pair, a_list, an_option, an_either, a_position, a_name, a_number, an_octal, a_literal, an_int, a_sint, a_size, a_type, a_sign, a_factor_sign, a_compare_sign, a_bits, an_expr, a_cond, a_cand, a_cmp, a_sum, a_term, a_differ, a_union, a_mask, a_prim, a_primary, a_ref, a_range, a_bounds, a_group, an_elem, a_place, a_presets, a_table, a_data, a_base, a_stmt, a_form, a_simple, a_felem, a_block, a_decl, a_ptag, a_proc, a_param, an_ips, a_ps, a_spec, a_citem, an_aitem, a_comm, a_raw, a_from, Value, Rule, Again, Grammar, one, none, ◌·◌, ◌∣◌, many, ◌⇒◌, opens, again}
use Rattle.cw_grammar.specs.Table.{rule, again_rule}
use Rattle.cw_grammar.specs.Derives.{Derives, is_one, is_none, is_then, is_left, is_right, is_end, is_more, is_map, is_opens, is_again}
use Rattle.cw_show.specs.Canonical.{literal}
use Rattle.cw_show.specs.ExpressionTokens.{expr_tokens, primary_tokens, ref_tokens, cand_tokens, cmp_tokens, cond_tokens, differ_tokens, mask_tokens, prim_tokens, sum_tokens, term_tokens, union_tokens}
use Rattle.cw_show.specs.ItemTokens.{name_tokens, place_tokens, group_tokens, elem_tokens, data_tokens, base_tokens}
use Rattle.cw_show.specs.SegmentTokens.{spec_tokens, citem_tokens, aitem_tokens, comm_tokens}
use Rattle.cw_show.specs.StatementTokens.{param_tokens, felem_tokens, decl_tokens, form_tokens, simple_tokens, block_tokens, stmt_tokens, canonical_tokens}
use Rattle.cw_tree.specs.declared.items.RawElem.{RawElem}
use Rattle.cw_tree.specs.declared.items.RawTable.{RawTable}
use Rattle.cw_tokens.proofs.Kept.{OfOption, OfEither, Unless, option_known, either_known, first_kept, second_kept, left_kept, right_kept, item_kept, value_kept, map_kept, at_kept}
use Rattle.cw_read_back.proofs.Expressions.Reading.{Each}
use Rattle.cw_read_back.proofs.Texts.Spelled.{Spelled}
use Rattle.cw_read_back.proofs.Texts.Tokens.{IsProperItem}

-- a sort without names, strings and literals
abbrev pub plain : Sort → Bool
plain (a_pair s t) = plain s && plain t
plain (a_list s) = plain s
plain (an_option s) = plain s
plain (an_either s t) = plain s && plain t
plain (a_from s t) = plain t
plain a_token = true
plain a_position = true
plain a_number = true
plain an_octal = true
plain an_int = true
plain a_sint = true
plain a_size = true
plain a_type = true
plain a_sign = true
plain a_factor_sign = true
plain a_compare_sign = true
plain a_bits = true
plain a_range = true
plain a_bounds = true
plain a_ptag = true
plain a_proc = true
plain an_ips = true
plain a_ps = true
plain _ = false

abbrev pub ElemGood : RawElem → Type 0
ElemGood x = Spelled (elem_tokens x)

-- a table by its name and its elements, behind which more may stand
abbrev pub TableGood : RawTable → Type 0
TableGood x = Spelled (name_tokens x.name) × Each ElemGood x.elems

abbrev pub Good : (s : Sort) → Value s → Type 0
Good (a_pair s t) x = Good s x.0 × Good t x.1
Good (a_list s) xs = Each (λ y. Good s y) xs
Good (an_option s) o = OfOption (λ y. Good s y) o
Good (an_either s t) x = OfEither (λ y. Good s y) (λ y. Good t y) x
Good (a_from s t) f = (x : Value s) → Good s x → Good t (f x)
Good a_name x = Spelled (name_tokens x)
Good a_literal x = Spelled (literal x.byte ∷ [])
Good an_expr x = Spelled (expr_tokens x)
Good a_cond x = Spelled (cond_tokens x)
Good a_cand x = Spelled (cand_tokens x)
Good a_cmp x = Spelled (cmp_tokens x)
Good a_sum x = Spelled (sum_tokens x)
Good a_term x = Spelled (term_tokens x)
Good a_differ x = Spelled (differ_tokens x)
Good a_union x = Spelled (union_tokens x)
Good a_mask x = Spelled (mask_tokens x)
Good a_prim x = Spelled (prim_tokens x)
Good a_primary x = Spelled (primary_tokens x)
Good a_ref x = Spelled (ref_tokens x)
Good a_group x = Spelled (group_tokens x)
Good an_elem x = ElemGood x
Good a_place x = Spelled (place_tokens x)
Good a_presets x = Each (λ y. Spelled (place_tokens y)) x.places
Good a_table x = TableGood x
Good a_data x = Spelled (data_tokens x)
Good a_base x = Spelled (base_tokens x)
Good a_stmt x = Spelled (stmt_tokens x)
Good a_form x = Spelled (form_tokens x)
Good a_simple x = Spelled (simple_tokens x)
Good a_felem x = Spelled (felem_tokens x)
Good a_block x = Spelled (block_tokens x)
Good a_decl x = Spelled (decl_tokens x)
Good a_param x = Spelled (param_tokens x)
Good a_spec x = Spelled (spec_tokens x)
Good a_citem x = Spelled (citem_tokens x)
Good an_aitem x = Spelled (aitem_tokens x)
Good a_comm x = Spelled (comm_tokens x)
Good a_raw x = Spelled (canonical_tokens x)
Good _ x = Unit {0}

-- of a token, what its kind tells
abbrev pub Given : {s : Sort} → Grammar s → Value s → Type 0
Given (one k) t = (same t.kind k ≡ true) × IsProperItem t
Given (g · h) x = Given g x.0 × Given h x.1
Given {s = s} g x = Good s x

abbrev pub Kept : {s : Sort} → Grammar s → Type 0
Kept (one k) = Unit {0}
Kept (none {s = s} v) = Good s v
Kept (◌·◌ {s = s} {t = t} g h) = Unless (plain s) (Kept g) × Unless (plain t) (Kept h)
Kept (◌∣◌ {s = s} g h) = Unless (plain s) (Kept g) × Unless (plain s) (Kept h)
Kept (many {s = s} g) = Unless (plain s) (Kept g)
Kept (◌⇒◌ {s = s} {t = t} g f) = Unless (plain s) (Kept g) × ((x : Value s) → Given g x → Good t (f x))
Kept (opens k r) = Unit {0}
Kept (again a) = Unit {0}

abbrev pub Keeps : {s : Sort} → Grammar s → Type 0
Keeps {s = s} g = Unless (plain s) (Kept g)

-- ---- what is known of plain values

first_true : (a b : Bool) → (a && b) ≡ true → a ≡ true
first_true true b h = refl
first_true false b h = h

second_true : (a b : Bool) → (a && b) ≡ true → b ≡ true
second_true true b h = h
second_true false b h = absurd cc

each_known : {A : Type 0} (P : A → Type 0) → ((x : A) → P x) → (xs : List A) → Each P xs
each_known P h [] = tt
each_known P h (x ∷ xs) = (h x, each_known P h xs)

known : (s : Sort) → plain s ≡ true → (x : Value s) → Good s x
known (a_pair s t) h x = (known s (first_true (plain s) (plain t) h) x.0, known t (second_true (plain s) (plain t) h) x.1)
known (a_list s) h xs = each_known (λ y. Good s y) (λ y. known s h y) xs
known (an_option s) h o = option_known (λ y. Good s y) (λ y. known s h y) o
known (an_either s t) h x = either_known (λ y. Good s y) (λ y. Good t y) (λ y. known s (first_true (plain s) (plain t) h) y) (λ y. known t (second_true (plain s) (plain t) h) y) x
known (a_from s t) h f = λ x k. known t h (f x)
known a_token h x = tt
known a_position h x = tt
known a_number h x = tt
known an_octal h x = tt
known an_int h x = tt
known a_sint h x = tt
known a_size h x = tt
known a_type h x = tt
known a_sign h x = tt
known a_factor_sign h x = tt
known a_compare_sign h x = tt
known a_bits h x = tt
known a_range h x = tt
known a_bounds h x = tt
known a_ptag h x = tt
known a_proc h x = tt
known an_ips h x = tt
known a_ps h x = tt
known _ h x = absurd cc

pub given_good : {s : Sort} (g : Grammar s) (x : Value s) → Given g x → Good s x
given_good (one k) x h = tt
given_good (g · h) x k = (given_good g x.0 k.0, given_good h x.1 k.1)
given_good g x h = h

-- ---- what a rule keeps

first_items : (u v : List Item) → Each IsProperItem (u ++ v) → Each IsProperItem u
first_items [] v h = tt
first_items (t ∷ u) v h = (h.0, first_items u v h.1)

last_items : (u v : List Item) → Each IsProperItem (u ++ v) → Each IsProperItem v
last_items [] v h = h
last_items (t ∷ u) v h = last_items u v h.1

-- where each rule keeps it
module _ (rules : (s : Sort) (r : Rule s) → Keeps (rule r)) (agains : (s : Sort) (a : Again s) → Keeps (again_rule a)) where
  given : {n : ℕ} {s : Sort} {g : Grammar s} {u : List Item} {x : Value s} → Derives n s g u x → Each IsProperItem u → Keeps g → Given g x
  given (is_one e) b k = (e, b.0)
  given (is_none {s = s} {x = x}) b k = value_kept (plain s) (Good s x) (λ e. known s e x) k
  given (is_then {s = s} {t = t} {g = g} {h = h} {u = u} {v = v} d e) b k = (given d (first_items u v b) (first_kept (plain s) (plain t) (Kept g) (Kept h) k), given e (last_items u v b) (second_kept (plain s) (plain t) (Kept g) (Kept h) k))
  given (is_left {s = s} {g = g} {h = h} {x = x} d) b k = given_good g x (given d b (left_kept (plain s) (Kept g) (Kept h) k))
  given (is_right {s = s} {g = g} {h = h} {x = x} d) b k = given_good h x (given d b (right_kept (plain s) (Kept g) (Kept h) k))
  given is_end b k = tt
  given (is_more {s = s} {g = g} {u = u} {v = v} {x = x} d e) b k = (given_good g x (given d (first_items u v b) (item_kept (plain s) (Kept g) k)), given e (last_items u v b) k)
  given (is_map {s = s} {t = t} {f = f} {g = g} {x = x} d) b k =
      map_kept (plain s) (plain t) (Kept g) (Given g x) (Good t (f x)) (λ e. known t e (f x)) (λ i. given d b i)
      (at_kept (plain t) (Unless (plain s) (Kept g)) (Given g) (λ y. Good t (f y)) (Good t (f x)) x (λ i. i) k)
  given (is_opens {r = r} {x = x} e d) b k = (tt, given_good (rule r) x (given d b.1 (rules _ r)))
  given (is_again {a = a} {x = x} d) b k = given_good (again_rule a) x (given d b (agains _ a))

  pub good : {n : ℕ} {s : Sort} {g : Grammar s} {u : List Item} {x : Value s} → Derives n s g u x → Each IsProperItem u → Keeps g → Good s x
  good {g = g} {x = x} d b k = given_good g x (given d b k)
