-- Each tree of the sorts of expressions that is in normal form is read from its canonical tokens.
use Rattle.std.proofs.Common.{◌≡◌, ℕ, Bool, List, map}
use Rattle.cw_grammar.specs.Tokens.{Item}
use Rattle.cw_grammar.specs.Grammar.{Sort, Value, Grammar, a_pair, a_list, an_option, a_name, a_number, an_octal, an_int, a_sint, a_size, a_type, a_sign, a_factor_sign, a_compare_sign, a_bits, an_expr, a_cond, a_cand, a_cmp, a_sum, a_term, a_differ, a_union, a_mask, a_prim, a_primary, a_ref}
use Rattle.cw_grammar.specs.Derives.{Derives}
use Rattle.cw_grammar.specs.Rules.{name, number, octal, int, sign, sint, number_type, size, bits, factor_sign, comparator, primary, prim, mask, union, differ, term, sum, cmp, cand, condition, expr}
use Rattle.cw_derived.specs.NormalForm.{IsNormal, no_more, one_more, absent, present, both, is_name, is_number, is_octal, int_number, int_octal, is_sign, is_factor_sign, is_compare_sign, is_sint, is_size, integer, fixed, is_bits, number as number_form, octal as octal_form, literal as literal_form, string, location, forced, bracket, referred, call, named, one_index, two_indexes, bare, is_prim, is_mask, is_union, is_differ, is_term, plain_sum, signed_sum, is_cmp, is_cand, is_cond, sum_expr, choice}
use Rattle.cw_show.specs.Canonical.{Tokens, octal_tokens, int_tokens, sint_tokens, size_tokens, type_tokens}
use Rattle.cw_show.specs.ItemTokens.{name_tokens}
use Rattle.cw_show.specs.ExpressionTokens.{bits_tokens, expr_tokens, primary_tokens, cand_tokens, cmp_tokens, cond_tokens, differ_tokens, mask_tokens, prim_tokens, sum_tokens, term_tokens, union_tokens}
use Rattle.cw_read_back.specs.Expressions.ReadingBack.{spell}
use Rattle.cw_read_back.specs.Expressions.Unplaced.{unplaced_name, unplaced_number, unplaced_octal, unplaced_int, unplaced_sign, unplaced_sint, unplaced_size, unplaced_type, unplaced_factor, unplaced_compare, unplaced_bits, unplaced_expr, unplaced_primary, unplaced_cand, unplaced_cmp, unplaced_cond, unplaced_differ, unplaced_mask, unplaced_prim, unplaced_sum, unplaced_term, unplaced_union}
use Rattle.cw_read_back.proofs.Expressions.Reading.{Back, Each, Held}
use Rattle.cw_read_back.proofs.Expressions.Simple.{number_tokens, plain_sign, plain_factor, plain_compare, name_read, number_read, octal_read, int_number_read, int_octal_read, sign_read, factor_read, compare_read, sint_read, size_read, integer_read, fixed_read, bits_read}
use Rattle.cw_read_back.proofs.Expressions.Expressions.{RefRead, named_read, one_index_read, two_indexes_read, bare_read, number_primary, octal_primary, literal_primary, string_primary, location_primary, forced_primary, bracket_primary_read, referred_primary, call_primary, prim_read, mask_read, union_read, differ_read, term_read, plain_sum_read, signed_sum_read, cmp_read, cand_read, cond_read, sum_expr_read, choice_read}

-- how a tree of each sort is read
abbrev pub Goal : ℕ → (s : Sort) → Value s → Type 0
Goal n (a_pair s t) x = Goal n s x.0 × Goal n t x.1
Goal n (a_list s) xs = Each (Goal n s) xs
Goal n (an_option s) o = Held (Goal n s) o
Goal n a_name x = Back n a_name name name_tokens unplaced_name x
Goal n a_number x = Back n a_number number number_tokens unplaced_number x
Goal n an_octal x = Back n an_octal octal octal_tokens unplaced_octal x
Goal n an_int x = Back n an_int int int_tokens unplaced_int x
Goal n a_sint x = Back n a_sint sint sint_tokens unplaced_sint x
Goal n a_size x = Back n a_size size size_tokens unplaced_size x
Goal n a_type x = Back n a_type number_type type_tokens unplaced_type x
Goal n a_sign x = Back n a_sign sign plain_sign unplaced_sign x
Goal n a_factor_sign x = Back n a_factor_sign factor_sign plain_factor unplaced_factor x
Goal n a_compare_sign x = Back n a_compare_sign comparator plain_compare unplaced_compare x
Goal n a_bits x = Back n a_bits bits bits_tokens unplaced_bits x
Goal n an_expr x = Back n an_expr expr expr_tokens unplaced_expr x
Goal n a_cond x = Back n a_cond condition cond_tokens unplaced_cond x
Goal n a_cand x = Back n a_cand cand cand_tokens unplaced_cand x
Goal n a_cmp x = Back n a_cmp cmp cmp_tokens unplaced_cmp x
Goal n a_sum x = Back n a_sum sum sum_tokens unplaced_sum x
Goal n a_term x = Back n a_term term term_tokens unplaced_term x
Goal n a_differ x = Back n a_differ differ differ_tokens unplaced_differ x
Goal n a_union x = Back n a_union union union_tokens unplaced_union x
Goal n a_mask x = Back n a_mask mask mask_tokens unplaced_mask x
Goal n a_prim x = Back n a_prim prim prim_tokens unplaced_prim x
Goal n a_primary x = Back n a_primary primary primary_tokens unplaced_primary x
Goal n a_ref x = RefRead n x
Goal n _ x = Unit {0}

pub back : {n : ℕ} {p : Bool} {s : Sort} {x : Value s} {a : List ℕ} → IsNormal n p s x a → Goal n s x
back no_more = tt
back (one_more h hs) = (back h, back hs)
back absent = tt
back (present h) = back h
back (both h k) = (back h, back k)
back (is_name x h) = name_read x h
back (is_number x h) = number_read x h
back (is_octal at {x = x} h) = octal_read at x (back h)
back (int_number {x = x} h) = int_number_read x (back h)
back (int_octal {x = x} h) = int_octal_read x (back h)
back (is_sign x) = sign_read x
back (is_factor_sign x) = factor_read x
back (is_compare_sign x) = compare_read x
back (is_sint {o = o} {x = x} h k) = sint_read o x (back h) (back k)
back (is_size {x = x} {y = y} h k) = size_read x y (back h) (back k)
back (integer at) = integer_read at
back (fixed at {t = t} {f = f} h k) = fixed_read at t f (back h) (back k)
back (is_bits at {z = z} h) = bits_read at z (back h)
back (number_form {x = x} h) = number_primary x (back h)
back (octal_form {x = x} h) = octal_primary x (back h)
back (literal_form {x = x} h) = literal_primary x
back (string at cs) = string_primary at cs
back (location at {x = x} h) = location_primary at x (back h).0
back (forced {t = t} {x = x} h k) = forced_primary t x (back h) (back k)
back (bracket at {x = x} h) = bracket_primary_read at x (back h)
back (referred {x = x} h) = referred_primary x (back h)
back (call {f = f} {x = x} {xs = xs} h hs) = call_primary f x xs (back h) (back hs)
back (named {f = f} h) = named_read f (back h)
back (one_index {f = f} {x = x} h k) = one_index_read f x (back h) (back k)
back (two_indexes {f = f} {x = x} {y = y} h k l) = two_indexes_read f x y (back h) (back k) (back l)
back (bare at {x = x} h) = bare_read at x (back h)
back (is_prim {bits = bs} {x = x} h k l) = prim_read bs x (back h) (back k) l
back (is_mask {x = x} {rest = rest} h b k) = mask_read x rest (back h) b (back k)
back (is_union {x = x} {rest = rest} h b k) = union_read x rest (back h) b (back k)
back (is_differ {x = x} {rest = rest} h b k) = differ_read x rest (back h) b (back k)
back (is_term {x = x} {rest = rest} h b k) = term_read x rest (back h) b (back k)
back (plain_sum {x = x} {rest = rest} h b k) = plain_sum_read x rest (back h) b (back k)
back (signed_sum {sign = s} {x = x} {rest = rest} g h k) = signed_sum_read s x rest (back g) (back h) (back k)
back (is_cmp {x = x} {y = y} {op = op} h c k) = cmp_read x y op (back h) (back c) (back k)
back (is_cand {x = x} {rest = rest} h k) = cand_read x rest (back h) (back k)
back (is_cond {x = x} {rest = rest} h k) = cond_read x rest (back h) (back k)
back (sum_expr {x = x} h b) = sum_expr_read x (back h) b
back (choice at {c = c} {x = x} {y = y} h k l) = choice_read at c x y (back h) (back k) (back l)
back _ = tt

-- what a reading says without its spellings
pub said : {n : ℕ} {s : Sort} {g : Grammar s} (tokens : Value s → Tokens) (plain : Value s → Value s) (x : Value s) → Back n s g tokens plain x → (ts : List Item) → map spell ts ≡ tokens x → (d : Value s) × Derives n s g ts d × (plain d ≡ plain x)
said tokens plain x h ts e = let r = h.read ts e in (r.value, r.derives, r.holds)
