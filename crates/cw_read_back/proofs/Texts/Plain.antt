-- Tokens among which are no names, strings and literals: numbers, types, signs and bounds.
use Rattle.std.proofs.Common.{Bool, true, false, List, [], ◌∷◌, map, Option, Some, None}
use Rattle.cw_lex.specs.declared.token.Symbol.TheVariants as symbols
use Rattle.cw_lex.specs.declared.token.Word.TheVariants as words
use Rattle.cw_tree.specs.declared.leaf.RawOctal.{RawOctal}
use Rattle.cw_tree.specs.declared.leaf.RawInt.{RawInt}
use Rattle.cw_tree.specs.declared.leaf.RawInt.TheVariants as int_tree
use Rattle.cw_tree.specs.declared.leaf.RawSint.{RawSint}
use Rattle.cw_tree.specs.declared.leaf.RawSize.{RawSize}
use Rattle.cw_tree.specs.declared.leaf.RawType.{RawType}
use Rattle.cw_tree.specs.declared.leaf.RawType.TheVariants as type_tree
use Rattle.cw_tree.specs.declared.leaf.AddOp.{AddOp}
use Rattle.cw_tree.specs.declared.leaf.AddOp.TheVariants as adds
use Rattle.cw_tree.specs.declared.leaf.MulOp.{MulOp}
use Rattle.cw_tree.specs.declared.leaf.MulOp.TheVariants as muls
use Rattle.cw_tree.specs.declared.leaf.CompareOp.{CompareOp}
use Rattle.cw_tree.specs.declared.leaf.CompareOp.TheVariants as compares
use Rattle.cw_tree.specs.declared.leaf.RawSign.{RawSign}
use Rattle.cw_tree.specs.declared.expression.RawBits.{RawBits}
use Rattle.cw_tree.specs.declared.items.RawRange.{RawRange}
use Rattle.cw_tree.specs.declared.items.RawBounds.{RawBounds}
use Rattle.cw_tree.specs.declared.statement.RawPtag.{RawPtag}
use Rattle.cw_tree.specs.declared.statement.RawPtag.TheVariants as ptag_tree
use Rattle.cw_tree.specs.declared.segment.RawIps.{RawIps}
use Rattle.cw_tree.specs.declared.segment.RawIps.TheVariants as ips_tree
use Rattle.cw_tree.specs.declared.segment.RawPs.{RawPs}
use Rattle.cw_tree.specs.declared.segment.RawPs.TheVariants as ps_tree
use Rattle.cw_show.specs.Canonical.{add_symbol, multiply_symbol, compare_symbol, octal_tokens, int_tokens, sign_tokens, sint_tokens, size_tokens, type_tokens, comma, listed}
use Rattle.cw_show.specs.ExpressionTokens.{bits_tokens}
use Rattle.cw_show.specs.ItemTokens.{range_tokens, second_range_tokens, bounds_tokens, unsigned_tokens, shape_tokens, two_ints}
use Rattle.cw_show.specs.SegmentTokens.{answer_tokens, tag, ips_tokens, ps_tokens, address_tokens}
use Rattle.cw_read_back.proofs.Expressions.Reading.{Each}
use Rattle.cw_read_back.proofs.Texts.Spelled.{Spelled, IsRight, nothing, alone, the_word, the_symbol, the_number, ◌&◌, list_in_brackets}

pub add_right : (op : AddOp) → IsRight (add_symbol op)
add_right adds.Plus = tt
add_right adds.Minus = tt

pub multiply_right : (op : MulOp) → IsRight (multiply_symbol op)
multiply_right muls.Times = tt
multiply_right muls.Divide = tt

pub compare_right : (op : CompareOp) → IsRight (compare_symbol op)
compare_right compares.Less = tt
compare_right _ = tt

pub sign_spelled : (o : Option RawSign) → Spelled (sign_tokens o)
sign_spelled None = nothing
sign_spelled (Some s) = alone (add_symbol s.op) (add_right s.op)

pub octal_spelled : (x : RawOctal) → Spelled (octal_tokens x)
octal_spelled x = record { each = (tt, (tt, (tt, (tt, tt)))) }

pub int_spelled : (x : RawInt) → Spelled (int_tokens x)
int_spelled (int_tree.Number n) = the_number n.number
int_spelled (int_tree.Octal o) = octal_spelled o

pub sint_spelled : (x : RawSint) → Spelled (sint_tokens x)
sint_spelled x = sign_spelled x.sign & int_spelled x.value

pub size_spelled : (x : RawSize) → Spelled (size_tokens x)
size_spelled x = the_symbol symbols.OpenSquare & int_spelled x.first & the_symbol symbols.Comma & int_spelled x.second & the_symbol symbols.CloseSquare

pub type_spelled : (x : RawType) → Spelled (type_tokens x)
type_spelled (type_tree.Integer at) = the_word words.Integer
type_spelled (type_tree.Fixed at t f) = the_word words.Fixed & the_symbol symbols.Open & int_spelled t & the_symbol symbols.Comma & sint_spelled f & the_symbol symbols.Close

pub one_bits_spelled : (x : RawBits) → Spelled (bits_tokens x)
one_bits_spelled x = the_word words.Bits & size_spelled x.size

pub bits_spelled : (xs : List RawBits) → Each (λ x. Spelled (bits_tokens x)) xs
bits_spelled [] = tt
bits_spelled (x ∷ xs) = (one_bits_spelled x, bits_spelled xs)

range_spelled : (x : RawRange) → Spelled (range_tokens x)
range_spelled x = sint_spelled x.lower & the_symbol symbols.Colon & sint_spelled x.upper

second_spelled : (o : Option RawRange) → Spelled (second_range_tokens o)
second_spelled None = nothing
second_spelled (Some x) = the_symbol symbols.Comma & range_spelled x

pub bounds_spelled : (x : RawBounds) → Spelled (bounds_tokens x)
bounds_spelled x = the_symbol symbols.OpenSquare & range_spelled x.first & second_spelled x.second & the_symbol symbols.CloseSquare

unsigned_spelled : (u : Bool) → Spelled (unsigned_tokens u)
unsigned_spelled true = the_word words.Unsigned
unsigned_spelled false = nothing

pub shape_spelled : (u : Bool) (t : RawInt) (f : RawSint) → Spelled (shape_tokens u t f)
shape_spelled u t f = unsigned_spelled u & the_symbol symbols.Open & int_spelled t & the_symbol symbols.Comma & sint_spelled f & the_symbol symbols.Close

pub two_ints_spelled : (w b : RawInt) → Spelled (two_ints w b)
two_ints_spelled w b = int_spelled w & the_symbol symbols.Comma & int_spelled b

pub address_spelled : (x : RawInt) → Spelled (address_tokens x)
address_spelled x = the_symbol symbols.Divide & int_spelled x

-- ---- specifications

pub answer_spelled : (o : Option RawType) → Spelled (answer_tokens o)
answer_spelled None = nothing
answer_spelled (Some t) = type_spelled t

tag_right : (x : RawPtag) → IsRight (tag x)
tag_right (ptag_tree.Procedure at) = tt
tag_right (ptag_tree.Recursive at) = tt

pub tag_spelled : (x : RawPtag) → Spelled (tag x ∷ [])
tag_spelled x = alone (tag x) (tag_right x)

ips_spelled : (x : RawIps) → Spelled (ips_tokens x)
ips_spelled (ips_tree.Value at t) = the_word words.Value & type_spelled t
ips_spelled (ips_tree.Location at t) = the_word words.Location & type_spelled t
ips_spelled (ips_tree.Array t) = type_spelled t & the_word words.Array
ips_spelled (ips_tree.Table at s) = the_word words.Table & size_spelled s
ips_spelled (ips_tree.Label at) = the_word words.Label
ips_spelled (ips_tree.Switch at) = the_word words.Switch

each_ips : (xs : List RawIps) → Each (λ x. Spelled (ips_tokens x)) xs
each_ips [] = tt
each_ips (x ∷ xs) = (ips_spelled x, each_ips xs)

pub ips_listed : (xs : List RawIps) → Spelled (listed comma (map ips_tokens xs))
ips_listed xs = list_in_brackets ips_tokens comma tt xs (each_ips xs)

ps_spelled : (x : RawPs) → Spelled (ps_tokens x)
ps_spelled (ps_tree.Plain i) = ips_spelled i
ps_spelled (ps_tree.Proc o at is) = answer_spelled o & the_word words.Procedure & ips_listed is

each_ps : (xs : List RawPs) → Each (λ x. Spelled (ps_tokens x)) xs
each_ps [] = tt
each_ps (x ∷ xs) = (ps_spelled x, each_ps xs)

pub ps_listed : (xs : List RawPs) → Spelled (listed comma (map ps_tokens xs))
ps_listed xs = list_in_brackets ps_tokens comma tt xs (each_ps xs)
