-- The rules of names, expressions and conditions keep what is known.
use Rattle.std.proofs.Common.{◌≡◌, true, List, Option, Some, None, sym, subst}
use Rattle.cw_lex.specs.declared.token.Symbol.TheVariants as symbols
use Rattle.cw_lex.specs.declared.token.Word.TheVariants as words
use Rattle.cw_lex.specs.declared.token.TokenKind.TheVariants as kinds
use Rattle.cw_tree.specs.declared.leaf.Position.{Position}
use Rattle.cw_tree.specs.declared.leaf.RawName.{RawName}
use Rattle.cw_tree.specs.declared.leaf.RawNumber.{RawNumber}
use Rattle.cw_tree.specs.declared.leaf.RawOctal.{RawOctal}
use Rattle.cw_tree.specs.declared.leaf.RawType.{RawType}
use Rattle.cw_tree.specs.declared.expression.RawExpr.{RawExpr}
use Rattle.cw_tree.specs.declared.expression.RawExpr.TheVariants as expr_tree
use Rattle.cw_tree.specs.declared.expression.RawCond.{RawCond}
use Rattle.cw_tree.specs.declared.expression.RawRef.{RawRef}
use Rattle.cw_tree.specs.declared.expression.RawRef.TheVariants as ref_tree
use Rattle.cw_tree.specs.declared.expression.RawPrimary.TheVariants as primary_tree
use Rattle.cw_grammar.specs.Tokens.{Item, position, same, characters}
use Rattle.cw_grammar.specs.Grammar.{Either, left, right}
use Rattle.cw_grammar.specs.Rules.{commas, name, raw_literal, indexed_name, ref_behind, primary_behind, reference, constant, worded, enclosed, named, primary, prim, mask, union, differ, term, sum, cmp, cand, condition, expr}
use Rattle.cw_show.specs.Canonical.{comma}
use Rattle.cw_show.specs.ExpressionTokens.{expr_tokens, primary_tokens, ref_tokens, cond_tokens}
use Rattle.cw_show.specs.ItemTokens.{name_tokens}
use Rattle.cw_read_back.proofs.Expressions.Reading.{Each}
use Rattle.cw_read_back.proofs.Expressions.ExpressionLayers.{choice-tokens, number-tokens, octal-tokens, literal-tokens, string-tokens, location-tokens, forced-tokens, bracket-tokens, referred-tokens, call-tokens, named-tokens, one_index-tokens, two_indexes-tokens, bare-tokens}
use Rattle.cw_read_back.proofs.Texts.Spelled.{Spelled, the_word, the_symbol, the_number, ◌&◌, in_brackets, in_squares, list_between}
use Rattle.cw_read_back.proofs.Texts.Plain.{octal_spelled, type_spelled}
use Rattle.cw_read_back.proofs.Texts.Tokens.{IsProperItem, name_spelled, string_spelled, literal_spelled}
use Rattle.cw_read_back.proofs.Texts.Operands.{mask_made, union_made, differ_made, term_made, sum_made, expr_made, prim_made, cand_made, cond_made, cmp_made}
use Rattle.cw_tokens.proofs.Kept.{OfOption, OfEither}
use Rattle.cw_read_back.proofs.Texts.Good.{Keeps, given_good}

abbrev pub NameGood : RawName → Type 0
NameGood f = Spelled (name_tokens f)

abbrev pub ExprGood : RawExpr → Type 0
ExprGood x = Spelled (expr_tokens x)

-- ---- trees

pub name_good : (f : RawName) → NameGood f → Spelled (ref_tokens (ref_tree.Name f))
name_good f h = subst Spelled (sym (named-tokens f)) h

pub index_good : (f : RawName) (x : RawExpr) (o : Option RawExpr) → NameGood f → ExprGood x → OfOption ExprGood o → Spelled (ref_tokens (indexed_name f x o))
index_good f x None n h k = subst Spelled (sym (one_index-tokens f x)) (n & in_squares h)
index_good f x (Some y) n h k = subst Spelled (sym (two_indexes-tokens f x y)) (n & the_symbol symbols.OpenSquare & h & the_symbol symbols.Comma & k & the_symbol symbols.CloseSquare)

pub bare_good : (at : Position) (x : RawExpr) → ExprGood x → Spelled (ref_tokens (ref_tree.Bare at x))
bare_good at x h = subst Spelled (sym (bare-tokens at x)) (in_squares h)

ref_good : (f : RawName) (o : Option (Item × (RawExpr × Option RawExpr))) → NameGood f → OfOption (λ x. Unit {0} × (ExprGood x.1.0 × OfOption ExprGood x.1.1)) o → Spelled (ref_tokens (ref_behind f o))
ref_good f None n h = name_good f n
ref_good f (Some x) n h = index_good f x.1.0 x.1.1 n h.1.0 h.1.1

literal_good : (t : Item) → (same t.kind kinds.Literal ≡ true) × IsProperItem t → Spelled (primary_tokens (primary_tree.Literal (raw_literal t)))
literal_good t h = subst Spelled (sym (literal-tokens (raw_literal t))) (literal_spelled t h.1 h.0)

string_good : (t : Item) → (same t.kind kinds.Text ≡ true) × IsProperItem t → Spelled (primary_tokens (primary_tree.Text (position t) (characters t.kind t.text)))
string_good t h = subst Spelled (sym (string-tokens (position t) (characters t.kind t.text))) (string_spelled t h.1 h.0)

number_good : (x : RawNumber) → Spelled (primary_tokens (primary_tree.Number x))
number_good x = subst Spelled (sym (number-tokens x)) (the_number x.number)

octal_good : (x : RawOctal) → Spelled (primary_tokens (primary_tree.Octal x))
octal_good x = subst Spelled (sym (octal-tokens x)) (octal_spelled x)

location_good : (at : Position) (r : RawRef) → Spelled (ref_tokens r) → Spelled (primary_tokens (primary_tree.Location at r))
location_good at r h = subst Spelled (sym (location-tokens at r)) (the_word words.Location & in_brackets h)

forced_good : (t : RawType) (x : RawExpr) → ExprGood x → Spelled (primary_tokens (primary_tree.Forced t x))
forced_good t x h = subst Spelled (sym (forced-tokens t x)) (type_spelled t & in_brackets h)

bracket_good : (at : Position) (x : RawExpr) → ExprGood x → Spelled (primary_tokens (primary_tree.Bracket at x))
bracket_good at x h = subst Spelled (sym (bracket-tokens at x)) (in_brackets h)

referred_good : (r : RawRef) → Spelled (ref_tokens r) → Spelled (primary_tokens (primary_tree.Ref r))
referred_good r h = subst Spelled (sym (referred-tokens r)) h

call_good : (f : RawName) (xs : List RawExpr) → NameGood f → Each ExprGood xs → Spelled (primary_tokens (primary_tree.Call f xs))
call_good f xs n h = subst Spelled (sym (call-tokens f xs)) (n & in_brackets (list_between expr_tokens comma tt xs h))

primary_good : (f : RawName) (o : Option (Either (RawExpr × Option RawExpr) (List RawExpr))) → NameGood f → OfOption (OfEither (λ x. ExprGood x.0 × OfOption ExprGood x.1) (Each ExprGood)) o → Spelled (primary_tokens (primary_behind f o))
primary_good f None n h = referred_good (ref_tree.Name f) (name_good f n)
primary_good f (Some (left x)) n h = referred_good (indexed_name f x.0 x.1) (index_good f x.0 x.1 n h.0 h.1)
primary_good f (Some (right xs)) n h = call_good f xs n h

choice_good : (at : Position) (c : RawCond) (x y : RawExpr) → Spelled (cond_tokens c) → ExprGood x → ExprGood y → ExprGood (expr_tree.Choice at c x y)
choice_good at c x y h k l = subst Spelled (sym (choice-tokens at c x y)) (the_word words.If & h & the_word words.Then & k & the_word words.Else & l)

-- ---- rules

pub name_keeps : Keeps name
name_keeps = (tt, λ t h. name_spelled t h.1 h.0)

pub names_keep : Keeps (commas name)
names_keep = ((name_keeps, ((tt, name_keeps), λ x h. h.1)), λ x h. (h.0, h.1))

pub reference_keeps : Keeps reference
unfolding reference
reference_keeps = (((name_keeps, ((tt, λ x h. h), tt)), λ x h. ref_good x.0 x.1 h.0 h.1), (tt, λ x h. bare_good (position x.0) x.1 h.1))

constant_keeps : Keeps constant
unfolding constant
constant_keeps = ((tt, λ x h. number_good x), ((tt, λ x h. octal_good x), ((tt, λ t h. literal_good t h), (tt, λ t h. string_good t h))))

worded_keeps : Keeps worded
unfolding worded
worded_keeps = (((tt, tt), λ x h. location_good (position x.0) x.1.1 h.1.1), ((tt, tt), λ x h. forced_good x.0 x.1.1 h.1.1))

enclosed_keeps : Keeps enclosed
unfolding enclosed
enclosed_keeps = ((tt, λ x h. bracket_good (position x.0) x.1 h.1), (tt, λ x h. referred_good (ref_tree.Bare (position x.0) x.1) (bare_good (position x.0) x.1 h.1)))

named_keeps : Keeps named
unfolding named
named_keeps = ((name_keeps, ((tt, λ x h. h.1), ((tt, λ x h. h.1), tt))), λ x h. primary_good x.0 x.1 h.0 h.1)

primary_keeps : Keeps primary
unfolding primary
primary_keeps = (constant_keeps, (worded_keeps, (enclosed_keeps, named_keeps)))

prim_keeps : Keeps prim
unfolding prim
prim_keeps = ((tt, primary_keeps), λ x h. prim_made x.0 x.1 (given_good primary x.1 h.1))

sum_keeps : Keeps sum
unfolding mask union differ term sum
sum_keeps =
    let mask_keeps : Keeps mask = ((prim_keeps, (tt, prim_keeps)), λ x h. mask_made x.0 x.1 (given_good prim x.0 h.0) h.1) in
    let union_keeps : Keeps union = ((mask_keeps, (tt, mask_keeps)), λ x h. union_made x.0 x.1 (given_good mask x.0 h.0) h.1) in
    let differ_keeps : Keeps differ = ((union_keeps, (tt, union_keeps)), λ x h. differ_made x.0 x.1 (given_good union x.0 h.0) h.1) in
    let term_keeps : Keeps term = ((differ_keeps, (tt, differ_keeps)), λ x h. term_made x.0 x.1 (given_good differ x.0 h.0) h.1) in
    ((tt, (term_keeps, (tt, term_keeps))), λ x h. sum_made x.0 x.1.0 x.1.1 (given_good term x.1.0 h.1.0) h.1.1)

cmp_keeps : Keeps cmp
unfolding cmp
cmp_keeps = ((sum_keeps, (tt, sum_keeps)), λ x h. cmp_made x.0 x.1.0 x.1.1 (given_good sum x.0 h.0) (given_good sum x.1.1 h.1.1))

cand_keeps : Keeps cand
unfolding cand
cand_keeps = ((cmp_keeps, (tt, cmp_keeps)), λ x h. cand_made x.0 x.1 (given_good cmp x.0 h.0) h.1)

pub condition_keeps : Keeps condition
unfolding condition
condition_keeps = ((cand_keeps, (tt, cand_keeps)), λ x h. cond_made x.0 x.1 (given_good cand x.0 h.0) h.1)

pub expr_keeps : Keeps expr
unfolding expr
expr_keeps = ((tt, λ x h. choice_good (position x.0) x.1.0 x.1.1.0 x.1.1.1 h.1.0 h.1.1.0 h.1.1.1), (sum_keeps, λ x h. expr_made x (given_good sum x h)))
