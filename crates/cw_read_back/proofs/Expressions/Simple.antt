-- Names, numbers, types and operators are read as they are spelled.
use Rattle.std.proofs.Common.{◌≡◌, ℕ, true, List, [], ◌∷◌, Option, refl, ap, ap₂, ◌∙◌}
use Rattle.cw_lex.specs.declared.token.TokenKind.TheVariants as kinds
use Rattle.cw_lex.specs.declared.token.Symbol.TheVariants as symbols
use Rattle.cw_lex.specs.declared.token.Word.TheVariants as words
use Rattle.cw_word.specs.Number.{Number, IsNumber}
use Rattle.cw_tree.specs.declared.leaf.Position.{Position}
use Rattle.cw_tree.specs.declared.leaf.RawName.{RawName}
use Rattle.cw_tree.specs.declared.leaf.RawNumber.{RawNumber}
use Rattle.cw_tree.specs.declared.leaf.RawOctal.{RawOctal}
use Rattle.cw_tree.specs.declared.leaf.RawLiteral.{RawLiteral}
use Rattle.cw_tree.specs.declared.leaf.RawInt.{RawInt}
use Rattle.cw_tree.specs.declared.leaf.RawInt.TheVariants as int_tree
use Rattle.cw_tree.specs.declared.leaf.RawSint.{RawSint}
use Rattle.cw_tree.specs.declared.leaf.RawSize.{RawSize}
use Rattle.cw_tree.specs.declared.leaf.RawType.TheVariants as type_tree
use Rattle.cw_tree.specs.declared.leaf.RawSign.{RawSign}
use Rattle.cw_tree.specs.declared.leaf.RawFactorSign.{RawFactorSign}
use Rattle.cw_tree.specs.declared.leaf.RawCompareSign.{RawCompareSign}
use Rattle.cw_tree.specs.declared.leaf.AddOp.{AddOp}
use Rattle.cw_tree.specs.declared.leaf.AddOp.TheVariants as adds
use Rattle.cw_tree.specs.declared.leaf.MulOp.{MulOp}
use Rattle.cw_tree.specs.declared.leaf.MulOp.TheVariants as muls
use Rattle.cw_tree.specs.declared.leaf.CompareOp.{CompareOp}
use Rattle.cw_tree.specs.declared.leaf.CompareOp.TheVariants as compares
use Rattle.cw_grammar.specs.Tokens.{is_identifier, name_of, number_of}
use Rattle.cw_grammar.specs.Grammar.{a_token, a_name, a_number, an_octal, an_int, a_sint, a_size, a_type, a_sign, a_factor_sign, a_compare_sign, a_bits, one}
use Rattle.cw_grammar.specs.Rules.{name, number, octal, int, sign, sint, number_type, size, factor_sign, comparator, bits}
use Rattle.cw_show.specs.Canonical.{Tokens, number_text, number as number_spelling, literal as literal_spelling, string as string_spelling, octal_tokens, int_tokens, add_symbol, multiply_symbol, compare_symbol, sign_tokens, sint_tokens, size_tokens, type_tokens}
use Rattle.cw_show.specs.ExpressionTokens.{bits_tokens}
use Rattle.cw_show.specs.ItemTokens.{name_tokens}
use Rattle.cw_show.specs.Lexing.{IsSpelled, a_string, a_literal}
use Rattle.cw_lex.specs.Items.{IsText, between_quotes}
use Rattle.cw_read_back.specs.Expressions.Unplaced.{nowhere, unplaced_name, unplaced_number, unplaced_octal, unplaced_int, unplaced_sign, unplaced_sint, unplaced_size, unplaced_type, unplaced_factor, unplaced_compare, unplaced_bits}
use Rattle.cw_read_back.proofs.Expressions.Leaves.{name_back, number_back, name_spelled, number_spelled}
use Rattle.cw_read_back.proofs.Expressions.Reading.{Reads, Back, Held, leaf, word_is, symbol_is, ◌&◌, left, right, mapped, optional_read}

abbrev pub number_tokens : RawNumber → Tokens
number_tokens x = number_spelling x.number ∷ []

abbrev pub plain_sign : RawSign → Tokens
plain_sign s = add_symbol s.op ∷ []

abbrev pub plain_factor : RawFactorSign → Tokens
plain_factor s = multiply_symbol s.op ∷ []

abbrev pub plain_compare : RawCompareSign → Tokens
plain_compare s = compare_symbol s.op ∷ []

pub name_read : {n : ℕ} (x : RawName) → is_identifier x.name ≡ true → Back n a_name name name_tokens unplaced_name x
name_read x h = mapped (leaf kinds.Name x.name (λ l. name_spelled x.name h l)) (λ z p. ap (λ v. record { at = nowhere; name = v }) (ap name_of p.1 ∙ name_back x.name h))

pub number_read : {n : ℕ} (x : RawNumber) → IsNumber x.number → Back n a_number number number_tokens unplaced_number x
number_read x h = mapped (leaf kinds.Number (number_text x.number) (λ l. number_spelled x.number h)) (λ z p. ap (λ v. record { at = nowhere; number = v }) (ap number_of p.1 ∙ number_back x.number h))

pub literal_read : {n : ℕ} (x : RawLiteral) → Reads n a_token (one kinds.Literal) (literal_spelling x.byte ∷ []) (λ t. (t.kind ≡ kinds.Literal) × (t.text ≡ (literal_spelling x.byte).text))
literal_read x = leaf kinds.Literal (literal_spelling x.byte).text (λ l. a_literal x.byte l)

text_spelled : (w : List ℕ) → IsText w → IsSpelled (record { kind = kinds.Text; text = w })
text_spelled w (between_quotes v q) = a_string v q

pub string_read : {n : ℕ} (cs : List ℕ) → Reads n a_token (one kinds.Text) (string_spelling cs ∷ []) (λ t. (t.kind ≡ kinds.Text) × (t.text ≡ (string_spelling cs).text))
string_read cs = leaf kinds.Text (string_spelling cs).text (λ l. text_spelled (string_spelling cs).text l)

pub octal_read : {n : ℕ} (at : Position) (x : RawNumber) → Back n a_number number number_tokens unplaced_number x → Back n an_octal octal octal_tokens unplaced_octal (record { at = at; number = x })
unfolding octal
octal_read at x h = mapped (word_is words.Octal refl & symbol_is symbols.Open & h & symbol_is symbols.Close) (λ z p. ap (λ v. record { at = nowhere; number = v }) p.1.1.0)

pub int_number_read : {n : ℕ} (x : RawNumber) → Back n a_number number number_tokens unplaced_number x → Back n an_int int int_tokens unplaced_int (int_tree.Number x)
unfolding int
int_number_read x h = left (mapped h (λ z e. ap (λ v. int_tree.Number v) e))

pub int_octal_read : {n : ℕ} (x : RawOctal) → Back n an_octal octal octal_tokens unplaced_octal x → Back n an_int int int_tokens unplaced_int (int_tree.Octal x)
unfolding int
int_octal_read x h = right (mapped h (λ z e. ap (λ v. int_tree.Octal v) e))

pub sign_read : {n : ℕ} (x : RawSign) → Back n a_sign sign plain_sign unplaced_sign x
sign_read {n = n} x = elim x.op as (λ op. Back n a_sign sign plain_sign unplaced_sign (record { at = x.at; op = op })) [
  | adds.Plus ↦ left (mapped (symbol_is symbols.Plus) (λ z h. refl))
  | adds.Minus ↦ right (mapped (symbol_is symbols.Minus) (λ z h. refl))
]

pub factor_read : {n : ℕ} (x : RawFactorSign) → Back n a_factor_sign factor_sign plain_factor unplaced_factor x
factor_read {n = n} x = elim x.op as (λ op. Back n a_factor_sign factor_sign plain_factor unplaced_factor (record { at = x.at; op = op })) [
  | muls.Times ↦ left (mapped (symbol_is symbols.Times) (λ z h. refl))
  | muls.Divide ↦ right (mapped (symbol_is symbols.Divide) (λ z h. refl))
]

pub compare_read : {n : ℕ} (x : RawCompareSign) → Back n a_compare_sign comparator plain_compare unplaced_compare x
compare_read {n = n} x = elim x.op as (λ op. Back n a_compare_sign comparator plain_compare unplaced_compare (record { at = x.at; op = op })) [
  | compares.Less ↦ left (mapped (symbol_is symbols.Less) (λ z h. refl))
  | compares.LessOrEqual ↦ right (left (mapped (symbol_is symbols.LessOrEqual) (λ z h. refl)))
  | compares.Equal ↦ right (right (left (mapped (symbol_is symbols.Equal) (λ z h. refl))))
  | compares.GreaterOrEqual ↦ right (right (right (left (mapped (symbol_is symbols.GreaterOrEqual) (λ z h. refl)))))
  | compares.Greater ↦ right (right (right (right (left (mapped (symbol_is symbols.Greater) (λ z h. refl))))))
  | compares.NotEqual ↦ right (right (right (right (right (mapped (symbol_is symbols.NotEqual) (λ z h. refl))))))
]

pub sint_read : {n : ℕ} (o : Option RawSign) (x : RawInt) → Held (Back n a_sign sign plain_sign unplaced_sign) o → Back n an_int int int_tokens unplaced_int x → Back n a_sint sint sint_tokens unplaced_sint (record { sign = o; value = x })
unfolding sint
sint_read o x h k = mapped (optional_read sign_tokens refl (λ y. refl) o h & k) (λ z p. ap₂ (λ u v. record { sign = u; value = v }) p.0 p.1)

pub size_read : {n : ℕ} (x y : RawInt) → Back n an_int int int_tokens unplaced_int x → Back n an_int int int_tokens unplaced_int y → Back n a_size size size_tokens unplaced_size (record { first = x; second = y })
unfolding size
size_read x y h k = mapped (symbol_is symbols.OpenSquare & h & symbol_is symbols.Comma & k & symbol_is symbols.CloseSquare) (λ z p. ap₂ (λ u v. record { first = u; second = v }) p.1.0 p.1.1.1.0)

pub integer_read : {n : ℕ} (at : Position) → Back n a_type number_type type_tokens unplaced_type (type_tree.Integer at)
unfolding number_type
integer_read at = left (mapped (word_is words.Integer refl) (λ z p. refl))

pub fixed_read : {n : ℕ} (at : Position) (t : RawInt) (f : RawSint) → Back n an_int int int_tokens unplaced_int t → Back n a_sint sint sint_tokens unplaced_sint f → Back n a_type number_type type_tokens unplaced_type (type_tree.Fixed at t f)
unfolding number_type
fixed_read at t f h k = right (mapped (word_is words.Fixed refl & symbol_is symbols.Open & h & symbol_is symbols.Comma & k & symbol_is symbols.Close) (λ z p. ap₂ (λ u v. type_tree.Fixed nowhere u v) p.1.1.0 p.1.1.1.1.0))

pub bits_read : {n : ℕ} (at : Position) (x : RawSize) → Back n a_size size size_tokens unplaced_size x → Back n a_bits bits bits_tokens unplaced_bits (record { at = at; size = x })
unfolding bits
bits_read at x h = mapped (word_is words.Bits refl & h) (λ z p. ap (λ v. record { at = nowhere; size = v }) p.1)
