-- The grammar of expressions. Official Definition of CORAL 66, "Expressions"; the order in which MASK, UNION and DIFFER bind is this project's profile.
-- `g · h` is one text behind another, `g ∣ h` one or the other, `g ⇒ f` a text with the tree that it stands for; in
-- `g *> h` only the second counts, in `g <* h` the first.
use Rattle.std.specs.Prelude.{ℕ, Bool, true, false, List, [], ◌∷◌, ◌++◌, Option, Some, None}
use Rattle.cw_lex.specs.declared.token.TokenKind.TheVariants as kinds
use Rattle.cw_lex.specs.declared.token.Symbol.{Symbol}
use Rattle.cw_lex.specs.declared.token.Symbol.TheVariants as symbols
use Rattle.cw_lex.specs.declared.token.Word.{Word}
use Rattle.cw_lex.specs.declared.token.Word.TheVariants as words
use Rattle.cw_tree.specs.declared.leaf.Position.{Position}
use Rattle.cw_tree.specs.declared.leaf.RawName.{RawName}
use Rattle.cw_tree.specs.declared.leaf.RawNumber.{RawNumber}
use Rattle.cw_tree.specs.declared.leaf.RawOctal.{RawOctal}
use Rattle.cw_tree.specs.declared.leaf.RawLiteral.{RawLiteral}
use Rattle.cw_tree.specs.declared.leaf.RawInt.{RawInt}
use Rattle.cw_tree.specs.declared.leaf.RawInt.TheVariants as int_tree
use Rattle.cw_tree.specs.declared.leaf.RawSint.{RawSint}
use Rattle.cw_tree.specs.declared.leaf.RawSize.{RawSize}
use Rattle.cw_tree.specs.declared.leaf.RawType.{RawType}
use Rattle.cw_tree.specs.declared.leaf.RawType.TheVariants as type_tree
use Rattle.cw_tree.specs.declared.leaf.AddOp.{AddOp}
use Rattle.cw_tree.specs.declared.leaf.AddOp.TheVariants as adds
use Rattle.cw_tree.specs.declared.leaf.MulOp.{MulOp}
use Rattle.cw_tree.specs.declared.leaf.MulOp.TheVariants as muls
use Rattle.cw_tree.specs.declared.leaf.CompareOp.{CompareOp}
use Rattle.cw_tree.specs.declared.leaf.CompareOp.TheVariants as compares
use Rattle.cw_tree.specs.declared.leaf.RawSign.{RawSign}
use Rattle.cw_tree.specs.declared.leaf.RawFactorSign.{RawFactorSign}
use Rattle.cw_tree.specs.declared.leaf.RawCompareSign.{RawCompareSign}
use Rattle.cw_tree.specs.declared.expression.RawBits.{RawBits}
use Rattle.cw_tree.specs.declared.expression.RawExpr.{RawExpr}
use Rattle.cw_tree.specs.declared.expression.RawExpr.TheVariants as expr_tree
use Rattle.cw_tree.specs.declared.expression.RawPrimary.{RawPrimary}
use Rattle.cw_tree.specs.declared.expression.RawPrimary.TheVariants as primary_tree
use Rattle.cw_tree.specs.declared.expression.RawRef.{RawRef}
use Rattle.cw_tree.specs.declared.expression.RawRef.TheVariants as ref_tree
use Rattle.cw_grammar.specs.Tokens.{Item, position, name_of, number_of, characters, literal_byte}
use Rattle.cw_grammar.specs.Grammar.{Either, left, right, Sort, a_token, a_pair, a_list, an_option, an_either, a_position, a_name, a_number, an_octal}
use Rattle.cw_grammar.specs.Grammar.{a_literal, an_int, a_sint, a_size, a_type, a_sign, a_factor_sign, a_compare_sign, a_bits, an_expr, a_cond, a_cand}
use Rattle.cw_grammar.specs.Grammar.{a_cmp, a_sum, a_term, a_differ, a_union, a_mask, a_prim, a_primary, a_ref, Value, Rule, bracketed, subscript}
use Rattle.cw_grammar.specs.Grammar.{indexed, called, located, conditional, Grammar, one, none, ◌·◌, ◌∣◌, many, ◌⇒◌, opens}
use Rattle.cw_grammar.specs.Trees.{extended, mask_start, union_start, differ_start, term_start, mask_tree, union_tree, differ_tree, term_tree}
use Rattle.cw_grammar.specs.Trees.{cand_tree, cond_tree, comparison_tree, sum_tree, sum_start, more_terms, expr_of, prim_of}

-- ---- forms

abbrev pub word : Word → Grammar a_token
word w = one (kinds.Word w)

abbrev pub symbol : Symbol → Grammar a_token
symbol s = one (kinds.Symbol s)

-- one text behind another, of which the second or the first counts
infixr 30 ◌*>◌
abbrev pub ◌*>◌ : {s t : Sort} → Grammar s → Grammar t → Grammar t
g *> h = g · h ⇒ (λ x. x.1)

infixr 30 ◌<*◌
abbrev pub ◌<*◌ : {s t : Sort} → Grammar s → Grammar t → Grammar s
g <* h = g · h ⇒ (λ x. x.0)

-- [ g ]
abbrev pub optional : {s : Sort} → Grammar s → Grammar (an_option s)
optional g = g ⇒ (λ x. Some x) ∣ none None

-- g { "," g }
abbrev pub commas : {s : Sort} → Grammar s → Grammar (a_list s)
commas g = g · many (symbol symbols.Comma *> g) ⇒ (λ x. x.0 ∷ x.1)

-- ---- names, numbers, types

abbrev pub raw_name : Item → RawName
raw_name t = record { at = position t; name = name_of t.text }

abbrev pub raw_number : Item → RawNumber
raw_number t = record { at = position t; number = number_of t.text }

abbrev pub raw_literal : Item → RawLiteral
raw_literal t = record { at = position t; byte = literal_byte t.text }

abbrev pub name : Grammar a_name
name = one kinds.Name ⇒ raw_name

abbrev pub number : Grammar a_number
number = one kinds.Number ⇒ raw_number

-- octal = OCTAL "(" number ")"
unfoldable pub octal : Grammar an_octal
octal = word words.Octal · symbol symbols.Open · number · symbol symbols.Close ⇒ (λ x. record { at = position x.0; number = x.1.1.0 })

-- int = number | octal
unfoldable pub int : Grammar an_int
int = number ⇒ (λ n. int_tree.Number n) ∣ octal ⇒ (λ n. int_tree.Octal n)

abbrev pub signed : AddOp → Item → RawSign
signed op t = record { at = position t; op = op }

-- "+" | "-"
abbrev pub sign : Grammar a_sign
sign = symbol symbols.Plus ⇒ signed adds.Plus ∣ symbol symbols.Minus ⇒ signed adds.Minus

-- sint = [ "+" | "-" ] int
unfoldable pub sint : Grammar a_sint
sint = optional sign · int ⇒ (λ x. record { sign = x.0; value = x.1 })

-- type = INTEGER | FIXED "(" int "," sint ")"
unfoldable pub number_type : Grammar a_type
number_type =
    word words.Integer ⇒ (λ t. type_tree.Integer (position t))
    ∣ word words.Fixed · symbol symbols.Open · int · symbol symbols.Comma · sint · symbol symbols.Close ⇒
    (λ x. type_tree.Fixed (position x.0) x.1.1.0 x.1.1.1.1.0)

-- size = "[" int "," int "]"
unfoldable pub size : Grammar a_size
size = symbol symbols.OpenSquare · int · symbol symbols.Comma · int · symbol symbols.CloseSquare ⇒ (λ x. record { first = x.1.0; second = x.1.1.1.0 })

-- ---- operators

abbrev pub operator : Word → Grammar a_position
operator w = word w ⇒ position

abbrev pub factor : MulOp → Item → RawFactorSign
factor op t = record { at = position t; op = op }

-- "*" | "/"
abbrev pub factor_sign : Grammar a_factor_sign
factor_sign = symbol symbols.Times ⇒ factor muls.Times ∣ symbol symbols.Divide ⇒ factor muls.Divide

abbrev pub compared : CompareOp → Item → RawCompareSign
compared op t = record { at = position t; op = op }

-- "<" | "<=" | "=" | ">=" | ">" | "<>"
abbrev pub comparator : Grammar a_compare_sign
comparator =
    symbol symbols.Less ⇒ compared compares.Less
    ∣ symbol symbols.LessOrEqual ⇒ compared compares.LessOrEqual
    ∣ symbol symbols.Equal ⇒ compared compares.Equal
    ∣ symbol symbols.GreaterOrEqual ⇒ compared compares.GreaterOrEqual
    ∣ symbol symbols.Greater ⇒ compared compares.Greater
    ∣ symbol symbols.NotEqual ⇒ compared compares.NotEqual

-- ---- primaries

-- BITS size
unfoldable pub bits : Grammar a_bits
bits = word words.Bits · size ⇒ (λ x. record { at = position x.0; size = x.1 })

abbrev pub indexed_name : RawName → RawExpr → Option RawExpr → RawRef
indexed_name n x None = ref_tree.One n x
indexed_name n x (Some y) = ref_tree.Two n x y

abbrev pub ref_behind : RawName → Option (Item × (RawExpr × Option RawExpr)) → RawRef
ref_behind n None = ref_tree.Name n
ref_behind n (Some x) = indexed_name n x.1.0 x.1.1

-- ref = name [ "[" expr [ "," expr ] "]" ] | "[" expr "]"
unfoldable pub reference : Grammar a_ref
reference =
    name · optional (opens (kinds.Symbol symbols.OpenSquare) indexed) ⇒ (λ x. ref_behind x.0 x.1)
    ∣ opens (kinds.Symbol symbols.OpenSquare) subscript ⇒ (λ x. ref_tree.Bare (position x.0) x.1)

-- number | octal | literal | string
unfoldable pub constant : Grammar a_primary
constant =
    number ⇒ (λ n. primary_tree.Number n)
    ∣ octal ⇒ (λ n. primary_tree.Octal n)
    ∣ one kinds.Literal ⇒ (λ t. primary_tree.Literal (raw_literal t))
    ∣ one kinds.Text ⇒ (λ t. primary_tree.Text (position t) (characters t.kind t.text))

-- LOCATION "(" ref ")" | type "(" expr ")"
unfoldable pub worded : Grammar a_primary
worded =
    word words.Location · opens (kinds.Symbol symbols.Open) located ⇒ (λ x. primary_tree.Location (position x.0) x.1.1)
    ∣ number_type · opens (kinds.Symbol symbols.Open) bracketed ⇒ (λ x. primary_tree.Forced x.0 x.1.1)

-- "(" expr ")" | "[" expr "]"
unfoldable pub enclosed : Grammar a_primary
enclosed =
    opens (kinds.Symbol symbols.Open) bracketed ⇒ (λ x. primary_tree.Bracket (position x.0) x.1)
    ∣ opens (kinds.Symbol symbols.OpenSquare) subscript ⇒ (λ x. primary_tree.Ref (ref_tree.Bare (position x.0) x.1))

abbrev pub primary_behind : RawName → Option (Either (RawExpr × Option RawExpr) (List RawExpr)) → RawPrimary
primary_behind n None = primary_tree.Ref (ref_tree.Name n)
primary_behind n (Some (left x)) = primary_tree.Ref (indexed_name n x.0 x.1)
primary_behind n (Some (right x)) = primary_tree.Call n x

-- [ "[" expr [ "," expr ] "]" | "(" expr { "," expr } ")" ]
abbrev pub tail : Grammar (an_option (an_either (a_pair an_expr (an_option an_expr)) (a_list an_expr)))
tail =
    opens (kinds.Symbol symbols.OpenSquare) indexed ⇒ (λ x. Some (left x.1))
    ∣ opens (kinds.Symbol symbols.Open) called ⇒ (λ x. Some (right x.1))
    ∣ none None

-- name [ "[" expr [ "," expr ] "]" | "(" expr { "," expr } ")" ]
unfoldable pub named : Grammar a_primary
named = name · tail ⇒ (λ x. primary_behind x.0 x.1)

-- a primary without BITS
unfoldable pub primary : Grammar a_primary
primary = constant ∣ worded ∣ enclosed ∣ named

-- prim = { BITS size } primary
unfoldable pub prim : Grammar a_prim
prim = many bits · primary ⇒ (λ x. prim_of x.0 x.1)

-- ---- operations

-- mask = prim { MASK prim }
unfoldable pub mask : Grammar a_mask
mask = prim · many (operator words.Mask · prim) ⇒ (λ x. mask_tree (extended (mask_start x.0) x.1))

-- union = mask { UNION mask }
unfoldable pub union : Grammar a_union
union = mask · many (operator words.Union · mask) ⇒ (λ x. union_tree (extended (union_start x.0) x.1))

-- differ = union { DIFFER union }
unfoldable pub differ : Grammar a_differ
differ = union · many (operator words.Differ · union) ⇒ (λ x. differ_tree (extended (differ_start x.0) x.1))

-- term = differ { ( "*" | "/" ) differ }
unfoldable pub term : Grammar a_term
term = differ · many (factor_sign · differ) ⇒ (λ x. term_tree (extended (term_start x.0) x.1))

-- sum = [ "+" | "-" ] term { ( "+" | "-" ) term }
unfoldable pub sum : Grammar a_sum
sum = optional sign · term · many (sign · term) ⇒ (λ x. sum_tree (more_terms (sum_start x.0 x.1.0) x.1.1))

-- cmp = sum ( "<" | "<=" | "=" | ">=" | ">" | "<>" ) sum
unfoldable pub cmp : Grammar a_cmp
cmp = sum · comparator · sum ⇒ (λ x. comparison_tree x.0 x.1.0 x.1.1)

-- cand = cmp { AND cmp }
unfoldable pub cand : Grammar a_cand
cand = cmp · many (operator words.And · cmp) ⇒ (λ x. cand_tree (extended (x.0 ∷ [], []) x.1))

-- cond = cand { OR cand }
unfoldable pub condition : Grammar a_cond
condition = cand · many (operator words.Or · cand) ⇒ (λ x. cond_tree (extended (x.0 ∷ [], []) x.1))

-- expr = IF cond THEN expr ELSE expr | sum
unfoldable pub expr : Grammar an_expr
expr =
    opens (kinds.Word words.If) conditional ⇒ (λ x. expr_tree.Choice (position x.0) x.1.0 x.1.1.0 x.1.1.1)
    ∣ sum ⇒ (λ x. expr_of x)
