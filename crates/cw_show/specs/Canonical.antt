-- The canonical tokens of a syntax tree: its words and symbols, names, numbers, literals and strings.
use Rattle.std.specs.Prelude.{ℕ, ◌-◌, ◌==◌, if◌then◌else◌, Bool, true, false, List, [], ◌∷◌, ◌++◌, map, length, replicate, decimal, codes, Option, Some, None}
use Rattle.cw_lex.specs.declared.token.TokenKind.TheVariants as kinds
use Rattle.cw_lex.specs.declared.token.Symbol.TheVariants as symbols
use Rattle.cw_lex.specs.declared.token.Word.TheVariants as words
use Rattle.cw_word.specs.Number.{Number}
use Rattle.cw_tree.specs.declared.leaf.RawNumber.{RawNumber}
use Rattle.cw_tree.specs.declared.leaf.RawOctal.{RawOctal}
use Rattle.cw_tree.specs.declared.leaf.RawLiteral.{RawLiteral}
use Rattle.cw_tree.specs.declared.leaf.RawInt.{RawInt}
use Rattle.cw_tree.specs.declared.leaf.RawInt.TheVariants as int_tree
use Rattle.cw_tree.specs.declared.leaf.RawSint.{RawSint}
use Rattle.cw_tree.specs.declared.leaf.RawSize.{RawSize}
use Rattle.cw_tree.specs.declared.leaf.RawType.{RawType}
use Rattle.cw_tree.specs.declared.leaf.RawType.TheVariants as type_tree
use Rattle.cw_tree.specs.declared.leaf.AddOp.{AddOp}
use Rattle.cw_tree.specs.declared.leaf.AddOp.TheVariants as adds
use Rattle.cw_tree.specs.declared.leaf.MulOp.{MulOp}
use Rattle.cw_tree.specs.declared.leaf.MulOp.TheVariants as muls
use Rattle.cw_tree.specs.declared.leaf.CompareOp.{CompareOp}
use Rattle.cw_tree.specs.declared.leaf.CompareOp.TheVariants as compares
use Rattle.cw_tree.specs.declared.leaf.RawSign.{RawSign}
use Rattle.cw_show.specs.Spelling.{Spelling, word, symbol}

abbrev pub Tokens : Type 0
Tokens = List Spelling

-- ---- names, numbers, literals and strings

abbrev pub name : List ℕ → Spelling
name text = record { kind = kinds.Name; text = text }

-- the digits behind the point, as many as there are places
abbrev pub fraction : ℕ → ℕ → List ℕ
fraction places digits = replicate (places - length (decimal digits)) 48 ++ decimal digits

-- no zeros in front of the whole part; a point where digits stand behind it
abbrev pub number_text : Number → List ℕ
number_text n = if n.places == 0 then decimal n.whole else (decimal n.whole ++ 46 ∷ fraction n.places n.digits)

abbrev pub number : Number → Spelling
number n = record { kind = kinds.Number; text = number_text n }

abbrev pub literal : ℕ → Spelling
literal byte = record { kind = kinds.Literal; text = codes "LITERAL(" ++ byte ∷ 41 ∷ [] }

-- each quote twice
abbrev pub doubled : List ℕ → List ℕ
doubled [] = []
doubled (b ∷ bs) = if b == 34 then b ∷ b ∷ doubled bs else (b ∷ doubled bs)

abbrev pub string : List ℕ → Spelling
string characters = record { kind = kinds.Text; text = 34 ∷ doubled characters ++ 34 ∷ [] }

-- ---- whole numbers, types, signs

abbrev pub octal_tokens : RawOctal → Tokens
octal_tokens o = word words.Octal ∷ symbol symbols.Open ∷ number o.number.number ∷ symbol symbols.Close ∷ []

abbrev pub int_tokens : RawInt → Tokens
int_tokens (int_tree.Number n) = number n.number ∷ []
int_tokens (int_tree.Octal o) = octal_tokens o

abbrev pub add_symbol : AddOp → Spelling
add_symbol adds.Plus = symbol symbols.Plus
add_symbol adds.Minus = symbol symbols.Minus

abbrev pub multiply_symbol : MulOp → Spelling
multiply_symbol muls.Times = symbol symbols.Times
multiply_symbol muls.Divide = symbol symbols.Divide

abbrev pub compare_symbol : CompareOp → Spelling
compare_symbol compares.Less = symbol symbols.Less
compare_symbol compares.LessOrEqual = symbol symbols.LessOrEqual
compare_symbol compares.Equal = symbol symbols.Equal
compare_symbol compares.GreaterOrEqual = symbol symbols.GreaterOrEqual
compare_symbol compares.Greater = symbol symbols.Greater
compare_symbol compares.NotEqual = symbol symbols.NotEqual

abbrev pub sign_tokens : Option RawSign → Tokens
sign_tokens None = []
sign_tokens (Some s) = add_symbol s.op ∷ []

abbrev pub sint_tokens : RawSint → Tokens
sint_tokens s = sign_tokens s.sign ++ int_tokens s.value

abbrev pub size_tokens : RawSize → Tokens
size_tokens s = symbol symbols.OpenSquare ∷ (int_tokens s.first ++ symbol symbols.Comma ∷ (int_tokens s.second ++ symbol symbols.CloseSquare ∷ []))

abbrev pub type_tokens : RawType → Tokens
type_tokens (type_tree.Integer at) = word words.Integer ∷ []
type_tokens (type_tree.Fixed at t f) = word words.Fixed ∷ symbol symbols.Open
    ∷ (int_tokens t ++ symbol symbols.Comma ∷ (sint_tokens f ++ symbol symbols.Close ∷ []))

-- ---- lists

-- each behind the token
abbrev pub behind_each : Spelling → List Tokens → Tokens
behind_each t [] = []
behind_each t (x ∷ xs) = t ∷ (x ++ behind_each t xs)

-- the token between any two
abbrev pub between : Spelling → List Tokens → Tokens
between t [] = []
between t (x ∷ xs) = x ++ behind_each t xs

-- each behind its operator
abbrev pub behind_operators : List Spelling → List Tokens → Tokens
behind_operators os [] = []
behind_operators [] (x ∷ xs) = x ++ behind_operators [] xs
behind_operators (o ∷ os) (x ∷ xs) = o ∷ (x ++ behind_operators os xs)

-- operands with operators between them
abbrev pub operation : List Spelling → List Tokens → Tokens
operation os [] = []
operation os (x ∷ xs) = x ++ behind_operators os xs

-- all, one behind another
abbrev pub joined : List Tokens → Tokens
joined [] = []
joined (x ∷ xs) = x ++ joined xs

abbrev pub comma : Spelling
comma = symbol symbols.Comma

abbrev pub semicolon : Spelling
semicolon = symbol symbols.Semicolon

-- ( .. )
abbrev pub bracketed : Tokens → Tokens
bracketed x = symbol symbols.Open ∷ (x ++ symbol symbols.Close ∷ [])

-- [ .. ]
abbrev pub indexed : Tokens → Tokens
indexed x = symbol symbols.OpenSquare ∷ (x ++ symbol symbols.CloseSquare ∷ [])

-- a list in round brackets, and nothing where it has no items
abbrev pub listed : Spelling → List Tokens → Tokens
listed t [] = []
listed t (x ∷ xs) = bracketed (between t (x ∷ xs))

-- each with a semicolon behind it
abbrev pub ended : List Tokens → Tokens
ended [] = []
ended (x ∷ xs) = x ++ semicolon ∷ ended xs
