-- Grammars as data, and what can be read off one: the kinds that a text may begin with, and those that may stand behind a text of it and also carry it on.
use Rattle.std.specs.Prelude.{ℕ, ◌==◌, Bool, true, false, cond, not, ◌&&◌, ◌||◌, List, [], ◌∷◌, ◌++◌, Option}
use Rattle.cw_lex.specs.declared.token.TokenKind.{TokenKind}
use Rattle.cw_lex.specs.declared.token.TokenKind.TheVariants as kinds
use Rattle.cw_lex.specs.declared.token.Symbol.TheVariants as symbols
use Rattle.cw_lex.specs.declared.token.Word.TheVariants as words
use Rattle.cw_tree.specs.declared.leaf.Position.{Position}
use Rattle.cw_tree.specs.declared.leaf.RawName.{RawName}
use Rattle.cw_tree.specs.declared.leaf.RawNumber.{RawNumber}
use Rattle.cw_tree.specs.declared.leaf.RawOctal.{RawOctal}
use Rattle.cw_tree.specs.declared.leaf.RawLiteral.{RawLiteral}
use Rattle.cw_tree.specs.declared.leaf.RawInt.{RawInt}
use Rattle.cw_tree.specs.declared.leaf.RawSint.{RawSint}
use Rattle.cw_tree.specs.declared.leaf.RawSize.{RawSize}
use Rattle.cw_tree.specs.declared.leaf.RawType.{RawType}
use Rattle.cw_tree.specs.declared.leaf.RawSign.{RawSign}
use Rattle.cw_tree.specs.declared.leaf.RawFactorSign.{RawFactorSign}
use Rattle.cw_tree.specs.declared.leaf.RawCompareSign.{RawCompareSign}
use Rattle.cw_tree.specs.declared.expression.RawBits.{RawBits}
use Rattle.cw_tree.specs.declared.expression.RawExpr.{RawExpr}
use Rattle.cw_tree.specs.declared.expression.RawCond.{RawCond}
use Rattle.cw_tree.specs.declared.expression.RawCand.{RawCand}
use Rattle.cw_tree.specs.declared.expression.RawCmp.{RawCmp}
use Rattle.cw_tree.specs.declared.expression.RawSum.{RawSum}
use Rattle.cw_tree.specs.declared.expression.RawTerm.{RawTerm}
use Rattle.cw_tree.specs.declared.expression.RawDiffer.{RawDiffer}
use Rattle.cw_tree.specs.declared.expression.RawUnion.{RawUnion}
use Rattle.cw_tree.specs.declared.expression.RawMask.{RawMask}
use Rattle.cw_tree.specs.declared.expression.RawPrim.{RawPrim}
use Rattle.cw_tree.specs.declared.expression.RawPrimary.{RawPrimary}
use Rattle.cw_tree.specs.declared.expression.RawRef.{RawRef}
use Rattle.cw_tree.specs.declared.items.RawPlace.{RawPlace}
use Rattle.cw_tree.specs.declared.items.RawPresets.{RawPresets}
use Rattle.cw_tree.specs.declared.items.RawRange.{RawRange}
use Rattle.cw_tree.specs.declared.items.RawBounds.{RawBounds}
use Rattle.cw_tree.specs.declared.items.RawGroup.{RawGroup}
use Rattle.cw_tree.specs.declared.items.RawElem.{RawElem}
use Rattle.cw_tree.specs.declared.items.RawTable.{RawTable}
use Rattle.cw_tree.specs.declared.items.RawData.{RawData}
use Rattle.cw_tree.specs.declared.items.RawBase.{RawBase}
use Rattle.cw_tree.specs.declared.statement.RawStmt.{RawStmt}
use Rattle.cw_tree.specs.declared.statement.RawForm.{RawForm}
use Rattle.cw_tree.specs.declared.statement.RawSimple.{RawSimple}
use Rattle.cw_tree.specs.declared.statement.RawFelem.{RawFelem}
use Rattle.cw_tree.specs.declared.statement.RawBlock.{RawBlock}
use Rattle.cw_tree.specs.declared.statement.RawDecl.{RawDecl}
use Rattle.cw_tree.specs.declared.statement.RawPtag.{RawPtag}
use Rattle.cw_tree.specs.declared.statement.RawProc.{RawProc}
use Rattle.cw_tree.specs.declared.statement.RawParam.{RawParam}
use Rattle.cw_tree.specs.declared.segment.RawIps.{RawIps}
use Rattle.cw_tree.specs.declared.segment.RawPs.{RawPs}
use Rattle.cw_tree.specs.declared.segment.RawSpec.{RawSpec}
use Rattle.cw_tree.specs.declared.segment.RawCitem.{RawCitem}
use Rattle.cw_tree.specs.declared.segment.RawAitem.{RawAitem}
use Rattle.cw_tree.specs.declared.segment.RawComm.{RawComm}
use Rattle.cw_tree.specs.declared.segment.Raw.{Raw}
use Rattle.cw_grammar.specs.Tokens.{Item, same}

pub data Either (A B : Type 0) : Type 0 where
  left : A → Either A B
  right : B → Either A B

-- the sorts of what a text stands for
pub data Sort : Type 0 where
  a_token : Sort
  a_pair : Sort → Sort → Sort
  a_list : Sort → Sort
  an_option : Sort → Sort
  an_either : Sort → Sort → Sort
  a_position : Sort
  a_name : Sort
  a_number : Sort
  an_octal : Sort
  a_literal : Sort
  an_int : Sort
  a_sint : Sort
  a_size : Sort
  a_type : Sort
  a_sign : Sort
  a_factor_sign : Sort
  a_compare_sign : Sort
  a_bits : Sort
  an_expr : Sort
  a_cond : Sort
  a_cand : Sort
  a_cmp : Sort
  a_sum : Sort
  a_term : Sort
  a_differ : Sort
  a_union : Sort
  a_mask : Sort
  a_prim : Sort
  a_primary : Sort
  a_ref : Sort
  a_range : Sort
  a_bounds : Sort
  a_group : Sort
  an_elem : Sort
  a_place : Sort
  a_presets : Sort
  a_table : Sort
  a_data : Sort
  a_base : Sort
  a_stmt : Sort
  a_form : Sort
  a_simple : Sort
  a_felem : Sort
  a_block : Sort
  a_decl : Sort
  a_ptag : Sort
  a_proc : Sort
  a_param : Sort
  an_ips : Sort
  a_ps : Sort
  a_spec : Sort
  a_citem : Sort
  an_aitem : Sort
  a_comm : Sort
  a_raw : Sort
  -- what stands for something of the second sort once one of the first is told, which is written before it
  a_from : Sort → Sort → Sort

abbrev pub Value : Sort → Type 0
Value a_token = Item
Value (a_pair s t) = Value s × Value t
Value (a_list s) = List (Value s)
Value (an_option s) = Option (Value s)
Value (an_either s t) = Either (Value s) (Value t)
Value a_position = Position
Value a_name = RawName
Value a_number = RawNumber
Value an_octal = RawOctal
Value a_literal = RawLiteral
Value an_int = RawInt
Value a_sint = RawSint
Value a_size = RawSize
Value a_type = RawType
Value a_sign = RawSign
Value a_factor_sign = RawFactorSign
Value a_compare_sign = RawCompareSign
Value a_bits = RawBits
Value an_expr = RawExpr
Value a_cond = RawCond
Value a_cand = RawCand
Value a_cmp = RawCmp
Value a_sum = RawSum
Value a_term = RawTerm
Value a_differ = RawDiffer
Value a_union = RawUnion
Value a_mask = RawMask
Value a_prim = RawPrim
Value a_primary = RawPrimary
Value a_ref = RawRef
Value a_range = RawRange
Value a_bounds = RawBounds
Value a_group = RawGroup
Value an_elem = RawElem
Value a_place = RawPlace
Value a_presets = RawPresets
Value a_table = RawTable
Value a_data = RawData
Value a_base = RawBase
Value a_stmt = RawStmt
Value a_form = RawForm
Value a_simple = RawSimple
Value a_felem = RawFelem
Value a_block = RawBlock
Value a_decl = RawDecl
Value a_ptag = RawPtag
Value a_proc = RawProc
Value a_param = RawParam
Value an_ips = RawIps
Value a_ps = RawPs
Value a_spec = RawSpec
Value a_citem = RawCitem
Value an_aitem = RawAitem
Value a_comm = RawComm
Value a_raw = Raw
Value (a_from s t) = Value s → Value t

-- What stands behind a token that opens a level, up to the level's end.
pub data Rule : Sort → Type 0 where
  -- expr ")"
  bracketed : Rule an_expr
  -- expr "]"
  subscript : Rule an_expr
  -- expr [ "," expr ] "]"
  indexed : Rule (a_pair an_expr (an_option an_expr))
  -- expr { "," expr } ")"
  called : Rule (a_list an_expr)
  -- ref ")"
  located : Rule a_ref
  -- cond THEN expr ELSE expr
  conditional : Rule (a_pair a_cond (a_pair an_expr an_expr))
  -- cond THEN { name ":" } simple [ ELSE stmt ]; the flag is true inside a procedure's body, where none is declared
  if_rest : Bool → Rule (a_pair a_cond (a_pair (a_pair (a_list a_name) a_simple) (an_option a_stmt)))
  -- stmt
  else_rest : Bool → Rule a_stmt
  -- ref ":=" felem { "," felem } DO stmt
  for_rest : Bool → Rule (a_pair a_ref (a_pair (a_list a_felem) a_stmt))
  -- { decl ";" } stmt { ";" stmt } END [ name ]
  block_rest : Bool → Rule (a_pair (a_list a_decl) (a_list a_stmt))
  -- stmt
  proc_body : Rule a_stmt

-- Rules that lead back to themselves and open no level. Each begins with a token before it does.
pub data Again : Sort → Type 0 where
  -- stmt: labels, and a statement
  labelled : Bool → Again a_stmt
  -- labels, and a statement that is no IF and no FOR
  labelled_simple : Bool → Again (a_pair (a_list a_name) a_simple)
  -- what may follow an element of a table
  more_elems : Again (a_pair (a_list an_elem) (an_option a_presets))
  -- places of a preset list
  places : Again (a_from a_position (a_list a_place))

infixr 30 ◌·◌
infix 20 ◌⇒◌
infixr 10 ◌∣◌
pub data Grammar : Sort → Type 0 where
  one : TokenKind → Grammar a_token
  none : {s : Sort} → Value s → Grammar s
  -- one text behind another
  ◌·◌ : {s t : Sort} → Grammar s → Grammar t → Grammar (a_pair s t)
  -- one text or another
  ◌∣◌ : {s : Sort} → Grammar s → Grammar s → Grammar s
  many : {s : Sort} → Grammar s → Grammar (a_list s)
  -- a text and what it stands for
  ◌⇒◌ : {s t : Sort} → Grammar s → (Value s → Value t) → Grammar t
  -- a token that opens a level, and the text inside it
  opens : {s : Sort} → TokenKind → Rule s → Grammar (a_pair a_token s)
  -- a text of a rule that opens no level
  again : {s : Sort} → Again s → Grammar s

abbrev pub member : TokenKind → List TokenKind → Bool
member k [] = false
member k (l ∷ ls) = same k l || member k ls

abbrev pub disjoint : List TokenKind → List TokenKind → Bool
disjoint [] ls = true
disjoint (k ∷ ks) ls = not (member k ls) && disjoint ks ls

abbrev pub within : List TokenKind → List TokenKind → Bool
within [] ls = true
within (k ∷ ks) ls = member k ls && within ks ls

-- Whether the first token is of one of the kinds.
abbrev pub starts : List Item → List TokenKind → Bool
starts [] ks = false
starts (t ∷ ts) ks = member t.kind ks

-- All of these may be empty.
abbrev pub unnamed_first : List TokenKind
unnamed_first =
    kinds.Symbol symbols.OpenSquare ∷ kinds.Word words.Bits ∷ kinds.Word words.Goto ∷ kinds.Word words.Answer ∷ kinds.Word words.Begin ∷ []

abbrev pub again_first : {s : Sort} → Again s → List TokenKind
again_first (labelled p) = kinds.Name ∷ kinds.Word words.If ∷ kinds.Word words.For ∷ unnamed_first
again_first (labelled_simple p) = kinds.Name ∷ unnamed_first
again_first more_elems = kinds.Symbol symbols.Semicolon ∷ kinds.Word words.Preset ∷ []
again_first places = kinds.Symbol symbols.Open ∷ kinds.Symbol symbols.Plus ∷ kinds.Symbol symbols.Minus
    ∷ kinds.Number ∷ kinds.Word words.Octal ∷ kinds.Literal ∷ kinds.Symbol symbols.Comma ∷ []

abbrev pub null : {s : Sort} → Grammar s → Bool
null (one k) = false
null (none v) = true
null (g · h) = null g && null h
null (g ∣ h) = null g || null h
null (many g) = true
null (g ⇒ f) = null g
null (opens k r) = false
null (again a) = true

abbrev pub first : {s : Sort} → Grammar s → List TokenKind
first (one k) = k ∷ []
first (none v) = []
first (g · h) = first g ++ cond (null g) (first h) []
first (g ∣ h) = first g ++ first h
first (many g) = first g
first (g ⇒ f) = first g
first (opens k r) = k ∷ []
first (again a) = again_first a

-- The kinds that carry on an expression.
abbrev pub expr_next : List TokenKind
expr_next =
    kinds.Symbol symbols.Plus ∷ kinds.Symbol symbols.Minus ∷ kinds.Symbol symbols.Times ∷ kinds.Symbol symbols.Divide
    ∷ kinds.Word words.Differ ∷ kinds.Word words.Union ∷ kinds.Word words.Mask
    ∷ kinds.Symbol symbols.OpenSquare ∷ kinds.Symbol symbols.Open ∷ []

-- The kinds that carry on a statement.
abbrev pub simple_next : List TokenKind
simple_next =
    kinds.Name ∷ kinds.Symbol symbols.Colon ∷ kinds.Symbol symbols.Assign ∷ kinds.Symbol symbols.OpenSquare ∷ kinds.Symbol symbols.Open
    ∷ unnamed_first ++ expr_next

abbrev pub stmt_next : List TokenKind
stmt_next = kinds.Word words.If ∷ kinds.Word words.For ∷ kinds.Word words.Else ∷ simple_next

abbrev pub again_next : {s : Sort} → Again s → List TokenKind
again_next (labelled p) = stmt_next
again_next (labelled_simple p) = simple_next
again_next more_elems = kinds.Symbol symbols.Semicolon ∷ kinds.Word words.Preset ∷ kinds.Name ∷ again_first places
again_next places = again_first places

-- The kinds that carry on a text of a rule.
abbrev pub rule_next : {s : Sort} → Rule s → List TokenKind
rule_next bracketed = []
rule_next subscript = []
rule_next indexed = []
rule_next called = []
rule_next located = []
rule_next conditional = expr_next
rule_next (if_rest p) = stmt_next
rule_next (else_rest p) = stmt_next
rule_next (for_rest p) = stmt_next
rule_next (block_rest p) = kinds.Name ∷ []
rule_next proc_body = stmt_next

-- The kinds that carry on a text of the grammar.
abbrev pub next : {s : Sort} → Grammar s → List TokenKind
next (one k) = []
next (none v) = []
next (g · h) = next h ++ cond (null h) (next g ++ first h) []
next (g ∣ h) = next g ++ (next h ++ cond (null h) (first g) [])
next (many g) = next g ++ first g
next (g ⇒ f) = next g
next (opens k r) = rule_next r
next (again a) = again_next a

-- One token of look-ahead tells what to read.
abbrev pub predictive : {s : Sort} → Grammar s → Bool
predictive (one k) = true
predictive (none v) = true
predictive (g · h) = predictive g && (predictive h && disjoint (next g) (first h))
predictive (g ∣ h) = predictive g && (predictive h && (not (null g) && disjoint (first g) (first h)))
predictive (many g) = predictive g && (not (null g) && disjoint (next g) (first g))
predictive (g ⇒ f) = predictive g
predictive (opens k r) = true
predictive (again a) = true

-- Before a rule leads back, it takes a token.
abbrev pub guarded : {s : Sort} → Grammar s → Bool
guarded (one k) = true
guarded (none v) = true
guarded (g · h) = guarded g && (not (null g) || guarded h)
guarded (g ∣ h) = guarded g && guarded h
guarded (many g) = guarded g
guarded (g ⇒ f) = guarded g
guarded (opens k r) = true
guarded (again a) = false
