-- The grammar of declarations, statements and segments. Official Definition of CORAL 66, "Segment", "Communicators",
-- "Declarations" and "Statements"; the forms of preset lists are this project's profile.
use Rattle.std.specs.Prelude.{ℕ, Bool, true, false, List, [], ◌∷◌, ◌++◌, Option, Some, None, is_some}
use Rattle.cw_lex.specs.declared.token.TokenKind.TheVariants as kinds
use Rattle.cw_lex.specs.declared.token.Symbol.{Symbol}
use Rattle.cw_lex.specs.declared.token.Symbol.TheVariants as symbols
use Rattle.cw_lex.specs.declared.token.Word.{Word}
use Rattle.cw_lex.specs.declared.token.Word.TheVariants as words
use Rattle.cw_tree.specs.declared.leaf.Position.{Position}
use Rattle.cw_tree.specs.declared.leaf.RawName.{RawName}
use Rattle.cw_tree.specs.declared.leaf.RawInt.{RawInt}
use Rattle.cw_tree.specs.declared.leaf.RawSint.{RawSint}
use Rattle.cw_tree.specs.declared.leaf.RawSize.{RawSize}
use Rattle.cw_tree.specs.declared.leaf.RawType.{RawType}
use Rattle.cw_tree.specs.declared.leaf.RawSign.{RawSign}
use Rattle.cw_tree.specs.declared.expression.RawExpr.{RawExpr}
use Rattle.cw_tree.specs.declared.expression.RawCond.{RawCond}
use Rattle.cw_tree.specs.declared.expression.RawRef.{RawRef}
use Rattle.cw_tree.specs.declared.expression.RawRef.TheVariants as ref_tree
use Rattle.cw_tree.specs.declared.expression.RawBits.{RawBits}
use Rattle.cw_tree.specs.declared.items.RawPlace.{RawPlace}
use Rattle.cw_tree.specs.declared.items.RawPlace.TheVariants as place_tree
use Rattle.cw_tree.specs.declared.items.RawPresets.{RawPresets}
use Rattle.cw_tree.specs.declared.items.RawRange.{RawRange}
use Rattle.cw_tree.specs.declared.items.RawBounds.{RawBounds}
use Rattle.cw_tree.specs.declared.items.RawGroup.{RawGroup}
use Rattle.cw_tree.specs.declared.items.RawElem.{RawElem}
use Rattle.cw_tree.specs.declared.items.RawElem.TheVariants as elem_tree
use Rattle.cw_tree.specs.declared.items.RawTable.{RawTable}
use Rattle.cw_tree.specs.declared.items.RawData.{RawData}
use Rattle.cw_tree.specs.declared.items.RawData.TheVariants as data_tree
use Rattle.cw_tree.specs.declared.items.RawBase.{RawBase}
use Rattle.cw_tree.specs.declared.items.RawBase.TheVariants as base_tree
use Rattle.cw_tree.specs.declared.statement.RawStmt.{RawStmt, roll-RawStmt, out-RawStmt}
use Rattle.cw_tree.specs.declared.statement.RawForm.{RawForm}
use Rattle.cw_tree.specs.declared.statement.RawForm.TheVariants as form_tree
use Rattle.cw_tree.specs.declared.statement.RawSimple.{RawSimple}
use Rattle.cw_tree.specs.declared.statement.RawSimple.TheVariants as simple_tree
use Rattle.cw_tree.specs.declared.statement.RawFelem.{RawFelem}
use Rattle.cw_tree.specs.declared.statement.RawFelem.TheVariants as felem_tree
use Rattle.cw_tree.specs.declared.statement.RawBlock.{RawBlock, roll-RawBlock, out-RawBlock}
use Rattle.cw_tree.specs.declared.statement.RawDecl.{RawDecl}
use Rattle.cw_tree.specs.declared.statement.RawDecl.TheVariants as decl_tree
use Rattle.cw_tree.specs.declared.statement.RawPtag.{RawPtag}
use Rattle.cw_tree.specs.declared.statement.RawPtag.TheVariants as ptag_tree
use Rattle.cw_tree.specs.declared.statement.RawProc.{RawProc, roll-RawProc, out-RawProc}
use Rattle.cw_tree.specs.declared.statement.RawParam.{RawParam}
use Rattle.cw_tree.specs.declared.statement.RawParam.TheVariants as param_tree
use Rattle.cw_tree.specs.declared.segment.RawIps.{RawIps}
use Rattle.cw_tree.specs.declared.segment.RawIps.TheVariants as ips_tree
use Rattle.cw_tree.specs.declared.segment.RawPs.{RawPs}
use Rattle.cw_tree.specs.declared.segment.RawPs.TheVariants as ps_tree
use Rattle.cw_tree.specs.declared.segment.RawSpec.{RawSpec}
use Rattle.cw_tree.specs.declared.segment.RawCitem.{RawCitem}
use Rattle.cw_tree.specs.declared.segment.RawCitem.TheVariants as citem_tree
use Rattle.cw_tree.specs.declared.segment.RawAitem.{RawAitem}
use Rattle.cw_tree.specs.declared.segment.RawAitem.TheVariants as aitem_tree
use Rattle.cw_tree.specs.declared.segment.RawComm.{RawComm}
use Rattle.cw_tree.specs.declared.segment.RawComm.TheVariants as comm_tree
use Rattle.cw_tree.specs.declared.segment.Raw.{Raw}
use Rattle.cw_grammar.specs.Tokens.{Item, position}
use Rattle.cw_grammar.specs.Grammar.{Sort, a_token, a_pair, a_list, an_option, an_either, a_position, a_name, a_number, an_octal, a_literal, an_int, a_sint, a_size}
use Rattle.cw_grammar.specs.Grammar.{a_type, a_sign, a_factor_sign, a_compare_sign, a_bits, an_expr, a_cond, a_cand, a_cmp, a_sum, a_term, a_differ, a_union, a_mask}
use Rattle.cw_grammar.specs.Grammar.{a_prim, a_primary, a_ref, a_range, a_bounds, a_group, an_elem, a_place, a_presets, a_table, a_data, a_base, a_stmt, a_form, a_simple}
use Rattle.cw_grammar.specs.Grammar.{a_felem, a_block, a_decl, a_ptag, a_proc, a_param, an_ips, a_ps, a_spec, a_citem, an_aitem, a_comm, a_raw, a_from, Value, Rule}
use Rattle.cw_grammar.specs.Grammar.{bracketed, subscript, indexed, called, located, conditional, if_rest, else_rest, for_rest, block_rest, proc_body, Again, labelled}
use Rattle.cw_grammar.specs.Grammar.{labelled_simple, more_elems, places, Grammar, one, none, ◌·◌, ◌∣◌, many, ◌⇒◌, opens, again}
use Rattle.cw_grammar.specs.Rules.{word, symbol, ◌*>◌, ◌<*◌, optional, commas, name, number, octal, int, sign, sint}
use Rattle.cw_grammar.specs.Rules.{number_type, size, bits, reference, condition, expr, raw_literal, indexed_name}

-- ---- forms

-- g { ";" g }
abbrev pub semicolons : {s : Sort} → Grammar s → Grammar (a_list s)
semicolons g = g · many (symbol symbols.Semicolon *> g) ⇒ (λ x. x.0 ∷ x.1)

-- "," | ";"
abbrev pub separator : Grammar a_token
separator = symbol symbols.Comma ∣ symbol symbols.Semicolon

-- g { ( "," | ";" ) g }
abbrev pub separated : {s : Sort} → Grammar s → Grammar (a_list s)
separated g = g · many (separator *> g) ⇒ (λ x. x.0 ∷ x.1)

-- "(" g ")"
abbrev pub in_round : {s : Sort} → Grammar s → Grammar s
in_round g = symbol symbols.Open *> g <* symbol symbols.Close

-- "[" g "]"
abbrev pub in_square : {s : Sort} → Grammar s → Grammar s
in_square g = symbol symbols.OpenSquare *> g <* symbol symbols.CloseSquare

-- [ g ], where a list without items stands for what is left out
abbrev pub listed : {s : Sort} → Grammar (a_list s) → Grammar (a_list s)
listed g = g ∣ none []

-- what begins with a text of g
abbrev pub from : {s t : Sort} → Grammar s → Grammar (a_from s t) → Grammar t
from g h = g · h ⇒ (λ x. x.1 x.0)

-- ---- presets

-- [ "+" | "-" ] ( number | octal | literal )
unfoldable pub preset_value : Grammar a_place
preset_value =
    from (optional sign) (
    number ⇒ (λ n s. place_tree.Number s n)
    ∣ octal ⇒ (λ n s. place_tree.Octal s n)
    ∣ one kinds.Literal ⇒ (λ t s. place_tree.Literal s (raw_literal t)))

-- place = [ "(" presets ")" | [ "+" | "-" ] ( number | octal | literal ) ]; a void one has the position of the token before it
unfoldable pub place : Grammar (a_from a_position (a_list a_place))
place =
    symbol symbols.Open · again places · symbol symbols.Close ⇒ (λ x before. x.1.0 (position x.0))
    ∣ preset_value ⇒ (λ x before. x ∷ [])
    ∣ none (λ before. place_tree.Void before ∷ [])

-- { "," place }
unfoldable pub further_places : Grammar (a_list a_place)
further_places = symbol symbols.Comma · again places ⇒ (λ x. x.1 (position x.0)) ∣ none []

-- presets = place { "," place }
unfoldable pub presets : Grammar (a_from a_position (a_list a_place))
presets =
    place · further_places ⇒ (λ x before. x.0 before ++ x.1)

abbrev pub presets_behind : Item → (Position → List RawPlace) → RawPresets
presets_behind t f = record { at = position t; places = f (position t) }

-- ":=" presets
unfoldable pub assigned : Grammar a_presets
assigned = symbol symbols.Assign · again places ⇒ (λ x. presets_behind x.0 x.1)

-- PRESET presets
unfoldable pub preset : Grammar a_presets
preset = word words.Preset · again places ⇒ (λ x. presets_behind x.0 x.1)

-- ---- data

unfoldable pub range : Grammar a_range
range = sint · (symbol symbols.Colon *> sint) ⇒ (λ x. record { lower = x.0; upper = x.1 })

-- bounds = sint ":" sint [ "," sint ":" sint ]
unfoldable pub bounds : Grammar a_bounds
bounds = range · optional (symbol symbols.Comma *> range) ⇒ (λ x. record { first = x.0; second = x.1 })

-- group = name { "," name } "[" bounds "]"
unfoldable pub group : Grammar a_group
group = commas name · in_square bounds ⇒ (λ x. record { names = x.0; bounds = x.1 })

-- elem = name type int | name [ UNSIGNED ] "(" int "," sint ")" int "," int
unfoldable pub elem : Grammar an_elem
elem =
    from name (
    number_type · int ⇒ (λ x n. elem_tree.Word n x.0 x.1)
    ∣ optional (word words.Unsigned) · in_round (int · (symbol symbols.Comma *> sint)) · int · (symbol symbols.Comma *> int)
    ⇒ (λ x n. elem_tree.Part n (is_some x.0) x.1.0.0 x.1.0.1 x.1.1.0 x.1.1.1))

-- TABLE name size "[" [ elem { ";" elem } ] "]"
unfoldable pub table : Grammar a_table
table =
    word words.Table · name · size · in_square (listed (semicolons elem)) ⇒ (λ x. record { at = position x.0; name = x.1.0; size = x.1.1.0; elems = x.1.1.1 })

-- behind an element: { ";" elem } [ [ ";" ] PRESET presets ]
unfoldable pub elems_behind : Grammar (a_pair (a_list an_elem) (an_option a_presets))
elems_behind =
    symbol symbols.Semicolon *> (elem · again more_elems ⇒ (λ x. (x.0 ∷ x.1.0, x.1.1)) ∣ preset ⇒ (λ x. ([], Some x)))
    ∣ preset ⇒ (λ x. ([], Some x))
    ∣ none ([], None)

-- [ elem { ";" elem } ] [ [ ";" ] PRESET presets ]
unfoldable pub table_body : Grammar (a_pair (a_list an_elem) (an_option a_presets))
table_body =
    elem · again more_elems ⇒ (λ x. (x.0 ∷ x.1.0, x.1.1))
    ∣ preset ⇒ (λ x. ([], Some x))
    ∣ symbol symbols.Semicolon *> (preset ⇒ (λ x. ([], Some x)))
    ∣ none ([], None)

abbrev pub table_data : Item → RawName → RawSize → List RawElem × Option RawPresets → Option RawPresets → RawData
table_data t n z body behind = data_tree.Table (record { at = position t; name = n; size = z; elems = body.0 }) body.1 behind

unfoldable pub data_table : Grammar a_data
data_table = word words.Table · name · size · in_square table_body · optional assigned ⇒ (λ x. table_data x.0 x.1.0 x.1.1.0 x.1.1.1.0 x.1.1.1.1)

-- name { "," name } [ ":=" presets ]
unfoldable pub singles : Grammar (a_from a_type a_data)
singles = commas name · optional assigned ⇒ (λ x t. data_tree.Singles t x.0 x.1)

-- ARRAY group { "," group } [ ":=" presets ]
unfoldable pub arrays : Grammar (a_from a_type a_data)
arrays = word words.Array *> commas group · optional assigned ⇒ (λ x t. data_tree.Arrays t x.0 x.1)

-- data
unfoldable pub item_data : Grammar a_data
item_data = from number_type (singles ∣ arrays) ∣ data_table

abbrev pub base_of : RawName → Option (RawSint × Option RawSint) → RawBase
base_of n None = base_tree.Name n
base_of n (Some (x, None)) = base_tree.One n x
base_of n (Some (x, Some y)) = base_tree.Two n x y

-- base = name [ "[" sint [ "," sint ] "]" ]
unfoldable pub base : Grammar a_base
base = name · optional (in_square (sint · optional (symbol symbols.Comma *> sint))) ⇒ (λ x. base_of x.0 x.1)

-- OVERLAY base WITH data
unfoldable pub overlay : Grammar (a_pair a_token (a_pair a_base a_data))
overlay = word words.Overlay · base · (word words.With *> item_data)

-- ---- specifications

-- ptag = PROCEDURE | RECURSIVE [ PROCEDURE ]
unfoldable pub ptag : Grammar a_ptag
ptag =
    word words.Procedure ⇒ (λ t. ptag_tree.Procedure (position t))
    ∣ word words.Recursive <* optional (word words.Procedure) ⇒ (λ t. ptag_tree.Recursive (position t))

-- VALUE type | LOCATION type | TABLE "[" int "," int "]" | LABEL | SWITCH
unfoldable pub worded_ips : Grammar an_ips
worded_ips =
    word words.Value · number_type ⇒ (λ x. ips_tree.Value (position x.0) x.1)
    ∣ word words.Location · number_type ⇒ (λ x. ips_tree.Location (position x.0) x.1)
    ∣ word words.Table · size ⇒ (λ x. ips_tree.Table (position x.0) x.1)
    ∣ word words.Label ⇒ (λ t. ips_tree.Label (position t))
    ∣ word words.Switch ⇒ (λ t. ips_tree.Switch (position t))

-- ips
unfoldable pub ips : Grammar an_ips
ips = worded_ips ∣ number_type <* word words.Array ⇒ (λ t. ips_tree.Array t)

-- [ "(" ips { ( "," | ";" ) ips } ")" ]
unfoldable pub ips_list : Grammar (a_list an_ips)
ips_list = listed (in_round (separated ips))

-- PROCEDURE [ "(" ips { ( "," | ";" ) ips } ")" ]
unfoldable pub procedure_ps : Grammar (a_from (an_option a_type) a_ps)
procedure_ps = word words.Procedure · ips_list ⇒ (λ x t. ps_tree.Proc t (position x.0) x.1)

-- ps = ips | [ type ] PROCEDURE [ "(" ips { ( "," | ";" ) ips } ")" ]
unfoldable pub ps : Grammar a_ps
ps =
    from number_type (word words.Array ⇒ (λ x t. ps_tree.Plain (ips_tree.Array t)) ∣ procedure_ps ⇒ (λ f t. f (Some t)))
    ∣ procedure_ps ⇒ (λ f. f None)
    ∣ worded_ips ⇒ (λ x. ps_tree.Plain x)

-- spec = [ type ] ptag name [ "(" ps { ( "," | ";" ) ps } ")" ], behind its type
unfoldable pub spec_behind : Grammar (a_from (an_option a_type) a_spec)
spec_behind = ptag · name · listed (in_round (separated ps)) ⇒ (λ x t. record { answer = t; tag = x.0; name = x.1.0; params = x.1.1 })

-- spec
unfoldable pub spec : Grammar a_spec
spec = from number_type (spec_behind ⇒ (λ f t. f (Some t))) ∣ spec_behind ⇒ (λ f. f None)

-- ---- communicators

-- citem = data | OVERLAY base WITH data | LABEL name { "," name } | SWITCH name { "," name } | spec
unfoldable pub citem : Grammar a_citem
citem =
    from number_type (singles ⇒ (λ f t. citem_tree.Data (f t)) ∣ arrays ⇒ (λ f t. citem_tree.Data (f t)) ∣ spec_behind ⇒ (λ f t. citem_tree.Spec (f (Some t))))
    ∣ data_table ⇒ (λ d. citem_tree.Data d)
    ∣ overlay ⇒ (λ x. citem_tree.Overlay (position x.0) x.1.0 x.1.1)
    ∣ word words.Label · commas name ⇒ (λ x. citem_tree.Label (position x.0) x.1)
    ∣ word words.Switch · commas name ⇒ (λ x. citem_tree.Switch (position x.0) x.1)
    ∣ spec_behind ⇒ (λ f. citem_tree.Spec (f None))

-- name | ARRAY name "[" bounds "]"
unfoldable pub typed_aitem : Grammar (a_from a_type (a_from an_int an_aitem))
typed_aitem =
    name ⇒ (λ n t a. aitem_tree.Single t n a)
    ∣ word words.Array *> name · in_square bounds ⇒ (λ x t a. aitem_tree.Array t x.0 x.1 a)

-- type name | type ARRAY name "[" bounds "]" | TABLE name size "[" [ elem { ";" elem } ] "]"
unfoldable pub unplaced_aitem : Grammar (a_from an_int an_aitem)
unplaced_aitem = from number_type typed_aitem ∣ table ⇒ (λ t a. aitem_tree.Table t a)

-- aitem = ( type name | type ARRAY name "[" bounds "]" | TABLE name size "[" [ elem { ";" elem } ] "]" ) "/" int
unfoldable pub aitem : Grammar an_aitem
aitem = unplaced_aitem · (symbol symbols.Divide *> int) ⇒ (λ x. x.0 x.1)

-- comm = COMMON "(" citem { ";" citem } ")" | LIBRARY "(" spec { ";" spec } ")" | ABSOLUTE "(" aitem { ";" aitem } ")"
unfoldable pub comm : Grammar a_comm
comm =
    word words.Common · in_round (semicolons citem) ⇒ (λ x. comm_tree.Common (position x.0) x.1)
    ∣ word words.Library · in_round (semicolons spec) ⇒ (λ x. comm_tree.Library (position x.0) x.1)
    ∣ word words.Absolute · in_round (semicolons aitem) ⇒ (λ x. comm_tree.Absolute (position x.0) x.1)

-- ---- statements

-- behind a name: ":=" expr | "[" expr [ "," expr ] "]" ":=" expr | "(" expr { "," expr } ")" | nothing
unfoldable pub simple_behind : Grammar (a_from a_name a_simple)
simple_behind =
    symbol symbols.Assign *> expr ⇒ (λ e n. simple_tree.Assign (ref_tree.Name n) e)
    ∣ opens (kinds.Symbol symbols.OpenSquare) indexed · (symbol symbols.Assign *> expr) ⇒ (λ x n. simple_tree.Assign (indexed_name n x.0.1.0 x.0.1.1) x.1)
    ∣ opens (kinds.Symbol symbols.Open) called ⇒ (λ x n. simple_tree.Call n x.1)
    ∣ none (λ n. simple_tree.Call n [])

abbrev pub jump : Item → RawName → Option (Item × RawExpr) → RawSimple
jump t n None = simple_tree.Goto (position t) n
jump t n (Some x) = simple_tree.GotoSwitch (position t) n x.1

abbrev pub block_tree : Item → List RawDecl → List RawStmt → RawBlock
block_tree t ds ss = roll-RawBlock (record { at = position t; decls = ds; stmts = ss })

-- a statement that begins with no name and is no IF and no FOR; the flag is true inside a procedure's body
unfoldable pub unnamed : Bool → Grammar a_simple
unnamed p =
    opens (kinds.Symbol symbols.OpenSquare) subscript · (symbol symbols.Assign *> expr) ⇒ (λ x. simple_tree.Assign (ref_tree.Bare (position x.0.0) x.0.1) x.1)
    ∣ bits · reference · (symbol symbols.Assign *> expr) ⇒ (λ x. simple_tree.AssignBits x.0 x.1.0 x.1.1)
    ∣ word words.Goto · name · optional (opens (kinds.Symbol symbols.OpenSquare) subscript) ⇒ (λ x. jump x.0 x.1.0 x.1.1)
    ∣ word words.Answer · expr ⇒ (λ x. simple_tree.Answer (position x.0) x.1)
    ∣ opens (kinds.Word words.Begin) (block_rest p) ⇒ (λ x. simple_tree.Block (block_tree x.0 x.1.0 x.1.1))
    ∣ none simple_tree.Empty

abbrev pub stmt_tree : List RawName → RawForm → RawStmt
stmt_tree ns f = roll-RawStmt (record { labels = ns; form = f })

abbrev pub simple_stmt : RawSimple → RawStmt
simple_stmt s = stmt_tree [] (form_tree.Simple s)

abbrev pub with_label : RawName → RawStmt → RawStmt
with_label n s = stmt_tree (n ∷ (out-RawStmt s).labels) (out-RawStmt s).form

-- { name ":" } simple
unfoldable pub simple : Bool → Grammar (a_pair (a_list a_name) a_simple)
simple p =
    from name (symbol symbols.Colon *> again (labelled_simple p) ⇒ (λ x n. (n ∷ x.0, x.1)) ∣ simple_behind ⇒ (λ f n. ([], f n)))
    ∣ unnamed p ⇒ (λ s. ([], s))

abbrev pub if_tree : Item → RawCond × ((List RawName × RawSimple) × Option RawStmt) → RawForm
if_tree t x = form_tree.If (position t) x.0 x.1.0.0 x.1.0.1 x.1.1

abbrev pub for_tree : Item → RawRef × (List RawFelem × RawStmt) → RawForm
for_tree t x = form_tree.For (position t) x.0 x.1.0 x.1.1

-- stmt = { name ":" } ( simple | IF cond THEN { name ":" } simple [ ELSE stmt ] | FOR ref ":=" felem { "," felem } DO stmt )
unfoldable pub stmt : Bool → Grammar a_stmt
stmt p =
    from name (symbol symbols.Colon *> again (labelled p) ⇒ (λ s n. with_label n s) ∣ simple_behind ⇒ (λ f n. simple_stmt (f n)))
    ∣ opens (kinds.Word words.If) (if_rest p) ⇒ (λ x. stmt_tree [] (if_tree x.0 x.1))
    ∣ opens (kinds.Word words.For) (for_rest p) ⇒ (λ x. stmt_tree [] (for_tree x.0 x.1))
    ∣ unnamed p ⇒ (λ s. simple_stmt s)

-- felem = expr [ WHILE cond | STEP expr UNTIL expr ]
unfoldable pub felem : Grammar a_felem
felem =
    from expr (
    word words.While *> condition ⇒ (λ c e. felem_tree.While e c)
    ∣ word words.Step *> expr · (word words.Until *> expr) ⇒ (λ x e. felem_tree.Step e x.0 x.1)
    ∣ none (λ e. felem_tree.One e))

-- ---- procedures and blocks

-- PROCEDURE name [ "(" ips { ( "," | ";" ) ips } ")" ]
unfoldable pub procedure_param : Grammar (a_from (an_option a_type) a_param)
procedure_param = word words.Procedure · name · ips_list ⇒ (λ x t. param_tree.Proc t (position x.0) x.1.0 x.1.1)

-- param = VALUE type name { "," name } | LOCATION type name { "," name } | type ARRAY name { "," name } | TABLE name size "[" [ elem { ";" elem } ] "]"
--       | LABEL name { "," name } | SWITCH name { "," name } | [ type ] PROCEDURE name [ "(" ips { ( "," | ";" ) ips } ")" ]
unfoldable pub param : Grammar a_param
param =
    from number_type (word words.Array *> commas name ⇒ (λ ns t. param_tree.Array t ns) ∣ procedure_param ⇒ (λ f t. f (Some t)))
    ∣ procedure_param ⇒ (λ f. f None)
    ∣ word words.Value · number_type · commas name ⇒ (λ x. param_tree.Value (position x.0) x.1.0 x.1.1)
    ∣ word words.Location · number_type · commas name ⇒ (λ x. param_tree.Location (position x.0) x.1.0 x.1.1)
    ∣ table ⇒ (λ t. param_tree.Table t)
    ∣ word words.Label · commas name ⇒ (λ x. param_tree.Label (position x.0) x.1)
    ∣ word words.Switch · commas name ⇒ (λ x. param_tree.Switch (position x.0) x.1)

abbrev pub proc_tree : Option RawType → RawPtag → RawName → List RawParam → RawStmt → RawProc
proc_tree t tag n ps s = roll-RawProc (record { answer = t; tag = tag; name = n; params = ps; body = s })

-- proc = [ type ] ptag name [ "(" param { ";" param } ")" ] ";" stmt, behind its type
unfoldable pub proc_behind : Grammar (a_from (an_option a_type) a_decl)
proc_behind =
    ptag · name · listed (in_round (semicolons param)) · opens (kinds.Symbol symbols.Semicolon) proc_body
    ⇒ (λ x t. decl_tree.Proc (proc_tree t x.0 x.1.0 x.1.1.0 x.1.1.1.1))

-- TABLE .. | OVERLAY base WITH data | SWITCH name ":=" name { "," name }
unfoldable pub worded_decl : Grammar a_decl
worded_decl =
    data_table ⇒ (λ d. decl_tree.Data d)
    ∣ overlay ⇒ (λ x. decl_tree.Overlay (position x.0) x.1.0 x.1.1)
    ∣ word words.Switch · name · (symbol symbols.Assign *> commas name) ⇒ (λ x. decl_tree.Switch (position x.0) x.1.0 x.1.1)

-- decl = data | OVERLAY base WITH data | SWITCH name ":=" name { "," name } | proc, the last outside procedures' bodies
unfoldable pub decl : Bool → Grammar a_decl
decl true = from number_type (singles ⇒ (λ f t. decl_tree.Data (f t)) ∣ arrays ⇒ (λ f t. decl_tree.Data (f t))) ∣ worded_decl
decl false =
    from number_type (singles ⇒ (λ f t. decl_tree.Data (f t)) ∣ arrays ⇒ (λ f t. decl_tree.Data (f t)) ∣ proc_behind ⇒ (λ f t. f (Some t)))
    ∣ worded_decl
    ∣ proc_behind ⇒ (λ f. f None)

-- ---- texts

abbrev pub raw : List RawComm → RawName → Item × (List RawDecl × List RawStmt) → Item → Raw
raw cs n b finish = record { name = n.name; comms = cs; block = block_tree b.0 b.1.0 b.1.1; tokens = finish.number }

-- text = { comm ";" } SEGMENT name block FINISH
unfoldable pub text : Grammar a_raw
text =
    many (comm <* symbol symbols.Semicolon) · (word words.Segment *> name) · opens (kinds.Word words.Begin) (block_rest false) · word words.Finish
    ⇒ (λ x. raw x.0 x.1.0 x.1.1.0 x.1.1.1)
