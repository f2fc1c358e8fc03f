-- The rules with their alternatives written out, where the table that is read takes out what alternatives begin with.
use Rattle.std.specs.Prelude.{Bool, true, false, List, [], ◌∷◌, ◌++◌, Option, Some, None, is_some}
use Rattle.cw_lex.specs.declared.token.TokenKind.TheVariants as kinds
use Rattle.cw_lex.specs.declared.token.Symbol.TheVariants as symbols
use Rattle.cw_lex.specs.declared.token.Word.TheVariants as words
use Rattle.cw_tree.specs.declared.items.RawPlace.TheVariants as place_tree
use Rattle.cw_tree.specs.declared.items.RawElem.TheVariants as elem_tree
use Rattle.cw_tree.specs.declared.items.RawData.TheVariants as data_tree
use Rattle.cw_tree.specs.declared.leaf.RawName.{RawName}
use Rattle.cw_tree.specs.declared.expression.RawExpr.{RawExpr}
use Rattle.cw_tree.specs.declared.expression.RawRef.TheVariants as ref_tree
use Rattle.cw_tree.specs.declared.statement.RawSimple.{RawSimple}
use Rattle.cw_tree.specs.declared.statement.RawSimple.TheVariants as simple_tree
use Rattle.cw_tree.specs.declared.statement.RawForm.TheVariants as form_tree
use Rattle.cw_tree.specs.declared.statement.RawDecl.TheVariants as decl_tree
use Rattle.cw_tree.specs.declared.statement.RawParam.TheVariants as param_tree
use Rattle.cw_tree.specs.declared.segment.RawIps.TheVariants as ips_tree
use Rattle.cw_tree.specs.declared.segment.RawPs.TheVariants as ps_tree
use Rattle.cw_tree.specs.declared.segment.RawCitem.TheVariants as citem_tree
use Rattle.cw_tree.specs.declared.segment.RawAitem.TheVariants as aitem_tree
use Rattle.cw_grammar.specs.Tokens.{Item, position}
use Rattle.cw_grammar.specs.Grammar.{a_pair, a_list, an_option, a_from, a_position, a_name, a_presets, an_int, a_place, an_elem, a_data, an_ips}
use Rattle.cw_grammar.specs.Grammar.{a_ps, a_spec, a_citem, an_aitem, a_param, a_decl, a_stmt, a_form, a_simple, Grammar, one, none, ◌·◌, ◌∣◌}
use Rattle.cw_grammar.specs.Grammar.{many, ◌⇒◌, opens, subscript, indexed, called, if_rest, for_rest, block_rest, proc_body}
use Rattle.cw_grammar.specs.Rules.{word, symbol, ◌*>◌, ◌<*◌, optional, commas, name, number, octal, int, sign, sint}
use Rattle.cw_grammar.specs.Rules.{number_type, size, bits, reference, expr, raw_literal, indexed_name}
use Rattle.cw_grammar.specs.Statements.{semicolons, separated, in_round, in_square, listed, bounds, group, table, table_body as read_body, preset}
use Rattle.cw_grammar.specs.Statements.{place, assigned, overlay, ptag, ips_list, ips as item_specification, elem as element, ps as parameter_specification}
use Rattle.cw_grammar.specs.Statements.{param as parameter, table_data, proc_tree, jump, block_tree, if_tree, for_tree, stmt_tree}

-- [ "+" | "-" ] number | [ "+" | "-" ] octal | [ "+" | "-" ] literal
abbrev pub preset_value : Grammar a_place
preset_value =
    optional sign · number ⇒ (λ x. place_tree.Number x.0 x.1)
    ∣ optional sign · octal ⇒ (λ x. place_tree.Octal x.0 x.1)
    ∣ optional sign · one kinds.Literal ⇒ (λ x. place_tree.Literal x.0 (raw_literal x.1))

-- elem = name type int | name [ UNSIGNED ] "(" int "," sint ")" int "," int
abbrev pub elem : Grammar an_elem
elem =
    name · number_type · int ⇒ (λ x. elem_tree.Word x.0 x.1.0 x.1.1)
    ∣ name · optional (word words.Unsigned) · in_round (int · (symbol symbols.Comma *> sint)) · int · (symbol symbols.Comma *> int)
    ⇒ (λ x. elem_tree.Part x.0 (is_some x.1.0) x.1.1.0.0 x.1.1.0.1 x.1.1.1.0 x.1.1.1.1)

-- data = type name { "," name } [ ":=" presets ] | type ARRAY group { "," group } [ ":=" presets ]
--      | TABLE name size "[" [ elem { ";" elem } ] [ [ ";" ] PRESET presets ] "]" [ ":=" presets ]
abbrev pub item_data : Grammar a_data
item_data =
    number_type · commas name · optional assigned ⇒ (λ x. data_tree.Singles x.0 x.1.0 x.1.1)
    ∣ number_type · (word words.Array *> commas group · optional assigned) ⇒ (λ x. data_tree.Arrays x.0 x.1.0 x.1.1)
    ∣ word words.Table · name · size · in_square read_body · optional assigned ⇒ (λ x. table_data x.0 x.1.0 x.1.1.0 x.1.1.1.0 x.1.1.1.1)

-- ips = VALUE type | LOCATION type | type ARRAY | TABLE "[" int "," int "]" | LABEL | SWITCH
abbrev pub ips : Grammar an_ips
ips =
    word words.Value · number_type ⇒ (λ x. ips_tree.Value (position x.0) x.1)
    ∣ word words.Location · number_type ⇒ (λ x. ips_tree.Location (position x.0) x.1)
    ∣ number_type <* word words.Array ⇒ (λ t. ips_tree.Array t)
    ∣ word words.Table · size ⇒ (λ x. ips_tree.Table (position x.0) x.1)
    ∣ word words.Label ⇒ (λ t. ips_tree.Label (position t))
    ∣ word words.Switch ⇒ (λ t. ips_tree.Switch (position t))

-- ps = ips | [ type ] PROCEDURE [ "(" ips { ( "," | ";" ) ips } ")" ]
abbrev pub ps : Grammar a_ps
ps =
    item_specification ⇒ (λ x. ps_tree.Plain x)
    ∣ word words.Procedure · ips_list ⇒ (λ x. ps_tree.Proc None (position x.0) x.1)
    ∣ number_type · word words.Procedure · ips_list ⇒ (λ x. ps_tree.Proc (Some x.0) (position x.1.0) x.1.1)

-- spec = [ type ] ptag name [ "(" ps { ( "," | ";" ) ps } ")" ]
abbrev pub spec : Grammar a_spec
spec =
    ptag · name · listed (in_round (separated parameter_specification)) ⇒ (λ x. record { answer = None; tag = x.0; name = x.1.0; params = x.1.1 })
    ∣ number_type · ptag · name · listed (in_round (separated parameter_specification)) ⇒
    (λ x. record { answer = Some x.0; tag = x.1.0; name = x.1.1.0; params = x.1.1.1 })

-- citem = data | OVERLAY base WITH data | LABEL name { "," name } | SWITCH name { "," name } | spec
abbrev pub citem : Grammar a_citem
citem =
    item_data ⇒ (λ d. citem_tree.Data d)
    ∣ overlay ⇒ (λ x. citem_tree.Overlay (position x.0) x.1.0 x.1.1)
    ∣ word words.Label · commas name ⇒ (λ x. citem_tree.Label (position x.0) x.1)
    ∣ word words.Switch · commas name ⇒ (λ x. citem_tree.Switch (position x.0) x.1)
    ∣ spec ⇒ (λ x. citem_tree.Spec x)

-- in aitem: type name | type ARRAY name "[" bounds "]" | TABLE name size "[" [ elem { ";" elem } ] "]"
abbrev pub unplaced_aitem : Grammar (a_from an_int an_aitem)
unplaced_aitem =
    number_type · name ⇒ (λ x a. aitem_tree.Single x.0 x.1 a)
    ∣ number_type · (word words.Array *> name · in_square bounds) ⇒ (λ x a. aitem_tree.Array x.0 x.1.0 x.1.1 a)
    ∣ table ⇒ (λ t a. aitem_tree.Table t a)

-- param = VALUE type name { "," name } | LOCATION type name { "," name } | type ARRAY name { "," name } | TABLE name size "[" [ elem { ";" elem } ] "]"
--       | LABEL name { "," name } | SWITCH name { "," name } | [ type ] PROCEDURE name [ "(" ips { ( "," | ";" ) ips } ")" ]
abbrev pub param : Grammar a_param
param =
    word words.Value · number_type · commas name ⇒ (λ x. param_tree.Value (position x.0) x.1.0 x.1.1)
    ∣ word words.Location · number_type · commas name ⇒ (λ x. param_tree.Location (position x.0) x.1.0 x.1.1)
    ∣ number_type · (word words.Array *> commas name) ⇒ (λ x. param_tree.Array x.0 x.1)
    ∣ table ⇒ (λ t. param_tree.Table t)
    ∣ word words.Label · commas name ⇒ (λ x. param_tree.Label (position x.0) x.1)
    ∣ word words.Switch · commas name ⇒ (λ x. param_tree.Switch (position x.0) x.1)
    ∣ word words.Procedure · name · ips_list ⇒ (λ x. param_tree.Proc None (position x.0) x.1.0 x.1.1)
    ∣ number_type · word words.Procedure · name · ips_list ⇒ (λ x. param_tree.Proc (Some x.0) (position x.1.0) x.1.1.0 x.1.1.1)

-- proc = [ type ] ptag name [ "(" param { ";" param } ")" ] ";" stmt
abbrev pub proc : Grammar a_decl
proc =
    ptag · name · listed (in_round (semicolons parameter)) · opens (kinds.Symbol symbols.Semicolon) proc_body
    ⇒ (λ x. decl_tree.Proc (proc_tree None x.0 x.1.0 x.1.1.0 x.1.1.1.1))
    ∣ number_type · ptag · name · listed (in_round (semicolons parameter)) · opens (kinds.Symbol symbols.Semicolon) proc_body
    ⇒ (λ x. decl_tree.Proc (proc_tree (Some x.0) x.1.0 x.1.1.0 x.1.1.1.0 x.1.1.1.1.1))

-- data | OVERLAY base WITH data | SWITCH name ":=" name { "," name }
abbrev pub item_decl : Grammar a_decl
item_decl =
    item_data ⇒ (λ d. decl_tree.Data d)
    ∣ overlay ⇒ (λ x. decl_tree.Overlay (position x.0) x.1.0 x.1.1)
    ∣ word words.Switch · name · (symbol symbols.Assign *> commas name) ⇒ (λ x. decl_tree.Switch (position x.0) x.1.0 x.1.1)

-- decl = data | OVERLAY base WITH data | SWITCH name ":=" name { "," name } | proc, the last outside procedures' bodies
abbrev pub decl : Bool → Grammar a_decl
decl true = item_decl
decl false = item_decl ∣ proc

-- ---- statements

abbrev pub call : RawName → Option (Item × List RawExpr) → RawSimple
call n None = simple_tree.Call n []
call n (Some x) = simple_tree.Call n x.1

-- simple = [ ref ":=" expr | BITS size ref ":=" expr | GOTO name [ "[" expr "]" ] | name [ "(" expr { "," expr } ")" ] | ANSWER expr | block ];
-- the three alternatives of ref are written out before ":="
abbrev pub simple : Bool → Grammar a_simple
simple p =
    name · (symbol symbols.Assign *> expr) ⇒ (λ x. simple_tree.Assign (ref_tree.Name x.0) x.1)
    ∣ name · opens (kinds.Symbol symbols.OpenSquare) indexed · (symbol symbols.Assign *> expr) ⇒
    (λ x. simple_tree.Assign (indexed_name x.0 x.1.0.1.0 x.1.0.1.1) x.1.1)
    ∣ opens (kinds.Symbol symbols.OpenSquare) subscript · (symbol symbols.Assign *> expr) ⇒ (λ x. simple_tree.Assign (ref_tree.Bare (position x.0.0) x.0.1) x.1)
    ∣ bits · reference · (symbol symbols.Assign *> expr) ⇒ (λ x. simple_tree.AssignBits x.0 x.1.0 x.1.1)
    ∣ word words.Goto · name · optional (opens (kinds.Symbol symbols.OpenSquare) subscript) ⇒ (λ x. jump x.0 x.1.0 x.1.1)
    ∣ name · optional (opens (kinds.Symbol symbols.Open) called) ⇒ (λ x. call x.0 x.1)
    ∣ word words.Answer · expr ⇒ (λ x. simple_tree.Answer (position x.0) x.1)
    ∣ opens (kinds.Word words.Begin) (block_rest p) ⇒ (λ x. simple_tree.Block (block_tree x.0 x.1.0 x.1.1))
    ∣ none simple_tree.Empty

-- simple | IF cond THEN { name ":" } simple [ ELSE stmt ] | FOR ref ":=" felem { "," felem } DO stmt
abbrev pub form : Bool → Grammar a_form
form p =
    simple p ⇒ (λ s. form_tree.Simple s)
    ∣ opens (kinds.Word words.If) (if_rest p) ⇒ (λ x. if_tree x.0 x.1)
    ∣ opens (kinds.Word words.For) (for_rest p) ⇒ (λ x. for_tree x.0 x.1)

-- stmt = { name ":" } ( simple | IF cond THEN { name ":" } simple [ ELSE stmt ] | FOR ref ":=" felem { "," felem } DO stmt )
abbrev pub stmt : Bool → Grammar a_stmt
stmt p = many (name <* symbol symbols.Colon) · form p ⇒ (λ x. stmt_tree x.0 x.1)

-- behind THEN: { name ":" } simple
abbrev pub labelled_simple : Bool → Grammar (a_pair (a_list a_name) a_simple)
labelled_simple p = many (name <* symbol symbols.Colon) · simple p

-- ---- tables

-- [ [ ";" ] PRESET presets ]
abbrev pub table_presets : Grammar (an_option a_presets)
table_presets = optional (optional (symbol symbols.Semicolon) · preset ⇒ (λ x. x.1))

-- [ elem { ";" elem } ] [ [ ";" ] PRESET presets ]
abbrev pub table_body : Grammar (a_pair (a_list an_elem) (an_option a_presets))
table_body = listed (semicolons element) · table_presets

-- ---- presets

abbrev pub joined : {A : Type 0} → List (List A) → List A
joined [] = []
joined (xs ∷ xss) = xs ++ joined xss

-- "," place
abbrev pub further_place : Grammar (a_list a_place)
further_place = symbol symbols.Comma · place ⇒ (λ x. x.1 (position x.0))

-- presets = place { "," place }, where a void place has the position of the token before it
abbrev pub presets : Grammar (a_from a_position (a_list a_place))
presets = place · many further_place ⇒ (λ x before. x.0 before ++ joined x.1)
