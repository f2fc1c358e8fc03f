-- The canonical tokens of data declarations.
use Rattle.std.specs.Prelude.{ℕ, Bool, true, false, List, [], ◌∷◌, ◌++◌, map, Option, Some, None}
use Rattle.cw_lex.specs.declared.token.Symbol.TheVariants as symbols
use Rattle.cw_lex.specs.declared.token.Word.TheVariants as words
use Rattle.cw_tree.specs.declared.leaf.RawName.{RawName}
use Rattle.cw_tree.specs.declared.leaf.RawInt.{RawInt}
use Rattle.cw_tree.specs.declared.leaf.RawSint.{RawSint}
use Rattle.cw_tree.specs.declared.items.RawPlace.{RawPlace}
use Rattle.cw_tree.specs.declared.items.RawPresets.{RawPresets}
use Rattle.cw_tree.specs.declared.items.RawRange.{RawRange}
use Rattle.cw_tree.specs.declared.items.RawBounds.{RawBounds}
use Rattle.cw_tree.specs.declared.items.RawGroup.{RawGroup}
use Rattle.cw_tree.specs.declared.items.RawElem.{RawElem}
use Rattle.cw_tree.specs.declared.items.RawTable.{RawTable}
use Rattle.cw_tree.specs.declared.items.RawData.{RawData}
use Rattle.cw_tree.specs.declared.items.RawBase.{RawBase}
use Rattle.cw_tree.specs.declared.items.RawPlace.TheVariants as places
use Rattle.cw_tree.specs.declared.items.RawElem.TheVariants as elems
use Rattle.cw_tree.specs.declared.items.RawData.TheVariants as datas
use Rattle.cw_tree.specs.declared.items.RawBase.TheVariants as bases
use Rattle.cw_show.specs.Spelling.{Spelling, word, symbol, text_of}
use Rattle.cw_show.specs.Canonical.{Tokens, name, number, literal, octal_tokens, int_tokens, sign_tokens, sint_tokens}
use Rattle.cw_show.specs.Canonical.{size_tokens, type_tokens, between, comma, semicolon, bracketed, indexed}

abbrev pub name_tokens : RawName → Tokens
name_tokens n = name n.name ∷ []

-- names with commas between them
abbrev pub names_tokens : List RawName → Tokens
names_tokens ns = between comma (map name_tokens ns)

abbrev pub place_tokens : RawPlace → Tokens
place_tokens (places.Void at) = []
place_tokens (places.Number s n) = sign_tokens s ++ number n.number ∷ []
place_tokens (places.Octal s n) = sign_tokens s ++ octal_tokens n
place_tokens (places.Literal s c) = sign_tokens s ++ literal c.byte ∷ []

abbrev pub places_tokens : List RawPlace → Tokens
places_tokens ps = between comma (map place_tokens ps)

-- := presets
abbrev pub assigned_tokens : Option RawPresets → Tokens
assigned_tokens None = []
assigned_tokens (Some p) = symbol symbols.Assign ∷ places_tokens p.places

-- PRESET presets
abbrev pub preset_tokens : Option RawPresets → Tokens
preset_tokens None = []
preset_tokens (Some p) = word words.Preset ∷ places_tokens p.places

abbrev pub range_tokens : RawRange → Tokens
range_tokens r = sint_tokens r.lower ++ symbol symbols.Colon ∷ sint_tokens r.upper

abbrev pub second_range_tokens : Option RawRange → Tokens
second_range_tokens None = []
second_range_tokens (Some r) = comma ∷ range_tokens r

abbrev pub bounds_tokens : RawBounds → Tokens
bounds_tokens b = symbol symbols.OpenSquare ∷ (range_tokens b.first ++ (second_range_tokens b.second ++ symbol symbols.CloseSquare ∷ []))

abbrev pub group_tokens : RawGroup → Tokens
group_tokens g = names_tokens g.names ++ bounds_tokens g.bounds

-- groups with commas between them
abbrev pub groups_tokens : List RawGroup → Tokens
groups_tokens gs = between comma (map group_tokens gs)

abbrev pub unsigned_tokens : Bool → Tokens
unsigned_tokens true = word words.Unsigned ∷ []
unsigned_tokens false = []

-- [ UNSIGNED ] ( int , sint )
abbrev pub shape_tokens : Bool → RawInt → RawSint → Tokens
shape_tokens u t f = unsigned_tokens u ++ symbol symbols.Open ∷ (int_tokens t ++ comma ∷ (sint_tokens f ++ symbol symbols.Close ∷ []))

-- int , int
abbrev pub two_ints : RawInt → RawInt → Tokens
two_ints w b = int_tokens w ++ comma ∷ int_tokens b

abbrev pub elem_tokens : RawElem → Tokens
elem_tokens (elems.Word n t w) = name n.name ∷ (type_tokens t ++ int_tokens w)
elem_tokens (elems.Part n u t f w b) = name n.name ∷ (shape_tokens u t f ++ two_ints w b)

abbrev pub elems_tokens : List RawElem → Tokens
elems_tokens es = between semicolon (map elem_tokens es)

-- TABLE name size
abbrev pub table_head : RawTable → Tokens
table_head t = word words.Table ∷ name t.name.name ∷ size_tokens t.size

-- a table, with what stands behind its elements in the brackets
abbrev pub table_with : RawTable → Tokens → Tokens
table_with t inside = table_head t ++ symbol symbols.OpenSquare ∷ (elems_tokens t.elems ++ (inside ++ symbol symbols.CloseSquare ∷ []))

abbrev pub data_tokens : RawData → Tokens
data_tokens (datas.Singles t ns p) = type_tokens t ++ (names_tokens ns ++ assigned_tokens p)
data_tokens (datas.Arrays t gs p) = type_tokens t ++ word words.Array ∷ (groups_tokens gs ++ assigned_tokens p)
data_tokens (datas.Table t inside behind) = table_with t (preset_tokens inside) ++ assigned_tokens behind

abbrev pub base_tokens : RawBase → Tokens
base_tokens (bases.Name n) = name n.name ∷ []
base_tokens (bases.One n i) = name n.name ∷ symbol symbols.OpenSquare ∷ (sint_tokens i ++ symbol symbols.CloseSquare ∷ [])
base_tokens (bases.Two n i j) = name n.name ∷ symbol symbols.OpenSquare ∷ (sint_tokens i ++ comma ∷ (sint_tokens j ++ symbol symbols.CloseSquare ∷ []))

-- OVERLAY base WITH data
abbrev pub overlay_tokens : RawBase → RawData → Tokens
overlay_tokens b d = word words.Overlay ∷ (base_tokens b ++ word words.With ∷ data_tokens d)
