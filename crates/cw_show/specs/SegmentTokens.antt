-- The canonical tokens of specifications and communicators.
use Rattle.std.specs.Prelude.{ℕ, Bool, true, false, List, [], ◌∷◌, ◌++◌, map, Option, Some, None}
use Rattle.cw_lex.specs.declared.token.Symbol.TheVariants as symbols
use Rattle.cw_lex.specs.declared.token.Word.TheVariants as words
use Rattle.cw_tree.specs.declared.leaf.RawInt.{RawInt}
use Rattle.cw_tree.specs.declared.leaf.RawType.{RawType}
use Rattle.cw_tree.specs.declared.items.RawBase.{RawBase}
use Rattle.cw_tree.specs.declared.items.RawBounds.{RawBounds}
use Rattle.cw_tree.specs.declared.items.RawData.{RawData}
use Rattle.cw_tree.specs.declared.items.RawTable.{RawTable}
use Rattle.cw_tree.specs.declared.segment.RawIps.{RawIps}
use Rattle.cw_tree.specs.declared.segment.RawPs.{RawPs}
use Rattle.cw_tree.specs.declared.segment.RawSpec.{RawSpec}
use Rattle.cw_tree.specs.declared.segment.RawCitem.{RawCitem}
use Rattle.cw_tree.specs.declared.segment.RawAitem.{RawAitem}
use Rattle.cw_tree.specs.declared.segment.RawComm.{RawComm}
use Rattle.cw_tree.specs.declared.segment.RawIps.TheVariants as ips
use Rattle.cw_tree.specs.declared.segment.RawPs.TheVariants as pss
use Rattle.cw_tree.specs.declared.segment.RawCitem.TheVariants as citems
use Rattle.cw_tree.specs.declared.segment.RawAitem.TheVariants as aitems
use Rattle.cw_tree.specs.declared.segment.RawComm.TheVariants as comms
use Rattle.cw_tree.specs.declared.statement.RawPtag.{RawPtag}
use Rattle.cw_tree.specs.declared.statement.RawPtag.TheVariants as tags
use Rattle.cw_show.specs.Spelling.{Spelling, word, symbol}
use Rattle.cw_show.specs.Canonical.{Tokens, name, int_tokens, size_tokens, type_tokens, between, listed, comma, semicolon, bracketed}
use Rattle.cw_show.specs.ItemTokens.{names_tokens, data_tokens, overlay_tokens, table_with, bounds_tokens}

-- the type of an answer, where there is one
abbrev pub answer_tokens : Option RawType → Tokens
answer_tokens None = []
answer_tokens (Some t) = type_tokens t

abbrev pub tag : RawPtag → Spelling
tag (tags.Procedure at) = word words.Procedure
tag (tags.Recursive at) = word words.Recursive

abbrev pub ips_tokens : RawIps → Tokens
ips_tokens (ips.Value at t) = word words.Value ∷ type_tokens t
ips_tokens (ips.Location at t) = word words.Location ∷ type_tokens t
ips_tokens (ips.Array t) = type_tokens t ++ word words.Array ∷ []
ips_tokens (ips.Table at s) = word words.Table ∷ size_tokens s
ips_tokens (ips.Label at) = word words.Label ∷ []
ips_tokens (ips.Switch at) = word words.Switch ∷ []

abbrev pub ps_tokens : RawPs → Tokens
ps_tokens (pss.Plain i) = ips_tokens i
ps_tokens (pss.Proc answer at is) = answer_tokens answer ++ word words.Procedure ∷ listed comma (map ips_tokens is)

abbrev pub spec_tokens : RawSpec → Tokens
spec_tokens s = answer_tokens s.answer ++ tag s.tag ∷ name s.name.name ∷ listed comma (map ps_tokens s.params)

abbrev pub citem_tokens : RawCitem → Tokens
citem_tokens (citems.Data d) = data_tokens d
citem_tokens (citems.Overlay at b d) = overlay_tokens b d
citem_tokens (citems.Label at ns) = word words.Label ∷ names_tokens ns
citem_tokens (citems.Switch at ns) = word words.Switch ∷ names_tokens ns
citem_tokens (citems.Spec s) = spec_tokens s

-- / address
abbrev pub address_tokens : RawInt → Tokens
address_tokens i = symbol symbols.Divide ∷ int_tokens i

abbrev pub aitem_tokens : RawAitem → Tokens
aitem_tokens (aitems.Single t n a) = type_tokens t ++ name n.name ∷ address_tokens a
aitem_tokens (aitems.Array t n b a) = type_tokens t ++ word words.Array ∷ name n.name ∷ (bounds_tokens b ++ address_tokens a)
aitem_tokens (aitems.Table t a) = table_with t [] ++ address_tokens a

abbrev pub comm_tokens : RawComm → Tokens
comm_tokens (comms.Common at is) = word words.Common ∷ bracketed (between semicolon (map citem_tokens is))
comm_tokens (comms.Library at ss) = word words.Library ∷ bracketed (between semicolon (map spec_tokens ss))
comm_tokens (comms.Absolute at is) = word words.Absolute ∷ bracketed (between semicolon (map aitem_tokens is))
