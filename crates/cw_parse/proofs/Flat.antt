-- Declarations, parameters and communicators open no level.
use Rattle.std.proofs.Common.{◌≡◌, true, refl}
use Rattle.cw_lex.specs.declared.token.Symbol.TheVariants as symbols
use Rattle.cw_grammar.specs.Grammar.{many}
use Rattle.cw_grammar.specs.Rules.{octal, int, sint, number_type, size, symbol, ◌<*◌}
use Rattle.cw_grammar.specs.Statements.{preset_value, place, further_places, presets, assigned, preset, range, bounds, group, elem, table, elems_behind, table_body, data_table, singles, arrays, item_data, base, overlay, ptag, worded_ips, ips, ips_list, procedure_ps, ps, spec_behind, spec, procedure_param, param, worded_decl, decl, semicolons, listed, in_round, citem, typed_aitem, unplaced_aitem, aitem, comm}
use Rattle.cw_grammar.proofs.Flat.{flat}

pub local_decl_flat : flat (decl true) ≡ true
unfolding decl worded_decl number_type int sint octal size singles arrays data_table table_body overlay base item_data assigned preset elem group bounds range
local_decl_flat = refl

pub singles_flat : flat singles ≡ true
unfolding singles assigned
singles_flat = refl

pub arrays_flat : flat arrays ≡ true
unfolding arrays assigned group bounds range sint int octal
arrays_flat = refl

pub worded_flat : flat worded_decl ≡ true
unfolding worded_decl number_type int sint octal size singles arrays data_table table_body overlay base item_data assigned preset elem group bounds range
worded_flat = refl

pub params_flat : flat (listed (in_round (semicolons param))) ≡ true
unfolding param procedure_param ips_list ips worded_ips number_type int sint octal size table elem
params_flat = refl

pub comms_flat : flat (many (comm <* symbol symbols.Semicolon)) ≡ true
unfolding comm citem spec spec_behind aitem unplaced_aitem typed_aitem ptag ps procedure_ps ips_list ips worded_ips data_table table_body table elem overlay base item_data singles arrays assigned preset group bounds range number_type int sint octal size
comms_flat = refl
