-- Each clause is the law of its rule.
use Rattle.cw_written.proofs.Rules.{preset_value_alike, elem_alike, data_alike, ips_alike, ps_alike, spec_alike, citem_alike, unplaced_aitem_alike, param_alike, decl_alike}
use Rattle.cw_written.proofs.Labels.{stmt_alike}
use Rattle.cw_written.proofs.SimpleLabels.{labelled_simple_alike}
use Rattle.cw_written.proofs.Elems.{table_body_alike}
use Rattle.cw_written.proofs.Places.{presets_alike}
use Rattle.cw_written.proofs.laws.same_as_written.Goals as goal

pub returns-clause-preset_value : goal.returns-clause-preset_value
returns-clause-preset_value c = preset_value_alike

pub returns-clause-elem : goal.returns-clause-elem
returns-clause-elem c = elem_alike

pub returns-clause-item_data : goal.returns-clause-item_data
returns-clause-item_data c = data_alike

pub returns-clause-ips : goal.returns-clause-ips
returns-clause-ips c = ips_alike

pub returns-clause-ps : goal.returns-clause-ps
returns-clause-ps c = ps_alike

pub returns-clause-spec : goal.returns-clause-spec
returns-clause-spec c = spec_alike

pub returns-clause-citem : goal.returns-clause-citem
returns-clause-citem c = citem_alike

pub returns-clause-aitem : goal.returns-clause-aitem
returns-clause-aitem c = unplaced_aitem_alike

pub returns-clause-param : goal.returns-clause-param
returns-clause-param c = param_alike

pub returns-clause-decl : goal.returns-clause-decl
returns-clause-decl c p = decl_alike p

pub returns-clause-stmt : goal.returns-clause-stmt
returns-clause-stmt c p = stmt_alike p

pub returns-clause-simple : goal.returns-clause-simple
returns-clause-simple c p = labelled_simple_alike p

pub returns-clause-table_body : goal.returns-clause-table_body
returns-clause-table_body c = table_body_alike

pub returns-clause-presets : goal.returns-clause-presets
returns-clause-presets c = presets_alike
