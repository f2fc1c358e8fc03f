-- Each clause is the law of its rule.
use Rattle.std.proofs.Common.{false}
use Rattle.cw_derived.proofs.Leaves.{name_normal, int_normal, sint_normal, size_normal, type_normal, bits_normal}
use Rattle.cw_derived.proofs.Expressions.{expr_normal, condition_normal, reference_normal}
use Rattle.cw_derived.proofs.Data.{bounds_normal, table_normal, data_normal, base_normal}
use Rattle.cw_derived.proofs.Specifications.{tag_normal, ips_normal, ps_normal, spec_normal, citem_normal, aitem_normal, comm_normal}
use Rattle.cw_derived.proofs.Statements.{felem_normal, param_normal, decl_normal, text_normal}
use Rattle.cw_derived.proofs.Derived.{stmt_again, derived_normal}
use Rattle.cw_derived.proofs.laws.in_normal_form.Goals as goal

pub returns-clause-name : goal.returns-clause-name
returns-clause-name c p n u x d = derived_normal p name_normal d

pub returns-clause-int : goal.returns-clause-int
returns-clause-int c p n u x d = derived_normal p int_normal d

pub returns-clause-sint : goal.returns-clause-sint
returns-clause-sint c p n u x d = derived_normal p sint_normal d

pub returns-clause-size : goal.returns-clause-size
returns-clause-size c p n u x d = derived_normal p size_normal d

pub returns-clause-number_type : goal.returns-clause-number_type
returns-clause-number_type c p n u x d = derived_normal p type_normal d

pub returns-clause-bits : goal.returns-clause-bits
returns-clause-bits c p n u x d = derived_normal p bits_normal d

pub returns-clause-expression : goal.returns-clause-expression
returns-clause-expression c p n u x d = derived_normal p expr_normal d

pub returns-clause-condition : goal.returns-clause-condition
returns-clause-condition c p n u x d = derived_normal p condition_normal d

pub returns-clause-reference : goal.returns-clause-reference
returns-clause-reference c p n u x d = derived_normal p reference_normal d

pub returns-clause-bounds : goal.returns-clause-bounds
returns-clause-bounds c p n u x d = derived_normal p bounds_normal d

pub returns-clause-table : goal.returns-clause-table
returns-clause-table c p n u x d = derived_normal p table_normal d

pub returns-clause-item_data : goal.returns-clause-item_data
returns-clause-item_data c p n u x d = derived_normal p data_normal d

pub returns-clause-base : goal.returns-clause-base
returns-clause-base c p n u x d = derived_normal p base_normal d

pub returns-clause-ptag : goal.returns-clause-ptag
returns-clause-ptag c p n u x d = derived_normal p tag_normal d

pub returns-clause-ips : goal.returns-clause-ips
returns-clause-ips c p n u x d = derived_normal p ips_normal d

pub returns-clause-ps : goal.returns-clause-ps
returns-clause-ps c p n u x d = derived_normal p ps_normal d

pub returns-clause-spec : goal.returns-clause-spec
returns-clause-spec c p n u x d = derived_normal p spec_normal d

pub returns-clause-citem : goal.returns-clause-citem
returns-clause-citem c p n u x d = derived_normal p citem_normal d

pub returns-clause-aitem : goal.returns-clause-aitem
returns-clause-aitem c p n u x d = derived_normal p aitem_normal d

pub returns-clause-comm : goal.returns-clause-comm
returns-clause-comm c p n u x d = derived_normal p comm_normal d

pub returns-clause-felem : goal.returns-clause-felem
returns-clause-felem c p n u x d = derived_normal p felem_normal d

pub returns-clause-param : goal.returns-clause-param
returns-clause-param c p n u x d = derived_normal p param_normal d

pub returns-clause-decl : goal.returns-clause-decl
returns-clause-decl c p n u x d = derived_normal p (decl_normal p) d

pub returns-clause-stmt : goal.returns-clause-stmt
returns-clause-stmt c p n u x d = derived_normal p (stmt_again p) d

pub returns-clause-text : goal.returns-clause-text
returns-clause-text c n u x d = derived_normal false text_normal d
