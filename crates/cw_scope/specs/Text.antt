-- What comes of the names of a text.
use Rattle.std.specs.Prelude.{ℕ, List, Option, None}
use Rattle.cw_table.specs.declared.table.Row.{Row}
use Rattle.cw_tree.specs.declared.segment.Raw.{Raw}
use Rattle.cw_facts.specs.declared.fact.Declaration.{Declaration}
use Rattle.cw_facts.specs.declared.fact.Fact.{Fact}
use Rattle.cw_facts.specs.declared.fact.Signature.{Signature}
use Rattle.cw_facts.specs.Text.{text_facts}
use Rattle.cw_scope.specs.declared.fault.Fault.{Fault}
use Rattle.cw_scope.specs.Faults.{both}
use Rattle.cw_scope.specs.NameRules.{name_faults, name_resolutions}
use Rattle.cw_scope.specs.Definitions.{definitions_judged}
use Rattle.cw_scope.specs.Resolved.{text_declarations, text_signatures}

-- the first fault of the names of facts
abbrev pub text_fault : List Fact → Option Fault
text_fault facts = both (name_faults facts) (definitions_judged facts) None

abbrev pub first_name_fault : Raw → Option Fault
first_name_fault raw = text_fault (text_facts raw)

abbrev pub resolutions_of : Raw → List (Row ℕ)
resolutions_of raw = name_resolutions (text_facts raw)

abbrev pub declarations_of : Raw → List (Row Declaration)
declarations_of raw = text_declarations (text_facts raw)

abbrev pub signatures_of : Raw → List (Row Signature)
signatures_of raw = text_signatures (text_facts raw)
