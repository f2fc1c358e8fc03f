-- The faults of names, and which of them decides: the one whose token comes first, and at one token the lower number.
use Rattle.std.specs.Prelude.{ℕ, nat_lt, ◌==◌, Bool, true, false, ◌&&◌, ◌||◌, Option, Some, None}
use Rattle.cw_tree.specs.declared.leaf.RawName.{RawName}
use Rattle.cw_scope.specs.declared.fault.Fault.{Fault}
use Rattle.cw_scope.specs.declared.fault.Rule.{Rule}
use Rattle.cw_scope.specs.declared.fault.Rule.TheVariants as rule

abbrev pub rule_number : Rule → ℕ
rule_number rule.Undeclared = 1
rule_number rule.Twice = 2
rule_number rule.WrongKind = 3
rule_number rule.SpecDiffers = 4

abbrev pub comes_before : Fault → Fault → Bool
comes_before a b = nat_lt a.name.at.token b.name.at.token || (a.name.at.token == b.name.at.token && nat_lt (rule_number a.rule) (rule_number b.rule))

abbrev pub earlier_if : Bool → Fault → Fault → Option Fault
earlier_if true f g = Some f
earlier_if false f g = Some g

abbrev pub earlier : Option Fault → Fault → Option Fault
earlier None f = Some f
earlier (Some g) f = earlier_if (comes_before f g) f g

-- what a part of a text is judged to be: from the earliest fault before it to the earliest of that one and its own
abbrev pub Judgement : Type 0
Judgement = Option Fault → Option Fault

abbrev pub fine : Judgement
fine first = first

abbrev pub wrong : Rule → RawName → Judgement
wrong r n first = earlier first (record { rule = r; name = n })

abbrev pub unless : Bool → Rule → RawName → Judgement
unless true r n first = first
unless false r n first = wrong r n first

-- both parts are judged
abbrev pub both : Judgement → Judgement → Judgement
both a b first = b (a first)
