-- The faults of types, and which of them decides: the one whose token comes first, and at one token the lower number.
use Rattle.std.specs.Prelude.{ℕ, nat_lt, ◌==◌, Bool, true, false, ◌&&◌, ◌||◌, Option, Some, None}
use Rattle.cw_tree.specs.declared.leaf.Position.{Position}
use Rattle.cw_scale.specs.declared.fault.Fault.{Fault}
use Rattle.cw_scale.specs.declared.fault.Rule.{Rule}
use Rattle.cw_scale.specs.declared.fault.Rule.TheVariants as rule

abbrev pub rule_number : Rule → ℕ
rule_number rule.WrongArgs = 1
rule_number rule.ScaleRange = 2
rule_number rule.FieldRange = 3
rule_number rule.BadBounds = 4
rule_number rule.BadOverlay = 5
rule_number rule.BadPreset = 6
rule_number rule.TooMany = 7
rule_number rule.NumberRange = 8

abbrev pub comes_before : Fault → Fault → Bool
comes_before a b = nat_lt a.at.token b.at.token || (a.at.token == b.at.token && nat_lt (rule_number a.rule) (rule_number b.rule))

abbrev pub earlier_if : Bool → Fault → Fault → Option Fault
earlier_if true f g = Some f
earlier_if false f g = Some g

abbrev pub earlier : Option Fault → Fault → Option Fault
earlier None f = Some f
earlier (Some g) f = earlier_if (comes_before f g) f g

-- what a part of a text is judged to be: from the earliest fault before it to the earliest of that one and its own
abbrev pub Judgement : Type 0
Judgement = Option Fault → Option Fault

abbrev pub fine : Judgement
fine first = first

abbrev pub wrong : Rule → Position → Judgement
wrong r at first = earlier first (record { rule = r; at = at })

abbrev pub unless : Bool → Rule → Position → Judgement
unless true r at first = first
unless false r at first = wrong r at first

-- both parts are judged
abbrev pub both : Judgement → Judgement → Judgement
both a b first = b (a first)
