-- Labels, switches and procedures by the tests of their kinds.
use Rattle.std.proofs.Common.{◌≡◌, Option, true, refl}
use Rattle.cw_tree.specs.declared.leaf.RawType.{RawType}
use Rattle.cw_facts.specs.declared.fact.Kind.{Kind as NameKind}
use Rattle.cw_facts.specs.declared.fact.Kind.TheVariants as kind
use Rattle.cw_scope.specs.NameRules.{is_own_label, is_own_switch}
use Rattle.cw_scope.specs.Definitions.{is_own_procedure}

pub label_is : (k : NameKind) → is_own_label k ≡ true → k ≡ kind.Label
label_is kind.Label h = refl
label_is _ h = absurd (cc)

pub switch_is : (k : NameKind) → is_own_switch k ≡ true → k ≡ kind.Switch
switch_is kind.Switch h = refl
switch_is _ h = absurd (cc)

pub procedure_is : (k : NameKind) → is_own_procedure k ≡ true → (t : Option RawType) × (k ≡ kind.Proc t)
procedure_is (kind.Proc t) h = (t, refl)
procedure_is _ h = absurd (cc)
