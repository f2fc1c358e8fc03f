-- A judgement takes no fault away: where a part and what follows it have none, neither has.
use Rattle.std.proofs.Common.{◌≡◌, List, map, Bool, true, false, IsTrue, Option, None, refl, sym, ap, ◌∙◌}
use Rattle.cw_tree.specs.declared.leaf.RawName.{RawName}
use Rattle.cw_facts.specs.declared.fact.Fact.{Fact}
use Rattle.cw_facts.specs.declared.fact.Declaration.{Declaration}
use Rattle.cw_table.specs.declared.table.Row.{Row}
use Rattle.cw_facts.specs.declared.fact.Signature.{Signature}
use Rattle.cw_scope.specs.declared.fault.Fault.{Fault}
use Rattle.cw_scope.specs.declared.fault.Rule.{Rule}
use Rattle.cw_scope.specs.Faults.{Judgement, fine, unless, both}
use Rattle.cw_scope.specs.Scope.{Environment}
use Rattle.cw_scope.specs.NameRules.{said, all_faults}
use Rattle.cw_scope.specs.Definitions.{defined, each_listed, definition_faults}
use Rattle.cw_scope.proofs.Telling.{told_keeps, facts_told, definition_told, listed_told}

abbrev pub Keeps : Judgement → Type 0
Keeps j = (x : Option Fault) → j x ≡ None → x ≡ None

pub keeps_fine : Keeps fine
keeps_fine x e = e

pub keeps_both : (a b : Judgement) → Keeps a → Keeps b → Keeps (both a b)
keeps_both a b h k x e = h x (k (a x) e)

-- the two parts of what has no fault
pub parts : (a b : Judgement) → Keeps b → both a b None ≡ None → (a None ≡ None) × (b None ≡ None)
parts a b k e = let first = k (a None) e in (first, ap b (sym first) ∙ e)

pub holds : (b : Bool) (r : Rule) (n : RawName) → unless b r n None ≡ None → IsTrue b
holds true r n e = refl
holds false r n e = absurd (cc)

pub facts_keep : (facts : List Fact) (env : Environment) → Keeps (all_faults env (map said facts))
facts_keep facts env = told_keeps (all_faults env (map said facts)) (facts_told facts env)

module _ (signatures : List (Row Signature)) where
  pub definition_keeps : (o : Option Declaration) (d : Declaration) → Keeps (definition_faults signatures o d)
  definition_keeps o d = told_keeps (definition_faults signatures o d) (definition_told signatures o d)

  pub definitions_keep : (facts : List Fact) (cs : List Declaration) → Keeps (each_listed signatures cs (map (defined signatures) facts))
  definitions_keep facts cs = told_keeps (each_listed signatures cs (map (defined signatures) facts)) (listed_told signatures facts cs)
