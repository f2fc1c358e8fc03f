-- The goals of a unit's switches name descriptors that there are.
use Rattle.std.proofs.Common.{ℕ, List, [], ◌∷◌, length, IsTrue, Option, refl}
use Rattle.std.specs.List.{list_all}
use Rattle.cw_unit.specs.declared.unit.Unit.{Unit as SourceUnit}
use Rattle.cw_unit.specs.declared.unit.Goal.{Goal}
use Rattle.cw_unit.specs.declared.unit.Goal.TheVariants as goal
use Rattle.cw_unit.specs.declared.unit.Switch.{Switch}
use Rattle.cw_unit.specs.Step.{label_of_def, label_of_goal}
use Rattle.cw_safety.specs.WellFormed.{reaches, reaches_goals}
use Rattle.cw_make_items.specs.Lookup.{Numbers}
use Rattle.cw_scope.specs.declared.resolve.Named.{Named}
use Rattle.cw_built.specs.Built.{alone, at_work}
use Rattle.cw_built.specs.Listed.{are_named}
use Rattle.cw_writable.proofs.Coded.Fine.{both, parts}
use Rattle.cw_writable.specs.Back.Ready.{is_goal}
use Rattle.cw_writable.proofs.Back.Names.{listed}
use Rattle.cw_sound.specs.Uses.Mentions.{Here}
use Rattle.cw_sound.proofs.Names.Picking.{Zip}
use Rattle.cw_sound.proofs.Names.SwitchNumbers.{AllReached, SwitchOf}

module _ (u : SourceUnit) (named : IsTrue (are_named u.descs)) where
  goals_listed : (who : Option ℕ) (gs : List Goal) → AllReached u who gs → IsTrue (list_all (is_goal (length u.descs)) gs)
  goals_listed who [] h = refl
  goals_listed who (goal.Own l ∷ gs) h =
      let p = parts (reaches (alone u) (at_work who) (label_of_goal (alone u) 0 (goal.Own l))) (reaches_goals (alone u) (at_work who) 0 gs) h in goals_listed who gs p.1
  goals_listed who (goal.Common d ∷ gs) h =
      let p = parts (reaches (alone u) (at_work who) (label_of_goal (alone u) 0 (goal.Common d))) (reaches_goals (alone u) (at_work who) 0 gs) h in
      both (is_goal (length u.descs) (goal.Common d)) (list_all (is_goal (length u.descs)) gs) (listed u named d (λ x. reaches (alone u) (at_work who) (label_of_def x)) refl p.0) (goals_listed who gs p.1)

  pub switches_listed : (text : Named) (numbers : Numbers) (ms : List Here) (ss : List Switch) → Zip (SwitchOf text numbers u) ms ss → IsTrue (list_all (λ (s : Switch). list_all (is_goal (length u.descs)) s.list) ss)
  switches_listed text numbers [] [] h = refl
  switches_listed text numbers [] (s ∷ ss) h = absurd h
  switches_listed text numbers (m ∷ ms) [] h = absurd h
  switches_listed text numbers (m ∷ ms) (s ∷ ss) h =
      both (list_all (is_goal (length u.descs)) s.list) (list_all (λ (x : Switch). list_all (is_goal (length u.descs)) x.list) ss) (goals_listed m.who s.list h.0) (switches_listed text numbers ms ss h.1)
