-- What the texts store.
use Rattle.std.proofs.Common.{◌≡◌, ℕ, Bool, true, false, List, [], ◌∷◌, None}
use Rattle.cw_facts.specs.declared.fact.Fact.TheVariants as fact
use Rattle.cw_scope.specs.declared.resolve.Named.{Named}
use Rattle.cw_items.specs.declared.thing.Thing.{Thing}
use Rattle.cw_items.specs.declared.thing.Sort.TheVariants as sort
use Rattle.cw_items.specs.Things.{thing, text_things}
use Rattle.cw_big_units.proofs.TreeText.{at, tree_text}
use Rattle.cw_big_units.proofs.TreeFacts.{uses_steps}
use Rattle.cw_big_units.proofs.TypeSteps.{stored_steps}

-- TOTAL, J, A, and the words of each FOR
abbrev pub stored_text : List Thing
stored_text =
    thing sort.Named (at 1 4) None None 1
    ∷ thing sort.Named (at 5 21) None None 1
    ∷ thing sort.Named (at 6 25) None None 100
    ∷ thing sort.Loop (at 7 32) None None 4
    ∷ thing sort.Loop (at 8 50) None None 4
    ∷ []

pub stored : (named : Named) (is_last : Bool) (w : List ℕ) → text_things named (tree_text is_last w) ≡ stored_text
stored named true w = simp (stored_steps, uses_steps, fact.outs-Uses)
stored named false w = simp (stored_steps, uses_steps, fact.outs-Uses)
