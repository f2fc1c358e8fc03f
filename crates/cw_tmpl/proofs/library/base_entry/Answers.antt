use Rattle.std.proofs.Common.{arith, ◌≡◌, ℕ, List, Option, ◌∙◌}
use Rattle.std.specs.Prelude.{slice_get}
use Rattle.std.specs.Option.{option_copied}
use Rattle.std.specs.Slice.{IsItemAt}
use Rattle.std.proofs.lemmas.Grind.{common_steps}
use Rattle.std.proofs.lemmas.Option.{gets}
use denote.Bor.{Bor}
use Rattle.cw_tmpl.specs.Library.{places_of_entries}
use Rattle.cw_tmpl.proofs.library.base_entry.Goals as goal

copied : (xs : List ℕ) (k : ℕ) (r : Option (Bor ℕ)) → IsItemAt xs k r → option_copied r ≡ slice_get xs k
copied xs k r h = grind (arith, common_steps, gets)

pub returns : goal.returns
returns c = c.copied.ensures ∙ copied places_of_entries c.args.k _ c.get.ensures.lookup
