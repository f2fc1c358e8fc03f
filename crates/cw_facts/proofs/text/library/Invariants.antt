use Rattle.std.proofs.Common.{◌≡◌, ◌++◌, drop}
use Rattle.cw_facts.specs.Text.{library_facts}
use Rattle.cw_facts.proofs.text.library.Given as goal

abbrev pub invariant-loop-spec : goal.invariant-loop-spec
invariant-loop-spec l = l.out ++ library_facts (drop l.spec-index l.specs) ≡ l.initial.out ++ library_facts l.specs
