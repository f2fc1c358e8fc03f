use Rattle.std.proofs.Common.{sym, subst, length, ◌≤◌}
use Rattle.cw_unit.specs.declared.unit.Unit.{Unit as SourceUnit}
use Rattle.cw_make.specs.Made.{unit_of}
use Rattle.cw_compile.specs.Texts.{most_levels}
use Rattle.cw_actions.proofs.Telling.Few.{few_by_tokens}
use Rattle.cw_actions.proofs.depth.laws.few_procedures.Goals as goal

pub returns : goal.returns
returns c text u is =
    let named = is.named in
    let tree = is.has.names.tree in
    let ts = tree.expanded in
    subst (λ (w : SourceUnit). length w.procs ≤ 65536) (sym is.unit_is)
    (few_by_tokens (unit_of named) _ (length ts) (c.unit_counted.ensures most_levels ts named tree.derives) (c.tokens_counted.ensures most_levels ts named.raw.now tree.derives) (c.one_outcome.ensures.few text ts tree.expands))
