use Rattle.std.proofs.Common.{◌≡◌, ◌<◌, ◌+◌, ◌∙◌, length, Some, sym, ap, arith, option_map}
use Rattle.std.proofs.lemmas.Option.{slice_get_within}
use Rattle.cw_unit.specs.Allocation.{name_at}
use Rattle.cw_comm.specs.Agreement.{definer_from}
use Rattle.cw_comm.proofs.Definers.{first_definer, next_definer}
use Rattle.cw_comm.proofs.agreeing.from_one.Goals as goal

pub overflow_add-result : goal.overflow_add-result
overflow_add-result c =
    let faces = c.args.listed.now.segments.now in
    let is : definer_from 0 (name_at c.args.listed.now.names.now c.args.name) faces ≡ Some c.in-Some.definer = sym (c.requires.firsts.defined c.args.name c.requires.name) ∙ sym c.in-Some.ensures in
    let r = (first_definer faces (name_at c.args.listed.now.names.now c.args.name) c.in-Some.definer is).defines_it in
    let below = slice_get_within faces c.in-Some.definer r.face r.segment_is in
    omega (arith, below, c.requires.listed.few)

pub returns-in-Some : goal.returns-in-Some
returns-in-Some c =
    let faces = c.args.listed.now.segments.now in
    let name = name_at c.args.listed.now.names.now c.args.name in
    sym (next_definer 0 name faces ∙ ap (option_map (λ i. i + 1)) (sym (c.requires.firsts.defined c.args.name c.requires.name) ∙ sym c.in-Some.ensures))

pub returns-in-None : goal.returns-in-None
returns-in-None c =
    let faces = c.args.listed.now.segments.now in
    let name = name_at c.args.listed.now.names.now c.args.name in
    sym (next_definer 0 name faces ∙ ap (option_map (λ i. i + 1)) (sym (c.requires.firsts.defined c.args.name c.requires.name) ∙ sym c.in-None.ensures))
