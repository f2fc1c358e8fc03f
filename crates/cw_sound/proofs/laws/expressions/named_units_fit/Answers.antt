-- All that the unit of a named text is asked for.
use Rattle.std.proofs.Common.{refl}
use Rattle.cw_items.specs.Things.{text_things}
use Rattle.cw_number.specs.Numbers.{numbers_of}
use Rattle.cw_judge.specs.Judged.{sites_of}
use Rattle.cw_make.specs.Made.{unit_of}
use Rattle.cw_unit.specs.declared.unit.Unit.{Unit as SourceUnit}
use Rattle.cw_make_expr.specs.Parts.{Numbers}
use Rattle.cw_sound.proofs.Names.OwnDeclarations.{Made}
use Rattle.cw_sound.proofs.Calls.Names.Defined.{all_met}
use Rattle.cw_sound.proofs.Calls.Names.Uses.{procedures_numbered, uses_known}
use Rattle.cw_sound.proofs.Calls.Units.{calls_fit, definition_fits}
use Rattle.cw_sound.proofs.laws.expressions.named_units_fit.Goals as goal

pub returns : goal.returns
returns c named resolves fine placed items counted =
    let u : SourceUnit = unit_of named in
    let numbers : Numbers = numbers_of named in
    let made : Made named numbers u = record { procs = refl; labels = refl; switches = refl; body = refl } in
    let own = c.counts.ensures named resolves placed items in
    let few = c.few_parameters.ensures named resolves fine placed in
    let found = c.uses_found.ensures named resolves placed in
    let facts = c.all_stand.ensures named resolves fine placed items in
    let known = uses_known named numbers u resolves placed own made few items refl refl found in
    let free = (c.parts_free.ensures named fine).block in
    let met = all_met named numbers u resolves placed own made (text_things named named.raw.now) refl in
    record {
      calls = calls_fit named (sites_of (text_things named named.raw.now)) numbers u named.raw.now.block (facts, known) free counted (c.bodies.ensures.same named numbers named.raw.now.block) refl refl;
      numbered = procedures_numbered named numbers u resolves placed own made few;
      defined = definition_fits u (c.descriptors_named.ensures named resolves placed) met;
    }
