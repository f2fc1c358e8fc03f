use Rattle.std.proofs.Common.{◌≡◌, ◌∙◌, IfOk, refl, sym, ap, subst}
use Rattle.cw_unit.specs.Program.{program_at}
use Rattle.cw_list.specs.Rows.{layouts_of, program_listing}
use Rattle.cw_actions.proofs.Going.Called.{map_is}
use Rattle.cw_actions.proofs.go.running.storage_text.Goals as goal

pub map_text-requires : goal.map_text-requires
map_text-requires g c = record {
  layouts = c.as_slice-layouts.ensures ∙ c.requires.0.layouts ∙ ap layouts_of (sym (c.as_slice-units.ensures ∙ c.requires.0.units));
  limits = c.requires.1.1.0;
}

pub returns : goal.returns
returns g c =
    let units = c.as_slice-units.result.now in
    let map = c.args.linked.now.map in
    let limits = c.args.limits.now in
    subst (λ listing. IfOk c.map_text.result (λ text. text.items ≡ listing)) (map_is units g.us map limits (program_listing (program_at units map limits)) (c.as_slice-units.ensures ∙ c.requires.0.units) c.requires.1.0.map refl) c.map_text.ensures
