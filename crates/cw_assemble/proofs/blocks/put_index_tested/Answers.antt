use Rattle.std.proofs.Common.{rules, ◌≡◌, ◌-ℤ◌, to_z, of_z, ap₂, ◌∙◌, w16}
use Rattle.cw_tmpl.specs.Templates.{from_lower, index_below, indexes_between}
use Rattle.cw_assemble.proofs.Composed.{◌⨟◌, by_same}
use Rattle.cw_assemble.proofs.blocks.put_index_tested.Goals as goal

pub returns : goal.returns
returns c =
    let e = c.args.element in
    let lower_is : to_z w16 (of_z w16 e.lower) ≡ e.lower = search rules in
    let upper_is : to_z w16 (of_z w16 c.args.upper) ≡ c.args.upper = search rules in
    let count = c.indexes_between-count.ensures ∙ ap₂ (λ x y. indexes_between (x -ℤ y)) upper_is lower_is in
    let all = c.put_index_loaded.ensures ⨟ by_same from_lower lower_is c.put_from_lower.ensures ⨟ by_same (λ n. index_below n c.args.line e.family e.first) count c.put_index_below.ensures in
    all
