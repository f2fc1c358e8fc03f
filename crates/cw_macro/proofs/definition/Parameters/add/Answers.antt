use Rattle.std.proofs.Common.{◌≡◌, sym, ◌∙◌, subst, Some, true, ℕ, rules}
use Rattle.std.specs.Option.{is_none}
use Rattle.std.specs.BTreeMap.{Updates}
use Rattle.cw_macro.specs.Views.{name_cmp}
use Rattle.cw_macro.proofs.Numbers.{numbering_added, size_added}
use Rattle.cw_macro.proofs.definition.Parameters.add.Goals as goal

pub returns-in-Ok-clause-added : goal.returns-in-Ok-clause-added
returns-in-Ok-clause-added c names h fresh =
    let e : is_none c.in-Ok.earlier ≡ true = search rules in
    let none = size_added c.in-Ok.earlier _ _ e c.in-Ok.ensures.len in
    let P : ℕ → Type 0 = λ n. Updates name_cmp c.args.self.now.numbers c.insert.new.self c.key_of.result (Some n) in
    numbering_added c.args.self.now (record { numbers = c.insert.new.self }) c.key_of.result _ names c.key_of.ensures h
    (subst P c.len-number.ensures.len c.in-Ok.ensures.updates) (sym c.in-Ok.ensures.old ∙ none.0) none.1
