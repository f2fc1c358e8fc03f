use Rattle.std.proofs.Common.{◌≡◌, List, ◌++◌, subst}
use Rattle.std.specs.Prelude.{IfOk}
use Rattle.cw_table.specs.declared.table.Row.{Row}
use Rattle.cw_scope.specs.declared.resolve.Named.{Named}
use Rattle.cw_items.specs.Things.{text_things}
use Rattle.cw_number.specs.declared.numbered.Numbered.{Numbered}
use Rattle.cw_number.specs.Listed.{listed_of}
use Rattle.cw_number.specs.Numbers.{item_rows, listed_rows, declared_rows, begin_of, none_counted}
use Rattle.cw_number.proofs.numbers.numbers_of.Goals as goal

-- the numbers behind those of what is stored
abbrev behind : Named → List (Row Numbered)
behind named = listed_rows 0 (listed_of named.raw.now) ++ declared_rows (begin_of named.raw.now) none_counted named.declarations

pub returns : goal.returns
returns c =
    let text = c.args.text.now in
    subst (λ (n : Named). IfOk c.with_names.result (λ t. t ≡ item_rows 0 (text_things text text.raw.now) ++ behind n)) c.named.ensures
    (subst (λ (items : List (Row Numbered)). IfOk c.with_names.result (λ t. t ≡ items ++ behind c.named.result.now)) c.in_ok-items.ensures c.with_names.ensures)
