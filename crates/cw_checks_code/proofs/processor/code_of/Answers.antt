use Rattle.std.proofs.Common.{slice_index_or, sym, ◌∙◌, ap}
use Rattle.std.proofs.lemmas.List.Sums.{AllPass-from_list_all}
use Rattle.std.specs.List.{list_all}
use Rattle.cw_built.specs.Coded.{has_numbers}
use Rattle.cw_built.proofs.OrderCodes.{coded-order}
use Rattle.cw_checks_code.proofs.processor.code_of.Goals as goal

pub assemble-requires : goal.assemble-requires
assemble-requires c = λ k d lt. coded-order (slice_index_or c.args.orders.now.list k d)
    (AllPass-from_list_all has_numbers c.args.orders.now.list (ap (list_all has_numbers) (sym c.as_slice.ensures) ∙ sym c.have_numbers.ensures ∙ c.if-have_numbers.true) k d lt)
