use Rattle.std.proofs.Common.{rules, ap, sym, ◌∙◌}
use Rattle.std.proofs.lemmas.Result.{err_from_is_err_and}
use Rattle.std.specs.Prelude.{option_map}
use Rattle.cw_stop.proofs.Lists.{starts, goes_on, list_refused, list_ends, list_many}
use Rattle.cw_stop.proofs.reading.read_list.Goals as goal

pub names-init : goal.names-init
names-init c = starts c.args.text.now _ (search rules)

pub returns-in_err-read_watched : goal.returns-in_err-read_watched
returns-in_err-read_watched c =
    let p = err_from_is_err_and c.from_residual.result c.from_residual.ensures.1 in
    rw (p.1, p.2) (list_refused _ _ _ _ _ _ c.names.invariant c.cut.ensures.front c.in_err-read_watched.ensures)

pub returns-in-None : goal.returns-in-None
returns-in-None c =
    rw (c.in_ok-push.ensures.ok)
    (list_ends _ _ _ _ _ _ c.names.invariant (search rules) c.cut.ensures.front (ap (option_map (λ rest. rest.now)) (sym c.in-None.is) ∙ c.cut.ensures.behind) c.in_ok-read_watched.ensures)

pub names-preserved : goal.names-preserved
names-preserved c =
    rw (c.in_ok-push.ensures.ok)
    (goes_on _ _ _ _ _ _ _ c.names.invariant c.cut.ensures.front (ap (option_map (λ rest. rest.now)) (sym c.in-Some.is) ∙ c.cut.ensures.behind) c.in_ok-read_watched.ensures)

pub returns : goal.returns
returns c = list_many _ _ _ _ c.names.invariant (search rules)
