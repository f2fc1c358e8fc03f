use Rattle.std.proofs.Common.{◌≡◌, ℕ, List, [], get_or, sym, ap, subst, ◌∙◌}
use Rattle.std.specs.Prelude.{OnOk}
use Rattle.std.proofs.lemmas.Bool.{false≢true}
use Rattle.cw_pick.specs.Picking.{is_in}
use Rattle.cw_pick.specs.Working.{definers, Marks}
use Rattle.cw_pick.proofs.Indexing.{found_first, list_at, no_list}
use Rattle.cw_pick.proofs.Steps.{none}
use Rattle.cw_pick.proofs.following.want.Goals as goal

pub returns-in-Some-clause-marks : goal.returns-in-Some-clause-marks
returns-in-Some-clause-marks c =
    let keys = c.args.index.now.names.keys in
    let lists = c.args.index.now.definers.items in
    let is : definers c.args.index.now c.args.name ≡ get_or lists c.in-Some.number [] = list_at keys lists c.args.name c.in-Some.number c.requires.lists (found_first c.args.name keys c.in-Some.number c.in-Some.ensures.index) in
    subst (λ (l : List ℕ). OnOk c.ask.result (Marks (is_in l) c.args.state.now.work c.ask.new.state.work)) (sym is) c.ask.ensures.marks

pub returns-in-None-clause-marks : goal.returns-in-None-clause-marks
returns-in-None-clause-marks c =
    let keys = c.args.index.now.names.keys in
    let is : definers c.args.index.now c.args.name ≡ [] = no_list keys c.args.index.now.definers.items c.args.name (sym c.in-None.ensures.found) in
    none (is_in (definers c.args.index.now c.args.name)) c.args.state.now.work (λ k lt h. absurd (false≢true (sym (ap (λ (l : List ℕ). is_in l k) is) ∙ h)))
