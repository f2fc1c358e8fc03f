use Rattle.std.proofs.Common.{take, sym, ap, ◌∙◌}
use Rattle.std.specs.Prelude.{◌||◌, List}
use Rattle.std.specs.Str.{bytes_eq}
use Rattle.cw_comm.specs.Agreement.{Name}
use Rattle.cw_pick.specs.Picking.{is_among}
use Rattle.cw_pick.proofs.Bools.{any_more, or_assoc}
use Rattle.cw_pick.proofs.Indexing.{among_more}
use Rattle.cw_pick.proofs.settling.add_names.Goals as goal

pub loop-name-preserved : goal.loop-name-preserved
loop-name-preserved c = λ name.
    let x : Name = c.name-item.result in
    let i = c.loop-name.name-index in
    let names : List Name = c.args.names.now in
    among_more c.loop-name.set.keys c.insert_full.new.self.keys x name c.in-Ok.ensures.keys ∙ ap (λ b. b || bytes_eq name x) (c.loop-name.invariant name)
    ∙ or_assoc (is_among c.args.set.now.keys name) (is_among (take i names) name) (bytes_eq name x) ∙ ap (λ b. is_among c.args.set.now.keys name || b) (sym (any_more (bytes_eq name) names i x c.loop-name-test.true c.name-item.is))
