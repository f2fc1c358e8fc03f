use Rattle.std.proofs.Common.{rules}
use Rattle.cw_tmpl.specs.Templates.{load_top}
use Rattle.cw_assemble.specs.Growing.{Adds}
use Rattle.cw_assemble.proofs.Composed.{◌⨟◌}
use Rattle.cw_assemble.proofs.parts.put_load_part.Goals as goal

pub returns : goal.returns
returns c =
    let first : Adds c.args.code.now load_top c.put_all.new.self = search rules in
    let all = first ⨟ c.put_part_taken.ensures in
    all
