-- What stands in the outermost block of a text without faults is right.
use Rattle.cw_sound.proofs.Units.Own.{own_text, own_tree}
use Rattle.cw_sound.proofs.laws.units.parts_stand.Goals as goal

pub returns : goal.returns
returns c raw named resolves fine fits =
    let own = own_text raw named resolves in
    let tree = own_tree raw named resolves fits in
    let items = c.items_declared.ensures named own (c.items_stand.ensures raw named resolves fine fits.rising fits.plain) in
    record {
      items = items;
      bodies = c.bodies_counted.ensures named own tree.placed items;
      mentions = c.all_stand.ensures named own fine tree.placed items;
      answers = c.answers_stand.ensures named own tree.placed items;
      types = (c.parts_free.ensures named fine).block;
    }
