use Rattle.std.proofs.Common.{◌≡◌, ◌+◌, [], ◌∷◌, ◌++◌, subst, arith}
use Rattle.std.specs.Prelude.{slice_index}
use Rattle.cw_link.specs.Filled.{HasFilled}
use Rattle.cw_link.proofs.presets.fill_preset.Goals as goal

pub returns-clause-filled : goal.returns-clause-filled
returns-clause-filled c = λ ps h.
    let is : c.from.result + c.from-2.result ≡ slice_index c.args.homes.now c.args.preset.now.family + c.args.preset.now.offset = omega (arith, c.from.ensures, c.from-2.ensures, c.home_of.ensures) in
    subst (λ a. HasFilled (ps ++ record { segment = c.args.segment; address = a; word = c.args.preset.now.word } ∷ []) c.fill_word.new.filled) is (c.fill_word.ensures.filled ps h)
