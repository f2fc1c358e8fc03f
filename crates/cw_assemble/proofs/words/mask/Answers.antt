use Rattle.std.proofs.Common.{◌≡◌, ◌*◌, ◌-◌, ◌^◌, ◌%◌, ap, ◌∙◌, arith}
use Rattle.cw_tmpl.proofs.Growing.{mask_small}
use Rattle.cw_assemble.proofs.words.mask.Goals as goal

pub returns : goal.returns
returns c =
    let small = mask_small c.args.t c.args.b c.requires.within in
    ap (λ n. n * 2 ^ c.args.b % 65536) c.ones.ensures ∙ (let e : (2 ^ c.args.t - 1) * 2 ^ c.args.b % 65536 ≡ (2 ^ c.args.t - 1) * 2 ^ c.args.b = omega arith in e)
