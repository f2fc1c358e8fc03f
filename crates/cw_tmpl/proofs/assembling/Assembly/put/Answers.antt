use Rattle.std.proofs.Common.{◌≡◌, ◌-◌, ◌++◌, ◌∷◌, [], length, length-append, sym, ap, ◌∙◌, arith}
use Rattle.std.proofs.lemmas.Result.{on_ok_weaker}
use Rattle.cw_tmpl.specs.Pieces.{bytes_with, relocation_of}
use Rattle.cw_tmpl.proofs.Growing.{plain_added, word_added, word_room}
use Rattle.cw_tmpl.proofs.assembling.Assembly.put.Goals as goal

pub relocate-requires : goal.relocate-requires
relocate-requires c =
    let old = c.args.self.now.bytes in
    let bytes = bytes_with 0 c.args.piece.now in
    omega (arith, ap length c.in_ok-put_blank.ensures.bytes, length-append old bytes, word_room c.args.piece.now c.in-Some.target (sym c.in-Some.ensures))

pub returns-in-Some : goal.returns-in-Some
returns-in-Some c =
    let old = c.args.self.now in
    let one = c.put_blank.new.self in
    let new = c.relocate.new.self in
    let target = c.in-Some.target in
    let same : new.bytes ≡ one.bytes = c.relocate.ensures.bytes in
    on_ok_weaker c.relocate.result
    (λ added.
    word_added old new c.args.piece.now target (sym c.in-Some.ensures) (same ∙ c.in_ok-put_blank.ensures.bytes)
    (added ∙ ap (λ rs. rs ++ relocation_of (length one.bytes - 2) target ∷ []) c.put_blank.ensures.relocs ∙ ap (λ bs. old.relocs ++ relocation_of (length bs - 2) target ∷ []) (sym same)))
    c.relocate.ensures.relocs

pub returns-in-None : goal.returns-in-None
returns-in-None c =
    plain_added c.args.self.now c.put_blank.new.self c.args.piece.now (sym c.in-None.ensures) c.in_ok-put_blank.ensures.bytes c.put_blank.ensures.relocs
