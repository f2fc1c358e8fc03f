use Rattle.std.proofs.Common.{◌∙◌, Some, sym, ap, subst, List, ℕ, append-nil}
use Rattle.cw_link_files.specs.Parts.{Given, HasPart}
use Rattle.cw_link_files.proofs.reading.take_object.Goals as goal

pub returns-in-Ok-push-clause-took : goal.returns-in-Ok-push-clause-took
returns-in-Ok-push-clause-took c =
    let P : List ℕ → Type 0 = λ bytes. HasPart bytes (Given c.of.result) in (
      Given c.of.result,
      subst P c.as_slice.ensures.value (c.in-Ok.ensures.is_object c.of.result (c.of.ensures ∙ sym c.as_slice.ensures.value)),
      record { objects = c.in-Ok-push.ensures.ok; members = sym (append-nil c.args.taken.now.members) },
    )

pub returns-in-Err-clause-stops : goal.returns-in-Err-clause-stops
returns-in-Err-clause-stops c = λ told texts before after at. c.in-Err.ensures.stops told texts before after (at ∙ ap (λ bytes. Some bytes) (sym c.as_slice.ensures.value))
