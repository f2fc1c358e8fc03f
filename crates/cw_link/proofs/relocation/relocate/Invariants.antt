use Rattle.std.proofs.Common.{◌≡◌}
use Rattle.cw_tmpl.specs.Pieces.{fill}
use Rattle.cw_view.specs.Reading.{relocation_in}
use Rattle.cw_view.specs.Splitting.{payloads_left}
use Rattle.cw_link.specs.Contents.{values_in, records_of}
use Rattle.cw_link.specs.Relocation.{linked_word}
use Rattle.cw_link.specs.Views.{links_of}
use Rattle.cw_link.proofs.relocation.relocate.Given as goal

abbrev pub invariant-loop-payload : goal.invariant-loop-payload
invariant-loop-payload l =
    fill (linked_word (links_of l.links) l.limits) l.links.start (values_in relocation_in (payloads_left l.payload-iterator)) l.image.items
    ≡ fill (linked_word (links_of l.links) l.limits) l.links.start (records_of relocation_in 7 l.fn.view) l.fn.image.items
