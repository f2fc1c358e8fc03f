use Rattle.std.proofs.Common.{◌≡◌, drop}
use Rattle.cw_tmpl.specs.Pieces.{fill}
use Rattle.cw_link.specs.Relocation.{linked_word}
use Rattle.cw_link.specs.Views.{links_of}
use Rattle.cw_link.proofs.relocation.fill.Given as goal

abbrev pub invariant-loop-reloc : goal.invariant-loop-reloc
invariant-loop-reloc l = record {
  rest : fill (linked_word (links_of l.links) l.limits) l.links.start (drop l.reloc-index l.relocs) l.image ≡ fill (linked_word (links_of l.links) l.limits) l.links.start l.relocs l.fn.image;
}
