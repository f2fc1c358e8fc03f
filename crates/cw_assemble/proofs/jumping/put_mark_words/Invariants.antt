use Rattle.std.proofs.Common.{drop}
use Rattle.cw_tmpl.specs.Templates.{mark_words}
use Rattle.cw_assemble.proofs.Growing.{Coming}
use Rattle.cw_assemble.proofs.jumping.put_mark_words.Given as goal

abbrev pub invariant-loop-mark : goal.invariant-loop-mark
invariant-loop-mark l = Coming l.fn.code (mark_words l.names l.marks) l.code (mark_words l.names (drop l.mark-index l.marks))
