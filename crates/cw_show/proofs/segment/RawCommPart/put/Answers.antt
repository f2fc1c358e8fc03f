use Rattle.std.proofs.Common.{refl}
use Rattle.cw_show.proofs.Adding.{in_order, becomes}
use Rattle.cw_show.proofs.segment.RawCommPart.put.Goals as goal

pub returns-in-Common : goal.returns-in-Common
returns-in-Common c = becomes (in_order c.put_word.ensures c.put_bracketed.ensures) (rw (c.in-Common.is, c.as_slice.ensures) refl)

pub returns-in-Library : goal.returns-in-Library
returns-in-Library c = becomes (in_order c.put_word-in-Library.ensures c.put_bracketed-in-Library.ensures) (rw (c.in-Library.is, c.as_slice-in-Library.ensures) refl)

pub returns-in-Absolute : goal.returns-in-Absolute
returns-in-Absolute c = becomes (in_order c.put_word-in-Absolute.ensures c.put_bracketed-in-Absolute.ensures) (rw (c.in-Absolute.is, c.as_slice-in-Absolute.ensures) refl)
