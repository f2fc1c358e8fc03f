use Rattle.std.proofs.Common.{[], ◌∙◌, sym}
use Rattle.std.proofs.lemmas.List.{append-nil}
use Rattle.cw_i86.specs.Encoding.{bytes_of}
use Rattle.cw_dec86.proofs.Decide.{one}
use Rattle.cw_dec86.proofs.no_instruction_begins_another.Goals as goal

pub returns : goal.returns
returns c = record {
  front = λ bytes i j is js (rest, e) (others, f). one i j rest others is js (sym e ∙ f);
  same = λ i j is js e. one i j [] [] is js (append-nil (bytes_of i) ∙ (e ∙ sym (append-nil (bytes_of j))));
  begins = λ i j is js (rest, e). one i j [] rest is js (append-nil (bytes_of i) ∙ e);
}
