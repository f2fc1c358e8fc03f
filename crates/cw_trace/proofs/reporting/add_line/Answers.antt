use Rattle.std.proofs.Common.{flat_map, codes, ◌++◌}
use Rattle.cw_trace.specs.Reports.{word_of, word_text, head_text, line_text}
use Rattle.cw_trace.proofs.Added.{adds_then, adds_cut}
use Rattle.cw_trace.proofs.reporting.add_line.Goals as goal

pub returns-in-Err : goal.returns-in-Err
unfolding line_text
returns-in-Err g c = adds_cut _ _ (head_text c.args.watch.now) (flat_map (word_text (word_of c.args.cpu.now)) c.args.watch.now.words ++ codes "\n") _ c.in-Err.ensures

pub returns-in-Err-add_words : goal.returns-in-Err-add_words
unfolding line_text
returns-in-Err-add_words g c =
    adds_then _ _ _ (head_text c.args.watch.now) _ _ c.in_default.ensures.ok c.in_default.ensures.ok_faults
    (adds_cut _ _ (flat_map (word_text (word_of c.args.cpu.now)) c.args.watch.now.words) (codes "\n") _ (rw c.as_slice.ensures at c.in-Err-add_words.ensures))

pub returns : goal.returns
unfolding line_text
returns g c =
    adds_then _ _ _ (head_text c.args.watch.now) _ _ c.in_default.ensures.ok c.in_default.ensures.ok_faults
    (adds_then _ _ _ (flat_map (word_text (word_of c.args.cpu.now)) c.args.watch.now.words) (codes "\n") _ (rw c.as_slice.ensures at c.in_default-add_words.ensures.ok) c.in_default-add_words.ensures.ok_faults c.add.ensures)
