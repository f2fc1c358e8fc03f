-- Each piece goes on from those before it.
use Rattle.std.proofs.Common.{Ok, Err, ◌≡◌, ◌++◌, ◌+◌, ◌<◌, length, map, take, drop, arith, sym, ◌∙◌, ap, ◌==◌}
use Rattle.std.specs.Prelude.{count_by}
use Rattle.std.proofs.lemmas.List.{length-drop}
use Rattle.cw_lex.specs.Found.{piece}
use Rattle.cw_lex.specs.Lexical.{view, lexemes, line_behind, Place}
use Rattle.cw_lex.proofs.Run.{reads_on, fails_on, fails_here, reads_all, line_on, tail_is, part_is, answers_fault, piece_moves}
use Rattle.cw_lex.proofs.lexing.read.Goals as goal

pub loop-at-init : goal.loop-at-init
loop-at-init c = record {
  within = omega arith;
  line_is = omega arith;
  reads = rw c.new-tokens.ensures (λ ts d. d);
  fails = λ f d. d;
}

pub returns-in-Err : goal.returns-in-Err
returns-in-Err c =
    let text = c.args.text.now in
    let read : piece c.args.form c.loop-at.after_semicolon (drop c.loop-at.at text) ≡ Err c.in-Err.problem = ap (piece c.args.form c.loop-at.after_semicolon) (sym (tail_is text c.loop-at.at)) ∙ sym c.in-Err.ensures.value in
    rw c.fault_at.ensures (answers_fault c.args.form (record { line = c.args.first_line; at = c.args.first_at }) text c.in-Err.problem c.loop-at.line
    (fails_here c.args.form (record { line = c.args.first_line; at = c.args.first_at }) text c.loop-at.after_semicolon c.loop-at.at c.loop-at.line c.in-Err.problem c.loop-at-test.true c.loop-at.invariant.line_is read c.loop-at.invariant.fails))

pub loop-at-smaller : goal.loop-at-smaller
loop-at-smaller c =
    let text = c.args.text.now in
    let read : piece c.args.form c.loop-at.after_semicolon (drop c.loop-at.at text) ≡ Ok (c.in-Ok.kind, c.in-Ok.length) = ap (piece c.args.form c.loop-at.after_semicolon) (sym (tail_is text c.loop-at.at)) ∙ sym c.in-Ok.ensures.value in
    let moves : 0 < c.in-Ok.length = piece_moves c.args.form c.loop-at.after_semicolon text c.loop-at.at c.in-Ok.length c.in-Ok.kind c.loop-at-test.true read in
    omega (arith, c.in-Ok.ensures.within, ap length (tail_is text c.loop-at.at), length-drop c.loop-at.at text)

pub loop-at-preserved : goal.loop-at-preserved
loop-at-preserved c =
    let text = c.args.text.now in
    let at = c.loop-at.at in
    let n = c.in-Ok.length in
    let form = c.args.form in
    let start : Place = record { line = c.args.first_line; at = c.args.first_at } in
    let after = c.loop-at.after_semicolon in
    let read : piece form after (drop at text) ≡ Ok (c.in-Ok.kind, n) = ap (piece form after) (sym (tail_is text at)) ∙ sym c.in-Ok.ensures.value in
    let feeds : c.line_feeds.result ≡ count_by (λ b. b == 10) (take n (drop at text)) = c.line_feeds.ensures ∙ ap (count_by (λ b. b == 10)) (part_is text at n) in
    let kept : map view c.keep.new.tokens ≡ map view c.loop-at.tokens ++ lexemes c.in-Ok.kind (line_behind start (take at text)) (c.args.first_at + at) (take n (drop at text)) =
    rw (sym (part_is text at n), sym c.loop-at.invariant.line_is) c.in_ok-keep-in-Ok.ensures in
    record {
      within = omega (arith, c.in-Ok.ensures.within, ap length (tail_is text at), length-drop at text);
      line_is = line_on start text at n c.loop-at.line c.line_feeds.result c.loop-at.invariant.line_is feeds;
      reads = rw (c.is_after_semicolon-after_semicolon.ensures, kept) (reads_on form start text after at n c.in-Ok.kind (map view c.loop-at.tokens) c.loop-at-test.true read c.loop-at.invariant.reads);
      fails = rw c.is_after_semicolon-after_semicolon.ensures (fails_on form start text after at n c.in-Ok.kind c.loop-at-test.true read c.loop-at.invariant.fails);
    }

pub returns : goal.returns
returns c = reads_all c.args.form (record { line = c.args.first_line; at = c.args.first_at }) c.args.text.now c.loop-at.after_semicolon c.loop-at.at (map view c.loop-at.tokens) c.loop-at.invariant.within c.loop-at-test.false c.loop-at.invariant.reads
