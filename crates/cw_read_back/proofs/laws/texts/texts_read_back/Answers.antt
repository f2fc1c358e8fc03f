use Rattle.std.proofs.Common.{◌≡◌, ◌≤◌, length, map, ap, arith}
use Rattle.std.proofs.lemmas.List.{length-map}
use Rattle.cw_grammar.specs.Tokens.{numbered}
use Rattle.cw_show.specs.Lexing.{spelling}
use Rattle.cw_show.specs.StatementTokens.{canonical_tokens}
use Rattle.cw_compile.proofs.Few.{few_tokens}
use Rattle.cw_compile.specs.Texts.{most_levels}
use Rattle.cw_read_back.proofs.laws.texts.texts_read_back.Goals as goal

pub returns : goal.returns
returns c text raw tree =
    let ts = tree.expanded in
    let proper = c.spelled.ensures text tree.expands.tokens ts tree.expands.tokenizes tree.expands.expands in
    let normal = c.in_normal_form.ensures.text most_levels (numbered 1 ts) raw tree.derives in
    let back = c.read_back.ensures most_levels raw normal.marks normal.normal (c.leaves_spelled.ensures most_levels ts raw proper tree.derives) in
    let shown : length (map spelling back.tokens) ≡ length (canonical_tokens raw) = ap length back.spelled in
    let shorter = c.no_longer.ensures most_levels ts raw tree.derives in
    let few = few_tokens tree.expands.tokens ts tree.expands.expands in
    let all : length back.tokens ≤ 65535 = omega (arith, shown, length-map back.tokens spelling, shorter, few) in
    (back, back.expands all)
