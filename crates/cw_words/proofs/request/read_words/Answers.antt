use Rattle.std.proofs.Common.{◌∙◌, map, string_bytes, rules}
use Rattle.std.proofs.lemmas.Result.{IfOk-weaker}
use Rattle.cw_words.proofs.Facts.{parts_taken, parts_refused}
use Rattle.cw_words.proofs.request.read_words.Goals as goal

pub returns-in-Ok-clause-ok : goal.returns-in-Ok-clause-ok
returns-in-Ok-clause-ok c =
    let taken = parts_taken (map string_bytes c.args.words.now) _ c.in-Ok.ensures.ok.0 c.in-Ok.ensures.ok.1 in
    IfOk-weaker c.read.result _ _ (λ command is. taken ∙ is) c.read.ensures.ok

pub returns-in-Ok-clause-usage : goal.returns-in-Ok-clause-usage
returns-in-Ok-clause-usage c =
    let taken = parts_taken (map string_bytes c.args.words.now) _ c.in-Ok.ensures.ok.0 c.in-Ok.ensures.ok.1 in
    λ usage. taken ∙ c.read.ensures.usage usage

pub returns-in-Err-clause-usage : goal.returns-in-Err-clause-usage
returns-in-Err-clause-usage c = λ usage. parts_refused (map string_bytes c.args.words.now) (c.in-Err.ensures.usage (search rules))
