use Rattle.std.proofs.Common.{◌≡◌, ◌++◌, ◌∙◌, map, take, drop, OnOk, not, ap, sym, subst, ℕ}
use Rattle.std.specs.Prelude.{◌==◌}
use Rattle.cw_listing.specs.Remarks.{printed, line_length, shown_width}
use Rattle.cw_listing.proofs.Fronts.{front_of_line}
use Rattle.cw_listing.proofs.source.add_line_shown.Goals as goal

pub returns : goal.returns
returns c =
    let rest = drop c.args.start c.args.source.now in
    let shown : c.front-shown.result.now ≡ take shown_width rest = c.front-shown.ensures ∙ ap (λ ys. take shown_width ys) c.behind.ensures in
    let is : c.front.result.now ≡ take shown_width (take (line_length rest) rest) =
    c.front.ensures
    ∙ ap (λ n. take n c.front-shown.result.now) c.line_length-length.ensures.length
    ∙ ap (λ ys. take (line_length ys) ys) shown
    ∙ sym (front_of_line (λ b. not (b == 10)) shown_width rest) in
    subst (λ ys. OnOk c.add_printed.result (c.add_printed.new.text.items ≡ c.args.text.now.items ++ map printed ys)) is c.add_printed.ensures
