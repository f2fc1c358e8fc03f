use Rattle.std.proofs.Common.{◌≡◌, ℕ, Option, Some, None, get_or, sym, ap, ◌∙◌}
use Rattle.std.proofs.lemmas.Bool.{true≢false}
use Rattle.cw_comm.proofs.Deciding.{here_some, not_first, no_lister, none_earlier, alike, differs}
use Rattle.cw_comm.proofs.Searching.{first_listings, stands_at}
use Rattle.cw_comm.proofs.checking.difference_at.Goals as goal

abbrev some : ℕ → ℕ → Option (ℕ × ℕ)
some a b = Some (a, b)

pub returns-then-own-descriptor : goal.returns-then-own-descriptor
returns-then-own-descriptor c = not_first (first_listings c.requires.at.first) c.args.at.now.segment c.requires.at.own.here c.args.descriptor c.number-name.result (stands_at c.args.at.now c.args.descriptor c.number-name.result c.requires c.number-name.ensures) c.in-Some.field-0-0 c.in-Some.own (sym c.in-Some.ensures) c.if-own-descriptor.true

pub returns-in-None : goal.returns-in-None
returns-in-None c = λ none.
    absurd (here_some (first_listings c.requires.at.first) c.args.at.now.segment c.requires.at.own.here c.args.descriptor c.number-name.result (stands_at c.args.at.now c.args.descriptor c.number-name.result c.requires c.number-name.ensures) (sym c.in-None.ensures))

pub returns-then-segment-first : goal.returns-then-segment-first
returns-then-segment-first c = none_earlier (first_listings c.requires.at.first) c.args.at.now.segment c.requires.at.own.here c.args.descriptor c.number-name.result (stands_at c.args.at.now c.args.descriptor c.number-name.result c.requires c.number-name.ensures) c.in-Some-entry.first c.in-Some-entry.place (sym c.in-Some-entry.ensures) c.if-segment-first.true

pub returns-then-tells_same : goal.returns-then-tells_same
returns-then-tells_same c =
    let own : get_or c.args.at.now.own.now.listings.items c.number-name.result None ≡ Some (c.in-Some.field-0-0, c.args.descriptor) = sym c.in-Some.ensures ∙ ap (λ e. some (c.in-Some.field-0-0) e) c.if-own-descriptor.false in
    alike (first_listings c.requires.at.first) c.args.at.now.segment c.requires.at.own.here c.args.descriptor c.number-name.result (stands_at c.args.at.now c.args.descriptor c.number-name.result c.requires c.number-name.ensures) c.in-Some.field-0-0 c.in-Some-entry.first c.in-Some-entry.place own (sym c.in-Some-entry.ensures) (c.tells_same.ensures.0 c.if-tells_same.true)

pub returns-else-tells_same : goal.returns-else-tells_same
returns-else-tells_same c =
    let own : get_or c.args.at.now.own.now.listings.items c.number-name.result None ≡ Some (c.in-Some.field-0-0, c.args.descriptor) = sym c.in-Some.ensures ∙ ap (λ e. some (c.in-Some.field-0-0) e) c.if-own-descriptor.false in
    differs (first_listings c.requires.at.first) c.args.at.now.segment c.requires.at.own.here c.args.descriptor c.number-name.result (stands_at c.args.at.now c.args.descriptor c.number-name.result c.requires c.number-name.ensures) c.in-Some.field-0-0 c.in-Some-entry.first c.in-Some-entry.place own (sym c.in-Some-entry.ensures) c.if-segment-first.false (λ same. true≢false (sym (c.tells_same.ensures.1 same) ∙ c.if-tells_same.false))

pub returns-in-None-entry : goal.returns-in-None-entry
returns-in-None-entry c = no_lister (first_listings c.requires.at.first) c.args.at.now.segment c.requires.at.own.here c.args.descriptor c.number-name.result (stands_at c.args.at.now c.args.descriptor c.number-name.result c.requires c.number-name.ensures) (sym c.in-None-entry.ensures)
