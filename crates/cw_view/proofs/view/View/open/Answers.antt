use Rattle.std.proofs.Common.{◌≡◌, sym, ◌∙◌, ap, List, [], ◌∷◌, ℕ, refl, drop}
use Rattle.cw_fields.specs.Fields.{text_bytes}
use Rattle.cw_view.specs.Splitting.{payloads_in}
use Rattle.cw_view.proofs.Splits.{all_payloads}
use Rattle.cw_fields.proofs.Spelled.{no_none}
use Rattle.cw_fields.proofs.Formats.{some_is}
use Rattle.cw_view.proofs.Whole.{begins_in, long_enough, name_there, whole_object, fails_trailing, code_there}
use Rattle.cw_view.proofs.view.View.open.Goals as goal

pub returns-then-at-bytes : goal.returns-then-at-bytes
returns-then-at-bytes c = fails_trailing c.in_ok-version.version c.args.bytes.now c.in_ok-front.front c.in_ok-front.at c.in_ok-version.ensures.0 c.in_ok-front.ensures.0 c.in_ok-front.ensures.1 c.if-at-bytes.true

pub segment_name-requires : goal.segment_name-requires
segment_name-requires c = long_enough c.in_ok-version.version c.args.bytes.now c.in_ok-front.front c.in_ok-front.at c.in_ok-front.ensures.0 c.in_ok-front.ensures.1

pub unreachable-requires : goal.unreachable-requires
unreachable-requires c = no_none _ (sym c.in-None.ensures ∙ name_there c.in_ok-version.version c.args.bytes.now c.in_ok-front.front c.in_ok-front.at c.in_ok-front.ensures.0 c.in_ok-front.ensures.1)

pub returns : goal.returns
returns c =
    let v = c.in_ok-version.version in
    let bytes = c.args.bytes.now in
    let front = c.in_ok-front.front in
    let at = c.in_ok-front.at in
    let h = c.in_ok-front.ensures.0 in
    let b = begins_in v bytes front at h c.in_ok-front.ensures.1 in
    let name : b.name ≡ c.in-Some.name = some_is _ _ (sym (name_there v bytes front at h c.in_ok-front.ensures.1) ∙ c.in-Some.ensures) in (
      v,
      h.before,
      whole_object v bytes front at c.in_ok-version.ensures.0 h c.in_ok-front.ensures.1 c.if-at-bytes.false,
      record {
        bytes = refl;
        version = refl;
        name = b.only ∙ ap (λ (n : List ℕ). text_bytes n ∷ []) name;
        code = c.code.ensures ∙ code_there v bytes front at h;
      },
      λ kind. ap (λ (y : List ℕ). payloads_in kind (drop 6 y)) (whole_object v bytes front at c.in_ok-version.ensures.0 h c.in_ok-front.ensures.1 c.if-at-bytes.false).spelled ∙ all_payloads v kind h.before h.is_front,
    )
