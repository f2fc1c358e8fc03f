use Rattle.std.proofs.Common.{ap, ap₂, codes, true, ◌≡◌, ◌∙◌}
use Rattle.std.proofs.lemmas.Result.{IfOk-weaker}
use Rattle.clap.specs.Simple.{App, app_of, app_of_fields, new_app, on_top, with_rule}
use Rattle.cw_words.specs.Command.{command_app, option_rule}
use Rattle.cw_words.proofs.simple.command.Goals as goal

abbrev bare : App
bare = on_top (λ s. record s { no_binary_name = true; disable_help_flag = true }) (new_app (codes "coral66"))

abbrev with_data : App
with_data = with_rule bare (option_rule (codes "data") (codes "16384") 1 32768)

abbrev with_frames : App
with_frames = with_rule with_data (option_rule (codes "frames") (codes "4096") 0 32768)

abbrev with_depth : App
with_depth = with_rule with_frames (option_rule (codes "depth") (codes "256") 1 4096)

abbrev with_steps : App
with_steps = with_rule with_depth (option_rule (codes "steps") (codes "200000000") 1 1000000000000)

pub returns : goal.returns
unfolding command_app
returns c =
    let named : app_of c.no_binary_name.result ≡ on_top (λ s. record s { no_binary_name = true }) (new_app (codes "coral66")) =
    ap app_of_fields c.no_binary_name.ensures ∙ ap (on_top (λ s. record s { no_binary_name = true })) c.new.ensures.app in
    let bare_is : app_of c.disable_help_flag-bare.result ≡ bare =
    ap app_of_fields c.disable_help_flag-bare.ensures ∙ ap (on_top (λ s. record s { disable_help_flag = true })) named in
    let data_is : app_of c.in_ok-with_data.with_data ≡ with_data =
    c.in_ok-with_data.ensures.shape c.option.ensures.local ∙ ap₂ with_rule bare_is c.option.ensures.rule in
    let frames_is : app_of c.in_ok-with_frames.with_frames ≡ with_frames =
    c.in_ok-with_frames.ensures.shape c.option-2.ensures.local ∙ ap₂ with_rule data_is c.option-2.ensures.rule in
    let depth_is : app_of c.in_ok-with_depth.with_depth ≡ with_depth =
    c.in_ok-with_depth.ensures.shape c.option-3.ensures.local ∙ ap₂ with_rule frames_is c.option-3.ensures.rule in
    let steps_is : app_of c.in_ok-with_steps.with_steps ≡ with_steps =
    c.in_ok-with_steps.ensures.shape c.option-4.ensures.local ∙ ap₂ with_rule depth_is c.option-4.ensures.rule in
    let action_in = c.in_ok-with_action.ensures.shape c.action_arg-action.ensures.local ∙ ap₂ with_rule steps_is c.action_arg-action.ensures.rule in
    IfOk-weaker c.arg-6.result _ _ (λ command adds. adds.shape c.word_arg-word.ensures.local ∙ ap₂ with_rule action_in c.word_arg-word.ensures.rule) c.arg-6.ensures
