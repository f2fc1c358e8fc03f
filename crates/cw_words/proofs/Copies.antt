-- The number of texts of `big` and the stop of `trace` are those of the first WORD.
use Rattle.std.proofs.Common.{◌≡◌, Bool, true, false, List, Option, Some, None, refl, subst}
use Rattle.std.specs.Prelude.{option_and_then, ◌==◌, length, if◌then◌else◌, codes}
use Rattle.clap.specs.Walk.{Row, Text, all_of}
use Rattle.cw_words.specs.Command.{faults_of, rows_in}
use Rattle.cw_words.specs.Parts.{Parts, are_fit, number_at, action_at, copies_of, stop_of, parts_in, parts_of}

pub record Told (parts : Parts) : Type 0 where
  pub copies : copies_of parts.action parts.names ≡ Some parts.copies
  pub stop : stop_of parts.action parts.names ≡ Some parts.stop

-- what holds of the parts that each value gives holds of those that there are
each : {X : Type 0} (f : X → Option Parts) (o : Option X) → ((x : X) → o ≡ Some x → (parts : Parts) → f x ≡ Some parts → Told parts) → (parts : Parts) → option_and_then f o ≡ Some parts → Told parts
each f None holds parts e = absurd (cc)
each f (Some x) holds parts e = holds x refl parts e

fitting : (b : Bool) (own parts : Parts) → Told own → (if b then Some own else None) ≡ Some parts → Told parts
fitting true own parts has e = subst Told (same e) has
  where
    same : ◌≡◌ {A = Option Parts} (Some own) (Some parts) → own ≡ parts
    same s = cc s
fitting false own parts has e = absurd (cc)

in_rows : (rows : List Row) (parts : Parts) → parts_in rows ≡ Some parts → Told parts
in_rows rows =
    each _ (action_at rows) (λ action is_action. each _ (number_at 1 32768 (codes "data") rows) (λ area is_area. each _ (number_at 0 32768 (codes "frames") rows) (λ frames is_frames. each _ (number_at 1 4096 (codes "depth") rows) (λ depth is_depth.
    each _ (number_at 1 1000000000000 (codes "steps") rows) (λ steps is_steps. each _ (all_of (codes "WORD") rows) (λ names is_names. each _ (copies_of action names) (λ copies copied. each _ (stop_of action names) (λ stop stops parts.
    let own : Parts = record { action = action; area = area; frames = frames; depth = depth; steps = steps; names = names; copies = copies; stop = stop } in
    fitting (are_fit own) own parts (record { copies = copied; stop = stops })))))))))

by_faults : (b : Bool) (rows : List Row) (parts : Parts) → (if b then parts_in rows else None) ≡ Some parts → Told parts
by_faults true rows parts e = in_rows rows parts e
by_faults false rows parts e = absurd (cc)

pub told : (words : List Text) (parts : Parts) → parts_of words ≡ Some parts → Told parts
unfolding parts_of
told words parts e = by_faults (length (faults_of words) == 0) (rows_in words) parts e
