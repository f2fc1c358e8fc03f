-- Whether the segments of examples are well-formed units, and programs whose segments are not.
use Rattle.std.specs.Prelude.{List, [], ◌∷◌, Bool, true, false, ◌&&◌, None}
use Rattle.cw_unit.specs.declared.unit.Param.TheVariants as param
use Rattle.cw_unit.specs.declared.unit.Proc.{Proc}
use Rattle.cw_unit.specs.declared.unit.Target.TheVariants as target
use Rattle.cw_unit.specs.Program.{program_of}
use Rattle.cw_unit.specs.Stop.{Stuck}
use Rattle.cw_safety.specs.WellFormed.{is_well_formed}
use Rattle.cw_checks_meaning.specs.Trees.{number, asks, by_value, nothing, assign, call, answer, go_to, single, procedure_of, body_label, segment_of}
use Rattle.cw_checks_meaning.specs.Examples.{Example, one}

abbrev pub well_formed : Example → Bool
well_formed x = is_well_formed (program_of x.segments x.limits)

abbrev pub are_well_formed : List Example → Bool
are_well_formed [] = true
are_well_formed (x ∷ xs) = well_formed x && are_well_formed xs

-- no checked program is one of these
abbrev pub unset_label : Example
unset_label = one (segment_of [] [] (body_label ∷ []) [] (go_to 0 ∷ [])) 9 [] Stuck

abbrev pub answer_outside : Example
answer_outside = one (segment_of [] [] [] [] (answer (number 1) ∷ [])) 9 [] Stuck

abbrev pub takes_label : Proc
takes_label = procedure_of false None (param.Label 0 ∷ []) 1 nothing

abbrev pub missing_argument : Example
missing_argument = one (segment_of [] (takes_label ∷ []) [] [] (call (target.Own 0) [] ∷ [])) 9 [] Stuck

abbrev pub word_for_label : Example
word_for_label = one (segment_of [] (takes_label ∷ []) [] [] (call (target.Own 0) (by_value (number 1) ∷ []) ∷ [])) 9 [] Stuck

abbrev pub answer_of_writing : Example
answer_of_writing = one (segment_of (single ∷ []) [] [] [] (assign 0 (asks target.Write (by_value (number 1) ∷ [])) ∷ [])) 12 (1 ∷ []) Stuck

abbrev pub not_well_formed : List Example
not_well_formed = unset_label ∷ answer_outside ∷ missing_argument ∷ word_for_label ∷ answer_of_writing ∷ []
