use Rattle.std.proofs.Common.{◌≡◌, ℕ, ◌++◌, List, map, take}
use Rattle.std.specs.List.{flat_map}
use Rattle.cw_lex.specs.Lexical.{view}
use Rattle.cw_macro.specs.Expansion.{part}
use Rattle.cw_macro.specs.Views.{IsRun, run_parts, parts_of, IsNumbering}
use Rattle.cw_macro.proofs.definition.pieces.Given as goal

abbrev pub invariant-loop-token : goal.invariant-loop-token
invariant-loop-token l = record {
  is_run : IsRun l.run;
  so_far : (names : List (List ℕ)) → IsNumbering l.parameters names → flat_map parts_of l.body ++ run_parts l.run ≡ map (part names) (map view (take l.token-index l.tokens));
}
