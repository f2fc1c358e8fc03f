use Rattle.std.proofs.Common.{List, [], ◌∷◌, map, IsTrue, refl, sym, subst}
use Rattle.std.specs.List.{list_all}
use Rattle.cw_number.specs.Numbers.{numbers_of}
use Rattle.cw_make_stmt.specs.Made.{statement_of}
use Rattle.cw_make.specs.Made.{unit_of}
use Rattle.cw_scope.specs.declared.resolve.Named.{Named}
use Rattle.cw_make_expr.specs.Parts.{Numbers}
use Rattle.cw_unit.specs.declared.unit.Proc.{Proc}
use Rattle.cw_unit.specs.declared.unit.Stmt.{Stmt}
use Rattle.cw_writable.proofs.Coded.Fine.{both, parts}
use Rattle.cw_writable.specs.Back.Ready.{has_lines}
use Rattle.cw_sound.specs.Statements.Bodies.{Body, block_bodies}
use Rattle.cw_sound.specs.Ready.Lined.{is_lined_statement}
use Rattle.cw_sound.proofs.Ready.Lines.{block_lines, statement_lines}
use Rattle.cw_sound.proofs.laws.units.lines.Goals as goal

all_lines : (named : Named) (numbers : Numbers) (bs : List Body) → IsTrue (list_all (λ (x : Body). is_lined_statement x.statement) bs) → IsTrue (list_all has_lines (map (λ (x : Body). statement_of named numbers x.statement) bs))
all_lines named numbers [] h = refl
all_lines named numbers (b ∷ bs) h =
    let p = parts (is_lined_statement b.statement) (list_all (λ (x : Body). is_lined_statement x.statement) bs) h in
    both (has_lines (statement_of named numbers b.statement)) (list_all has_lines (map (λ (x : Body). statement_of named numbers x.statement) bs)) (statement_lines named numbers b.statement p.0) (all_lines named numbers bs p.1)

of_bodies : (qs : List Proc) → IsTrue (list_all has_lines (map (λ (q : Proc). q.body) qs)) → IsTrue (list_all (λ (q : Proc). has_lines q.body) qs)
of_bodies [] h = refl
of_bodies (q ∷ qs) h =
    let p = parts (has_lines q.body) (list_all has_lines (map (λ (x : Proc). x.body) qs)) h in
    both (has_lines q.body) (list_all (λ (x : Proc). has_lines x.body) qs) p.0 (of_bodies qs p.1)

pub returns : goal.returns
returns c = record {
  body = λ named fit. block_lines named (numbers_of named) named.raw.now.block fit.block;
  procedures = λ named fit.
      of_bodies (unit_of named).procs
      (subst (λ (ss : List Stmt). IsTrue (list_all has_lines ss)) (sym (c.bodies.ensures.same named (numbers_of named) named.raw.now.block)) (all_lines named (numbers_of named) (block_bodies named.raw.now.block) fit.bodies));
}
