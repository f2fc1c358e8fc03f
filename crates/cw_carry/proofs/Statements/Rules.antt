-- Statements, jumps and loops follow the source, where labels are reached, bodies begin and procedures stand.
use Rattle.std.proofs.Common.{◌≡◌, inl, inr, ⊎_elim, ℕ, false, Option, Some, None, subst}
use Rattle.std.specs.Prelude.{slice_get}
use Rattle.cw_unit.specs.declared.unit.Unit.{Unit as SourceUnit}
use Rattle.cw_unit.specs.declared.unit.Proc.{Proc}
use Rattle.cw_unit.specs.Work.{Nothing, Run}
use Rattle.cw_carry.proofs.Expressions.Carried.{Places, who_of, CarriedIn}
use Rattle.cw_carry.proofs.Expressions.Stepping.{Compiled}
use Rattle.cw_carry.proofs.Expressions.Moments.{Moment, here_in, has_words}
use Rattle.cw_carry.proofs.Expressions.Calls.{ProcedureAt}
use Rattle.cw_carry.proofs.Expressions.Jumps.{LabelsReach}
use Rattle.cw_carry.proofs.Expressions.Whole.{Rules}
use Rattle.cw_gen_unit.proofs.Layers.{statement_size}
use Rattle.cw_carry.proofs.Statements.Sites.{sites}
use Rattle.cw_carry.proofs.Statements.Statements.{statement_follows}
use Rattle.cw_carry.proofs.Statements.Rings.{loop_whole}
use Rattle.cw_carry.proofs.Statements.Loops.{element_follows, turn_follows, bump_follows, on_follows}
use Rattle.cw_carry.proofs.Statements.StepLoops.{first_follows, first_turn_follows, next_follows}
use Rattle.cw_carry.proofs.Statements.SimpleLoops.{beginning_follows}
use Rattle.cw_carry.proofs.Statements.Gotos.{jump_follows}

module _ (c : Compiled) (at_sites : (g : ℕ) (u : SourceUnit) (who : Option ℕ) → c.places g u who ≡ sites c.orders_for u who (c.has_words g u who)) (sizes : c.statement_size ≡ statement_size) where
  abbrev Here : (t : Moment c) → Places
  Here t = sites c.orders_for t.unit (who_of t.acts) (has_words c t)

  is_here : (t : Moment c) → c.places (here_in c t) t.unit (who_of t.acts) ≡ Here t
  is_here t = at_sites (here_in c t) t.unit (who_of t.acts)

  pub rules : LabelsReach c → ((g : ℕ) (v : SourceUnit) → slice_get c.units g ≡ Some v → CarriedIn c.units c.addresses c.limits c.orders_for c.places c.has_words g v None (c.orders_for v).entry false false (Run v.body Nothing)) → ((h p : ℕ) (v : SourceUnit) (proc : Proc) → slice_get c.units h ≡ Some v → slice_get v.procs p ≡ Some proc → ProcedureAt c h v p proc) → Rules c
  rules reach begins procedures = record {
    statement = λ t s k q n levels j w at le via facts.
        statement_follows c at_sites sizes t (λ line item r es body q' n' free last words few built body_built good made. (loop_whole c.orders_for t.unit (who_of t.acts) (has_words c t) line item r es body n' words few built body_built q' free last good made).0) s k q n levels j w (subst (λ p. p.StatementAt q s levels n) (is_here t) at) le via;
    jump = λ t d line q w at facts sound. jump_follows c t reach line q w d (subst (λ p. p.JumpAt line q d) (is_here t) at) facts sound;
    element = λ t i x k q n j w at le via facts.
        ⊎_elim (λ site. element_follows c at_sites t x k n j le via i q w site facts) (λ site. first_follows c at_sites t x k n j le via i q w site facts) (subst (λ p. p.ElementAt q i x n) (is_here t) at);
    beginning = λ t a x k q n j w at le via facts. beginning_follows c at_sites t x k n j le via a q w (subst (λ p. p.BeginningAt q a x n) (is_here t) at) facts;
    turn = λ t i x k q n j w at le via facts.
        ⊎_elim (λ site. inl (turn_follows c at_sites t x k n j le via i q w site facts)) (λ site. first_turn_follows c at_sites t x k n j le via i q w site facts) (subst (λ p. p.TurnAt q i x n) (is_here t) at);
    bump = λ t i x k q n j w at le via facts. bump_follows c at_sites t x k n j le via i q w (subst (λ p. p.BumpAt q i x n) (is_here t) at) facts;
    on = λ t x k q n j w at le via facts.
        ⊎_elim (λ site. inl (on_follows c at_sites t x k n j le via q w site facts)) (λ site. inr (next_follows c at_sites t x k n j le via q w site)) (subst (λ p. p.OnAt q x n) (is_here t) at);
    begins = begins;
    procedures = procedures;
  }
