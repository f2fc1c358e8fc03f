use Rattle.std.proofs.Common.{◌≡◌, ℕ, List, ap, ◌∙◌}
use Rattle.cw_unit.specs.declared.unit.Unit.{Unit as SourceUnit}
use Rattle.cw_unit.specs.declared.layout.Layout.{Layout}
use Rattle.cw_unit.specs.Storage.{layout_of}
use Rattle.cw_unit.specs.StackBound.{unit_need}
use Rattle.cw_tmpl.specs.declared.assembling.Code.{Code}
use Rattle.cw_tmpl.specs.ReferenceCode.{orders_code}
use Rattle.cw_obj.specs.ReferenceObject.{object_records, object_bytes}
use Rattle.cw_object.specs.ObjectContents.{object_with}
use Rattle.cw_build.specs.Compiled.{code_of, object_of}
use Rattle.cw_build.proofs.compiling.compile.Goals as goal

-- the object of what the passes make is the unit's
of_unit : (u : SourceUnit) (layout : Layout) (code : Code) (need : ℕ) (statements : List (ℕ × ℕ)) (object : List ℕ) → layout ≡ layout_of u → code ≡ code_of u → need ≡ unit_need u
    → statements ≡ code.statements → object ≡ object_bytes (object_records u layout code need statements) → object ≡ object_of u
unfolding object_of
of_unit u layout code need statements object l c n s is =
    is
    ∙ ap (λ places. object_bytes (object_records u layout code need places)) s
    ∙ ap (λ words. object_with u layout code words) n
    ∙ ap (λ x. object_with u layout x (unit_need u)) c
    ∙ ap (λ x. object_with u x (code_of u) (unit_need u)) l

pub returns : goal.returns
returns c = record {
  layout = c.in_ok-layout.ensures;
  object =
      c.of-object.ensures
      ∙ of_unit c.args.unit.now c.in_ok-layout.layout c.in_ok-code.code c.unit_need-need.result c.as_slice-statements.result.now c.in_ok-bytes.bytes.items
      c.in_ok-layout.ensures (c.in_ok-code.ensures ∙ ap orders_code c.in_ok-orders.ensures) c.unit_need-need.ensures c.as_slice-statements.ensures c.in_ok-bytes.ensures;
}
