-- The object of a unit that can be compiled tells the name of its segment, its code, and where the statements begin in it.
use Rattle.std.proofs.Common.{◌≡◌, ℕ, ◌+◌, List, [], ◌∷◌, map, refl, ap, ◌∙◌}
use Rattle.std.specs.Prelude.{IsTrue, All}
use Rattle.std.proofs.lemmas.List.Elements.{All-weaker}
use Rattle.cw_unit.specs.declared.unit.Unit.{Unit as SourceUnit}
use Rattle.cw_unit.specs.declared.layout.Layout.{Layout}
use Rattle.cw_unit.specs.Storage.{layout_of}
use Rattle.cw_unit.specs.StackBound.{unit_need}
use Rattle.cw_tmpl.specs.declared.assembling.Code.{Code}
use Rattle.cw_fields.proofs.Formats.{whole_again}
use Rattle.cw_view.specs.Payloads.{statement_bytes, FitsStatement}
use Rattle.cw_view.specs.Reading.{statement_in}
use Rattle.cw_view.proofs.Forms.{reads_statement}
use Rattle.cw_link.specs.Contents.{kept, values_in}
use Rattle.cw_obj.specs.Writable.{AllFrom, IsBegun, behind_number, IsWritable, WritesObjects, TellsUnits}
use Rattle.cw_object.specs.IsWritable.{is_writable}
use Rattle.cw_object.specs.ObjectContents.{payloads_of, contents_in, object_with, TellsItsUnit}
use Rattle.cw_object.proofs.Telling.{in-object}
use Rattle.cw_traced.specs.Lines.Lines.{unit_lines}
use Rattle.cw_build.specs.Compiled.{IsCompilable, code_of, object_of, contents_of_unit}

-- what the object of a unit tells of its statements, which begin in its code
pub record IsTold (u : SourceUnit) : Type 0 where
  pub contents : contents_in (object_of u) ≡ contents_of_unit u
  pub statements : values_in statement_in (payloads_of 10 (object_of u)) ≡ (code_of u).statements
  pub inside : AllFrom (IsBegun (code_of u).bytes) behind_number 0 (code_of u).statements

abbrev pub AreTold : Type 0
AreTold = (u : SourceUnit) → IsCompilable u → IsTold u

-- what was written is read back
read-back : (code : List ℕ) (low : ℕ) (ss : List (ℕ × ℕ)) → AllFrom (IsBegun code) behind_number low ss → values_in statement_in (map statement_bytes ss) ≡ ss
read-back code low [] h = refl
read-back code low (s ∷ ss) h =
    ap (λ o. kept o (values_in statement_in (map statement_bytes ss))) (whole_again statement_bytes FitsStatement statement_in reads_statement s h.0.fits)
    ∙ ap (λ ys. s ∷ ys) (read-back code (s.0 + 1) ss h.1)

-- by what the laws of the crates below say
module _ (writable : (u : SourceUnit) (l : Layout) (c : Code) (need : ℕ) → IsTrue (is_writable u l c need) → IsWritable u l c need c.statements)
    (contents : TellsItsUnit) (writes : WritesObjects) (tells : TellsUnits) where
  statements-in : (u : SourceUnit) (l : Layout) (c : Code) (need : ℕ) → IsWritable u l c need c.statements → values_in statement_in (payloads_of 10 (object_with u l c need)) ≡ c.statements
  statements-in u l c need w =
      ap (values_in statement_in) (in-object (object_with u l c need) 2 _ (writes u l c need c.statements w) 10 ∙ (tells u l c need c.statements).statements)
      ∙ read-back c.bytes 0 c.statements w.statements

  pub is-told : AreTold
  unfolding object_of
  is-told u e =
      let w = writable u (layout_of u) (code_of u) (unit_need u) e.writable in
      record {
        contents = (contents u (layout_of u) (code_of u) (unit_need u) e.writable).1;
        statements = statements-in u (layout_of u) (code_of u) (unit_need u) w;
        inside = w.statements;
      }

-- and so their lines
pub lines-in : AreTold → ((u : SourceUnit) → map (λ (s : ℕ × ℕ). s.1) (code_of u).statements ≡ unit_lines u) → (u : SourceUnit) → IsCompilable u
    → map (λ (s : ℕ × ℕ). s.1) (values_in statement_in (payloads_of 10 (object_of u))) ≡ unit_lines u
lines-in told code u e = ap (map (λ (s : ℕ × ℕ). s.1)) (told u e).statements ∙ code u

pub all-told : AreTold → (us : List SourceUnit) → All IsCompilable us → All IsTold us
all-told told us compiled = All-weaker IsCompilable IsTold told us compiled
