-- What units that can be compiled are, and their objects.
use Rattle.std.specs.Prelude.{ℕ, ◌*◌, ◌<◌, ◌≤◌, List, length, map, IsTrue}
use Rattle.cw_unit.specs.declared.unit.Unit.{Unit as SourceUnit}
use Rattle.cw_unit.specs.Storage.{layout_of}
use Rattle.cw_unit.specs.StackBound.{unit_need}
use Rattle.cw_gen_unit.specs.ReferenceUnits.{unit_orders}
use Rattle.cw_tmpl.specs.declared.assembling.Code.{Code}
use Rattle.cw_tmpl.specs.ReferenceCode.{orders_code}
use Rattle.cw_built.specs.Built.{is_built}
use Rattle.cw_built.specs.Coded.{have_code}
use Rattle.cw_link.specs.Contents.{Contents}
use Rattle.cw_object.specs.IsWritable.{is_writable}
use Rattle.cw_object.specs.ObjectContents.{object_with, contents_with}

-- the code of a unit
abbrev pub code_of : SourceUnit → Code
code_of u = orders_code (unit_orders u)

-- A unit can be compiled: its orders do what it means, all have code, and at most 32 bytes of it for each token of its text; its records on the control
-- stack have at most 65,535 words, and its object can be written.
pub record IsCompilable (u : SourceUnit) : Type 0 where
  pub built : IsTrue (is_built u)
  pub coded : IsTrue (have_code (unit_orders u))
  pub short : length (code_of u).bytes ≤ 32 * u.tokens
  pub need : unit_need u < 65536
  pub writable : IsTrue (is_writable u (layout_of u) (code_of u) (unit_need u))

-- ---- objects

-- the bytes of the object of a unit
unfoldable pub object_of : SourceUnit → List ℕ
object_of u = object_with u (layout_of u) (code_of u) (unit_need u)

-- what the linker takes from it
abbrev pub contents_of_unit : SourceUnit → Contents
contents_of_unit u = contents_with u (layout_of u) (code_of u) (unit_need u)

abbrev pub contents_of_units : List SourceUnit → List Contents
contents_of_units us = map contents_of_unit us
