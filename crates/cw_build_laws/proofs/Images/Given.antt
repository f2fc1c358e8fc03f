-- What the laws of the crates below say.
use Rattle.std.proofs.Common.{◌≡◌, ◌≢◌, ℕ, ◌+◌, ◌<◌, ◌≤◌, List, [], ◌++◌, length, map, Some, slice_get}
use Rattle.std.specs.Prelude.{All, IsTrue, Ok}
use Rattle.cw_unit.specs.declared.unit.Unit.{Unit as SourceUnit}
use Rattle.cw_unit.specs.declared.unit.Def.{Def}
use Rattle.cw_unit.specs.declared.descriptor.Desc.{Desc}
use Rattle.cw_unit.specs.declared.layout.Layout.{Layout}
use Rattle.cw_unit.specs.declared.layout.Limits.{Limits}
use Rattle.cw_unit.specs.declared.layout.Map.{Map}
use Rattle.cw_unit.specs.HasLayout.{HasLayout}
use Rattle.cw_unit.specs.Allocation.{storage_of, storage_map}
use Rattle.cw_unit.specs.ValidStorage.{IsStorable, ValidStorageMap}
use Rattle.cw_unit.specs.Program.{program_at}
use Rattle.cw_safety.specs.WellFormed.{WellFormed}
use Rattle.cw_gen_unit.specs.BuiltUnits.{AllBuilt, Suits}
use Rattle.cw_gen_unit.specs.ReferenceUnits.{unit_orders, orders_program}
use Rattle.cw_tmpl.specs.declared.assembling.Code.{Code}
use Rattle.cw_tmpl.specs.declared.pieces.Coded.{Coded}
use Rattle.cw_tmpl.specs.Pieces.{Filling, blanks, relocations, filled, fill}
use Rattle.cw_follow.specs.Placing.{Codable}
use Rattle.cw_comm.specs.declared.face.Agreed.{Agreed}
use Rattle.cw_comm.specs.declared.face.Face.{Face}
use Rattle.cw_comm.specs.Clashes.{Agree, agreed_of}
use Rattle.cw_place.specs.declared.space.Space.{Space}
use Rattle.cw_place.specs.Segments.{names_of, segment_storage}
use Rattle.cw_place.specs.Placement.{AnswersPlace}
use Rattle.cw_link.specs.LinkedImage.{linked_map, linked_size}
use Rattle.cw_obj.specs.Writable.{IsWritable}
use Rattle.cw_object.specs.IsWritable.{is_writable}
use Rattle.cw_built.specs.Built.{is_built}
use Rattle.cw_built.specs.Coded.{have_code}
use Rattle.cw_built.specs.Shared.{faces_of, Defines}
use Rattle.cw_build.specs.Compiled.{contents_of_units}
use Rattle.cw_build.specs.Linking.{image_of}

pub record Given : Type 0 where
  pub well_formed : (us : List SourceUnit) (m : Map) (limits : Limits) → us ≢ [] → All (λ u. IsTrue (is_built u)) us → Agree (faces_of us) → WellFormed (program_at us m limits)
  pub built : (us : List SourceUnit) → All (λ u. IsTrue (is_built u)) us → AllBuilt us
  pub layout : (u : SourceUnit) → IsTrue (is_built u) → HasLayout u
  pub defined : (u : SourceUnit) (k d : ℕ) (def : Def) → IsTrue (is_built u) → slice_get u.defined k ≡ Some (d, def) → Defines u d def
  pub codable : (us : List SourceUnit) (m : Map) (limits : Limits) (room : ℕ) → All (λ u. IsTrue (is_built u)) us → All (λ u. IsTrue (have_code (unit_orders u))) us → Agree (faces_of us) → Suits us m limits room → limits.frames ≤ limits.area → limits.depth < 65536 → room ≤ 32000 → Codable (orders_program us m limits room)
  pub writable : (u : SourceUnit) (l : Layout) (c : Code) (need : ℕ) → IsTrue (is_writable u l c need) → IsWritable u l c need c.statements
  pub valid : (agreed : Agreed) (spaces : List Space) (us : List SourceUnit) (limits : Limits) (m : Map) → segment_storage agreed spaces ≡ map storage_of us → All IsStorable us → AnswersPlace (segment_storage agreed spaces) spaces limits (Ok m) → ValidStorageMap us limits m
  pub names : (faces : List Face) (g : ℕ) (f : Face) → slice_get faces g ≡ Some f → names_of (agreed_of faces) g ≡ map (λ (d : Desc). d.name) f.descs
  pub gives : (value : Filling) (pieces : List Coded) (before behind : List ℕ) → fill value (length before) (relocations 0 pieces) (before ++ (blanks pieces ++ behind)) ≡ before ++ (filled value (length before) pieces ++ behind)
  pub long : (value : Filling) (at : ℕ) (pieces : List Coded) → length (filled value at pieces) ≡ length (blanks pieces)
  pub size : (us : List SourceUnit) (limits : Limits) → length (image_of us limits).code ≡ linked_size (contents_of_units us)
  pub map_is : (us : List SourceUnit) → linked_map (contents_of_units us) ≡ storage_map us
