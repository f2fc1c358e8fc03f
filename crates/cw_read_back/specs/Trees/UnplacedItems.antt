-- Data declarations, specifications and communicators with all their positions as one.
use Rattle.std.specs.Prelude.{map, option_map}
use Rattle.cw_tree.specs.declared.items.RawPlace.{RawPlace}
use Rattle.cw_tree.specs.declared.items.RawPlace.TheVariants as place_tree
use Rattle.cw_tree.specs.declared.items.RawPresets.{RawPresets}
use Rattle.cw_tree.specs.declared.items.RawRange.{RawRange}
use Rattle.cw_tree.specs.declared.items.RawBounds.{RawBounds}
use Rattle.cw_tree.specs.declared.items.RawGroup.{RawGroup}
use Rattle.cw_tree.specs.declared.items.RawElem.{RawElem}
use Rattle.cw_tree.specs.declared.items.RawElem.TheVariants as elem_tree
use Rattle.cw_tree.specs.declared.items.RawTable.{RawTable}
use Rattle.cw_tree.specs.declared.items.RawData.{RawData}
use Rattle.cw_tree.specs.declared.items.RawData.TheVariants as data_tree
use Rattle.cw_tree.specs.declared.items.RawBase.{RawBase}
use Rattle.cw_tree.specs.declared.items.RawBase.TheVariants as base_tree
use Rattle.cw_tree.specs.declared.statement.RawPtag.{RawPtag}
use Rattle.cw_tree.specs.declared.statement.RawPtag.TheVariants as ptag_tree
use Rattle.cw_tree.specs.declared.segment.RawIps.{RawIps}
use Rattle.cw_tree.specs.declared.segment.RawIps.TheVariants as ips_tree
use Rattle.cw_tree.specs.declared.segment.RawPs.{RawPs}
use Rattle.cw_tree.specs.declared.segment.RawPs.TheVariants as ps_tree
use Rattle.cw_tree.specs.declared.segment.RawSpec.{RawSpec}
use Rattle.cw_tree.specs.declared.segment.RawCitem.{RawCitem}
use Rattle.cw_tree.specs.declared.segment.RawCitem.TheVariants as citem_tree
use Rattle.cw_tree.specs.declared.segment.RawAitem.{RawAitem}
use Rattle.cw_tree.specs.declared.segment.RawAitem.TheVariants as aitem_tree
use Rattle.cw_tree.specs.declared.segment.RawComm.{RawComm}
use Rattle.cw_tree.specs.declared.segment.RawComm.TheVariants as comm_tree
use Rattle.cw_read_back.specs.Expressions.Unplaced.{nowhere, unplaced_name, unplaced_number, unplaced_octal, unplaced_literal, unplaced_int}
use Rattle.cw_read_back.specs.Expressions.Unplaced.{unplaced_sign, unplaced_sint, unplaced_size, unplaced_type}

-- ---- data

abbrev pub unplaced_place : RawPlace → RawPlace
unplaced_place (place_tree.Void at) = place_tree.Void nowhere
unplaced_place (place_tree.Number s n) = place_tree.Number (option_map unplaced_sign s) (unplaced_number n)
unplaced_place (place_tree.Octal s n) = place_tree.Octal (option_map unplaced_sign s) (unplaced_octal n)
unplaced_place (place_tree.Literal s c) = place_tree.Literal (option_map unplaced_sign s) (unplaced_literal c)

abbrev pub unplaced_presets : RawPresets → RawPresets
unplaced_presets p = record { at = nowhere; places = map unplaced_place p.places }

abbrev pub unplaced_range : RawRange → RawRange
unplaced_range r = record { lower = unplaced_sint r.lower; upper = unplaced_sint r.upper }

abbrev pub unplaced_bounds : RawBounds → RawBounds
unplaced_bounds b = record { first = unplaced_range b.first; second = option_map unplaced_range b.second }

abbrev pub unplaced_group : RawGroup → RawGroup
unplaced_group g = record { names = map unplaced_name g.names; bounds = unplaced_bounds g.bounds }

abbrev pub unplaced_elem : RawElem → RawElem
unplaced_elem (elem_tree.Word f t w) = elem_tree.Word (unplaced_name f) (unplaced_type t) (unplaced_int w)
unplaced_elem (elem_tree.Part f u t s w b) = elem_tree.Part (unplaced_name f) u (unplaced_int t) (unplaced_sint s) (unplaced_int w) (unplaced_int b)

abbrev pub unplaced_table : RawTable → RawTable
unplaced_table t = record { at = nowhere; name = unplaced_name t.name; size = unplaced_size t.size; elems = map unplaced_elem t.elems }

abbrev pub unplaced_data : RawData → RawData
unplaced_data (data_tree.Singles t ns p) = data_tree.Singles (unplaced_type t) (map unplaced_name ns) (option_map unplaced_presets p)
unplaced_data (data_tree.Arrays t gs p) = data_tree.Arrays (unplaced_type t) (map unplaced_group gs) (option_map unplaced_presets p)
unplaced_data (data_tree.Table t i o) = data_tree.Table (unplaced_table t) (option_map unplaced_presets i) (option_map unplaced_presets o)

abbrev pub unplaced_base : RawBase → RawBase
unplaced_base (base_tree.Name f) = base_tree.Name (unplaced_name f)
unplaced_base (base_tree.One f i) = base_tree.One (unplaced_name f) (unplaced_sint i)
unplaced_base (base_tree.Two f i j) = base_tree.Two (unplaced_name f) (unplaced_sint i) (unplaced_sint j)

-- ---- specifications

abbrev pub unplaced_ptag : RawPtag → RawPtag
unplaced_ptag (ptag_tree.Procedure at) = ptag_tree.Procedure nowhere
unplaced_ptag (ptag_tree.Recursive at) = ptag_tree.Recursive nowhere

abbrev pub unplaced_ips : RawIps → RawIps
unplaced_ips (ips_tree.Value at t) = ips_tree.Value nowhere (unplaced_type t)
unplaced_ips (ips_tree.Location at t) = ips_tree.Location nowhere (unplaced_type t)
unplaced_ips (ips_tree.Array t) = ips_tree.Array (unplaced_type t)
unplaced_ips (ips_tree.Table at s) = ips_tree.Table nowhere (unplaced_size s)
unplaced_ips (ips_tree.Label at) = ips_tree.Label nowhere
unplaced_ips (ips_tree.Switch at) = ips_tree.Switch nowhere

abbrev pub unplaced_ps : RawPs → RawPs
unplaced_ps (ps_tree.Plain i) = ps_tree.Plain (unplaced_ips i)
unplaced_ps (ps_tree.Proc answer at is) = ps_tree.Proc (option_map unplaced_type answer) nowhere (map unplaced_ips is)

abbrev pub unplaced_spec : RawSpec → RawSpec
unplaced_spec s = record {
  answer = option_map unplaced_type s.answer;
  tag = unplaced_ptag s.tag;
  name = unplaced_name s.name;
  params = map unplaced_ps s.params;
}

-- ---- communicators

abbrev pub unplaced_citem : RawCitem → RawCitem
unplaced_citem (citem_tree.Data d) = citem_tree.Data (unplaced_data d)
unplaced_citem (citem_tree.Overlay at b d) = citem_tree.Overlay nowhere (unplaced_base b) (unplaced_data d)
unplaced_citem (citem_tree.Label at ns) = citem_tree.Label nowhere (map unplaced_name ns)
unplaced_citem (citem_tree.Switch at ns) = citem_tree.Switch nowhere (map unplaced_name ns)
unplaced_citem (citem_tree.Spec s) = citem_tree.Spec (unplaced_spec s)

abbrev pub unplaced_aitem : RawAitem → RawAitem
unplaced_aitem (aitem_tree.Single t n a) = aitem_tree.Single (unplaced_type t) (unplaced_name n) (unplaced_int a)
unplaced_aitem (aitem_tree.Array t n b a) = aitem_tree.Array (unplaced_type t) (unplaced_name n) (unplaced_bounds b) (unplaced_int a)
unplaced_aitem (aitem_tree.Table t a) = aitem_tree.Table (unplaced_table t) (unplaced_int a)

abbrev pub unplaced_comm : RawComm → RawComm
unplaced_comm (comm_tree.Common at is) = comm_tree.Common nowhere (map unplaced_citem is)
unplaced_comm (comm_tree.Library at ss) = comm_tree.Library nowhere (map unplaced_spec ss)
unplaced_comm (comm_tree.Absolute at is) = comm_tree.Absolute nowhere (map unplaced_aitem is)
