-- A judgement takes no fault away: where parts that are judged one after another have no fault, none of them has.
use Rattle.std.proofs.Common.{ℕ, zero, suc, ◌*◌, ◌^◌, nat_le, not, is_none, is_some, List, [], ◌∷◌, length, drop, Bool, ◌&&◌, Option, Some, None, slice_get}
use Rattle.cw_table.specs.declared.table.Row.{Row}
use Rattle.cw_tree.specs.declared.leaf.Position.{Position}
use Rattle.cw_tree.specs.declared.leaf.RawInt.{RawInt}
use Rattle.cw_tree.specs.declared.leaf.RawName.{RawName}
use Rattle.cw_tree.specs.declared.leaf.RawSint.{RawSint}
use Rattle.cw_tree.specs.declared.leaf.RawSize.{RawSize}
use Rattle.cw_tree.specs.declared.leaf.RawType.{RawType}
use Rattle.cw_tree.specs.declared.items.RawBase.{RawBase}
use Rattle.cw_tree.specs.declared.items.RawBase.TheVariants as base
use Rattle.cw_tree.specs.declared.items.RawBounds.{RawBounds}
use Rattle.cw_tree.specs.declared.items.RawData.{RawData}
use Rattle.cw_tree.specs.declared.items.RawData.TheVariants as items
use Rattle.cw_tree.specs.declared.items.RawElem.{RawElem}
use Rattle.cw_tree.specs.declared.items.RawElem.TheVariants as elem
use Rattle.cw_tree.specs.declared.items.RawGroup.{RawGroup}
use Rattle.cw_tree.specs.declared.items.RawPlace.{RawPlace}
use Rattle.cw_tree.specs.declared.items.RawPlace.TheVariants as place
use Rattle.cw_tree.specs.declared.items.RawPresets.{RawPresets}
use Rattle.cw_tree.specs.declared.items.RawRange.{RawRange}
use Rattle.cw_tree.specs.declared.items.RawTable.{RawTable}
use Rattle.cw_tree.specs.declared.segment.RawAitem.{RawAitem}
use Rattle.cw_tree.specs.declared.segment.RawAitem.TheVariants as aitem
use Rattle.cw_tree.specs.declared.segment.RawComm.{RawComm}
use Rattle.cw_tree.specs.declared.segment.RawComm.TheVariants as comm
use Rattle.cw_tree.specs.declared.segment.RawCitem.{RawCitem}
use Rattle.cw_tree.specs.declared.segment.RawCitem.TheVariants as citem
use Rattle.cw_tree.specs.declared.segment.RawIps.{RawIps}
use Rattle.cw_tree.specs.declared.segment.RawIps.TheVariants as inner
use Rattle.cw_tree.specs.declared.segment.RawPs.{RawPs}
use Rattle.cw_tree.specs.declared.segment.RawPs.TheVariants as ps
use Rattle.cw_tree.specs.declared.segment.RawSpec.{RawSpec}
use Rattle.cw_tree.specs.declared.statement.RawParam.{RawParam}
use Rattle.cw_tree.specs.declared.statement.RawParam.TheVariants as param
use Rattle.cw_scope.specs.declared.resolve.Named.{Named}
use Rattle.cw_scale.specs.declared.fault.Rule.TheVariants as rule
use Rattle.cw_scale.specs.Types.{answer_judged, is_field}
use Rattle.cw_scale.specs.Kinds.{kind_of, fraction_of, element_fraction}
use Rattle.cw_amount.specs.Amounts.{octal_word, place_amount, place_sint, is_negative, int_position}
use Rattle.cw_table.specs.Rows.{item_at}
use Rattle.cw_facts.specs.Facts.{base_name}
use Rattle.cw_data.specs.declared.presets.Room.{Room}
use Rattle.cw_data.specs.Data.{fits_word_if, good_bounds, good_size, is_within, bound_judged, range_judged, second_judged, each_wrong_unless, groups_judged, size_judged, element_judged, elements_judged, table_judged, data_judged}
use Rattle.cw_data.specs.Overlays.{indexes_judged, can_be_laid_on, stands_before, base_judged}
use Rattle.cw_data.specs.Presets.{number_fits, octal_fits, fits_room, begins, place_position, whole_word, element_room, behind_each, behind_groups, table_words, table_entries, place_judged, places_judged, left_over, entry_judged, entries_preset}
use Rattle.cw_data.specs.Specifications.{few, few_if, plain_judged, plains_judged, procedure_judged, param_judged, params_judged, heading_judged, switch_judged, specified_judged, each_specified_judged, spec_judged, specs_judged, is_address, address_judged, bounds_judged, aitem_judged, aitems_judged}
use Rattle.cw_items.specs.declared.families.Site.{Site}
use Rattle.cw_judge.specs.Declarations.{is_framed, names_framed, groups_framed, places_of, frame_judged, one_kind, presets_judged, declared_judged, overlaid_judged, stands_in_common, common_overlaid_judged}
use Rattle.cw_judge.specs.Judged.{citem_judged, citems_judged, communicator_judged, communicators_judged}
use Rattle.cw_judge.specs.Operators.{Places, few_operators, few_each, too_many_if}
use Rattle.cw_sound.proofs.Expressions.Judging.{Keeps, keeps_fine, keeps_wrong, keeps_unless, keeps_both, keeps_int, keeps_scale, keeps_type}

-- ---- data

keeps_answer : (t : Option RawType) → Keeps (answer_judged t)
keeps_answer None = keeps_fine
keeps_answer (Some t) = keeps_type t

keeps_bound : (s : RawSint) → Keeps (bound_judged s)
keeps_bound s = keeps_both (keeps_int s.value) (keeps_unless (fits_word_if (place_sint s)) rule.NumberRange (int_position s.value))

keeps_range : (r : RawRange) → Keeps (range_judged r)
keeps_range r = keeps_both (keeps_bound r.lower) (keeps_bound r.upper)

pub keeps_second : (r : Option RawRange) → Keeps (second_judged r)
keeps_second None = keeps_fine
keeps_second (Some r) = keeps_range r

pub keeps_each_wrong : (b : Bool) (ns : List RawName) → Keeps (each_wrong_unless b ns)
keeps_each_wrong b [] = keeps_fine
keeps_each_wrong b (n ∷ ns) = keeps_both (keeps_unless b rule.BadBounds n.at) (keeps_each_wrong b ns)

pub keeps_groups : (gs : List RawGroup) → Keeps (groups_judged gs)
keeps_groups [] = keeps_fine
keeps_groups (g ∷ gs) = keeps_both (keeps_both (keeps_range g.bounds.first) (keeps_both (keeps_second g.bounds.second) (keeps_each_wrong (good_bounds g.bounds.first g.bounds.second) g.names))) (keeps_groups gs)

keeps_size : (n : RawName) (s : RawSize) → Keeps (size_judged n s)
keeps_size n s = keeps_both (keeps_int s.first) (keeps_both (keeps_int s.second) (keeps_unless (good_size (place_amount s.first) (place_amount s.second)) rule.BadBounds n.at))

keeps_element : (width : Option ℕ) (e : RawElem) → Keeps (element_judged width e)
keeps_element width (elem.Word n t w) = keeps_both (keeps_type t) (keeps_both (keeps_int w) (keeps_unless (is_within (place_amount w) width) rule.FieldRange n.at))
keeps_element width (elem.Part n u t f w b) = keeps_both (keeps_int t) (keeps_both (keeps_scale f) (keeps_both (keeps_int w) (keeps_both (keeps_int b) (keeps_unless (is_within (place_amount w) width && is_field (place_amount t) (place_amount b)) rule.FieldRange n.at))))

pub keeps_elements : (width : Option ℕ) (es : List RawElem) → Keeps (elements_judged width es)
keeps_elements width [] = keeps_fine
keeps_elements width (e ∷ es) = keeps_both (keeps_element width e) (keeps_elements width es)

keeps_table : (t : RawTable) → Keeps (table_judged t)
keeps_table t = keeps_both (keeps_size t.name t.size) (keeps_elements (place_amount t.size.first) t.elems)

keeps_data : (d : RawData) → Keeps (data_judged d)
keeps_data (items.Singles t ns presets) = keeps_type t
keeps_data (items.Arrays t gs presets) = keeps_both (keeps_type t) (keeps_groups gs)
keeps_data (items.Table t inside behind) = keeps_table t

-- ---- presets

keeps_place : (r : Room) (f : ℕ) (p : RawPlace) → Keeps (place_judged r f p)
keeps_place r f (place.Void at) = keeps_fine
keeps_place r f (place.Number s n) = keeps_unless (nat_le f 15 && number_fits r (is_negative s) f n.number) rule.BadPreset (begins s n.at)
keeps_place r f (place.Octal s o) =
    keeps_both (keeps_unless (is_some (octal_word o.number.number)) rule.NumberRange o.number.at)
    (keeps_unless (nat_le f 15 && octal_fits r (is_negative s) f (octal_word o.number.number)) rule.BadPreset (begins s o.at))
keeps_place r f (place.Literal s l) = keeps_unless (nat_le f 15 && fits_room r (is_negative s) (l.byte * 2 ^ f)) rule.BadPreset (begins s l.at)

keeps_places : (f : ℕ) (ps : List RawPlace) → Keeps (places_judged f ps)
keeps_places f [] = keeps_fine
keeps_places f (p ∷ ps) = keeps_both (keeps_place whole_word f p) (keeps_places f ps)

pub keeps_left : (ps : List RawPlace) → Keeps (left_over ps)
keeps_left [] = keeps_fine
keeps_left (p ∷ ps) = keeps_wrong rule.BadPreset (place_position p)

keeps_entry : (es : List RawElem) (ps : List RawPlace) → Keeps (entry_judged es ps)
keeps_entry [] ps = keeps_fine
keeps_entry (e ∷ es) [] = keeps_fine
keeps_entry (e ∷ es) (p ∷ ps) = keeps_both (keeps_place (element_room e) (element_fraction e) p) (keeps_entry es ps)

keeps_entries : (n : ℕ) (es : List RawElem) (ps : List RawPlace) → Keeps (entries_preset n es ps)
keeps_entries zero es ps = keeps_left ps
keeps_entries (suc n) es ps = keeps_both (keeps_entry es ps) (keeps_entries n es (drop (length es) ps))

pub keeps_frame : (framed : Bool) (p : Option RawPresets) → Keeps (frame_judged framed p)
keeps_frame framed None = keeps_fine
keeps_frame framed (Some p) = keeps_unless (not framed) rule.BadPreset p.at

keeps_one_kind : (inside behind : Option RawPresets) → Keeps (one_kind inside behind)
keeps_one_kind inside None = keeps_fine
keeps_one_kind inside (Some p) = keeps_unless (is_none inside) rule.BadPreset p.at

pub keeps_presets : (sites : List (Row Site)) (d : RawData) → Keeps (presets_judged sites d)
keeps_presets sites (items.Singles t ns p) =
    keeps_both (keeps_both (keeps_places (fraction_of t) (places_of p)) (keeps_left (behind_each 1 ns (places_of p)))) (keeps_frame (names_framed sites ns) p)
keeps_presets sites (items.Arrays t gs p) =
    keeps_both (keeps_both (keeps_places (fraction_of t) (places_of p)) (keeps_left (behind_groups gs (places_of p)))) (keeps_frame (groups_framed sites gs) p)
keeps_presets sites (items.Table t inside behind) =
    keeps_both (keeps_both (keeps_entries (table_entries (place_amount t.size.first) (place_amount t.size.second)) t.elems (places_of inside)) (keeps_frame (is_framed (item_at sites t.name.at.token)) inside))
    (keeps_both
    (keeps_both (keeps_both (keeps_places 0 (places_of behind)) (keeps_left (drop (table_words (place_amount t.size.first) (place_amount t.size.second)) (places_of behind)))) (keeps_frame (is_framed (item_at sites t.name.at.token)) behind))
    (keeps_one_kind inside behind))

pub keeps_declared : (sites : List (Row Site)) (d : RawData) → Keeps (declared_judged sites d)
keeps_declared sites d = keeps_both (keeps_data d) (keeps_presets sites d)

keeps_indexes : (b : RawBase) → Keeps (indexes_judged b)
keeps_indexes (base.Name n) = keeps_fine
keeps_indexes (base.One n i) = keeps_int i.value
keeps_indexes (base.Two n i j) = keeps_both (keeps_int i.value) (keeps_int j.value)

pub keeps_base : (named : Named) (b : RawBase) → Keeps (base_judged named b)
keeps_base named b =
    keeps_both (keeps_indexes b)
    (keeps_unless (stands_before (item_at named.uses (base_name b).at.token) (base_name b).at.token && can_be_laid_on (kind_of named (base_name b)) b) rule.BadOverlay (base_name b).at)

pub keeps_overlaid : (named : Named) (sites : List (Row Site)) (b : RawBase) (d : RawData) → Keeps (overlaid_judged named sites b d)
unfolding overlaid_judged
keeps_overlaid named sites b d = keeps_both (keeps_base named b) (keeps_declared sites d)

-- ---- procedures and switches

keeps_plain : (n : RawName) (p : RawIps) → Keeps (plain_judged n p)
keeps_plain n (inner.Value at t) = keeps_type t
keeps_plain n (inner.Location at t) = keeps_type t
keeps_plain n (inner.Array t) = keeps_type t
keeps_plain n (inner.Table at s) = keeps_size n s
keeps_plain n _ = keeps_fine

pub keeps_plains : (n : RawName) (ps : List RawIps) → Keeps (plains_judged n ps)
keeps_plains n [] = keeps_fine
keeps_plains n (p ∷ ps) = keeps_both (keeps_plain n p) (keeps_plains n ps)

keeps_procedure : (answer : Option RawType) (n : RawName) (ps : List RawIps) → Keeps (procedure_judged answer n ps)
keeps_procedure answer n ps = keeps_both (keeps_answer answer) (keeps_both (keeps_unless (few (length ps)) rule.TooMany n.at) (keeps_plains n ps))

keeps_param : (p : RawParam) → Keeps (param_judged p)
keeps_param (param.Value at t ns) = keeps_type t
keeps_param (param.Location at t ns) = keeps_type t
keeps_param (param.Array t ns) = keeps_type t
keeps_param (param.Table t) = keeps_table t
keeps_param (param.Proc answer at n ps) = keeps_procedure answer n ps
keeps_param _ = keeps_fine

pub keeps_params : (ps : List RawParam) → Keeps (params_judged ps)
keeps_params [] = keeps_fine
keeps_params (p ∷ ps) = keeps_both (keeps_param p) (keeps_params ps)

pub keeps_heading : (named : Named) (answer : Option RawType) (n : RawName) (ps : List RawParam) → Keeps (heading_judged named answer n ps)
keeps_heading named answer n ps = keeps_both (keeps_answer answer) (keeps_both (keeps_unless (few_if (item_at named.signatures n.at.token)) rule.TooMany n.at) (keeps_params ps))

pub keeps_switch : (n : RawName) (labels : List RawName) → Keeps (switch_judged n labels)
keeps_switch n labels = keeps_unless (nat_le (length labels) 255) rule.TooMany n.at

-- ---- operators

keeps_too_many : (o : Option Position) → Keeps (too_many_if o)
keeps_too_many None = keeps_fine
keeps_too_many (Some at) = keeps_wrong rule.TooMany at

pub keeps_few : (operators : Places) → Keeps (few_operators operators)
keeps_few operators = keeps_too_many (slice_get operators 1024)

pub keeps_few_each : (xs : List Places) → Keeps (few_each xs)
keeps_few_each [] = keeps_fine
keeps_few_each (x ∷ xs) = keeps_both (keeps_few x) (keeps_few_each xs)

-- ---- communicators

keeps_specified : (n : RawName) (p : RawPs) → Keeps (specified_judged n p)
keeps_specified n (ps.Plain p) = keeps_plain n p
keeps_specified n (ps.Proc answer at params) = keeps_procedure answer n params

pub keeps_each_specified : (n : RawName) (params : List RawPs) → Keeps (each_specified_judged n params)
keeps_each_specified n [] = keeps_fine
keeps_each_specified n (p ∷ more) = keeps_both (keeps_specified n p) (keeps_each_specified n more)

pub keeps_spec : (s : RawSpec) → Keeps (spec_judged s)
keeps_spec s = keeps_both (keeps_answer s.answer) (keeps_both (keeps_unless (few (length s.params)) rule.TooMany s.name.at) (keeps_each_specified s.name s.params))

pub keeps_specs : (ss : List RawSpec) → Keeps (specs_judged ss)
keeps_specs [] = keeps_fine
keeps_specs (s ∷ ss) = keeps_both (keeps_spec s) (keeps_specs ss)

pub keeps_address : (n : RawName) (a : RawInt) → Keeps (address_judged n a)
keeps_address n a = keeps_both (keeps_int a) (keeps_unless (is_address (place_amount a)) rule.BadBounds n.at)

pub keeps_bounds : (n : RawName) (b : RawBounds) → Keeps (bounds_judged n b)
keeps_bounds n b = keeps_both (keeps_range b.first) (keeps_both (keeps_second b.second) (keeps_unless (good_bounds b.first b.second) rule.BadBounds n.at))

keeps_aitem : (i : RawAitem) → Keeps (aitem_judged i)
keeps_aitem (aitem.Single t n a) = keeps_both (keeps_type t) (keeps_address n a)
keeps_aitem (aitem.Array t n b a) = keeps_both (keeps_type t) (keeps_both (keeps_bounds n b) (keeps_address n a))
keeps_aitem (aitem.Table t a) = keeps_both (keeps_table t) (keeps_address t.name a)

pub keeps_aitems : (is : List RawAitem) → Keeps (aitems_judged is)
keeps_aitems [] = keeps_fine
keeps_aitems (i ∷ is) = keeps_both (keeps_aitem i) (keeps_aitems is)

pub keeps_common : (named : Named) (sites : List (Row Site)) (absolute : List (Row ℕ)) (b : RawBase) (d : RawData) → Keeps (common_overlaid_judged named sites absolute b d)
unfolding common_overlaid_judged
keeps_common named sites absolute b d =
    keeps_both (keeps_both (keeps_base named b) (keeps_unless (stands_in_common absolute (item_at named.uses (base_name b).at.token)) rule.BadOverlay (base_name b).at)) (keeps_declared sites d)

module _ (named : Named) (sites : List (Row Site)) (absolute : List (Row ℕ)) where
  keeps_citem : (i : RawCitem) → Keeps (citem_judged named sites absolute i)
  keeps_citem (citem.Data d) = keeps_declared sites d
  keeps_citem (citem.Overlay at b d) = keeps_common named sites absolute b d
  keeps_citem (citem.Label at ns) = keeps_fine
  keeps_citem (citem.Switch at ns) = keeps_fine
  keeps_citem (citem.Spec s) = keeps_spec s

  pub keeps_citems : (is : List RawCitem) → Keeps (citems_judged named sites absolute is)
  keeps_citems [] = keeps_fine
  keeps_citems (i ∷ is) = keeps_both (keeps_citem i) (keeps_citems is)

  keeps_communicator : (c : RawComm) → Keeps (communicator_judged named sites absolute c)
  keeps_communicator (comm.Common at is) = keeps_citems is
  keeps_communicator (comm.Library at ss) = keeps_specs ss
  keeps_communicator (comm.Absolute at is) = keeps_aitems is

  pub keeps_communicators : (cs : List RawComm) → Keeps (communicators_judged named sites absolute cs)
  keeps_communicators [] = keeps_fine
  keeps_communicators (c ∷ cs) = keeps_both (keeps_communicator c) (keeps_communicators cs)
