-- Specifications and communicators in normal form.
use Rattle.std.proofs.Common.{ℕ, Bool, List, [], ◌∷◌, ◌++◌, Option}
use Rattle.cw_tree.specs.declared.leaf.RawInt.{RawInt}
use Rattle.cw_tree.specs.declared.leaf.RawType.{RawType}
use Rattle.cw_tree.specs.declared.segment.RawIps.{RawIps}
use Rattle.cw_tree.specs.declared.segment.RawIps.TheVariants as ips_tree
use Rattle.cw_tree.specs.declared.segment.RawPs.{RawPs}
use Rattle.cw_tree.specs.declared.segment.RawPs.TheVariants as ps_tree
use Rattle.cw_tree.specs.declared.segment.RawSpec.{RawSpec}
use Rattle.cw_tree.specs.declared.segment.RawAitem.{RawAitem}
use Rattle.cw_tree.specs.declared.segment.RawCitem.TheVariants as citem_tree
use Rattle.cw_tree.specs.declared.items.RawBase.{RawBase}
use Rattle.cw_tree.specs.declared.items.RawData.{RawData}
use Rattle.cw_grammar.specs.Tokens.{Item, position}
use Rattle.cw_grammar.specs.Grammar.{a_list, an_option, a_from, an_int, a_type, a_data, a_ptag, an_ips, a_ps, a_spec, a_citem, an_aitem, a_comm}
use Rattle.cw_grammar.specs.Statements.{ptag, worded_ips, ips, ips_list, procedure_ps as procedure_ps_rule, ps, spec_behind, spec, citem, typed_aitem, unplaced_aitem, aitem, comm}
use Rattle.cw_derived.specs.Marks.{mark, empty, kept, skipped}
use Rattle.cw_derived.specs.NormalForm.{procedure_tag, recursive_tag, value_ips, location_ips, array_ips, table_ips, label_ips, switch_ips, plain_ps, procedure_ps, is_spec, data_citem, overlay_citem, label_citem, switch_citem, spec_citem, single_aitem, array_aitem, table_aitem, is_common, is_library, is_absolute}
use Rattle.cw_derived.specs.Proper.{IsNormalWithin}
use Rattle.cw_derived.proofs.Withins.{join, front, beyond, none_within}
use Rattle.cw_derived.proofs.Built.{Gives, Built, b_one, b_then, b_left, b_right, b_map, after, before, some, nothing, second_normal, some_normal, listed_normal, square_normal, in_a_row}
use Rattle.cw_derived.proofs.Leaves.{name_normal, int_normal, type_normal, size_normal}
use Rattle.cw_derived.proofs.Data.{bounds_normal, table_normal, data_table_normal, singles_made, arrays_made, Overlaid, overlaid, overlay_made}

pub tag_normal : {n : ℕ} {p : Bool} → Gives n p a_ptag ptag
unfolding ptag
tag_normal x ns (b_left (b_map (b_one {t = t} e))) = record { marks = mark (position t) ∷ []; within = kept (skipped empty); normal = procedure_tag (position t) }
tag_normal x ns (b_right (b_map (b_map (b_then {v = v} (b_one {t = t} e) o)))) = record { marks = mark (position t) ∷ []; within = kept (skipped (none_within v)); normal = recursive_tag (position t) }

worded_ips_normal : {n : ℕ} {p : Bool} → Gives n p an_ips worded_ips
unfolding worded_ips
worded_ips_normal x ns (b_left (b_map (b_then (b_one {t = t} e) d))) = let k = type_normal _ _ d in record { marks = mark (position t) ∷ k.marks; within = kept (skipped k.within); normal = value_ips (position t) k.normal }
worded_ips_normal x ns (b_right (b_left (b_map (b_then (b_one {t = t} e) d)))) = let k = type_normal _ _ d in record { marks = mark (position t) ∷ k.marks; within = kept (skipped k.within); normal = location_ips (position t) k.normal }
worded_ips_normal x ns (b_right (b_right (b_left (b_map (b_then (b_one {t = t} e) d))))) = let k = size_normal _ _ d in record { marks = mark (position t) ∷ k.marks; within = kept (skipped k.within); normal = table_ips (position t) k.normal }
worded_ips_normal x ns (b_right (b_right (b_right (b_left (b_map (b_one {t = t} e)))))) = record { marks = mark (position t) ∷ []; within = kept (skipped empty); normal = label_ips (position t) }
worded_ips_normal x ns (b_right (b_right (b_right (b_right (b_map (b_one {t = t} e)))))) = record { marks = mark (position t) ∷ []; within = kept (skipped empty); normal = switch_ips (position t) }

array_ips_made : {n : ℕ} {p : Bool} {t : RawType} {u : List ℕ} (v : List ℕ) → IsNormalWithin n p a_type t u → IsNormalWithin n p an_ips (ips_tree.Array t) (u ++ v)
array_ips_made v k = record { marks = k.marks; within = front v k.within; normal = array_ips k.normal }

pub ips_normal : {n : ℕ} {p : Bool} → Gives n p an_ips ips
unfolding ips
ips_normal x ns (b_left d) = worded_ips_normal _ _ d
ips_normal x ns (b_right (b_map (b_map (b_then {v = v} d w)))) = array_ips_made v (type_normal _ _ d)

pub ips_list_normal : {n : ℕ} {p : Bool} → Gives n p (a_list an_ips) ips_list
unfolding ips_list
ips_list_normal x ns d = listed_normal d ips_normal

procedure_ps_made : {n : ℕ} {p : Bool} {f : Option RawType → RawPs} {ns : List ℕ} {o : Option RawType} {u : List ℕ} → IsNormalWithin n p (an_option a_type) o u → Built n p (a_from (an_option a_type) a_ps) procedure_ps_rule f ns → IsNormalWithin n p a_ps (f o) (u ++ ns)
unfolding procedure_ps_rule
procedure_ps_made g (b_map (b_then (b_one {t = t} e) d)) =
    let k = ips_list_normal _ _ d in
    record { marks = g.marks ++ mark (position t) ∷ k.marks; within = join g.within (kept (skipped k.within)); normal = procedure_ps (position t) g.normal k.normal }

plain_made : {n : ℕ} {p : Bool} {x : RawIps} {u : List ℕ} → IsNormalWithin n p an_ips x u → IsNormalWithin n p a_ps (ps_tree.Plain x) u
plain_made k = record { marks = k.marks; within = k.within; normal = plain_ps k.normal }

pub ps_normal : {n : ℕ} {p : Bool} → Gives n p a_ps ps
unfolding ps
ps_normal x ns (b_left (b_map (b_then d (b_left (b_map {u = v} w))))) = plain_made (array_ips_made v (type_normal _ _ d))
ps_normal x ns (b_left (b_map (b_then d (b_right (b_map k))))) = procedure_ps_made (some (type_normal _ _ d)) k
ps_normal x ns (b_right (b_left (b_map k))) = procedure_ps_made (nothing []) k
ps_normal x ns (b_right (b_right (b_map d))) = plain_made (worded_ips_normal _ _ d)

spec_made : {n : ℕ} {p : Bool} {f : Option RawType → RawSpec} {ns : List ℕ} {o : Option RawType} {u : List ℕ} → IsNormalWithin n p (an_option a_type) o u → Built n p (a_from (an_option a_type) a_spec) spec_behind f ns → IsNormalWithin n p a_spec (f o) (u ++ ns)
unfolding spec_behind
spec_made g (b_map (b_then t (b_then d l))) =
    let h = tag_normal _ _ t in
    let k = name_normal _ _ d in
    let m = listed_normal l ps_normal in
    record { marks = g.marks ++ (h.marks ++ (k.marks ++ m.marks)); within = join g.within (join h.within (join k.within m.within)); normal = is_spec g.normal h.normal k.normal m.normal }

pub spec_normal : {n : ℕ} {p : Bool} → Gives n p a_spec spec
unfolding spec
spec_normal x ns (b_left (b_map (b_then d (b_map k)))) = spec_made (some (type_normal _ _ d)) k
spec_normal x ns (b_right (b_map k)) = spec_made (nothing []) k

-- ---- communicators

data_made : {n : ℕ} {p : Bool} {x : RawData} {u : List ℕ} → IsNormalWithin n p a_data x u → IsNormalWithin n p a_citem (citem_tree.Data x) u
data_made k = record { marks = k.marks; within = k.within; normal = data_citem k.normal }

listed_spec : {n : ℕ} {p : Bool} {x : RawSpec} {u : List ℕ} → IsNormalWithin n p a_spec x u → IsNormalWithin n p a_citem (citem_tree.Spec x) u
listed_spec k = record { marks = k.marks; within = k.within; normal = spec_citem k.normal }

overlaid_item : {n : ℕ} {p : Bool} {x : Item × (RawBase × RawData)} {ns : List ℕ} → Overlaid n p x ns → IsNormalWithin n p a_citem (citem_tree.Overlay (position x.0) x.1.0 x.1.1) ns
overlaid_item (overlaid {t = t} h k) = record { marks = mark (position t) ∷ (h.marks ++ k.marks); within = kept (skipped (join h.within k.within)); normal = overlay_citem (position t) h.normal k.normal }

pub citem_normal : {n : ℕ} {p : Bool} → Gives n p a_citem citem
unfolding citem
citem_normal x ns (b_left (b_map (b_then t (b_left (b_map d))))) = data_made (singles_made (type_normal _ _ t) d)
citem_normal x ns (b_left (b_map (b_then t (b_right (b_left (b_map d)))))) = data_made (arrays_made (type_normal _ _ t) d)
citem_normal x ns (b_left (b_map (b_then t (b_right (b_right (b_map d)))))) = listed_spec (spec_made (some (type_normal _ _ t)) d)
citem_normal x ns (b_right (b_left (b_map d))) = data_made (data_table_normal _ _ d)
citem_normal x ns (b_right (b_right (b_left (b_map d)))) = overlaid_item (overlay_made d)
citem_normal x ns (b_right (b_right (b_right (b_left (b_map (b_then (b_one {t = t} e) (b_map (b_then d l)))))))) =
    let k = some_normal name_normal d l in
    record { marks = mark (position t) ∷ k.marks; within = kept (skipped k.within); normal = label_citem (position t) k.normal }
citem_normal x ns (b_right (b_right (b_right (b_right (b_left (b_map (b_then (b_one {t = t} e) (b_map (b_then d l))))))))) =
    let k = some_normal name_normal d l in
    record { marks = mark (position t) ∷ k.marks; within = kept (skipped k.within); normal = switch_citem (position t) k.normal }
citem_normal x ns (b_right (b_right (b_right (b_right (b_right (b_map d)))))) = listed_spec (spec_made (nothing []) d)

typed_made : {n : ℕ} {p : Bool} {f : RawType → RawInt → RawAitem} {ns : List ℕ} {t : RawType} {u : List ℕ} {i : RawInt} {v : List ℕ} → IsNormalWithin n p a_type t u → Built n p (a_from a_type (a_from an_int an_aitem)) typed_aitem f ns → IsNormalWithin n p an_int i v → IsNormalWithin n p an_aitem (f t i) ((u ++ ns) ++ v)
unfolding typed_aitem
typed_made g (b_left (b_map d)) m =
    let k = name_normal _ _ d in
    record { marks = (g.marks ++ k.marks) ++ m.marks; within = join (join g.within k.within) m.within; normal = single_aitem g.normal k.normal m.normal }
typed_made g (b_right (b_map (b_map (b_then {u = w} a (b_then d b))))) m =
    let h = name_normal _ _ d in
    let k = square_normal bounds_normal _ _ b in
    record { marks = (g.marks ++ (h.marks ++ k.marks)) ++ m.marks; within = join (join g.within (beyond w (join h.within k.within))) m.within; normal = array_aitem g.normal h.normal k.normal m.normal }

unplaced_made : {n : ℕ} {p : Bool} {f : RawInt → RawAitem} {ns : List ℕ} {i : RawInt} {v : List ℕ} → Built n p (a_from an_int an_aitem) unplaced_aitem f ns → IsNormalWithin n p an_int i v → IsNormalWithin n p an_aitem (f i) (ns ++ v)
unfolding unplaced_aitem
unplaced_made (b_left (b_map (b_then t d))) m = typed_made (type_normal _ _ t) d m
unplaced_made (b_right (b_map d)) m = in_a_row (table_normal _ _ d) m (λ a b h k. table_aitem h k)

pub aitem_normal : {n : ℕ} {p : Bool} → Gives n p an_aitem aitem
unfolding aitem
aitem_normal x ns (b_map (b_then d i)) = unplaced_made d (second_normal int_normal i)

pub comm_normal : {n : ℕ} {p : Bool} → Gives n p a_comm comm
unfolding comm
comm_normal x ns (b_left (b_map (b_then (b_one {t = t} e) (b_map (b_then {u = u} o (b_map (b_then {v = v} (b_map (b_then d l)) c))))))) =
    let k = after u (before v (some_normal citem_normal d l)) in
    record { marks = mark (position t) ∷ k.marks; within = kept (skipped k.within); normal = is_common (position t) k.normal }
comm_normal x ns (b_right (b_left (b_map (b_then (b_one {t = t} e) (b_map (b_then {u = u} o (b_map (b_then {v = v} (b_map (b_then d l)) c)))))))) =
    let k = after u (before v (some_normal spec_normal d l)) in
    record { marks = mark (position t) ∷ k.marks; within = kept (skipped k.within); normal = is_library (position t) k.normal }
comm_normal x ns (b_right (b_right (b_map (b_then (b_one {t = t} e) (b_map (b_then {u = u} o (b_map (b_then {v = v} (b_map (b_then d l)) c)))))))) =
    let k = after u (before v (some_normal aitem_normal d l)) in
    record { marks = mark (position t) ∷ k.marks; within = kept (skipped k.within); normal = is_absolute (position t) k.normal }
