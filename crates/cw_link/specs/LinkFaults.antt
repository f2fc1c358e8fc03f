-- The image and the map of objects, or the first reason why they do not link: that they do not agree, then that their storage has no place, then
-- presets that clash, then that the code is too long.
use Rattle.std.specs.Prelude.{◌≡◌, ◌≤◌, ◌<◌, List, map, Result, Ok, Err}
use Rattle.cw_unit.specs.declared.layout.Limits.{Limits}
use Rattle.cw_unit.specs.Allocation.{SegmentStorage}
use Rattle.cw_comm.specs.declared.clash.Clash.{Clash}
use Rattle.cw_comm.specs.declared.clash.Clash.TheVariants as clashes
use Rattle.cw_comm.specs.Clashes.{Agree, IsFirstClash}
use Rattle.cw_place.specs.declared.space.PlaceFault.{PlaceFault}
use Rattle.cw_place.specs.declared.space.PlaceFault.TheVariants as places
use Rattle.cw_place.specs.Placement.{told_words, NoneOutside, FitsData, FitsControl, IsFirstFault}
use Rattle.cw_link.specs.declared.fault.LinkFault.{LinkFault}
use Rattle.cw_link.specs.declared.fault.LinkFault.TheVariants.{SegmentTwice, Differs, DefinedTwice, Undefined, AbsoluteOutside}
use Rattle.cw_link.specs.declared.fault.LinkFault.TheVariants.{DataTooBig, ControlTooBig, PresetClash, CodeTooBig, NoMemory}
use Rattle.cw_link.specs.declared.linking.Linked.{Linked}
use Rattle.cw_link.specs.Contents.{Contents}
use Rattle.cw_link.specs.Presets.{NoPresetClash, IsPresetClash}
use Rattle.cw_link.specs.LinkedImage.{faces_of, spaces_of, storage_of, linked_map, linked_presets, linked_size, linked_image}

abbrev pub of_clash : Clash → LinkFault
of_clash (clashes.SegmentTwice name) = SegmentTwice name
of_clash (clashes.Differs name first second) = Differs name first second
of_clash (clashes.DefinedTwice name first second) = DefinedTwice name first second
of_clash (clashes.Undefined name) = Undefined name
of_clash clashes.NoMemory = NoMemory

abbrev pub of_place_fault : PlaceFault → LinkFault
of_place_fault (places.AbsoluteOutside segment address) = AbsoluteOutside segment address
of_place_fault (places.DataTooBig need) = DataTooBig need
of_place_fault (places.ControlTooBig need) = ControlTooBig need
of_place_fault places.NoMemory = NoMemory

abbrev pub storages_of : List Contents → List SegmentStorage
storages_of cs = map storage_of cs

-- their storage has a place
abbrev pub HavePlace : List Contents → Limits → Type 0
HavePlace cs limits = NoneOutside (spaces_of cs) limits × FitsData (storages_of cs) limits × FitsControl (spaces_of cs) limits

-- they agree, and their storage has no place
abbrev pub HaveNoPlace : List Contents → Limits → PlaceFault → Type 0
HaveNoPlace cs limits fault = Agree (faces_of cs) × IsFirstFault (storages_of cs) (spaces_of cs) limits fault

-- only the code may be in the way
pub record HaveWords (cs : List Contents) (limits : Limits) : Type 0 where
  pub agree : Agree (faces_of cs)
  pub place : HavePlace cs limits
  pub no_clash : NoPresetClash (linked_presets cs)

abbrev pub IsFirstLinkFault : List Contents → Limits → LinkFault → Type 0
IsFirstLinkFault cs limits (SegmentTwice name) = IsFirstClash (faces_of cs) (clashes.SegmentTwice name)
IsFirstLinkFault cs limits (Differs name first second) = IsFirstClash (faces_of cs) (clashes.Differs name first second)
IsFirstLinkFault cs limits (DefinedTwice name first second) = IsFirstClash (faces_of cs) (clashes.DefinedTwice name first second)
IsFirstLinkFault cs limits (Undefined name) = IsFirstClash (faces_of cs) (clashes.Undefined name)
IsFirstLinkFault cs limits (AbsoluteOutside segment address) = HaveNoPlace cs limits (places.AbsoluteOutside segment address)
IsFirstLinkFault cs limits (DataTooBig need) = HaveNoPlace cs limits (places.DataTooBig need)
IsFirstLinkFault cs limits (ControlTooBig need) = HaveNoPlace cs limits (places.ControlTooBig need)
IsFirstLinkFault cs limits (PresetClash address first second) = Agree (faces_of cs) × HavePlace cs limits
    × IsPresetClash (linked_presets cs) address first second
IsFirstLinkFault cs limits (CodeTooBig bytes) = HaveWords cs limits × (65536 < linked_size cs) × (bytes ≡ told_words (linked_size cs))
IsFirstLinkFault cs limits NoMemory = Unit {0}

abbrev pub AnswersLink : List Contents → Limits → Result Linked LinkFault → Type 0
AnswersLink cs limits (Ok linked) = HaveWords cs limits × (linked_size cs ≤ 65536) × (linked.image ≡ linked_image cs limits) × (linked.map ≡ linked_map cs)
AnswersLink cs limits (Err fault) = IsFirstLinkFault cs limits fault
