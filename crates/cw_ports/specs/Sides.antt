-- What the ports of an image tell, and their two sides, by what the source and the sink tell.
use Rattle.std.specs.Prelude.{ℕ, List, Option}
use Rattle.cw_io.specs.Bytes.{before_told, after_told}
use Rattle.cw_io.specs.declared.source.Source as source
use Rattle.cw_io.specs.declared.sink.Sink as sink
use Rattle.cw_cpu86.specs.Ports.{Device}
use Rattle.cw_ports.specs.Pieces.{part}
use Rattle.cw_ports.specs.Later.{InputSide, IsUnread, OutputSide, IsUnwritten, input_side, output_side}
use Rattle.cw_ports.specs.declared.inlet.Inlet.{Inlet}
use Rattle.cw_ports.specs.declared.outlet.Outlet.{Outlet}
use Rattle.cw_ports.specs.declared.ports.ImagePorts.{ImagePorts}

-- ---- the input

-- what the program has left: what is in hand, and then what the source has left
abbrev pub left_to_program : {I : Type 0} {told : source.Ghosts I} → Inlet I told → Option (List ℕ)
left_to_program {told = told} inlet = before_told (part inlet.bytes inlet.from inlet.to) (told.left inlet.input.now)

abbrev pub side_of_inlet : {I : Type 0} {told : source.Ghosts I} → Inlet I told → InputSide
side_of_inlet {told = told} inlet = input_side inlet.input.ghost_name (told.left inlet.input.now) (told.faults inlet.input.now) inlet.taken inlet.supply

abbrev pub IsNewInlet : {I : Type 0} {told : source.Ghosts I} → Inlet I told → Type 0
IsNewInlet inlet = IsUnread (left_to_program inlet) inlet.told_end inlet.is_used inlet.is_cut (side_of_inlet inlet)

-- ---- the output

-- what the program wrote: what the sink holds, and then what is gathered
abbrev pub written_by_program : {O : Type 0} → sink.Ghosts O → Outlet O → Option (List ℕ)
written_by_program holds outlet = after_told (holds.held outlet.out.now) (part outlet.bytes outlet.from outlet.to)

abbrev pub side_of_outlet : {O : Type 0} → sink.Ghosts O → Outlet O → OutputSide
side_of_outlet holds outlet = output_side outlet.out.ghost_name (holds.held outlet.out.now) (holds.faults outlet.out.now) outlet.is_broken

abbrev pub IsNewOutlet : {O : Type 0} → sink.Ghosts O → Outlet O → Type 0
IsNewOutlet holds outlet = IsUnwritten (written_by_program holds outlet) (side_of_outlet holds outlet)

-- ---- the ports

abbrev pub device_of : {I O : Type 0} {told : source.Ghosts I} → sink.Ghosts O → ImagePorts I O told → Device
device_of holds p = record {
  left = left_to_program p.inlet;
  at_end = p.inlet.told_end;
  is_used = p.inlet.is_used;
  is_cut = p.inlet.is_cut;
  held = written_by_program holds p.outlet;
  kind = p.kind;
  segment = p.segment;
  line_low = p.line_low;
  line_high = p.line_high;
}

abbrev pub input_of : {I O : Type 0} {told : source.Ghosts I} → ImagePorts I O told → InputSide
input_of p = side_of_inlet p.inlet

abbrev pub output_of : {I O : Type 0} {told : source.Ghosts I} → sink.Ghosts O → ImagePorts I O told → OutputSide
output_of holds p = side_of_outlet holds p.outlet

-- up to where bytes are gathered for the sink
abbrev pub gathered_in : {I O : Type 0} {told : source.Ghosts I} → ImagePorts I O told → ℕ
gathered_in p = p.outlet.to
