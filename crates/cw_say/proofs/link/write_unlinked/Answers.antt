use Rattle.std.proofs.Common.{◌∙◌}
use Rattle.cw_say.proofs.link.write_unlinked.Goals as goal

pub returns-in-SegmentTwice : goal.returns-in-SegmentTwice
returns-in-SegmentTwice g c = rw (c.in-SegmentTwice.is, ← c.bytes.ensures.value) c.write_name.ensures

pub returns-in-Differs : goal.returns-in-Differs
returns-in-Differs g c = rw (c.in-Differs.is, ← c.bytes-in-Differs.ensures.value) c.write_segments.ensures

pub returns-in-DefinedTwice : goal.returns-in-DefinedTwice
returns-in-DefinedTwice g c = rw (c.in-DefinedTwice.is, ← c.bytes-in-DefinedTwice.ensures.value) c.write_segments-in-DefinedTwice.ensures

pub returns-in-Undefined : goal.returns-in-Undefined
returns-in-Undefined g c = rw (c.in-Undefined.is, ← c.bytes-in-Undefined.ensures.value) c.write_name-in-Undefined.ensures

pub returns-in-NoMemory : goal.returns-in-NoMemory
returns-in-NoMemory g c = rw c.in-NoMemory.is c.write_piece.ensures

pub returns-in-AbsoluteOutside : goal.returns-in-AbsoluteOutside
returns-in-AbsoluteOutside g c = rw c.in-AbsoluteOutside.is c.write_outside.ensures

pub returns-in-DataTooBig : goal.returns-in-DataTooBig
returns-in-DataTooBig g c = rw c.in-DataTooBig.is c.write_number.ensures

pub returns-in-ControlTooBig : goal.returns-in-ControlTooBig
returns-in-ControlTooBig g c = rw c.in-ControlTooBig.is c.write_number-in-ControlTooBig.ensures

pub returns-in-PresetClash : goal.returns-in-PresetClash
returns-in-PresetClash g c = rw (c.in-PresetClash.is, ← (c.as_bytes-digits.ensures.value ∙ c.format.ensures.text)) c.write_segments-in-PresetClash.ensures

pub returns-in-CodeTooBig : goal.returns-in-CodeTooBig
returns-in-CodeTooBig g c = rw c.in-CodeTooBig.is c.write_number-in-CodeTooBig.ensures
