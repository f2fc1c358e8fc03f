use Rattle.cw_say.proofs.bad.write_object_fault.Goals as goal

pub returns-in-NotObject : goal.returns-in-NotObject
returns-in-NotObject g c = rw c.in-NotObject.is c.write_wrong_behind.ensures

pub returns-in-BadVersion : goal.returns-in-BadVersion
returns-in-BadVersion g c = rw c.in-BadVersion.is c.write_wrong_behind-in-BadVersion.ensures

pub returns-in-Truncated : goal.returns-in-Truncated
returns-in-Truncated g c = rw c.in-Truncated.is c.write_place_behind.ensures

pub returns-in-BadRecord : goal.returns-in-BadRecord
returns-in-BadRecord g c = rw c.in-BadRecord.is c.write_place_behind-in-BadRecord.ensures

pub returns-in-Trailing : goal.returns-in-Trailing
returns-in-Trailing g c = rw c.in-Trailing.is c.write_place_behind-in-Trailing.ensures
