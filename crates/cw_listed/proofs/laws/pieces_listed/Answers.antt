use Rattle.cw_tmpl.specs.Templates.{block_pieces, entry_pieces, landing_pieces, switch_pieces}
use Rattle.cw_tmpl.specs.ReferenceCode.{pieces_of}
use Rattle.cw_listed.proofs.Listed.{listed}
use Rattle.cw_listed.proofs.Orders.{entry_pieces_told, landing_told, switch_told}
use Rattle.cw_listed.proofs.Blocks.{block_told, segment_told}
use Rattle.cw_listed.proofs.laws.pieces_listed.Goals as goal

pub returns-clause-blocks : goal.returns-clause-blocks
returns-clause-blocks c names place number short b o = listed (block_pieces names place number short b o) (block_told names place number short b o)

pub returns-clause-entry : goal.returns-clause-entry
returns-clause-entry c = listed entry_pieces entry_pieces_told

pub returns-clause-landings : goal.returns-clause-landings
returns-clause-landings c names place m = listed (landing_pieces names place m) (landing_told names place m)

pub returns-clause-switches : goal.returns-clause-switches
returns-clause-switches c names place goals = listed (switch_pieces names place goals) (switch_told names place goals)

pub returns-clause-segments : goal.returns-clause-segments
returns-clause-segments c o = listed (pieces_of o) (segment_told o)
