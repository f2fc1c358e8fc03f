-- Pieces that are told are listed.
use Rattle.std.proofs.Common.{List}
use Rattle.cw_tmpl.specs.declared.pieces.Coded.{Coded}
use Rattle.cw_listed.specs.Behind.{IsListed}
use Rattle.cw_listed.proofs.Walk.{Told}
use Rattle.cw_listed.proofs.Places.{known_data, names_entries}
use Rattle.cw_listed.proofs.Coming.{words_behind_stand}

pub listed : (ps : List Coded) → Told ps → IsListed ps
listed ps h = record { known = known_data ps h; behind = words_behind_stand ps h; named = names_entries ps h }
