-- Objects as they are read.
use Rattle.std.proofs.Common.{ℕ, List, inl}
use Rattle.cw_io.specs.File.{Told}
use Rattle.cw_view.specs.declared.fault.ObjFault.{ObjFault}
use Rattle.cw_view.proofs.NoFault.{not_both}
use Rattle.cw_files.specs.Texts.{HasObject, IsBad}
use Rattle.cw_files.specs.Reading.{Counts, StopsObjects}
use Rattle.cw_say.specs.declared.status.Bad.TheVariants.{Object}
use Rattle.cw_say.specs.declared.status.Status.{Status}
use Rattle.cw_say.specs.declared.status.Status.TheVariants.{BadFile}
use Rattle.cw_actions.proofs.Resulting.Outcomes.{Kind, BadStop, bad_stop, bad_files}

pub not_bad : (bytes object : List ℕ) (fault : ObjFault) → HasObject bytes object → IsBad bytes (Object fault) → ⊥
not_bad bytes object fault is bad = not_both bytes is.0.0 is.0.1 is.0.2 fault bad

pub stop_is : (files : List Told) (texts : List (List ℕ)) (taken : ℕ) (before after : Counts) (s : Status) → StopsObjects files texts taken before after s → BadStop ObjFault IsBad Object files texts taken before after s
stop_is files texts taken before after (BadFile number (Object fault)) x = bad_stop ObjFault IsBad Object files texts taken before after number fault x
stop_is files texts taken before after _ x = inl x

abbrev pub objects : Kind
objects = bad_files ObjFault IsBad Object (List ℕ) HasObject not_bad StopsObjects stop_is
