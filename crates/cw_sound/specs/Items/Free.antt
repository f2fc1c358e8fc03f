-- A text without a fault of its types: no part of it has one.
use Rattle.std.specs.Prelude.{◌≡◌, None}
use Rattle.cw_scope.specs.declared.resolve.Named.{Named}
use Rattle.cw_items.specs.Families.{things_judged, nothing_known}
use Rattle.cw_judge.specs.Judged.{sites_of, absolute_addresses, communicators_judged, block_judged}
use Rattle.cw_sound.specs.Items.Items.{things_of}

pub record PartsFree (named : Named) : Type 0 where
  pub things : things_judged nothing_known (things_of named) None ≡ None
  pub communicators : communicators_judged named (sites_of (things_of named)) (absolute_addresses named.raw.now.comms) named.raw.now.comms None ≡ None
  pub block : block_judged named (sites_of (things_of named)) named.raw.now.block None ≡ None
