use Rattle.cw_comm.proofs.tables.Tables.enter.Goals as goal

pub enter_listings-requires : goal.enter_listings-requires
enter_listings-requires c = record { listed = c.requires.listed; segment = c.requires.segment; count = c.requires.each.listings }

pub enter_definitions-requires : goal.enter_definitions-requires
enter_definitions-requires c = record { listed = c.requires.listed; segment = c.requires.segment; count = c.requires.each.definers }

pub returns : goal.returns
returns c = record {
  listings = c.enter_listings.ensures.count;
  definers = c.enter_definitions.ensures.count;
  listed = c.enter_listings.ensures.told;
  defined = c.enter_definitions.ensures.told;
}
