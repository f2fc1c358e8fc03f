use Rattle.cw_rows86.proofs.AddressTests.{tested}
use Rattle.cw_rows86.proofs.laws.address_tests.Goals as goal

pub returns : goal.returns
returns c = tested c.fetching.ensures.finds
