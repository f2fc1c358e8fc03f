use Rattle.cw_rows86.proofs.Bytes.{on_bytes, test, high_byte, high_to_low, nothing}
use Rattle.cw_rows86.proofs.laws.bytes.Goals as goal

pub returns : goal.returns
returns c =
    let finds = c.fetching.ensures.finds in
    record { operates = on_bytes finds; test = test finds; high = high_byte finds; high_to_low = high_to_low finds; nothing = nothing finds }
