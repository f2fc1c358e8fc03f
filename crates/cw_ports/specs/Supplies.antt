-- How an input stands.
use Rattle.std.specs.Prelude.{Bool, true, false}
use Rattle.cw_ports.specs.declared.supply.Supply.{Supply}
use Rattle.cw_ports.specs.declared.supply.Supply.TheVariants.{Open, TooLong}

-- bytes may be asked for
abbrev pub is_open : Supply → Bool
is_open Open = true
is_open _ = false

-- a byte over the limit was taken
abbrev pub is_too_long : Supply → Bool
is_too_long TooLong = true
is_too_long _ = false
