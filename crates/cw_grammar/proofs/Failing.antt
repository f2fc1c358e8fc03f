-- What fails where another reading fails.
use Rattle.std.proofs.Common.{◌≡◌, Err}
use Rattle.cw_grammar.specs.declared.stop.Stop.{Stop}
use Rattle.cw_grammar.specs.declared.stop.Stop.TheVariants as stops
use Rattle.cw_grammar.specs.Reading.{Fault, Read, Fails, syntax_at, deep_at}

pub fails_where : {A B : Type 0} (e : Stop) (o : Read A) (total : Read B) → ((f : Fault) → o ≡ Err f → total ≡ Err f) → Fails e o → Fails e total
fails_where stops.Memory o total so h = tt
fails_where (stops.Syntax k) o total so h = so (syntax_at k) h
fails_where (stops.Deep k) o total so h = so (deep_at k) h
