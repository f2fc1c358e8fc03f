use Rattle.std.proofs.Common.{map, length, arith, ap}
use Rattle.std.proofs.lemmas.List.{length-map}
use Rattle.cw_lex.specs.Lexical.{view}
use Rattle.cw_compile.proofs.Few.{few_tokens}
use Rattle.cw_compile.proofs.tree.tree_of_tokens.Goals as goal

pub tree_of_expanded-requires : goal.tree_of_expanded-requires
tree_of_expanded-requires c = record {
  few = omega (arith, few_tokens (map view c.args.tokens.now) (map view c.in-Ok.expanded) c.in-Ok.ensures, length-map c.in-Ok.expanded view, ap length c.as_slice.ensures);
}
