-- The rules of the grammar keep what is known.
use Rattle.std.proofs.Common.{Bool, true, false, [], Some, None}
use Rattle.cw_tree.specs.declared.expression.RawRef.TheVariants as ref_tree
use Rattle.cw_grammar.specs.Tokens.{position}
use Rattle.cw_grammar.specs.Grammar.{Sort, Rule, located, if_rest, for_rest, block_rest, Again}
use Rattle.cw_grammar.specs.Rules.{name, bits, indexed_name, reference, commas}
use Rattle.cw_grammar.specs.Statements.{simple_behind, block_tree, unnamed, simple, if_tree, for_tree, stmt, proc_behind, worded_decl, decl, text}
use Rattle.cw_grammar.specs.Table.{rule, again_rule}
use Rattle.cw_grammar.proofs.Table.{each_again}
use Rattle.cw_sound.proofs.Lines.Trees.{name_lined, index_lined, bare_lined, ref_lined, empty_lined, assign_lined, assign_bits_lined, jump_lined, call_lined, answer_lined, block_lined, if_lined, for_lined, form_alone, labelled_lined, simple_alone, whole_lined, data_lined, overlay_lined, switch_lined, proc_lined, fits}
use Rattle.cw_sound.proofs.Lines.Good.{Keeps, given_good}

name_keeps : Keeps name
name_keeps = (tt, λ t h. h.line)

names_keep : Keeps (commas name)
names_keep = ((name_keeps, ((tt, name_keeps), λ x h. h.1)), λ x h. (h.0, h.1))

bits_keeps : Keeps bits
unfolding bits
bits_keeps = (tt, λ x h. h.0.line)

reference_keeps : Keeps reference
unfolding reference
reference_keeps = (((name_keeps, tt), λ x h. ref_lined x.0 x.1 h.0), (tt, λ x h. bare_lined (position x.0) x.1 h.0.line))

behind_keeps : Keeps simple_behind
unfolding simple_behind
behind_keeps = (
  (tt, λ e h n k. assign_lined (ref_tree.Name n) e (name_lined n k)),
  (
    (tt, λ x h n k. assign_lined (indexed_name n x.0.1.0 x.0.1.1) x.1 (index_lined n x.0.1.0 x.0.1.1 k)),
    ((tt, λ x h n k. call_lined n x.1 k), λ n k. call_lined n [] k),
  ),
)

unnamed_keeps : (p : Bool) → Keeps (unnamed p)
unfolding unnamed
unnamed_keeps p = (
  (tt, λ x h. assign_lined (ref_tree.Bare (position x.0.0) x.0.1) x.1 (bare_lined (position x.0.0) x.0.1 h.0.0.line)),
  (
    ((bits_keeps, (reference_keeps, tt)), λ x h. assign_bits_lined x.0 x.1.0 x.1.1 (given_good bits x.0 h.0)),
    (
      ((tt, (name_keeps, tt)), λ x h. jump_lined x.0 x.1.0 x.1.1 h.0.line),
      (
        (tt, λ x h. answer_lined (position x.0) x.1 h.0.line),
        ((tt, λ x h. block_lined (block_tree x.0 x.1.0 x.1.1) (whole_lined x.0 x.1.0 x.1.1 h.1.0 h.1.1)), empty_lined),
      ),
    ),
  ),
)

simple_keeps : (p : Bool) → Keeps (simple p)
unfolding simple
simple_keeps p = (
  ((name_keeps, ((((tt, tt), λ x h. h.1), λ x h n k. ((k, h.0), h.1)), (behind_keeps, λ f h n k. (tt, given_good simple_behind f h n k)))), λ x h. h.1 x.0 h.0),
  (unnamed_keeps p, λ s h. (tt, given_good (unnamed p) s h)),
)

stmt_keeps : (p : Bool) → Keeps (stmt p)
unfolding stmt
stmt_keeps p = (
  ((name_keeps, ((((tt, tt), λ x h. h.1), λ s h n k. labelled_lined n s h), (behind_keeps, λ f h n k. simple_alone (f n) (given_good simple_behind f h n k)))), λ x h. h.1 x.0 h.0),
  (
    (tt, λ x h. form_alone (if_tree x.0 x.1) (if_lined (position x.0) x.1.0 x.1.1.0.0 x.1.1.0.1 x.1.1.1 h.0.line h.1.1.0.1 h.1.1.1)),
    (
      (tt, λ x h. form_alone (for_tree x.0 x.1) (for_lined (position x.0) x.1.0 x.1.1.0 x.1.1.1 h.0.line h.1.1.1)),
      (unnamed_keeps p, λ s h. simple_alone s (given_good (unnamed p) s h)),
    ),
  ),
)

proc_keeps : Keeps proc_behind
unfolding proc_behind
proc_keeps = ((tt, (name_keeps, (tt, tt))), λ x h t k. proc_lined t x.0 x.1.0 x.1.1.0 x.1.1.1.1 h.1.1.1.1)

worded_keeps : Keeps worded_decl
unfolding worded_decl
worded_keeps = (
  (tt, λ d h. data_lined d),
  ((tt, λ x h. overlay_lined (position x.0) x.1.0 x.1.1), ((tt, (name_keeps, ((tt, names_keep), λ x h. h.1))), λ x h. switch_lined (position x.0) x.1.0 x.1.1)),
)

decl_keeps : (p : Bool) → Keeps (decl p)
unfolding decl
decl_keeps true = (((tt, ((tt, λ f h t k. data_lined (f t)), (tt, λ f h t k. data_lined (f t)))), λ x h. h.1 x.0 tt), worded_keeps)
decl_keeps false = (
  ((tt, ((tt, λ f h t k. data_lined (f t)), ((tt, λ f h t k. data_lined (f t)), (proc_keeps, λ f h t k. given_good proc_behind f h (Some t) tt)))), λ x h. h.1 x.0 tt),
  (worded_keeps, (proc_keeps, λ f h. given_good proc_behind f h None tt)),
)

pub rule_keeps : {s : Sort} (r : Rule s) → Keeps (rule r)
unfolding rule
rule_keeps located = ((reference_keeps, tt), λ x h. given_good reference x.0 h.0)
rule_keeps (if_rest p) = (tt, (((tt, tt), λ x h. h.1), (((tt, λ x h. h.1), λ x h. h), tt)))
rule_keeps (for_rest p) = (reference_keeps, (tt, ((tt, tt), λ x h. h.1)))
rule_keeps (block_rest p) = (
  ((decl_keeps p, tt), λ x h. given_good (decl p) x.0 h.0),
  ((((tt, ((tt, tt), λ x h. h.1)), λ x h. (h.0, h.1)), (tt, ((name_keeps, λ x h. h), tt))), λ x h. h.0),
)
rule_keeps _ = tt

pub again_keeps : {s : Sort} (a : Again s) → Keeps (again_rule a)
unfolding again_rule
again_keeps = each_again (λ s a. Keeps (again_rule a)) stmt_keeps simple_keeps tt tt

pub text_keeps : Keeps text
unfolding text
text_keeps =
    ((tt, (((tt, name_keeps), λ x h. h.1), (tt, tt))), λ x h. fits x.0 x.1.0 x.1.1.0 x.1.1.1 (whole_lined x.1.1.0.0 x.1.1.0.1.0 x.1.1.0.1.1 h.1.1.0.1.0 h.1.1.0.1.1) h.1.1.1.few)
