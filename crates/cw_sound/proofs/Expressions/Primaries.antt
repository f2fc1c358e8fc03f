-- Primaries and conditional expressions: where their parts are right, so are they.
use Rattle.std.proofs.Common.{◌≡◌, ℕ, suc, ◌≤◌, max, List, [], ◌++◌, length, Bool, true, false, IsTrue, nat_lt, Option, is_some, refl, ap₂, ◌∙◌, arith}
use Rattle.cw_word.specs.Word.{signed}
use Rattle.cw_amount.specs.Amounts.{octal_word}
use Rattle.cw_table.specs.Rows.{item_at}
use Rattle.cw_tree.specs.declared.leaf.Position.{Position}
use Rattle.cw_tree.specs.declared.leaf.RawLiteral.{RawLiteral}
use Rattle.cw_tree.specs.declared.leaf.RawName.{RawName}
use Rattle.cw_tree.specs.declared.leaf.RawNumber.{RawNumber}
use Rattle.cw_tree.specs.declared.leaf.RawOctal.{RawOctal}
use Rattle.cw_tree.specs.declared.leaf.RawType.{RawType}
use Rattle.cw_tree.specs.declared.expression.RawExpr.TheOpen as layer
use Rattle.cw_facts.specs.declared.fact.Form.TheVariants as form
use Rattle.cw_facts.specs.declared.fact.Kind.{Kind as NameKind}
use Rattle.cw_facts.specs.declared.fact.Kind.TheVariants as kind
use Rattle.cw_facts.specs.declared.fact.Reading.TheVariants as reading
use Rattle.cw_facts.specs.Uses.{Uses, uses_of, each_for}
use Rattle.cw_facts.specs.Uses as uses
use Rattle.cw_scope.specs.declared.resolve.Named.{Named}
use Rattle.cw_scope.specs.NameRules.{answers}
use Rattle.cw_scale.specs.declared.fault.Rule.TheVariants as rule
use Rattle.cw_scale.specs.Faults.{Judgement, fine, unless, both}
use Rattle.cw_scale.specs.Types.{type_judged}
use Rattle.cw_scale.specs.Kinds.{kind_of, signature_of, fraction_of, fraction_of_kind}
use Rattle.cw_scale.specs.TypeRules as judged
use Rattle.cw_scale.specs.TypeRules.{Judged, plain, fits_at, call_faults}
use Rattle.cw_make_expr.specs.Parts.{Numbers, within, item_here}
use Rattle.cw_make_expr.specs.Nodes.{number, constant, string, call, force, locate, choice}
use Rattle.cw_make_expr.specs.Made as made
use Rattle.cw_make_expr.specs.Made.{Made, Placed, simply}
use Rattle.cw_unit.specs.declared.unit.Unit.{Unit as SourceUnit}
use Rattle.cw_unit.specs.declared.unit.Cond.{Cond}
use Rattle.cw_unit.specs.declared.unit.Expr.{Expr}
use Rattle.cw_gen_expr.specs.BuiltExpressions.{most_levels}
use Rattle.cw_sound.specs.Expressions.Levels.{largest}
use Rattle.cw_sound.proofs.Expressions.Truth.{no, lt_of, max_small}
use Rattle.cw_sound.proofs.Expressions.Judging.{keeps_fine, keeps_unless, keeps_both, both_free, keeps_type}
use Rattle.cw_sound.proofs.Expressions.Standing.{split, use_stands, text_stands}
use Rattle.cw_sound.proofs.Expressions.Parts.{Sense, Good, Right, RightTest, RightPlace, Rights}
use Rattle.cw_sound.proofs.Expressions.Senses.{IsKept}
use Rattle.cw_sound.proofs.Expressions.Numbers.{operand_small, within_limit, word_fits, type_small, name_small}
use Rattle.cw_sound.proofs.Expressions.Calls.{Callable, is_callable, may_be_called}
use Rattle.cw_sound.proofs.Expressions.Places.{has_item}
use Rattle.cw_sound.proofs.Expressions.Arguments.{call_keeps, call_given}
use Rattle.cw_sound.proofs.Expressions.Rules.{compound, plain_sound, sounds, whole_part_good}

answering : (k : NameKind) → IsTrue (answers k) → IsTrue (is_callable true k)
answering (kind.Proc t) h = refl
answering (kind.ProcParam t) h = refl
answering kind.ReadByte h = refl
answering _ h = no h

module _ (named : Named) (numbers : Numbers) (u : SourceUnit) (who : Option ℕ) (sense : Sense) (kept : IsKept named numbers u who sense) where
  -- ---- numbers, characters and strings

  -- a number is its best scale's where it is an operand
  pub number_right : (n : RawNumber) → Right named numbers u who sense (judged.primary_step named (layer.Number n)) (simply (number n.number)) (λ r. []) 0
  number_right n r h =
      compound named numbers u who sense kept r (judged.primary_step named (layer.Number n)) (simply (number n.number)) 0 (kept.nothing_handed r) refl
      (record {
        keeps = λ f. keeps_unless (fits_at n.number f) rule.NumberRange n.at;
        natural_small = omega arith;
        operand_small = operand_small n.number;
        place = λ e. no e;
        good = λ f le few free. kept.number_good n f free;
      })

  pub octal_right : (n : RawOctal) → Right named numbers u who sense (judged.primary_step named (layer.Octal n)) (simply (constant (signed (within 65535 (octal_word n.number.number))))) (λ r. []) 0
  octal_right n r h =
      plain_sound named numbers u who sense kept r 0 (λ f. unless (is_some (octal_word n.number.number)) rule.NumberRange n.number.at) (constant (signed (within 65535 (octal_word n.number.number)))) 0 (omega arith)
      (λ f. keeps_unless (is_some (octal_word n.number.number)) rule.NumberRange n.number.at)
      (λ f le few free. kept.constant_result f (signed (within 65535 (octal_word n.number.number))) (word_fits (within 65535 (octal_word n.number.number)) (within_limit 65535 (octal_word n.number.number))))

  pub literal_right : (c : RawLiteral) → IsTrue (nat_lt c.byte 256) → Right named numbers u who sense (judged.primary_step named (layer.Literal c)) (simply (constant (signed c.byte))) (λ r. []) 0
  literal_right c byte r h =
      plain_sound named numbers u who sense kept r 0 (λ f. fine) (constant (signed c.byte)) 0 (omega arith) (λ f. keeps_fine)
      (λ f le few free. kept.constant_result f (signed c.byte) (word_fits c.byte (omega (arith, lt_of c.byte 256 byte))))

  pub string_right : (at : Position) (cs : List ℕ) → Right named numbers u who sense (judged.primary_step named (layer.Text at cs)) (simply (string (item_here numbers at.token))) (uses.primary_step (layer.Text at cs)) 0
  string_right at cs r h =
      plain_sound named numbers u who sense kept r 0 (λ f. fine) (string (item_here numbers at.token)) 0 (omega arith) (λ f. keeps_fine)
      (λ f le few free. kept.string_result f (item_here numbers at.token) (has_item u who named numbers (item_at numbers at.token) (text_stands named numbers u who at (length cs) h)))

  -- ---- addresses

  pub location_right : (at : Position) (j : Judged) (p : Placed) (x : Uses) (l : ℕ) → RightPlace named numbers u who sense j p x l → Right named numbers u who sense (judged.primary_step named (layer.Location at j)) (simply (locate p.place)) (λ r. x reading.Whole) l
  location_right at j p x l s r h =
      let k = s.located reading.Whole refl h in
      plain_sound named numbers u who sense kept r 0 (λ f. j.faults 0) (locate p.place) l (omega arith) (λ f. k.keeps 0) (λ f le few free. kept.locate_result f p.place (k.good 0 few free))

  -- ---- brackets

  pub forced_right : (t : RawType) (j : Judged) (m : Made) (x : Uses) (l : ℕ) → Right named numbers u who sense j m x l → Right named numbers u who sense (judged.primary_step named (layer.Forced t j)) (simply (force (fraction_of t) (m.made false))) (λ r. x reading.Value) l
  forced_right t j m x l s r h =
      let v = (s reading.Value h).valued tt in
      let g : ℕ = fraction_of t in
      plain_sound named numbers u who sense kept r g (λ f. both (type_judged t) (j.faults g)) (force g (m.made false)) l (type_small t) (λ f. keeps_both (keeps_type t) (v.keeps g))
      (λ f le few free.
      let k = v.good g (type_small t) few (both_free (type_judged t) (j.faults g) (v.keeps g) free).1 in
      kept.force_result f g (m.made false) (type_small t) (kept.more l most_levels g (m.made false) few k.at))

  pub bracket_right : (at : Position) (j : Judged) (m : Made) (x : Uses) (l : ℕ) → Right named numbers u who sense j m x l → Right named numbers u who sense (judged.primary_step named (layer.Bracket at j)) (made.plainly (m.made false)) (λ r. x reading.Value) l
  bracket_right at j m x l s r h =
      let v = (s reading.Value h).valued tt in
      compound named numbers u who sense kept r (judged.primary_step named (layer.Bracket at j)) (made.plainly (m.made false)) l (kept.nothing_handed r) refl
      (record {
        keeps = v.keeps;
        natural_small = v.natural_small;
        operand_small = v.natural_small;
        place = λ e. no e;
        good = λ f small few free.
            let g = v.good f small few free in
            whole_part_good named numbers u who sense kept j.shape.natural l f (λ g. j.faults g) (m.made false) (record { natural = g.natural false; at = g.at }) few;
      })

  -- ---- calls

  pub call_right : (n : RawName) {js : List Judged} {ms : List Made} {xs : List Uses} {ls : List ℕ} → Rights named numbers u who sense js ms xs ls
      → Right named numbers u who sense (judged.primary_step named (layer.Call n js)) (simply (call (made.target named numbers n) (made.arguments named numbers n ms))) (λ r. uses_of n form.CallValue ++ each_for reading.Argument xs) (largest ls)
  call_right n {js = js} {ms = ms} {xs = xs} {ls = ls} rs r h =
      let halves = split named numbers u who (uses_of n form.CallValue) (each_for reading.Argument xs) h in
      let s = use_stands named numbers u who n form.CallValue halves.0 in
      let ss = sounds named numbers u who sense kept rs halves.1 in
      let c : Callable named numbers u who true n = may_be_called named numbers u who true s.named_kind n s.is_kind s.stands_as (answering s.named_kind s.fits_use) in
      plain_sound named numbers u who sense kept r (fraction_of_kind (kind_of named n)) (λ f. call_faults named (signature_of named n) n js) (call (made.target named numbers n) (made.arguments named numbers n ms)) (largest ls) (name_small (kind_of named n))
      (λ f. call_keeps named numbers u who sense (signature_of named n) n ss)
      (λ f le few free. kept.called_result f n (made.arguments named numbers n ms) c (call_given named numbers u who sense kept true n c ss few free))

  -- ---- conditional expressions

  choice_good : (t : Cond) (j k : Judged) (m n : Made) (l i c f : ℕ) (F : ℕ → Judgement) → max c (max (suc l) i) ≤ most_levels → sense.Test t → Good sense j m l f → Good sense k n i f
      → Good sense (record { shape = plain (max j.shape.natural k.shape.natural); faults = F }) (simply (choice t (m.made false) (n.made false))) (max c (max (suc l) i)) f
  choice_good t j k m n l i c f F few test g q =
      let a : Expr = m.made false in
      let b : Expr = n.made false in
      record {
        natural = λ operand. kept.choice_natural t a b ∙ ap₂ max (g.natural false) (q.natural false);
        operand = kept.choice_operand t a b ∙ ap₂ max (g.natural false) (q.natural false);
        at = kept.choice_at t a b l i (max c (max (suc l) i)) f (omega arith) (omega arith) test g.at q.at;
        as_operand = λ e. kept.choice_at t a b l i most_levels f (omega (arith, few)) (omega (arith, few)) test g.at q.at;
      }

  pub choice_right : (at : Position) (jt j k : Judged) (t : Cond) (m n : Made) (x y z : Uses) (c l i : ℕ) → RightTest named numbers u who sense jt t x c → Right named numbers u who sense j m y l → Right named numbers u who sense k n z i
      → Right named numbers u who sense (judged.expression_step named (layer.Choice at jt j k)) (simply (choice t (m.made false) (n.made false))) (λ r. x reading.Value ++ (y reading.Value ++ z reading.Value)) (max c (max (suc l) i))
  choice_right at jt j k t m n x y z c l i st sj sk r h =
      let halves = split named numbers u who (x reading.Value) (y reading.Value ++ z reading.Value) h in
      let sides = split named numbers u who (y reading.Value) (z reading.Value) halves.1 in
      let test = st reading.Value halves.0 in
      let v = (sj reading.Value sides.0).valued tt in
      let w = (sk reading.Value sides.1).valued tt in
      let top : max j.shape.natural k.shape.natural ≤ 15 = max_small j.shape.natural k.shape.natural 15 v.natural_small w.natural_small in
      let F : ℕ → Judgement = λ f. both (jt.faults 0) (both (j.faults f) (k.faults f)) in
      compound named numbers u who sense kept r (judged.expression_step named (layer.Choice at jt j k)) (simply (choice t (m.made false) (n.made false))) (max c (max (suc l) i)) (kept.nothing_handed r) refl
      (record {
        keeps = λ f. keeps_both (test.keeps 0) (keeps_both (v.keeps f) (w.keeps f));
        natural_small = top;
        operand_small = top;
        place = λ e. no e;
        good = λ f small few free.
            let frees = both_free (jt.faults 0) (both (j.faults f) (k.faults f)) (keeps_both (v.keeps f) (w.keeps f)) free in
            let rest = both_free (j.faults f) (k.faults f) (w.keeps f) frees.1 in
            choice_good t j k m n l i c f F few (test.good 0 (omega (arith, few)) frees.0) (v.good f small (omega (arith, few)) rest.0) (w.good f small (omega (arith, few)) rest.1);
      })
