-- One lemma for each rule of expressions: where its parts are right, so is the whole.
use Rattle.std.proofs.Common.{◌≡◌, ℕ, suc, ◌≤◌, max, List, [], ◌∷◌, length, Bool, true, false, IsTrue, ◌&&◌, ◌==◌, Option, Some, None, is_none, refl, sym, ap, subst, subst₂, ◌∙◌, arith}
use Rattle.cw_tree.specs.declared.leaf.RawSign.{RawSign}
use Rattle.cw_tree.specs.declared.leaf.RawFactorSign.{RawFactorSign}
use Rattle.cw_tree.specs.declared.expression.RawBits.{RawBits}
use Rattle.cw_facts.specs.declared.fact.Fact.{Fact}
use Rattle.cw_facts.specs.declared.fact.Reading.{Reading}
use Rattle.cw_facts.specs.declared.fact.Reading.TheVariants as reading
use Rattle.cw_facts.specs.Uses.{Uses, reading_of, each_for, operands_for}
use Rattle.cw_scope.specs.declared.resolve.Named.{Named}
use Rattle.cw_scale.specs.declared.scales.Shape.{Shape}
use Rattle.cw_scale.specs.Faults.{Judgement, fine, both}
use Rattle.cw_scale.specs.Types.{each_bits_judged}
use Rattle.cw_scale.specs.TypeRules as judged
use Rattle.cw_scale.specs.TypeRules.{Judged, plain, shape_from, logic_shape_from, each_at, operand_faults, chain_faults, term_faults, scale_for, logic_faults}
use Rattle.cw_make_expr.specs.Parts.{Numbers, no_argument}
use Rattle.cw_make_expr.specs.Nodes.{nothing, read, logic, whole_part, whole_part_if}
use Rattle.cw_make_expr.specs.Made.{Made, simply, plainly, operand_for, handed_if, logic_from, logic_of, factors_from, term_of, terms_from, signed_term, sum_from, sum_of, bits_around, prim_of}
use Rattle.cw_unit.specs.declared.unit.Unit.{Unit as SourceUnit}
use Rattle.cw_unit.specs.declared.unit.LogicOp.{LogicOp}
use Rattle.cw_unit.specs.declared.unit.Arg.{Arg}
use Rattle.cw_unit.specs.declared.unit.Expr.{Expr}
use Rattle.cw_unit.specs.declared.unit.Ref.{Ref}
use Rattle.cw_gen_expr.specs.BuiltExpressions.{most_levels}
use Rattle.cw_sound.specs.Uses.Stands.{FactsStand}
use Rattle.cw_sound.specs.Expressions.Levels.{largest}
use Rattle.cw_sound.proofs.Expressions.Truth.{no, not_one, not_none, max_zero}
use Rattle.cw_sound.proofs.Expressions.Judging.{Keeps, NoFault, keeps_fine, keeps_both, both_free, keeps_each_bits}
use Rattle.cw_sound.proofs.Expressions.Standing.{split}
use Rattle.cw_sound.proofs.Expressions.Parts.{Sense, Ready, Result, Addend, WholePart, Good, Valued, Sound, Right, Rights, Sounds, Values}
use Rattle.cw_sound.proofs.Expressions.Senses.{IsKept}
use Rattle.cw_sound.proofs.Expressions.Operands.{most, shape_most, shape_none, most_small, Operands, more_operands, operand_of, logic_operands, logic_all, bits_all, chain_result, Addends, more_addends, all_addends, terms_all, signed_addend, keeping}
use Rattle.cw_sound.proofs.Expressions.Several.{each_keeps, logic_keeps, chain_keeps, term_keeps}
use Rattle.cw_sound.proofs.Expressions.Lists.{all_stand, none, more, all_none, all_more}

and_false : (b : Bool) → (b && false) ≡ false
and_false true = refl
and_false false = refl

module _ (named : Named) (numbers : Numbers) (u : SourceUnit) (who : Option ℕ) (sense : Sense) (kept : IsKept named numbers u who sense) where
  abbrev Stood : List Fact → Type 0
  Stood facts = FactsStand named numbers u facts who

  -- ---- a part, with more levels

  pub weaker : (j : Judged) (m : Made) (l k : ℕ) → l ≤ k → Valued sense j m l → Valued sense j m k
  weaker j m l k low v = record {
    keeps = v.keeps;
    natural_small = v.natural_small;
    operand_small = v.operand_small;
    place = v.place;
    good = λ f small few free.
        let g = v.good f small (omega (arith, low, few)) free in
        record { natural = g.natural; operand = g.operand; at = kept.more l k f (m.made false) low g.at; as_operand = g.as_operand };
  }

  sound_weaker : (r : Reading) (j : Judged) (m : Made) (l k : ℕ) → l ≤ k → Sound named numbers u who sense r j m l → Sound named numbers u who sense r j m k
  sound_weaker r j m l k low s = record { handed_on = s.handed_on; whole_value = s.whole_value; valued = λ h. weaker j m l k low (s.valued h) }

  -- ---- what is no name by itself

  pub compound : (r : Reading) (j : Judged) (m : Made) (l : ℕ) → sense.Handed named numbers r j.shape.bare m.handed → j.shape.whole ≡ false → Valued sense j m l → Sound named numbers u who sense r j m l
  compound r j m l given no_place v = record {
    handed_on = given;
    whole_value = λ h. no (sym no_place ∙ h);
    valued = λ h. v;
  }

  -- of one value at its own scale, whatever scale is asked
  pub result_good : (n : ℕ) (s : Shape) (F : ℕ → Judgement) (e : Expr) (a : Arg) (l f : ℕ) → s.natural ≡ n → s.operand ≡ n → Result sense n f e → Good sense (record { shape = s; faults = F }) (record { made = λ operand. e; handed = a }) l f
  result_good n s F e a l f p q r = record {
    natural = λ operand. r.natural ∙ sym p;
    operand = r.operand ∙ sym q;
    at = kept.more 0 l f e (omega arith) r.at;
    as_operand = λ h. kept.more 0 most_levels f e (omega arith) r.at;
  }

  pub result_valued : (n : ℕ) (s : Shape) (F : ℕ → Judgement) (e : Expr) (a : Arg) (l : ℕ) → s.natural ≡ n → s.operand ≡ n → n ≤ 15 → ((f : ℕ) → Keeps (F f)) → (IsTrue s.whole → (x : Ref) × (e ≡ read x)) → ((f : ℕ) → f ≤ 15 → l ≤ most_levels → NoFault (F f) → Result sense n f e)
      → Valued sense (record { shape = s; faults = F }) (record { made = λ operand. e; handed = a }) l
  result_valued n s F e a l p q small keeps place result = record {
    keeps = keeps;
    natural_small = subst (λ (k : ℕ). k ≤ 15) (sym p) small;
    operand_small = subst (λ (k : ℕ). k ≤ 15) (sym q) small;
    place = place;
    good = λ f le few free. result_good n s F e a l f p q (result f le few free);
  }

  pub plain_sound : (r : Reading) (n : ℕ) (F : ℕ → Judgement) (e : Expr) (l : ℕ) → n ≤ 15 → ((f : ℕ) → Keeps (F f)) → ((f : ℕ) → f ≤ 15 → l ≤ most_levels → NoFault (F f) → Result sense n f e)
      → Sound named numbers u who sense r (record { shape = plain n; faults = F }) (record { made = λ operand. e; handed = no_argument }) l
  plain_sound r n F e l small keeps result =
      compound r (record { shape = plain n; faults = F }) (record { made = λ operand. e; handed = no_argument }) l (kept.nothing_handed r) refl (result_valued n (plain n) F e no_argument l refl refl small keeps (λ h. no h) result)

  nothing_sound : (r : Reading) → Sound named numbers u who sense r (record { shape = plain 0; faults = λ f. fine }) (simply nothing) 0
  nothing_sound r = plain_sound r 0 (λ f. fine) nothing 0 (omega arith) (λ f. keeps_fine) (λ f small few free. kept.nothing_result f)

  -- ---- operands, all wanted for their values

  valued : {js : List Judged} {ms : List Made} {ls : List ℕ} → Sounds named numbers u who sense reading.Value js ms ls → Values sense js ms ls
  valued all_none = all_none
  valued (all_more s ss) = all_more (s.valued tt) (valued ss)

  pub values : {js : List Judged} {ms : List Made} {xs : List Uses} {ls : List ℕ} → Rights named numbers u who sense js ms xs ls → Stood (each_for reading.Value xs) → Values sense js ms ls
  values rs h = valued (all_stand named numbers u who Made (Sound named numbers u who sense) reading.Value rs h)

  pub sounds : {js : List Judged} {ms : List Made} {xs : List Uses} {ls : List ℕ} → Rights named numbers u who sense js ms xs ls → Stood (each_for reading.Argument xs) → Sounds named numbers u who sense reading.Argument js ms ls
  sounds rs h = all_stand named numbers u who Made (Sound named numbers u who sense) reading.Argument rs h

  -- one alone stands for the whole
  alone_sound : (r : Reading) (j : Judged) (m : Made) (x : Uses) (l : ℕ) → Right named numbers u who sense j m x l → Stood (each_for r (x ∷ [])) → Sound named numbers u who sense r j m (largest (l ∷ []))
  alone_sound r j m x l s h = sound_weaker r j m l (largest (l ∷ [])) (omega arith) (s r (split named numbers u who (x r) [] h).0)

  -- ---- word logic

  logic_chain : (op : LogicOp) (f : ℕ) (e : Expr) {j : Judged} {m : Made} {js : List Judged} {ms : List Made} → Ready sense e → Operands sense (j ∷ js) (m ∷ ms) → Result sense 0 f (logic_from op e (m ∷ ms))
  logic_chain op f e {m = m} h (more_operands x xs) = logic_all named numbers u who sense kept op f (logic op e (m.made true)) (λ g. kept.logic_result op g e (m.made true) h x.ready) xs

  logic_result : (op : LogicOp) (f : ℕ) {j k : Judged} {m n : Made} {js : List Judged} {ms : List Made} → Operands sense (j ∷ k ∷ js) (m ∷ n ∷ ms) → Result sense 0 f (logic_from op (m.made true) (n ∷ ms))
  logic_result op f {m = m} (more_operands x xs) = logic_chain op f (m.made true) x.ready xs

  logic_many : (op : LogicOp) (r : Reading) (j k : Judged) (m n : Made) (js : List Judged) (ms : List Made) (ls : List ℕ) → Values sense (j ∷ k ∷ js) (m ∷ n ∷ ms) ls
      → Sound named numbers u who sense r (record { shape = logic_shape_from false (plain 0) (j ∷ k ∷ js); faults = λ f. logic_faults false f (j ∷ k ∷ js) })
      (record { made = λ operand. logic_from op (m.made (operand_for false operand)) (n ∷ ms); handed = handed_if false m.handed }) (largest ls)
  logic_many op r j k m n js ms ls vs =
      let all : List Judged = j ∷ k ∷ js in
      subst (λ (s : Shape). Sound named numbers u who sense r (record { shape = s; faults = λ f. logic_faults false f all }) (record { made = λ operand. logic_from op (m.made true) (n ∷ ms); handed = no_argument }) (largest ls))
      (sym (shape_none all))
      (plain_sound r 0 (λ f. logic_faults false f all) (logic_from op (m.made true) (n ∷ ms)) (largest ls) (omega arith) (λ f. logic_keeps false f (keeping sense vs))
      (λ f small few free. logic_result op f (logic_operands sense f vs few free)))

  pub logic_right : (op : LogicOp) {js : List Judged} {ms : List Made} {xs : List Uses} {ls : List ℕ} → Rights named numbers u who sense js ms xs ls
      → Right named numbers u who sense (record { shape = logic_shape_from (length js == 1) (plain 0) js; faults = λ f. logic_faults (length js == 1) f js }) (logic_of op ms) (λ r. operands_for r xs) (largest ls)
  logic_right op none r h = nothing_sound r
  logic_right op (more {j = j} {m = m} {x = x} {l = l} s none) r h = alone_sound r j m x l s h
  logic_right op (more {j = j} {m = m} {x = x} {l = l} s (more {j = k} {m = n} {x = y} {l = i} {js = js} {ms = ms} {xs = xs} {ls = ls} t rest)) r h =
      let all : List Judged = j ∷ k ∷ js in
      let vs = values (more s (more t rest)) (subst (λ (b : Bool). Stood (each_for (reading_of r b) (x ∷ y ∷ xs))) (not_one x y xs) h) in
      subst₂ (λ (a b : Bool). Sound named numbers u who sense r (record { shape = logic_shape_from a (plain 0) all; faults = λ f. logic_faults a f all }) (record { made = λ operand. logic_from op (m.made (operand_for b operand)) (n ∷ ms); handed = handed_if b m.handed }) (largest (l ∷ i ∷ ls)))
      (sym (not_one j k js)) (sym (not_none n ms)) (logic_many op r j k m n js ms (l ∷ i ∷ ls) vs)

  -- ---- BITS

  bits_many : (r : Reading) (b : RawBits) (bs : List RawBits) (j : Judged) (m : Made) (l : ℕ) → Valued sense j m l
      → Sound named numbers u who sense r (record { shape = plain 0; faults = λ f. both (each_bits_judged (b ∷ bs)) (j.faults j.shape.operand) }) (record { made = λ operand. bits_around (b ∷ bs) (m.made true); handed = no_argument }) l
  bits_many r b bs j m l v =
      plain_sound r 0 (λ f. both (each_bits_judged (b ∷ bs)) (j.faults j.shape.operand)) (bits_around (b ∷ bs) (m.made true)) l (omega arith)
      (λ f. keeps_both (keeps_each_bits (b ∷ bs)) (v.keeps j.shape.operand))
      (λ f small few free.
      let halves = both_free (each_bits_judged (b ∷ bs)) (j.faults j.shape.operand) (v.keeps j.shape.operand) free in
      bits_all named numbers u who sense kept b bs f (m.made true) halves.0 (operand_of sense j m l v few halves.1).ready)

  pub prim_right : (bs : List RawBits) (j : Judged) (m : Made) (x : Uses) (l : ℕ) → Right named numbers u who sense j m x l
      → Right named numbers u who sense (judged.prim_step named (record { bits = bs; primary = j })) (prim_of bs m) (λ r. x (reading_of r (length bs == 0))) l
  prim_right [] j m x l s r h = s r h
  prim_right (b ∷ bs) j m x l s r h =
      let v = (s reading.Value (subst (λ (t : Bool). Stood (x (reading_of r t))) (not_none b bs) h)).valued tt in
      subst (λ (t : Bool). Sound named numbers u who sense r (record { shape = judged.logic_merged t j.shape; faults = λ f. both (each_bits_judged (b ∷ bs)) (j.faults (scale_for t f j.shape.operand)) }) (record { made = λ operand. bits_around (b ∷ bs) (m.made (operand_for t operand)); handed = handed_if t m.handed }) l)
      (sym (not_none b bs)) (bits_many r b bs j m l v)

  -- ---- terms

  term_many : (r : Reading) (s : RawFactorSign) (signs : List RawFactorSign) (j k : Judged) (m n : Made) (js : List Judged) (ms : List Made) (l i : ℕ) (ls : List ℕ) → length ms ≤ length signs → Valued sense j m l → Valued sense k n i → Values sense js ms ls
      → Sound named numbers u who sense r (record { shape = shape_from false (plain 0) (j ∷ k ∷ js); faults = λ f. term_faults f (j ∷ k ∷ js) (s ∷ signs) })
      (record { made = λ operand. factors_from (m.made (operand_for false operand)) (n ∷ ms) (s ∷ signs); handed = handed_if false m.handed }) (largest (l ∷ i ∷ ls))
  term_many r s signs j k m n js ms l i ls enough v w ws =
      let all : List Judged = j ∷ k ∷ js in
      let vs : Values sense (k ∷ js) (n ∷ ms) (i ∷ ls) = all_more w ws in
      let top : ℕ = most (max j.shape.natural k.shape.natural) js in
      let F : ℕ → Judgement = λ f. term_faults f all (s ∷ signs) in
      let e : Expr = factors_from (m.made true) (n ∷ ms) (s ∷ signs) in
      let chain : ℕ → Judgement = λ f. chain_faults f j.shape.operand j.shape.natural (k ∷ js) (s ∷ signs) in
      let same : shape_from false (plain 0) all ≡ plain top = shape_most 0 all ∙ ap (λ (i : ℕ). plain (most (max i k.shape.natural) js)) (max_zero j.shape.natural) in
      subst (λ (z : Shape). Sound named numbers u who sense r (record { shape = z; faults = F }) (record { made = λ operand. e; handed = no_argument }) (largest (l ∷ i ∷ ls))) (sym same)
      (plain_sound r top F e (largest (l ∷ i ∷ ls)) (most_small sense j.shape.natural v.natural_small vs) (λ f. term_keeps f (s ∷ signs) (keeping sense (all_more v vs)))
      (λ f small few free.
      let halves = both_free (operand_faults j) (chain f) (chain_keeps f j.shape.operand j.shape.natural (s ∷ signs) (keeping sense vs)) free in
      let x = operand_of sense j m l v (omega (arith, few)) halves.0 in
      chain_result named numbers u who sense kept f j.shape.operand j.shape.natural (m.made true) s signs {j = k} {m = n} {l = i} {js = js} {ms = ms} {ls = ls} v.natural_small enough x.natural x.operand x.ready w ws (omega (arith, few)) halves.1))

  term_of_values : (r : Reading) (s : RawFactorSign) (signs : List RawFactorSign) (j k : Judged) (m n : Made) (js : List Judged) (ms : List Made) (l i : ℕ) (ls : List ℕ) → length ms ≤ length signs → Valued sense j m l → Values sense (k ∷ js) (n ∷ ms) (i ∷ ls)
      → Sound named numbers u who sense r (record { shape = shape_from false (plain 0) (j ∷ k ∷ js); faults = λ f. term_faults f (j ∷ k ∷ js) (s ∷ signs) })
      (record { made = λ operand. factors_from (m.made (operand_for false operand)) (n ∷ ms) (s ∷ signs); handed = handed_if false m.handed }) (largest (l ∷ i ∷ ls))
  term_of_values r s signs j k m n js ms l i ls enough v (all_more w ws) = term_many r s signs j k m n js ms l i ls enough v w ws

  pub term_right : (signs : List RawFactorSign) {js : List Judged} {ms : List Made} {xs : List Uses} {ls : List ℕ} → length ms ≤ suc (length signs) → Rights named numbers u who sense js ms xs ls
      → Right named numbers u who sense (judged.term_step named (record { operands = js; operators = signs })) (term_of ms signs) (λ r. operands_for r xs) (largest ls)
  term_right signs enough none r h = nothing_sound r
  term_right signs enough (more {j = j} {m = m} {x = x} {l = l} s none) r h = alone_sound r j m x l s h
  term_right [] enough (more s (more t rest)) r h = absurd (omega (arith, enough))
  term_right (sign ∷ signs) enough (more {j = j} {m = m} {x = x} {l = l} s (more {j = k} {m = n} {x = y} {l = i} {js = js} {ms = ms} {xs = xs} {ls = ls} t rest)) r h =
      let all : List Judged = j ∷ k ∷ js in
      let halves = split named numbers u who (x reading.Value) (each_for reading.Value (y ∷ xs)) (subst (λ (b : Bool). Stood (each_for (reading_of r b) (x ∷ y ∷ xs))) (not_one x y xs) h) in
      subst₂ (λ (a b : Bool). Sound named numbers u who sense r (record { shape = shape_from a (plain 0) all; faults = λ f. term_faults f all (sign ∷ signs) }) (record { made = λ operand. factors_from (m.made (operand_for b operand)) (n ∷ ms) (sign ∷ signs); handed = handed_if b m.handed }) (largest (l ∷ i ∷ ls)))
      (sym (not_one j k js)) (sym (not_none n ms))
      (term_of_values r sign signs j k m n js ms l i ls (omega (arith, enough)) ((s reading.Value halves.0).valued tt) (values (more t rest) halves.1))

  -- ---- sums

  -- a tree by itself and as an operand, behind a sign and in brackets
  pub whole_part_good : (n l f : ℕ) (F : ℕ → Judgement) (e : Expr) → Addend sense f n l e → l ≤ most_levels → Good sense (record { shape = plain n; faults = F }) (plainly e) l f
  whole_part_good n l f F e a few =
      let w : WholePart sense e (whole_part e) = kept.whole_part_is e in
      record {
        natural = both_natural w;
        operand = w.operand ∙ a.natural;
        at = a.at;
        as_operand = λ h.
            let at_own : sense.At most_levels (sense.natural e) e = subst (λ (k : ℕ). sense.At most_levels k e) (h ∙ sym a.natural) (kept.more l most_levels f e few a.at) in
            subst (λ (k : ℕ). sense.At most_levels k (whole_part e)) (a.natural ∙ sym h) (w.at at_own);
      }
    where
      both_natural : WholePart sense e (whole_part e) → (operand : Bool) → sense.natural (whole_part_if operand e) ≡ n
      both_natural w true = w.natural ∙ a.natural
      both_natural w false = a.natural

  sum_terms : (f l : ℕ) (sign : Option RawSign) (signs : List RawSign) {j : Judged} {m : Made} {js : List Judged} {ms : List Made} → f ≤ 15 → l ≤ most_levels → length ms ≤ length signs → Addends sense f l (j ∷ js) (m ∷ ms)
      → Addend sense f (most j.shape.natural js) l (terms_from (signed_term sign (m.made false)) ms signs)
  sum_terms f l sign signs {j = j} {m = m} small few enough (more_addends x xs) =
      terms_all named numbers u who sense kept f j.shape.natural l (signed_term sign (m.made false)) signs small few enough (signed_addend named numbers u who sense kept sign f j.shape.natural l (m.made false) small few x) xs

  sum_many : (r : Reading) (sign : Option RawSign) (signs : List RawSign) (j : Judged) (m : Made) (js : List Judged) (ms : List Made) (l : ℕ) (ls : List ℕ) → length ms ≤ length signs → Valued sense j m l → Values sense js ms ls
      → Sound named numbers u who sense r (record { shape = shape_from false (plain 0) (j ∷ js); faults = λ f. each_at f (j ∷ js) })
      (record { made = λ operand. sum_from false operand sign m ms signs; handed = handed_if false m.handed }) (largest (l ∷ ls))
  sum_many r sign signs j m js ms l ls enough v vs =
      let all : List Judged = j ∷ js in
      let top : ℕ = most j.shape.natural js in
      let F : ℕ → Judgement = λ f. each_at f all in
      let e : Expr = terms_from (signed_term sign (m.made false)) ms signs in
      let tree : Made = plainly e in
      let same : shape_from false (plain 0) all ≡ plain top = shape_most 0 all ∙ ap (λ (i : ℕ). plain (most i js)) (max_zero j.shape.natural) in
      let small_top : top ≤ 15 = most_small sense j.shape.natural v.natural_small vs in
      subst (λ (z : Shape). Sound named numbers u who sense r (record { shape = z; faults = F }) tree (largest (l ∷ ls))) (sym same)
      (compound r (record { shape = plain top; faults = F }) tree (largest (l ∷ ls)) (kept.nothing_handed r) refl
      (record {
        keeps = λ f. each_keeps f (keeping sense (all_more v vs));
        natural_small = small_top;
        operand_small = small_top;
        place = λ h. no h;
        good = λ f small few free.
            whole_part_good top (largest (l ∷ ls)) f F e (sum_terms f (largest (l ∷ ls)) sign signs small few enough (all_addends named numbers u who sense kept f (largest (l ∷ ls)) small (omega arith) few (all_more v vs) free)) few;
      }))

  pub sum_right : (sign : Option RawSign) (signs : List RawSign) {js : List Judged} {ms : List Made} {xs : List Uses} {ls : List ℕ} → length ms ≤ suc (length signs) → Rights named numbers u who sense js ms xs ls
      → Right named numbers u who sense (judged.sum_step named (record { sign = sign; operands = js; operators = signs })) (sum_of sign ms signs) (λ r. each_for (reading_of r (length xs == 1 && is_none sign)) xs) (largest ls)
  sum_right sign signs enough none r h = nothing_sound r
  sum_right None signs enough (more {j = j} {m = m} {x = x} {l = l} s none) r h = alone_sound r j m x l s h
  sum_right (Some sign) signs enough (more {j = j} {m = m} {x = x} {l = l} s none) r h =
      sum_many r (Some sign) signs j m [] [] l [] (omega arith) ((s reading.Value (split named numbers u who (x reading.Value) [] h).0).valued tt) all_none
  sum_right sign signs enough (more {j = j} {m = m} {x = x} {l = l} s (more {j = k} {m = n} {x = y} {l = i} {js = js} {ms = ms} {xs = xs} {ls = ls} t rest)) r h =
      let all : List Judged = j ∷ k ∷ js in
      let halves = split named numbers u who (x reading.Value) (each_for reading.Value (y ∷ xs)) (subst (λ (b : Bool). Stood (each_for (reading_of r (b && is_none sign)) (x ∷ y ∷ xs))) (not_one x y xs) h) in
      subst₂ (λ (a b : Bool). Sound named numbers u who sense r (record { shape = shape_from a (plain 0) all; faults = λ f. each_at f all }) (record { made = λ operand. sum_from b operand sign m (n ∷ ms) signs; handed = handed_if b m.handed }) (largest (l ∷ i ∷ ls)))
      (sym (ap (λ b. b && is_none sign) (not_one j k js))) (sym (ap (λ b. is_none sign && b) (not_none n ms) ∙ and_false (is_none sign)))
      (sum_many r sign signs j m (k ∷ js) (n ∷ ms) l (i ∷ ls) (omega (arith, enough)) ((s reading.Value halves.0).valued tt) (values (more t rest) halves.1))
