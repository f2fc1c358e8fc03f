-- One lemma for each rule of expressions with operands: where its parts are right, so is the whole.
use Rattle.std.proofs.Common.{◌≡◌, ℕ, max, List, [], ◌∷◌, length, Bool, true, false, ◌&&◌, ◌==◌, Option}
use Rattle.std.proofs.Common.{Some, None, is_none, refl, sym, ap, ◌∙◌, arith, if◌then◌else◌}
use Rattle.std.proofs.lemmas.Bool.Decides.{nat_tests}
use Rattle.std.proofs.lemmas.Option.{none-some}
use Rattle.cw_tree.specs.declared.leaf.RawSign.{RawSign}
use Rattle.cw_tree.specs.declared.leaf.RawFactorSign.{RawFactorSign}
use Rattle.cw_tree.specs.declared.expression.RawBits.{RawBits}
use Rattle.cw_facts.specs.declared.fact.Reading.{Reading}
use Rattle.cw_facts.specs.Uses.{Uses, reading_of, each_for, operands_for}
use Rattle.cw_scope.specs.declared.resolve.Named.{Named}
use Rattle.cw_amount.specs.Amounts.{is_negative}
use Rattle.cw_scale.specs.declared.scales.Shape.{Shape}
use Rattle.cw_scale.specs.Faults.{Judgement, fine, both}
use Rattle.cw_scale.specs.Types.{each_bits_judged}
use Rattle.cw_scale.specs.TypeRules as judged
use Rattle.cw_scale.specs.TypeRules.{Judged, plain, merged, shape_from, logic_merged, logic_shape_from, each_at, operand_faults}
use Rattle.cw_scale.specs.TypeRules.{factor_faults, scale_before, chain_faults, term_faults, scale_for, logic_faults}
use Rattle.cw_make_expr.specs.Parts.{Numbers}
use Rattle.cw_make_expr.specs.Nodes as nodes
use Rattle.cw_make_expr.specs.Made.{Made, simply, operand_for, logic_from, logic_of, factors_from, term_of, terms_from}
use Rattle.cw_make_expr.specs.Made.{signed_term, is_alone, sum_from, sum_of, bits_around, prim_of}
use Rattle.cw_unit.specs.declared.unit.LogicOp.{LogicOp}
use Rattle.cw_unit.specs.declared.unit.Expr.{Expr}
use Rattle.cw_unit.specs.declared.unit.Arg.TheOpen as layer
use Rattle.cw_deepest.specs.Programs.Calls.{in_expression}
use Rattle.cw_sound.proofs.Expressions.Judging.{Keeps, NoFault, keeps_fine, keeps_both, both_free, keeps_each_bits}
use Rattle.cw_sound.proofs.Calls.Trees.Parts.{Context, AllFit, Sound, Right, Rights, none, more, Sounds, no_sound, more_sounds}
use Rattle.cw_sound.proofs.Calls.Trees.Nodes.{expression_of, nothing_fits, logic_fits, added_fits, multiplied_fits, whole_part_fits}
use Rattle.cw_sound.proofs.Expressions.Several.{AllKeeping, none_keeping, more_keeping, each_keeps, logic_keeps, factor_keeps, chain_keeps, term_keeps}

-- ---- how many

not_one : {X : Type 0} (x y : X) (xs : List X) → (length (x ∷ y ∷ xs) == 1) ≡ false
not_one x y xs = grind (arith, nat_tests)

not_none : {X : Type 0} (x : X) (xs : List X) → (length (x ∷ xs) == 0) ≡ false
not_none x xs = grind (arith, nat_tests)

pub nameless : {A X : Type 0} (x : X) (o : Option X) → o ≡ None → o ≡ Some x → A
nameless x o e f = absurd (none-some x (sym e ∙ f))

-- ---- of several operands none is a name by itself

shape_nameless : (s : Shape) (js : List Judged) → s.bare ≡ None → (shape_from false s js).bare ≡ None
shape_nameless s [] e = e
shape_nameless s (j ∷ js) e = shape_nameless (merged false s j.shape) js refl

logic_nameless : (s : Shape) (js : List Judged) → s.bare ≡ None → (logic_shape_from false s js).bare ≡ None
logic_nameless s [] e = e
logic_nameless s (j ∷ js) e = logic_nameless (logic_merged false j.shape) js refl

module _ (named : Named) (numbers : Numbers) (body : Context named numbers) where
  abbrev All : Expr → Type 0
  All e = AllFit named numbers body (in_expression e)

  -- what is no name by itself
  pub compound : (j : Judged) (m : Made) → j.shape.bare ≡ None → ((f : ℕ) → Keeps (j.faults f)) → ((f : ℕ) → NoFault (j.faults f) → (operand : Bool) → All (m.made operand)) → Sound named numbers body j m
  compound j m e keeps fits = record { keeps = keeps; fits = fits; bare = λ n is. nameless n j.shape.bare e is }

  nothing_sound : Sound named numbers body (record { shape = plain 0; faults = λ f. fine }) (simply nodes.nothing)
  nothing_sound = compound (record { shape = plain 0; faults = λ f. fine }) (simply nodes.nothing) refl (λ f. keeps_fine) (λ f free operand. nothing_fits body.Fit)

  -- ---- operands

  pub sounds_for : (r : Reading) {js : List Judged} {ms : List Made} {xs : List Uses} → Rights named numbers body js ms xs → body.Stood (each_for r xs) → Sounds named numbers body js ms
  sounds_for r none h = no_sound
  sounds_for r (more {x = x} {xs = xs} s rest) h =
      let halves = body.split (x r) (each_for r xs) h in
      more_sounds (s r halves.0) (sounds_for r rest halves.1)

  keeping : {js : List Judged} {ms : List Made} → Sounds named numbers body js ms → AllKeeping js
  keeping no_sound = none_keeping
  keeping (more_sounds s ss) = more_keeping s.keeps (keeping ss)

  -- the calls of each fit
  pub data Operands : List Made → Type 0 where
    no_operand : Operands []
    more_operands : {m : Made} {ms : List Made} → ((operand : Bool) → All (m.made operand)) → Operands ms → Operands (m ∷ ms)

  -- ---- word logic

  logic_operands : (alone : Bool) (f : ℕ) {js : List Judged} {ms : List Made} → Sounds named numbers body js ms → NoFault (logic_faults alone f js) → Operands ms
  logic_operands alone f no_sound free = no_operand
  logic_operands alone f (more_sounds {j = j} {js = js} s ss) free =
      let k : ℕ = scale_for alone f j.shape.operand in
      let frees = both_free (j.faults k) (logic_faults alone f js) (logic_keeps alone f (keeping ss)) free in
      more_operands (s.fits k frees.0) (logic_operands alone f ss frees.1)

  logic_all : (op : LogicOp) (e : Expr) {ms : List Made} → All e → Operands ms → All (logic_from op e ms)
  logic_all op e h no_operand = h
  logic_all op e h (more_operands {m = m} x xs) = logic_all op (nodes.logic op e (m.made true)) (logic_fits body.Fit op e (m.made true) h (x true)) xs

  logic_made : (op : LogicOp) {ms : List Made} (operand : Bool) → Operands ms → All ((logic_of op ms).made operand)
  logic_made op operand no_operand = nothing_fits body.Fit
  logic_made op operand (more_operands {m = m} {ms = ms} x xs) = logic_all op (m.made (operand_for (length ms == 0) operand)) (x (operand_for (length ms == 0) operand)) xs

  abbrev pub logic_judged : List Judged → Judged
  logic_judged js = record { shape = logic_shape_from (length js == 1) (plain 0) js; faults = λ f. logic_faults (length js == 1) f js }

  logic_sound : (op : LogicOp) {js : List Judged} {ms : List Made} → Sounds named numbers body js ms → Sound named numbers body (logic_judged js) (logic_of op ms)
  logic_sound op no_sound = nothing_sound
  logic_sound op (more_sounds {j = j} {m = m} s no_sound) =
      record {
        keeps = λ f. logic_keeps true f (keeping (more_sounds s no_sound));
        fits = λ f free operand. logic_made op operand (logic_operands true f (more_sounds s no_sound) free);
        bare = s.bare;
      }
  logic_sound op (more_sounds {j = j} {m = m} s (more_sounds {j = k} {m = n} {js = js} {ms = ms} t ss)) =
      let all = more_sounds s (more_sounds t ss) in
      let alone : Bool = length (j ∷ k ∷ js) == 1 in
      compound (logic_judged (j ∷ k ∷ js)) (logic_of op (m ∷ n ∷ ms))
      (ap (λ (b : Bool). (logic_shape_from b (plain 0) (j ∷ k ∷ js)).bare) (not_one j k js) ∙ logic_nameless (plain 0) (j ∷ k ∷ js) refl)
      (λ f. logic_keeps alone f (keeping all)) (λ f free operand. logic_made op operand (logic_operands alone f all free))

  -- what the whole is wanted for, one alone is
  stood_alone : (r : Reading) (b : Bool) {js : List Judged} {ms : List Made} {xs : List Uses} → Rights named numbers body js ms xs → body.Stood (each_for (reading_of r b) xs) → Sounds named numbers body js ms
  stood_alone r b rs h = sounds_for (reading_of r b) rs h

  pub logic_right : (op : LogicOp) {js : List Judged} {ms : List Made} {xs : List Uses} → Rights named numbers body js ms xs → Right named numbers body (logic_judged js) (logic_of op ms) (λ r. operands_for r xs)
  logic_right op {xs = xs} rs r h = logic_sound op (stood_alone r (length xs == 1) rs h)

  -- ---- BITS

  bits_fit : (bs : List RawBits) (e : Expr) → All e → All (bits_around bs e)
  bits_fit [] e h = h
  bits_fit (b ∷ bs) e h = expression_of body.Fit (layer.Bits _ _ (bits_around bs e)) (bits_fit bs e h)

  pub prim_right : (bs : List RawBits) (j : Judged) (m : Made) (x : Uses) → Right named numbers body j m x → Right named numbers body (judged.prim_step named (record { bits = bs; primary = j })) (prim_of bs m) (λ r. x (reading_of r (length bs == 0)))
  prim_right [] j m x s r h =
      let k = s r h in
      record {
        keeps = λ f. keeps_both keeps_fine (k.keeps f);
        fits = λ f free operand. k.fits f free operand;
        bare = k.bare;
      }
  prim_right (b ∷ bs) j m x s r h =
      let k = s (reading_of r (length (b ∷ bs) == 0)) h in
      let at : ℕ → ℕ = λ f. scale_for (length (b ∷ bs) == 0) f j.shape.operand in
      compound (judged.prim_step named (record { bits = b ∷ bs; primary = j })) (prim_of (b ∷ bs) m) (ap (λ (t : Bool). (logic_merged t j.shape).bare) (not_none b bs))
      (λ f. keeps_both (keeps_each_bits (b ∷ bs)) (k.keeps (at f)))
      (λ f free operand.
      let halves = both_free (each_bits_judged (b ∷ bs)) (j.faults (at f)) (k.keeps (at f)) free in
      bits_fit (b ∷ bs) (m.made (operand_for (length (b ∷ bs) == 0) operand)) (k.fits (at f) halves.1 (operand_for (length (b ∷ bs) == 0) operand)))

  -- ---- terms

  chain_all : (asked f1 before : ℕ) (e : Expr) {js : List Judged} {ms : List Made} (signs : List RawFactorSign) → Sounds named numbers body js ms → NoFault (chain_faults asked f1 before js signs) → All e → All (factors_from e ms signs)
  chain_all asked f1 before e signs no_sound free h = h
  chain_all asked f1 before e [] (more_sounds s ss) free h = h
  chain_all asked f1 before e (sign ∷ signs) (more_sounds {j = j} {m = m} {js = js} s ss) free h =
      let n : ℕ = max before j.shape.natural in
      let sides : Judgement = both (factor_faults sign (scale_before js asked n) f1 j.shape.operand) (chain_faults asked n n js signs) in
      let keep = chain_keeps asked n n signs (keeping ss) in
      let frees = both_free (operand_faults j) sides (keeps_both (factor_keeps sign (scale_before js asked n) f1 j.shape.operand) keep) free in
      let rest = both_free (factor_faults sign (scale_before js asked n) f1 j.shape.operand) (chain_faults asked n n js signs) keep frees.1 in
      chain_all asked n n (nodes.multiplied sign.op e (m.made true)) signs ss rest.1 (multiplied_fits body.Fit sign.op e (m.made true) h (s.fits j.shape.operand frees.0 true))

  term_made : (f : ℕ) {js : List Judged} {ms : List Made} (signs : List RawFactorSign) → Sounds named numbers body js ms → NoFault (term_faults f js signs) → (operand : Bool) → All ((term_of ms signs).made operand)
  term_made f signs no_sound free operand = nothing_fits body.Fit
  term_made f signs (more_sounds {j = j} {m = m} {js = js} {ms = ms} s ss) free operand =
      let k : ℕ = scale_before js f j.shape.operand in
      let frees = both_free (j.faults k) (chain_faults f j.shape.operand j.shape.natural js signs) (chain_keeps f j.shape.operand j.shape.natural signs (keeping ss)) free in
      let first : Bool = operand_for (length ms == 0) operand in
      chain_all f j.shape.operand j.shape.natural (m.made first) signs ss frees.1 (s.fits k frees.0 first)

  term_sound : (signs : List RawFactorSign) {js : List Judged} {ms : List Made} → Sounds named numbers body js ms → Sound named numbers body (judged.term_step named (record { operands = js; operators = signs })) (term_of ms signs)
  term_sound signs no_sound = nothing_sound
  term_sound signs (more_sounds {j = j} {m = m} s no_sound) =
      record {
        keeps = λ f. term_keeps f signs (keeping (more_sounds s no_sound));
        fits = λ f free operand. term_made f signs (more_sounds s no_sound) free operand;
        bare = s.bare;
      }
  term_sound signs (more_sounds {j = j} {m = m} s (more_sounds {j = k} {m = n} {js = js} {ms = ms} t ss)) =
      let all = more_sounds s (more_sounds t ss) in
      compound (judged.term_step named (record { operands = j ∷ k ∷ js; operators = signs })) (term_of (m ∷ n ∷ ms) signs)
      (ap (λ (b : Bool). (shape_from b (plain 0) (j ∷ k ∷ js)).bare) (not_one j k js) ∙ shape_nameless (plain 0) (j ∷ k ∷ js) refl)
      (λ f. term_keeps f signs (keeping all)) (λ f free operand. term_made f signs all free operand)

  pub term_right : (signs : List RawFactorSign) {js : List Judged} {ms : List Made} {xs : List Uses} → Rights named numbers body js ms xs → Right named numbers body (judged.term_step named (record { operands = js; operators = signs })) (term_of ms signs) (λ r. operands_for r xs)
  term_right signs {xs = xs} rs r h = term_sound signs (stood_alone r (length xs == 1) rs h)

  -- ---- sums

  each_operands : (f : ℕ) {js : List Judged} {ms : List Made} → Sounds named numbers body js ms → NoFault (each_at f js) → Operands ms
  each_operands f no_sound free = no_operand
  each_operands f (more_sounds {j = j} {js = js} s ss) free =
      let frees = both_free (j.faults f) (each_at f js) (each_keeps f (keeping ss)) free in
      more_operands (s.fits f frees.0) (each_operands f ss frees.1)

  terms_all : (e : Expr) {ms : List Made} (signs : List RawSign) → All e → Operands ms → All (terms_from e ms signs)
  terms_all e signs h no_operand = h
  terms_all e [] h (more_operands x xs) = h
  terms_all e (s ∷ signs) h (more_operands {m = m} x xs) = terms_all (nodes.added s.op e (m.made false)) signs (added_fits body.Fit s.op e (m.made false) h (x false)) xs

  signed_fits : (b : Bool) (e : Expr) → All e → All (if b then nodes.minus e else e)
  signed_fits true e h = expression_of body.Fit (layer.Minus e) h
  signed_fits false e h = h

  sum_made : (sign : Option RawSign) (signs : List RawSign) {ms : List Made} → Operands ms → (operand : Bool) → All ((sum_of sign ms signs).made operand)
  sum_made sign signs no_operand operand = nothing_fits body.Fit
  sum_made sign signs (more_operands {m = m} {ms = ms} x xs) operand = by_place (is_alone sign (length ms))
    where
      by_place : (alone : Bool) → All (sum_from alone operand sign m ms signs)
      by_place true = x operand
      by_place false = whole_part_fits body.Fit operand (terms_from (signed_term sign (m.made false)) ms signs) (terms_all (signed_term sign (m.made false)) signs (signed_fits (is_negative sign) (m.made false) (x false)) xs)

  sum_of_several : (sign : Option RawSign) (signs : List RawSign) {js : List Judged} {ms : List Made} → Sounds named numbers body js ms → (length js == 1 && is_none sign) ≡ false
      → Sound named numbers body (judged.sum_step named (record { sign = sign; operands = js; operators = signs })) (sum_of sign ms signs)
  sum_of_several sign signs {js = js} {ms = ms} ss several =
      compound (judged.sum_step named (record { sign = sign; operands = js; operators = signs })) (sum_of sign ms signs)
      (ap (λ (b : Bool). (shape_from b (plain 0) js).bare) several ∙ shape_nameless (plain 0) js refl) (λ f. each_keeps f (keeping ss)) (λ f free operand. sum_made sign signs (each_operands f ss free) operand)

  sum_sound : (sign : Option RawSign) (signs : List RawSign) {js : List Judged} {ms : List Made} → Sounds named numbers body js ms → Sound named numbers body (judged.sum_step named (record { sign = sign; operands = js; operators = signs })) (sum_of sign ms signs)
  sum_sound sign signs no_sound = sum_of_several sign signs no_sound refl
  sum_sound None signs (more_sounds s no_sound) =
      record {
        keeps = λ f. each_keeps f (keeping (more_sounds s no_sound));
        fits = λ f free operand. sum_made None signs (each_operands f (more_sounds s no_sound) free) operand;
        bare = s.bare;
      }
  sum_sound (Some sign) signs (more_sounds s no_sound) = sum_of_several (Some sign) signs (more_sounds s no_sound) refl
  sum_sound sign signs (more_sounds {j = j} s (more_sounds {j = k} {js = js} t ss)) =
      sum_of_several sign signs (more_sounds s (more_sounds t ss)) (ap (λ (b : Bool). b && is_none sign) (not_one j k js))

  pub sum_right : (sign : Option RawSign) (signs : List RawSign) {js : List Judged} {ms : List Made} {xs : List Uses} → Rights named numbers body js ms xs
      → Right named numbers body (judged.sum_step named (record { sign = sign; operands = js; operators = signs })) (sum_of sign ms signs) (λ r. each_for (reading_of r (length xs == 1 && is_none sign)) xs)
  sum_right sign signs {xs = xs} rs r h = sum_sound sign signs (stood_alone r (length xs == 1 && is_none sign) rs h)
