-- What is told line by line is what a text tells, or its first fault.
use Rattle.std.proofs.Common.{◌≡◌, ℕ, suc, ◌+◌, List, [], ◌∷◌, ◌++◌, Bool, true, false, cond, Option, Some, None, Result, Ok, Err, eqb, length, refl, sym, ap, subst, ◌∙◌, inl, inr, arith}
use Rattle.std.specs.Prelude.{◌||◌, ◌⊎◌}
use Rattle.std.specs.List.{list_any}
use Rattle.std.proofs.Math.Bool.{or-true, or-false}
use Rattle.std.proofs.lemmas.Bool.{ne_eqb, eqb-true}
use Rattle.cw_i86.specs.State.{State}
use Rattle.cw_i86.specs.MachineRun.{IsStart}
use Rattle.cw_hex.specs.declared.fault.HexFault.{HexFault}
use Rattle.cw_hex.specs.declared.fault.HexFault.TheVariants.{BadLine, BadSum, BadType, AfterEnd, NoEnd, NoMemory}
use Rattle.cw_hex.specs.declared.reading.Reading.{Reading}
use Rattle.cw_hex.specs.HexFormat.{lines_of, bytes_of, type_of, is_end, line_fault, after_line, after_lines}
use Rattle.cw_hex.specs.HexTold.{IsCleared, AreFaultless, TellsHex, IsFirstHexFault, AnswersHex}
use Rattle.cw_hex.proofs.Fold.{lines_told, hex_told, or_fault, at_end, start_reading, ended_after, Faultless}

kept : (e k0 k1 k2 : Bool) (a b c d : Reading) → a.is_ended ≡ e → b.is_ended ≡ true → c.is_ended ≡ e → d.is_ended ≡ e → (k0 ≡ true → k1 ≡ false) → (cond k0 a (cond k1 b (cond k2 c d))).is_ended ≡ (e || k1)
kept e true k1 k2 a b c d ha hb hc hd h = let f = h refl in rw f (ha ∙ sym (or-false e))
kept e false true k2 a b c d ha hb hc hd h = hb ∙ sym (or-true e)
kept e false false true a b c d ha hb hc hd h = hc ∙ sym (or-false e)
kept e false false false a b c d ha hb hc hd h = hd ∙ sym (or-false e)

ended_line : (line : List ℕ) (r : Reading) → (after_line line r).is_ended ≡ (r.is_ended || is_end line)
ended_line [] r = sym (or-false r.is_ended)
ended_line (c ∷ ds) r =
    let k = type_of (bytes_of ds) in
    kept r.is_ended (eqb k 0) (eqb k 1) (eqb k 2) _ _ _ _ refl refl refl refl
    (λ h. let z = eqb-true k 0 h in ne_eqb k 1 (λ e. omega (arith, z, e)))

go_on : (n : ℕ) (r : Reading) (line : List ℕ) (lines : List (List ℕ)) → line_fault r.is_ended n line ≡ None → lines_told n r (line ∷ lines) ≡ lines_told (n + 1) (after_line line r) lines
go_on n r line lines none = ap (λ (o : Option HexFault). or_fault o (lines_told (n + 1) (after_line line r) lines)) none

next_faultless : (n : ℕ) (r : Reading) (line : List ℕ) (lines : List (List ℕ)) → Faultless n (r.is_ended || is_end line) lines → Faultless n (after_line line r).is_ended lines
next_faultless n r line lines h = subst (λ (e : Bool). Faultless n e lines) (sym (ended_line line r)) h

next_ended : (r : Reading) (line : List ℕ) (lines : List (List ℕ)) → ended_after (after_line line r).is_ended lines ≡ ended_after (r.is_ended || is_end line) lines
next_ended r line lines = ap (λ (e : Bool). ended_after e lines) (ended_line line r)

without_fault : (n : ℕ) (r : Reading) (lines : List (List ℕ)) → Faultless n r.is_ended lines → lines_told n r lines ≡ at_end (n + length lines) (after_lines lines r)
without_fault n r [] h = let z : n + 0 ≡ n = omega arith in rw z refl
without_fault n r (line ∷ lines) h =
    let z : (n + 1) + length lines ≡ n + suc (length lines) = omega arith in
    go_on n r line lines h.0 ∙ without_fault (n + 1) (after_line line r) lines (next_faultless (n + 1) r line lines h.1)
    ∙ ap (λ (k : ℕ). at_end k (after_lines lines (after_line line r))) z

ended_lines : (r : Reading) (lines : List (List ℕ)) → (after_lines lines r).is_ended ≡ ended_after r.is_ended lines
ended_lines r [] = refl
ended_lines r (line ∷ lines) = ended_lines (after_line line r) lines ∙ next_ended r line lines

with_fault : (n : ℕ) (r : Reading) (before : List (List ℕ)) (line : List ℕ) (behind : List (List ℕ)) (fault : HexFault) → Faultless n r.is_ended before → line_fault (ended_after r.is_ended before) (length before + n) line ≡ Some fault
    → lines_told n r (before ++ line ∷ behind) ≡ Err fault
with_fault n r [] line behind fault h wrong =
    let z : 0 + n ≡ n = omega arith in
    let here = subst (λ (k : ℕ). line_fault r.is_ended k line ≡ Some fault) z wrong in
    ap (λ (o : Option HexFault). or_fault o (lines_told (n + 1) (after_line line r) behind)) here
with_fault n r (first ∷ before) line behind fault h wrong =
    let z : suc (length before) + n ≡ length before + (n + 1) = omega arith in
    let here = subst (λ (k : ℕ). line_fault (ended_after (r.is_ended || is_end first) before) k line ≡ Some fault) z wrong in
    go_on n r first (before ++ line ∷ behind) h.0
    ∙ with_fault (n + 1) (after_line first r) before line behind fault (next_faultless (n + 1) r first before h.1)
    (subst (λ (e : Bool). line_fault e (length before + (n + 1)) line ≡ Some fault) (sym (next_ended r first before)) here)

-- ---- the lines before a line

or_or : (a b c : Bool) → ((a || b) || c) ≡ (a || (b || c))
or_or true b c = refl
or_or false b c = refl

ended_any : (e : Bool) (lines : List (List ℕ)) → ended_after e lines ≡ (e || list_any is_end lines)
ended_any e [] = sym (or-false e)
ended_any e (line ∷ lines) = ended_any (e || is_end line) lines ∙ or_or e (is_end line) (list_any is_end lines)

abbrev IsFine : Bool → ℕ → List ℕ → Type 0
IsFine e n line = line_fault e n line ≡ None

same_line : (e f : Bool) (n m : ℕ) (line : List ℕ) → e ≡ f → n ≡ m → IsFine e n line → IsFine f m line
same_line e f n m line p q h = subst (λ (b : Bool). IsFine b m line) p (subst (λ (k : ℕ). IsFine e k line) q h)

fine_behind : (n : ℕ) (e : Bool) (before : List (List ℕ)) (line : List ℕ) (behind : List (List ℕ)) → Faultless n e (before ++ line ∷ behind) → IsFine (e || list_any is_end before) (length before + n) line
fine_behind n e [] line behind h = same_line e (e || false) n (0 + n) line (sym (or-false e)) (omega arith) h.0
fine_behind n e (first ∷ before) line behind h =
    same_line ((e || is_end first) || list_any is_end before) (e || (is_end first || list_any is_end before)) (length before + (n + 1)) (suc (length before) + n) line
    (or_or e (is_end first) (list_any is_end before)) (omega arith) (fine_behind (n + 1) (e || is_end first) before line behind h.1)

fine_lines : (lines : List (List ℕ)) → Faultless 1 false lines → AreFaultless lines
fine_lines lines h = λ before line behind cut. fine_behind 1 false before line behind (subst (λ (ls : List (List ℕ)). Faultless 1 false ls) cut h)

lines_fine : (n : ℕ) (e : Bool) (lines : List (List ℕ)) → ((before : List (List ℕ)) (line : List ℕ) (behind : List (List ℕ)) → lines ≡ before ++ line ∷ behind → IsFine (e || list_any is_end before) (length before + n) line) → Faultless n e lines
lines_fine n e [] h = tt
lines_fine n e (first ∷ lines) h = (
  same_line (e || false) e (0 + n) n first (or-false e) (omega arith) (h [] first lines refl),
  lines_fine (n + 1) (e || is_end first) lines (λ before line behind cut.
      same_line (e || (is_end first || list_any is_end before)) ((e || is_end first) || list_any is_end before) (suc (length before) + n) (length before + (n + 1)) line
      (sym (or_or e (is_end first) (list_any is_end before))) (omega arith)
      (h (first ∷ before) line behind (ap (λ (ls : List (List ℕ)). first ∷ ls) cut))),
)

-- ---- from a state on

record TellsFrom (s : State) (text : List ℕ) (t : State) : Type 0 where
  faultless : Faultless 1 false (lines_of text)
  ended : ended_after false (lines_of text) ≡ true
  told : t ≡ (after_lines (lines_of text) (start_reading s)).cpu

from_told : (text : List ℕ) (t : State) (h : TellsHex text t) → TellsFrom h.start text t
from_told text t h = record { faultless = lines_fine 1 false (lines_of text) h.faultless; ended = ended_any false (lines_of text) ∙ h.ended; told = h.told }

as_told : (s : State) (text : List ℕ) (t : State) → IsCleared s → TellsFrom s text t → TellsHex text t
as_told s text t c h = record { start = s; cleared = c; faultless = fine_lines (lines_of text) h.faultless; ended = sym (ended_any false (lines_of text)) ∙ h.ended; told = h.told }

tells : (s : State) (text : List ℕ) (t : State) → TellsFrom s text t → hex_told s text ≡ Ok t
tells s text t h =
    let e = ended_lines (start_reading s) (lines_of text) ∙ h.ended in
    let end : at_end (1 + length (lines_of text)) (after_lines (lines_of text) (start_reading s)) ≡ Ok t = rw (e, h.told) refl in
    without_fault 1 (start_reading s) (lines_of text) h.faultless ∙ end

fails : (s : State) (text : List ℕ) (fault : HexFault) → IsFirstHexFault text fault → hex_told s text ≡ Err fault
fails s text fault (inl h) =
    let wrong = subst (λ (e : Bool). line_fault e (length h.before + 1) h.line ≡ Some fault) (sym (ended_any false h.before)) h.wrong in
    ap (λ (ls : List (List ℕ)). lines_told 1 (start_reading s) ls) h.cut ∙ with_fault 1 (start_reading s) h.before h.line h.behind fault (lines_fine 1 false h.before h.faultless) wrong
fails s text fault (inr h) =
    let e = ended_lines (start_reading s) (lines_of text) ∙ ended_any false (lines_of text) ∙ h.not_ended in
    let z : 1 + length (lines_of text) ≡ length (lines_of text) + 1 = omega arith in
    let end : at_end (1 + length (lines_of text)) (after_lines (lines_of text) (start_reading s)) ≡ Err fault = rw (e, h.is, z) refl in
    without_fault 1 (start_reading s) (lines_of text) (lines_fine 1 false (lines_of text) h.faultless) ∙ end

-- each list of lines has no fault, or a first one
record Cut (n : ℕ) (e : Bool) (lines : List (List ℕ)) (fault : HexFault) : Type 0 where
  before : List (List ℕ)
  line : List ℕ
  behind : List (List ℕ)
  cut : lines ≡ before ++ line ∷ behind
  faultless : Faultless n e before
  wrong : line_fault (ended_after e before) (length before + n) line ≡ Some fault

either_line : (n : ℕ) (e : Bool) (line : List ℕ) (lines : List (List ℕ)) (o : Option HexFault) → line_fault e n line ≡ o → Faultless (n + 1) (e || is_end line) lines ⊎ ((fault : HexFault) × Cut (n + 1) (e || is_end line) lines fault)
    → Faultless n e (line ∷ lines) ⊎ ((fault : HexFault) × Cut n e (line ∷ lines) fault)
either_line n e line lines (Some fault) is rest =
    let z : 0 + n ≡ n = omega arith in
    inr (fault, record { before = []; line = line; behind = lines; cut = refl; faultless = tt; wrong = rw z is })
either_line n e line lines None is (inl h) = inl (is, h)
either_line n e line lines None is (inr h) =
    let c = h.1 in
    let z : suc (length c.before) + n ≡ length c.before + (n + 1) = omega arith in
    inr (h.0, record { before = line ∷ c.before; line = c.line; behind = c.behind; cut = ap (λ (ls : List (List ℕ)). line ∷ ls) c.cut; faultless = (is, c.faultless); wrong = rw z c.wrong })

either : (n : ℕ) (e : Bool) (lines : List (List ℕ)) → Faultless n e lines ⊎ ((fault : HexFault) × Cut n e lines fault)
either n e [] = inl tt
either n e (line ∷ lines) = either_line n e line lines (line_fault e n line) refl (either (n + 1) (e || is_end line) lines)

abbrev ok : State → Result State HexFault
ok t = Ok t

abbrev bad : HexFault → Result State HexFault
bad f = Err f

ok_err : (t : State) (fault : HexFault) → ok t ≡ bad fault → ⊥
ok_err t fault e = cc

same_ok : (t u : State) → ok t ≡ ok u → t ≡ u
same_ok t u e = cc

same_err : (f g : HexFault) → bad f ≡ bad g → f ≡ g
same_err f g e = cc

end_case : (e : Bool) → (e ≡ true) ⊎ (e ≡ false)
end_case true = inl refl
end_case false = inr refl

-- each text tells a state or has a first fault
sorted : (s : State) (text : List ℕ) → ((t : State) × TellsFrom s text t) ⊎ ((fault : HexFault) × IsFirstHexFault text fault)
sorted s text =
    elim (either 1 false (lines_of text)) [
      | inl fine ↦ elim (end_case (ended_after false (lines_of text))) [
        | inl e ↦ inl ((after_lines (lines_of text) (start_reading s)).cpu, record { faultless = fine; ended = e; told = refl })
        | inr e ↦ inr (NoEnd (length (lines_of text) + 1), inr (record { faultless = fine_lines (lines_of text) fine; not_ended = sym (ended_any false (lines_of text)) ∙ e; is = refl }))
      ]
      | inr w ↦
          let c = w.1 in
          let wrong = subst (λ (e : Bool). line_fault e (length c.before + 1) c.line ≡ Some w.0) (ended_any false c.before) c.wrong in
          inr (w.0, inl (record { before = c.before; line = c.line; behind = c.behind; cut = c.cut; faultless = fine_lines c.before c.faultless; wrong = wrong }))
    ]

pub told_ok : (s : State) (text : List ℕ) (t : State) → IsCleared s → hex_told s text ≡ Ok t → TellsHex text t
told_ok s text t clear h =
    elim (sorted s text) [
      | inl w ↦ as_told s text t clear (subst (λ (u : State). TellsFrom s text u) (same_ok w.0 t (sym (tells s text w.0 w.1) ∙ h)) w.1)
      | inr w ↦ absurd (ok_err t w.0 (sym h ∙ fails s text w.0 w.1))
    ]

told_err : (s : State) (text : List ℕ) (fault : HexFault) → hex_told s text ≡ Err fault → IsFirstHexFault text fault
told_err s text fault h =
    elim (sorted s text) [
      | inl w ↦ absurd (ok_err w.0 fault (sym (tells s text w.0 w.1) ∙ h))
      | inr w ↦ subst (λ (f : HexFault). IsFirstHexFault text f) (same_err w.0 fault (sym (fails s text w.0 w.1) ∙ h)) w.1
    ]

pub answers_err : (s : State) (text : List ℕ) (fault : HexFault) → hex_told s text ≡ Err fault → AnswersHex text (Err fault)
answers_err s text (BadLine n) h = told_err s text (BadLine n) h
answers_err s text (BadSum n) h = told_err s text (BadSum n) h
answers_err s text (BadType n) h = told_err s text (BadType n) h
answers_err s text (AfterEnd n) h = told_err s text (AfterEnd n) h
answers_err s text (NoEnd n) h = told_err s text (NoEnd n) h
answers_err s text NoMemory h = tt

-- ---- one of them

abbrev pub OneStart : Type 0
OneStart = (code words : List ℕ) (s t : State) → IsStart code words s → IsStart code words t → s ≡ t

pub one_state : OneStart → (text : List ℕ) (t u : State) → TellsHex text t → TellsHex text u → t ≡ u
one_state same text t u h k =
    let start = same [] [] h.start k.start h.cleared k.cleared in
    let told = subst (λ (s : State). hex_told s text ≡ ok t) start (tells h.start text t (from_told text t h)) in
    same_ok t u (sym told ∙ tells k.start text u (from_told text u k))

no_state : State
no_state = record { memory = []; registers = []; code_segment = 0; instruction_pointer = 0; flags = record { cf = false; pf = false; af = false; zf = false; sf = false; of = false } }

pub one_fault : (text : List ℕ) (f g : HexFault) → IsFirstHexFault text f → IsFirstHexFault text g → f ≡ g
one_fault text f g h k = same_err f g (sym (fails no_state text f h) ∙ fails no_state text g k)

pub not_both : (text : List ℕ) (t : State) (f : HexFault) → TellsHex text t → IsFirstHexFault text f → ⊥
not_both text t f h k = ok_err t f (sym (tells h.start text t (from_told text t h)) ∙ fails h.start text f k)

pub one_of_them : (s : State) (text : List ℕ) → IsCleared s → ((t : State) × TellsHex text t) ⊎ ((fault : HexFault) × IsFirstHexFault text fault)
one_of_them s text clear =
    elim (sorted s text) [
      | inl w ↦ inl (w.0, as_told s text w.0 clear w.1)
      | inr w ↦ inr w
    ]

abbrev some : HexFault → Option HexFault
some f = Some f

-- a test whose fault isn't that one
past : (test : Bool) (f g : HexFault) (next : Option HexFault) → (some f ≡ some g → ⊥) → cond test (Some f) next ≡ some g → next ≡ some g
past true f g next h e = absurd (h e)
past false f g next h e = e

none_is : (g : HexFault) → None ≡ some g → ⊥
none_is g e = cc

no_memory_line : (e : Bool) (n : ℕ) (line : List ℕ) → line_fault e n line ≡ some NoMemory → ⊥
no_memory_line e n [] h = none_is NoMemory h
no_memory_line e n (c ∷ ds) h =
    none_is NoMemory (past e (AfterEnd n) NoMemory None (λ e. cc)
    (past _ (BadType n) NoMemory _ (λ e. cc)
    (past _ (BadSum n) NoMemory _ (λ e. cc)
    (past _ (BadLine n) NoMemory _ (λ e. cc) h))))

no_end_memory : (n : ℕ) → NoMemory ≡ NoEnd n → ⊥
no_end_memory n e = cc

pub no_memory_fault : (text : List ℕ) → IsFirstHexFault text NoMemory → ⊥
no_memory_fault text (inl h) = no_memory_line (list_any is_end h.before) (length h.before + 1) h.line h.wrong
no_memory_fault text (inr h) = no_end_memory (length (lines_of text) + 1) h.is
