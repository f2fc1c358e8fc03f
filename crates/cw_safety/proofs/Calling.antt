-- Calls and returns: the operands that a call finds are its arguments, and a return finds the operands that the call kept.
use Rattle.std.proofs.Common.{◌≡◌, ℕ, ◌+◌, ◌≤◌, ℤ, List, [], ◌∷◌, ◌++◌, map, length, take, drop, Bool, true, false, IsTrue, ◌&&◌, not, Option, Some, None, is_some, nat_lt, nat_le, refl, sym, ap, ap₂, subst, ◌∙◌, arith, append_assoc, set, slice_get}
use Rattle.std.proofs.Math.Seq.{take-append_seam, drop-append_seam}
use Rattle.std.proofs.lemmas.List.{append-nil, length-map}
use Rattle.std.proofs.lemmas.Option.{none-some}
use Rattle.cw_unit.specs.declared.unit.Unit.{Unit as SourceUnit}
use Rattle.cw_unit.specs.declared.unit.Proc.{Proc}
use Rattle.cw_unit.specs.declared.unit.Param.{Param}
use Rattle.cw_unit.specs.declared.unit.Param.TheVariants as param
use Rattle.cw_unit.specs.declared.unit.Target.{Target}
use Rattle.cw_unit.specs.declared.unit.Target.TheVariants as target
use Rattle.cw_unit.specs.Program.{Program, definition_of, item_address}
use Rattle.cw_unit.specs.Words.{Control, LabelControl, SwitchControl, ProcedureControl, Operand, Word, Held, Words, Outcome, Changed, Refused, Impossible}
use Rattle.cw_unit.specs.Operation.{ReadByte, WriteByte, perform}
use Rattle.cw_unit.specs.Work.{Work}
use Rattle.cw_unit.specs.Configuration.{Activation, segment_of, control_at, procedure_in, procedure_at, frame_size_of, frame_top}
use Rattle.cw_unit.specs.StackBound.{body_depth}
use Rattle.cw_unit.specs.Step.{after, procedure_of_def, Writing, Calling, callee_of_place, callee_of_control, callee_of, Bound, bind_word, bind_control, bind_all, reversed_onto, first_operands, begun, handed, come_back, come_back_with, read_step, enter_framed, enter_procedure, enter_step}
use Rattle.cw_safety.specs.Kinds.{Taken, TakesWord, TakesLabel, TakesSwitch, TakesProcedure, Kind, WordKind, LabelKind, SwitchKind, ProcedureKind, weigh as weigh_kinds, kind_of_param, parameter_kinds, control_kinds, procedure_kind, taken_of, same_taken, all_so, same_kind, same_kinds, suits_one, suits}
use Rattle.cw_safety.specs.WellFormed.{WellFormed, takes_arguments, parameter_takes, procedure_of_place, controls_of, is_call}
use Rattle.cw_safety.specs.Depth.{owner_of, depth_at, depth_of_procedure}
use Rattle.cw_safety.proofs.Truth.{no, both}
use Rattle.cw_safety.proofs.Typing.{Hand, Plain, weigh, onto, result, Pop, popped, ControlFits, HasKind, HaveKinds, Fit, Typed, Holds, Safe}
use Rattle.cw_safety.proofs.Performing.{Good, perform-good, read_byte-good}
use Rattle.cw_safety.proofs.Jumping.{control-fits}

-- ---- agreement is equality

taken-same : (t u : Taken) → IsTrue (same_taken t u) → t ≡ u
taken-same TakesWord TakesWord h = refl
taken-same TakesLabel TakesLabel h = refl
taken-same TakesSwitch TakesSwitch h = refl
taken-same TakesProcedure TakesProcedure h = refl
taken-same _ _ h = no h

all-equal : {A : Type 0} (is : A → A → Bool) → ((x y : A) → IsTrue (is x y) → x ≡ y) → (xs ys : List A) → IsTrue (all_so is xs ys) → xs ≡ ys
all-equal is equal [] [] h = refl
all-equal is equal [] (y ∷ ys) h = no h
all-equal is equal (x ∷ xs) [] h = no h
all-equal is equal (x ∷ xs) (y ∷ ys) h = let parts = both (is x y) (all_so is xs ys) h in ap₂ (λ z zs. z ∷ zs) (equal x y parts.0) (all-equal is equal xs ys parts.1)

kind-same : (k m : Kind) → IsTrue (same_kind k m) → k ≡ m
kind-same WordKind WordKind h = refl
kind-same LabelKind LabelKind h = refl
kind-same SwitchKind SwitchKind h = refl
kind-same (ProcedureKind ts) (ProcedureKind us) h = ap ProcedureKind (all-equal same_taken taken-same ts us h)
kind-same _ _ h = no h

pub kinds-same : (ks ms : List Kind) → IsTrue (same_kinds ks ms) → ks ≡ ms
kinds-same = all-equal same_kind kind-same

one-suits : (k m : Kind) → IsTrue (suits_one k (taken_of m)) → k ≡ m
one-suits WordKind WordKind h = refl
one-suits LabelKind LabelKind h = refl
one-suits SwitchKind SwitchKind h = refl
one-suits _ _ h = no h

suits-same : (ks ms : List Kind) → IsTrue (suits ks (map taken_of ms)) → ks ≡ ms
suits-same [] [] h = refl
suits-same [] (m ∷ ms) h = no h
suits-same (k ∷ ks) [] h = no h
suits-same (k ∷ ks) (m ∷ ms) h =
    let parts = both (suits_one k (taken_of m)) (suits ks (map taken_of ms)) h in ap₂ (λ x xs. x ∷ xs) (one-suits k m parts.0) (suits-same ks ms parts.1)

same-taken : (t : Taken) → IsTrue (same_taken t t)
same-taken TakesWord = refl
same-taken _ = refl

conjoined : (a b : Bool) → IsTrue a → IsTrue b → IsTrue (a && b)
conjoined true b h k = k
conjoined false b h k = h

all-same : {A : Type 0} (is : A → A → Bool) → ((x : A) → IsTrue (is x x)) → (xs : List A) → IsTrue (all_so is xs xs)
all-same is same [] = refl
all-same is same (x ∷ xs) = conjoined (is x x) (all_so is xs xs) (same x) (all-same is same xs)

same-kind : (k : Kind) → IsTrue (same_kind k k)
same-kind WordKind = refl
same-kind LabelKind = refl
same-kind SwitchKind = refl
same-kind (ProcedureKind ts) = all-same same_taken same-taken ts

same-kinds : (ks : List Kind) → IsTrue (same_kinds ks ks)
same-kinds = all-same same_kind same-kind

-- ---- operands in order

reversed-append : (xs ys zs : List Operand) → reversed_onto xs (ys ++ zs) ≡ reversed_onto xs ys ++ zs
reversed-append [] ys zs = refl
reversed-append (x ∷ xs) ys zs = reversed-append xs (x ∷ ys) zs

reversed-length : (xs ys : List Operand) → length (reversed_onto xs ys) ≡ length xs + length ys
reversed-length [] ys = omega arith
reversed-length (x ∷ xs) ys = omega (arith, reversed-length xs (x ∷ ys))

pub reversed-twice : (xs ys zs : List Operand) → reversed_onto (reversed_onto xs ys) zs ≡ reversed_onto ys (xs ++ zs)
reversed-twice [] ys zs = refl
reversed-twice (x ∷ xs) ys zs = reversed-twice xs (x ∷ ys) zs

first-operands : (n : ℕ) (xs ys : List Operand) → n ≡ length xs → first_operands n (reversed_onto xs ys) ≡ xs
first-operands n xs ys e =
    let r : List Operand = reversed_onto xs [] in
    let l : n ≡ length r = omega (arith, e, reversed-length xs []) in
    ap (λ m. reversed_onto (take m (reversed_onto xs ys)) []) l ∙ ap (λ zs. reversed_onto (take (length r) zs) []) (reversed-append xs [] ys)
    ∙ ap (λ zs. reversed_onto zs []) (take-append_seam r ys)
    ∙ reversed-twice xs [] []
    ∙ append-nil xs

other-operands : (n : ℕ) (xs ys : List Operand) → n ≡ length xs → drop n (reversed_onto xs ys) ≡ ys
other-operands n xs ys e =
    let r : List Operand = reversed_onto xs [] in
    let l : n ≡ length r = omega (arith, e, reversed-length xs []) in
    ap (λ m. drop m (reversed_onto xs ys)) l ∙ ap (λ zs. drop (length r) zs) (reversed-append xs [] ys) ∙ drop-append_seam r ys

-- arguments are with what is below them as many words as both
pub weigh-onto : (args : List Kind) (rest : List Hand) → weigh (onto args rest) ≡ weigh_kinds args + weigh rest
weigh-onto [] rest = omega arith
weigh-onto (k ∷ args) rest = omega (arith, weigh-onto args (Plain k ∷ rest))

module _ (p : Program) (acts : List Activation) where
  pub kinds-length : (xs : List Operand) (ks : List Hand) → HaveKinds p acts xs ks → length xs ≡ length ks
  kinds-length [] [] h = refl
  kinds-length [] (k ∷ ks) h = absurd h
  kinds-length (x ∷ xs) [] h = absurd h
  kinds-length (x ∷ xs) (k ∷ ks) h = omega (arith, kinds-length xs ks h.1)

  -- the arguments, and the operands below them
  parted : (args : List Kind) (rest : List Hand) (xs : List Operand) → HaveKinds p acts xs (onto args rest) → (ys : List Operand) × (zs : List Operand) × (xs ≡ reversed_onto ys zs) × HaveKinds p acts ys (map Plain args) × HaveKinds p acts zs rest
  parted [] rest xs h = ([], xs, refl, tt, h)
  parted (k ∷ args) rest xs h = at (parted args (Plain k ∷ rest) xs h)
    where
      with_top : (ys zs : List Operand) → xs ≡ reversed_onto ys zs → HaveKinds p acts ys (map Plain args) → HaveKinds p acts zs (Plain k ∷ rest) → (ys' : List Operand) × (zs' : List Operand) × (xs ≡ reversed_onto ys' zs') × HaveKinds p acts ys' (map Plain (k ∷ args)) × HaveKinds p acts zs' rest
      with_top ys [] e a b = absurd b
      with_top ys (z ∷ zs) e a b = (z ∷ ys, zs, e, (b.0, a), b.1)

      at : (ys : List Operand) × (zs : List Operand) × (xs ≡ reversed_onto ys zs) × HaveKinds p acts ys (map Plain args) × HaveKinds p acts zs (Plain k ∷ rest) → (ys' : List Operand) × (zs' : List Operand) × (xs ≡ reversed_onto ys' zs') × HaveKinds p acts ys' (map Plain (k ∷ args)) × HaveKinds p acts zs' rest
      at t = with_top t.0 t.1 t.2 t.3 t.4

  -- ---- parameters

  fit-more : (cs : List Control) (ks : List Kind) (c : Control) (m : Kind) → Fit p acts cs ks → ControlFits p acts c m → Fit p acts (cs ++ c ∷ []) (ks ++ m ∷ [])
  fit-more [] [] c m f h = (h, tt)
  fit-more [] (k ∷ ks) c m f h = absurd f
  fit-more (x ∷ cs) [] c m f h = absurd f
  fit-more (x ∷ cs) (k ∷ ks) c m f h = (f.0, fit-more cs ks c m f.1 h)

  abbrev BoundFits : Option Bound → List Kind → Type 0
  BoundFits None ks = ⊥
  BoundFits (Some b) ks = Fit p acts b.controls ks

  bound-word : (f : ℕ → ℕ) (i : ℕ) (x : Operand) (qs : List Param) (xs : List Operand) (b : Bound) (ks cs : List Kind) → HasKind p acts x WordKind → Fit p acts b.controls ks → ((b : Bound) (ks : List Kind) → Fit p acts b.controls ks → BoundFits (bind_all f qs xs (Some b)) (ks ++ cs)) → BoundFits (bind_all f qs xs (bind_word (f i) x b)) (ks ++ cs)
  bound-word f i (Word z) qs xs b ks cs h fit rest = rest (record b { memory = set b.memory (f i) z }) ks fit
  bound-word f i (Held (LabelControl g l owner)) qs xs b ks cs h fit rest = absurd h
  bound-word f i _ qs xs b ks cs h fit rest = absurd h

  bound-control : (f : ℕ → ℕ) (x : Operand) (m : Kind) (qs : List Param) (xs : List Operand) (b : Bound) (ks cs : List Kind) → ((z : ℤ) → HasKind p acts (Word z) m → ⊥) → HasKind p acts x m → Fit p acts b.controls ks → ((b : Bound) (ks : List Kind) → Fit p acts b.controls ks → BoundFits (bind_all f qs xs (Some b)) (ks ++ cs)) → BoundFits (bind_all f qs xs (bind_control x b)) (ks ++ m ∷ cs)
  bound-control f (Word z) m qs xs b ks cs never h fit rest = absurd (never z h)
  bound-control f (Held c) m qs xs b ks cs never h fit rest =
      let b' : Bound = record b { controls = b.controls ++ c ∷ [] } in
      subst (BoundFits (bind_all f qs xs (Some b'))) (append_assoc ks (m ∷ []) cs) (rest b' (ks ++ m ∷ []) (fit-more b.controls ks c m fit h))

  bound : (f : ℕ → ℕ) (qs : List Param) (xs : List Operand) (b : Bound) (ks : List Kind) → HaveKinds p acts xs (map Plain (map kind_of_param qs)) → Fit p acts b.controls ks → BoundFits (bind_all f qs xs (Some b)) (ks ++ control_kinds (map kind_of_param qs))
  bound f [] [] b ks h fit = subst (Fit p acts b.controls) (sym (append-nil ks)) fit
  bound f [] (x ∷ xs) b ks h fit = absurd h
  bound f (q ∷ qs) [] b ks h fit = absurd h
  bound f (param.Value i s ∷ qs) (x ∷ xs) b ks h fit =
      bound-word f i x qs xs b ks (control_kinds (map kind_of_param qs)) h.0 fit (λ b ks fit. bound f qs xs b ks h.1 fit)
  bound f (param.Location i s ∷ qs) (x ∷ xs) b ks h fit =
      bound-word f i x qs xs b ks (control_kinds (map kind_of_param qs)) h.0 fit (λ b ks fit. bound f qs xs b ks h.1 fit)
  bound f (param.Array i s ∷ qs) (x ∷ xs) b ks h fit =
      bound-word f i x qs xs b ks (control_kinds (map kind_of_param qs)) h.0 fit (λ b ks fit. bound f qs xs b ks h.1 fit)
  bound f (param.Table i n ∷ qs) (x ∷ xs) b ks h fit =
      bound-word f i x qs xs b ks (control_kinds (map kind_of_param qs)) h.0 fit (λ b ks fit. bound f qs xs b ks h.1 fit)
  bound f (param.Label k ∷ qs) (x ∷ xs) b ks h fit =
      bound-control f x LabelKind qs xs b ks (control_kinds (map kind_of_param qs)) (λ z e. e) h.0 fit (λ b ks fit. bound f qs xs b ks h.1 fit)
  bound f (param.Switch k ∷ qs) (x ∷ xs) b ks h fit =
      bound-control f x SwitchKind qs xs b ks (control_kinds (map kind_of_param qs)) (λ z e. e) h.0 fit (λ b ks fit. bound f qs xs b ks h.1 fit)
  bound f (param.Proc k s ∷ qs) (x ∷ xs) b ks h fit =
      bound-control f x (kind_of_param (param.Proc k s)) qs xs b ks (control_kinds (map kind_of_param qs)) (λ z e. e) h.0 fit
      (λ b ks fit. bound f qs xs b ks h.1 fit)

-- ---- entries

pub unit_of-procedure : (x : Option SourceUnit) (q : ℕ) (proc : Proc) → procedure_in x q ≡ Some proc → (u : SourceUnit) × (x ≡ Some u) × (slice_get u.procs q ≡ Some proc)
unit_of-procedure None q proc e = absurd (none-some proc e)
unit_of-procedure (Some u) q proc e = (u, refl, e)

module _ (p : Program) where
  -- what follows an operation in this configuration
  abbrev pub Next : (segment : ℕ) → Work → List Activation → Outcome → Type 0
  Next s k acts o = Good p acts (depth_at p s acts) (Typed p (segment_of s acts) (owner_of acts) (depth_at p s acts) k) o

  pub after-safe : (o : Outcome) (s line : ℕ) (now next : Work) (acts : List Activation) (w : Words) → Holds p s now acts w → Next s next acts o → Safe p (after o s line now next acts w)
  after-safe (Changed v) s line now next acts w i n = (tt, (i.0, i.1, i.2, n.0, n.1, n.2, n.3))
  after-safe (Refused kind) s line now next acts w i n = (tt, i)
  after-safe Impossible s line now next acts w i n = absurd n

  module _ (wf : WellFormed p) where
    begun-safe : (s g q : ℕ) (proc : Proc) (wanted : Bool) (base : ℕ) (now k : Work) (acts : List Activation) (w : Words) (b : Option Bound) (rest : List Hand) → Holds p s now acts w → procedure_at p g q ≡ Some proc → BoundFits p acts b (control_kinds (parameter_kinds proc)) → HaveKinds p acts (drop (length proc.params) w.operands) rest → weigh (result wanted rest) ≤ depth_at p s acts → weigh_kinds (parameter_kinds proc) + weigh rest ≤ depth_at p s acts → Typed p (segment_of s acts) (owner_of acts) (depth_at p s acts) k (result wanted rest) → Safe p (begun s g q proc wanted base now k acts w b)
    begun-safe s g q proc wanted base now k acts w None rest i e b h d m t = absurd b
    begun-safe s g q proc wanted base now k acts w (Some b') rest i e b h d m t =
        let u = unit_of-procedure (slice_get p.units g) q proc e in
        let deep : depth_of_procedure (procedure_at p g q) ≡ body_depth proc.body = ap depth_of_procedure e in (
          tt,
          (
            i.0,
            i.1,
            (proc, e, b, rest, h, d, m, t, i.2),
            [],
            tt,
            omega arith,
            (refl, wf.procedures g q u.0 proc u.1 u.2, omega (arith, deep), refl),
          ),
        )

    enter_framed-safe : (t : Bool) (s line g q : ℕ) (proc : Proc) (wanted : Bool) (now k : Work) (acts : List Activation) (w : Words) (rest : List Hand) → (i : Holds p s now acts w) → procedure_at p g q ≡ Some proc → i.3 ≡ onto (parameter_kinds proc) rest → weigh (result wanted rest) ≤ depth_at p s acts → Typed p (segment_of s acts) (owner_of acts) (depth_at p s acts) k (result wanted rest) → Safe p (enter_framed p t s line g q proc wanted now k acts w)
    enter_framed-safe false s line g q proc wanted now k acts w rest i e f d t = (tt, i)
    enter_framed-safe true s line g q proc wanted now k acts w rest i e f d t =
        let n : ℕ = length proc.params in
        let parts = parted p acts (parameter_kinds proc) rest w.operands (subst (HaveKinds p acts w.operands) f i.4) in
        let m : n ≡ length parts.0 = sym (kinds-length p acts parts.0 (map Plain (parameter_kinds proc)) parts.3 ∙ length-map (parameter_kinds proc) Plain ∙ length-map proc.params kind_of_param) in
        let firsts : first_operands n w.operands ≡ parts.0 = ap (first_operands n) parts.2 ∙ first-operands n parts.0 parts.1 m in
        let others : drop n w.operands ≡ parts.1 = ap (drop n) parts.2 ∙ other-operands n parts.0 parts.1 m in
        let item : ℕ → ℕ = λ j. item_address p g j (frame_top p acts) in
        let start : Bound = record { memory = w.memory; controls = [] } in
        begun-safe s g q proc wanted (frame_top p acts) now k acts w (bind_all item proc.params (first_operands n w.operands) (Some start)) rest i e
        (bound p acts item proc.params (first_operands n w.operands) start [] (subst (λ xs. HaveKinds p acts xs (map Plain (parameter_kinds proc))) (sym firsts) parts.3) tt)
        (subst (λ xs. HaveKinds p acts xs rest) (sym others) parts.4)
        d
        (omega (arith, i.5, ap weigh f, weigh-onto (parameter_kinds proc) rest))
        t

    enter_procedure-safe : (b : Bool) (x : Option Proc) (s line g q : ℕ) (wanted : Bool) (now k : Work) (acts : List Activation) (w : Words) (args : List Kind) (rest : List Hand) → (i : Holds p s now acts w) → procedure_at p g q ≡ x → IsTrue (takes_arguments x args) → i.3 ≡ onto args rest → weigh (result wanted rest) ≤ depth_at p s acts → Typed p (segment_of s acts) (owner_of acts) (depth_at p s acts) k (result wanted rest) → Safe p (enter_procedure p b x s line g q wanted now k acts w)
    enter_procedure-safe true None s line g q wanted now k acts w args rest i e a f d t = no a
    enter_procedure-safe false None s line g q wanted now k acts w args rest i e a f d t = no a
    enter_procedure-safe false (Some proc) s line g q wanted now k acts w args rest i e a f d t = (tt, i)
    enter_procedure-safe true (Some proc) s line g q wanted now k acts w args rest i e a f d t =
        enter_framed-safe (nat_le (frame_top p acts + frame_size_of p g q) p.limits.area) s line g q proc wanted now k acts w rest i e
        (f ∙ ap (λ xs. onto xs rest) (kinds-same args (parameter_kinds proc) a))
        d
        t

    -- a call of what takes these arguments
    calling-safe : (g q s line : ℕ) (wanted : Bool) (now k : Work) (acts : List Activation) (w : Words) (args : List Kind) (rest : List Hand) → (i : Holds p s now acts w) → IsTrue (takes_arguments (procedure_at p g q) args) → i.3 ≡ onto args rest → weigh (result wanted rest) ≤ depth_at p s acts → Typed p (segment_of s acts) (owner_of acts) (depth_at p s acts) k (result wanted rest) → Safe p (enter_step p (Calling g q) s line wanted now k acts w)
    calling-safe g q s line wanted now k acts w args rest i a f d t =
        enter_procedure-safe (nat_lt (length acts) p.limits.depth) (procedure_at p g q) s line g q wanted now k acts w args rest i refl a f d t

    place-safe : (x : Option (ℕ × ℕ)) (s line : ℕ) (wanted : Bool) (now k : Work) (acts : List Activation) (w : Words) (args : List Kind) (rest : List Hand) → (i : Holds p s now acts w) → IsTrue (takes_arguments (procedure_of_place p x) args) → i.3 ≡ onto args rest → weigh (result wanted rest) ≤ depth_at p s acts → Typed p (segment_of s acts) (owner_of acts) (depth_at p s acts) k (result wanted rest) → Safe p (enter_step p (callee_of_place x) s line wanted now k acts w)
    place-safe None s line wanted now k acts w args rest i a f d t = no a
    place-safe (Some q) s line wanted now k acts w args rest i a f d t = calling-safe q.0 q.1 s line wanted now k acts w args rest i a f d t

    pub suited : (x : Option Proc) (ts : List Taken) (args : List Kind) → procedure_kind x ≡ Some (ProcedureKind ts) → IsTrue (suits args ts) → IsTrue (takes_arguments x args)
    suited None ts args e h = absurd (none-some (ProcedureKind ts) e)
    suited (Some q) ts args e h =
        let same : map taken_of (parameter_kinds q) ≡ ts = cc in
        let equal : args ≡ parameter_kinds q = suits-same args (parameter_kinds q) (subst (λ us. IsTrue (suits args us)) (sym same) h) in
        subst (λ xs. IsTrue (same_kinds args xs)) equal (same-kinds args)

    control-safe : (c : Control) (ts : List Taken) (s line : ℕ) (wanted : Bool) (now k : Work) (acts : List Activation) (w : Words) (args : List Kind) (rest : List Hand) → (i : Holds p s now acts w) → ControlFits p acts c (ProcedureKind ts) → IsTrue (suits args ts) → i.3 ≡ onto args rest → weigh (result wanted rest) ≤ depth_at p s acts → Typed p (segment_of s acts) (owner_of acts) (depth_at p s acts) k (result wanted rest) → Safe p (enter_step p (callee_of_control (Some c)) s line wanted now k acts w)
    control-safe (LabelControl g l owner) ts s line wanted now k acts w args rest i c a f d t = absurd c
    control-safe (SwitchControl g l owner) ts s line wanted now k acts w args rest i c a f d t = absurd c
    control-safe (ProcedureControl g q) ts s line wanted now k acts w args rest i c a f d t =
        calling-safe g q s line wanted now k acts w args rest i (suited (procedure_at p g q) ts args c a) f d t

    parameter-safe : (n : ℕ) (x : Option Kind) (s line : ℕ) (wanted : Bool) (now k : Work) (acts : List Activation) (w : Words) (args : List Kind) (rest : List Hand) → (i : Holds p s now acts w) → slice_get (controls_of p (owner_of acts)) n ≡ x → IsTrue (parameter_takes x args) → i.3 ≡ onto args rest → weigh (result wanted rest) ≤ depth_at p s acts → Typed p (segment_of s acts) (owner_of acts) (depth_at p s acts) k (result wanted rest) → Safe p (enter_step p (callee_of_control (control_at acts n)) s line wanted now k acts w)
    parameter-safe n None s line wanted now k acts w args rest i e a f d t = no a
    parameter-safe n (Some WordKind) s line wanted now k acts w args rest i e a f d t = no a
    parameter-safe n (Some LabelKind) s line wanted now k acts w args rest i e a f d t = no a
    parameter-safe n (Some SwitchKind) s line wanted now k acts w args rest i e a f d t = no a
    parameter-safe n (Some (ProcedureKind ts)) s line wanted now k acts w args rest i e a f d t =
        let c = control-fits p s acts i.2 n (ProcedureKind ts) e in
        subst (λ x. Safe p (enter_step p (callee_of_control x) s line wanted now k acts w)) (sym c.1)
        (control-safe c.0 ts s line wanted now k acts w args rest i c.2 a f d t)

    reading-safe : (wanted : Bool) (s line : ℕ) (now k : Work) (acts : List Activation) (w : Words) (rest : List Hand) → (i : Holds p s now acts w) → i.3 ≡ rest → weigh (result wanted rest) ≤ depth_at p s acts → Typed p (segment_of s acts) (owner_of acts) (depth_at p s acts) k (result wanted rest) → Safe p (read_step p wanted s line now k acts w)
    reading-safe true s line now k acts w rest i f d t =
        after-safe (perform p.limits.area ReadByte w) s line now k acts w i
        (read_byte-good p acts (depth_at p s acts) (Typed p (segment_of s acts) (owner_of acts) (depth_at p s acts) k) p.limits.area w rest
        (subst (HaveKinds p acts w.operands) f i.4)
        d
        t)
    reading-safe false s line now k acts w rest i f d t = (tt, (i.0, i.1, i.2, rest, subst (HaveKinds p acts w.operands) f i.4, d, t))

    writing-safe : (wanted : Bool) (s line : ℕ) (now k : Work) (acts : List Activation) (w : Words) (args : List Kind) (rest : List Hand) → (i : Holds p s now acts w) → IsTrue (not wanted && same_kinds args (WordKind ∷ [])) → i.3 ≡ onto args rest → Typed p (segment_of s acts) (owner_of acts) (depth_at p s acts) k (result wanted rest) → Safe p (enter_step p Writing s line wanted now k acts w)
    writing-safe true s line now k acts w args rest i a f t = no a
    writing-safe false s line now k acts w args rest i a f t =
        let e : i.3 ≡ Plain WordKind ∷ rest = f ∙ ap (λ xs. onto xs rest) (kinds-same args (WordKind ∷ []) a) in
        after-safe (perform p.limits.area WriteByte w) s line now k acts w i
        (perform-good p acts (depth_at p s acts) (Typed p (segment_of s acts) (owner_of acts) (depth_at p s acts) k) p.limits.area WriteByte w (Plain WordKind ∷ rest)
        (subst (HaveKinds p acts w.operands) e i.4)
        (subst (λ xs. weigh xs ≤ depth_at p s acts) e i.5)
        t)

    pub enter_step-safe : (c : Target) (s line : ℕ) (wanted : Bool) (now k : Work) (acts : List Activation) (w : Words) (args : List Kind) (rest : List Hand) → (i : Holds p s now acts w) → IsTrue (is_call p (segment_of s acts) (owner_of acts) wanted c (Some args)) → i.3 ≡ onto args rest → weigh (result wanted rest) ≤ depth_at p s acts → Typed p (segment_of s acts) (owner_of acts) (depth_at p s acts) k (result wanted rest) → Safe p (enter_step p (callee_of p (segment_of s acts) acts c) s line wanted now k acts w)
    enter_step-safe (target.Own q) s line wanted now k acts w args rest i a f d t = calling-safe (segment_of s acts) q s line wanted now k acts w args rest i a f d t
    enter_step-safe (target.Common m) s line wanted now k acts w args rest i a f d t =
        place-safe (procedure_of_def (definition_of p (segment_of s acts) m)) s line wanted now k acts w args rest i a f d t
    enter_step-safe (target.Special n x) s line wanted now k acts w args rest i a f d t =
        parameter-safe n (slice_get (controls_of p (owner_of acts)) n) s line wanted now k acts w args rest i refl a f d t
    enter_step-safe target.Read s line wanted now k acts w args rest i a f d t =
        reading-safe wanted s line now k acts w rest i (f ∙ ap (λ xs. onto xs rest) (kinds-same args [] a)) d t
    enter_step-safe target.Write s line wanted now k acts w args rest i a f d t = writing-safe wanted s line now k acts w args rest i a f t

  -- ---- returns

  handed-kinds : (acts : List Activation) (wanted : Bool) (z : ℤ) (xs : List Operand) (ks : List Hand) → HaveKinds p acts xs ks → HaveKinds p acts (handed wanted z xs) (result wanted ks)
  handed-kinds acts true z xs ks h = (tt, h)
  handed-kinds acts false z xs ks h = h

  pub come_back-safe : (z : ℤ) (s : ℕ) (now : Work) (acts : List Activation) (w : Words) → Holds p s now acts w → IsTrue (is_some (owner_of acts)) → Safe p (come_back z s now acts w)
  come_back-safe z s now [] w i h = no h
  come_back-safe z s now (a ∷ acts) w i h =
      let c = i.2 in (tt, (i.0, i.1, c.8, result a.wanted c.3, handed-kinds acts a.wanted z a.operands c.3 c.4, c.5, c.7))

  pub come_back_with-safe : (s : ℕ) (now : Work) (acts : List Activation) (w : Words) (i : Holds p s now acts w) → Pop (λ r. Unit {0}) i.3 → IsTrue (is_some (owner_of acts)) → Safe p (come_back_with w.operands s now acts w)
  come_back_with-safe s now acts w i q h =
      let t = popped p (λ r. Unit {0}) acts w.operands i.3 i.4 q in subst (λ xs. Safe p (come_back_with xs s now acts w)) (sym t.is) (come_back-safe t.word s now acts w i h)
