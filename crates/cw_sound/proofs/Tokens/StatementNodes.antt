-- The nodes of a unit's statements, with the procedures and switches that are declared in them, by what their parts count.
use Rattle.std.proofs.Common.{◌≡◌, ℕ, suc, ◌+◌, ◌*◌, ◌≤◌, List, [], ◌∷◌, ◌++◌, length, map, Bool, true, false, ◌==◌, Option, if◌then◌else◌, refl, ap, arith, length-append, Some}
use Rattle.cw_tree.specs.declared.leaf.RawName.{RawName}
use Rattle.cw_tree.specs.declared.statement.RawParam.{RawParam}
use Rattle.cw_tree.specs.declared.statement.RawParam.TheVariants as param
use Rattle.cw_number.specs.declared.numbered.Numbered.{Numbered}
use Rattle.cw_make_expr.specs.Parts.{Numbers}
use Rattle.cw_make_stmt.specs.Made.{goal_of, switch_of, labels_of, mark, marked, row, conditional, repetition, put, put_bits}
use Rattle.cw_make.specs.Procedures as procs
use Rattle.cw_make.specs.Procedures.{Procs, each_param, params_in, params_of}
use Rattle.cw_make.specs.Switches as switches
use Rattle.cw_make.specs.Switches.{Switches}
use Rattle.cw_unit.specs.declared.unit.Arg.{Arg}
use Rattle.cw_unit.specs.declared.unit.Cond.{Cond}
use Rattle.cw_unit.specs.declared.unit.Expr.{Expr}
use Rattle.cw_unit.specs.declared.unit.Felem.{Felem}
use Rattle.cw_unit.specs.declared.unit.Ref.{Ref}
use Rattle.cw_unit.specs.declared.unit.Proc.{Proc}
use Rattle.cw_unit.specs.declared.unit.Switch.{Switch}
use Rattle.cw_unit.specs.declared.unit.Stmt.{Stmt, Stmt-F, roll-Stmt, map-Stmt}
use Rattle.cw_unit.specs.declared.unit.Stmt.TheFolds.{fold-roll-Stmt}
use Rattle.cw_unit.specs.declared.unit.Stmt.TheOpen as statement
use Rattle.cw_unit.specs.declared.unit.Target.{Target}
use Rattle.cw_tokens.specs.LeastTokens.{separated, arguments, argument_tokens, condition_tokens, expression_tokens, reference_tokens, each_argument, each_element, jump_tokens, statement_step, statement_tokens, procedures_tokens, switches_tokens}
use Rattle.cw_tokens.specs.TreeTokens.{total, parameters_of, param_tokens}
use Rattle.cw_sound.proofs.Tokens.Parts.{Each, no_item, an_item}
use Rattle.cw_number.specs.declared.numbered.Numbered.TheVariants as numbered

pub record SizedStatement (s : Stmt) (ps : Procs) (ws : Switches) (n : ℕ) : Type 0 where
  pub fits : (q : Option ℕ) → statement_tokens s + (procedures_tokens ps + switches_tokens (ws q)) ≤ n

-- a block, whose BEGIN counts beside
pub record SizedBody (s : Stmt) (ps : Procs) (ws : Switches) (n : ℕ) : Type 0 where
  pub fits : (q : Option ℕ) → suc (statement_tokens s + (procedures_tokens ps + switches_tokens (ws q))) ≤ n

pub record SizedDeclaration (ps : Procs) (ws : Switches) (n : ℕ) : Type 0 where
  pub fits : (q : Option ℕ) → procedures_tokens ps + switches_tokens (ws q) ≤ n

statement_rolled : (x : Stmt-F Stmt) → statement_tokens (roll-Stmt x) ≡ statement_step (map-Stmt Stmt ℕ statement_tokens x)
statement_rolled = fold-roll-Stmt ℕ statement_step

-- ---- statements in which nothing is declared

pub plain_sized : (s : Stmt) (n : ℕ) → statement_tokens s ≤ n → SizedStatement s [] (λ q. []) n
plain_sized s n h = record { fits = λ q. omega (arith, h) }

pub put_sized : (line : ℕ) (r : Ref) (e : Expr) (n m : ℕ) → reference_tokens r ≤ n → expression_tokens e ≤ m → SizedStatement (put line r e) [] (λ q. []) (suc (n + m))
put_sized line r e n m h k =
    let a : statement_tokens (put line r e) ≡ suc (reference_tokens r + expression_tokens e) = statement_rolled (statement.Put line r e) in
    plain_sized (put line r e) (suc (n + m)) (omega (arith, h, k, a))

pub put_bits_sized : (line t b : ℕ) (r : Ref) (e : Expr) (n m : ℕ) → reference_tokens r ≤ n → expression_tokens e ≤ m → SizedStatement (put_bits line t b r e) [] (λ q. []) (7 + (n + m))
put_bits_sized line t b r e n m h k =
    let a : statement_tokens (put_bits line t b r e) ≡ 7 + (reference_tokens r + expression_tokens e) = statement_rolled (statement.PutBits line t b r e) in
    plain_sized (put_bits line t b r e) (7 + (n + m)) (omega (arith, h, k, a))

goal_tokens : (x : Option Numbered) → jump_tokens (goal_of x) ≡ 1
goal_tokens (Some (numbered.Label l)) = refl
goal_tokens _ = refl

switch_tokens : (x : Option Numbered) (e : Expr) → jump_tokens (switch_of x e) ≡ 3 + expression_tokens e
switch_tokens (Some (numbered.Switch s)) e = refl
switch_tokens _ e = refl

pub jump_sized : (line : ℕ) (x : Option Numbered) → SizedStatement (roll-Stmt (statement.Go line (goal_of x))) [] (λ q. []) 2
jump_sized line x =
    let a : statement_tokens (roll-Stmt (statement.Go line (goal_of x))) ≡ suc (jump_tokens (goal_of x)) = statement_rolled (statement.Go line (goal_of x)) in
    let b = goal_tokens x in
    plain_sized (roll-Stmt (statement.Go line (goal_of x))) 2 (omega (arith, a, b))

pub switch_sized : (line : ℕ) (x : Option Numbered) (e : Expr) (n : ℕ) → expression_tokens e ≤ n → SizedStatement (roll-Stmt (statement.Go line (switch_of x e))) [] (λ q. []) (4 + n)
switch_sized line x e n h =
    let a : statement_tokens (roll-Stmt (statement.Go line (switch_of x e))) ≡ suc (jump_tokens (switch_of x e)) = statement_rolled (statement.Go line (switch_of x e)) in
    let b = switch_tokens x e in
    plain_sized (roll-Stmt (statement.Go line (switch_of x e))) (4 + n) (omega (arith, a, b, h))

pub each_given : (args : List Arg) → each_argument args ≡ map argument_tokens args
each_given [] = refl
each_given (a ∷ args) = ap (λ ns. argument_tokens a ∷ ns) (each_given args)

pub called_sized : (line : ℕ) (t : Target) (args : List Arg) (n : ℕ) → arguments (each_argument args) ≤ n → SizedStatement (roll-Stmt (statement.Call line t args)) [] (λ q. []) (suc n)
called_sized line t args n h =
    let a : statement_tokens (roll-Stmt (statement.Call line t args)) ≡ suc (arguments (each_argument args)) = statement_rolled (statement.Call line t args) in
    plain_sized (roll-Stmt (statement.Call line t args)) (suc n) (omega (arith, a, h))

pub answer_sized : (line : ℕ) (e : Expr) (n : ℕ) → expression_tokens e ≤ n → SizedStatement (roll-Stmt (statement.Answer line e)) [] (λ q. []) (suc n)
answer_sized line e n h =
    let a : statement_tokens (roll-Stmt (statement.Answer line e)) ≡ suc (expression_tokens e) = statement_rolled (statement.Answer line e) in
    plain_sized (roll-Stmt (statement.Answer line e)) (suc n) (omega (arith, a, h))

pub empty_sized : SizedStatement (row []) [] (λ q. []) 0
empty_sized =
    let a : statement_tokens (row []) ≡ 0 = statement_rolled (statement.Seq []) in
    plain_sized (row []) 0 (omega (arith, a))

-- ---- labels

pub same_labels : (numbers : Numbers) (ns : List RawName) → length (labels_of numbers ns) ≡ length ns
same_labels numbers [] = refl
same_labels numbers (n ∷ ns) = ap suc (same_labels numbers ns)

marked_if : (b : Bool) (ls : List ℕ) (s : Stmt) → statement_tokens (if b then s else mark ls s) ≤ 2 * length ls + statement_tokens s
marked_if true ls s = omega arith
marked_if false ls s = let a : statement_tokens (mark ls s) ≡ 2 * length ls + statement_tokens s = statement_rolled (statement.Mark ls s) in omega (arith, a)

marked_least : (numbers : Numbers) (ns : List RawName) (s : Stmt) → statement_tokens (marked numbers ns s) ≤ 2 * length ns + statement_tokens s
marked_least numbers ns s =
    let a = marked_if (length ns == 0) (labels_of numbers ns) s in
    let b = same_labels numbers ns in
    omega (arith, a, b)

pub marked_sized : (numbers : Numbers) (ns : List RawName) {s : Stmt} {ps : Procs} {ws : Switches} {n : ℕ} → SizedStatement s ps ws n → SizedStatement (marked numbers ns s) ps ws (2 * length ns + n)
marked_sized numbers ns {s = s} h = record { fits = λ q. let a = marked_least numbers ns s in let b = h.fits q in omega (arith, a, b) }

-- ---- what is declared in two parts

procedures_append : (ps qs : List Proc) → procedures_tokens (ps ++ qs) ≡ procedures_tokens ps + procedures_tokens qs
procedures_append [] qs = omega arith
procedures_append (p ∷ ps) qs = let a = procedures_append ps qs in omega (arith, a)

switches_append : (ps qs : List Switch) → switches_tokens (ps ++ qs) ≡ switches_tokens ps + switches_tokens qs
switches_append [] qs = omega arith
switches_append (p ∷ ps) qs = let a = switches_append ps qs in omega (arith, a)

pub if_sized : (line : ℕ) (c : Cond) (m : ℕ) {s t : Stmt} {ps qs : Procs} {vs ws : Switches} {n k : ℕ} → condition_tokens c ≤ m → SizedStatement s ps vs n → SizedStatement t qs ws k
    → SizedStatement (conditional line c s t) (ps ++ qs) (λ q. vs q ++ ws q) (2 + (m + (n + k)))
if_sized line c m {s = s} {t = t} {ps = ps} {qs = qs} {vs = vs} {ws = ws} h i j = record {
  fits = λ q.
      let a : statement_tokens (conditional line c s t) ≡ 2 + (condition_tokens c + (statement_tokens s + statement_tokens t)) = statement_rolled (statement.If line c s t) in
      let b = i.fits q in
      let d = j.fits q in
      let e = procedures_append ps qs in
      let f = switches_append (vs q) (ws q) in
      omega (arith, a, b, d, e, f, h);
}

pub for_sized : (line item : ℕ) (r : Ref) (es : List Felem) (m l : ℕ) {s : Stmt} {ps : Procs} {ws : Switches} {n : ℕ} → reference_tokens r ≤ m → separated (each_element es) ≤ l → SizedStatement s ps ws n
    → SizedStatement (repetition line item r es s) ps ws (2 + (m + (l + n)))
for_sized line item r es m l {s = s} h i j = record {
  fits = λ q.
      let a : statement_tokens (repetition line item r es s) ≡ 2 + (reference_tokens r + (separated (each_element es) + statement_tokens s)) = statement_rolled (statement.For line item r es s) in
      let b = j.fits q in
      omega (arith, a, b, h, i);
}

-- ---- blocks

rows_fit : {A : Type 0} (s : A → Stmt) (p : A → Procs) (w : A → Switches) (n : A → ℕ) {xs : List A} → Each A (λ x. SizedStatement (s x) (p x) (w x) (n x)) xs → (q : Option ℕ)
    → separated (map statement_tokens (map s xs)) + (procedures_tokens (procs.joined (map (λ x. (x, p x)) xs)) + switches_tokens (switches.joined (map w xs) q)) ≤ separated (map n xs)
rows_fit s p w n no_item q = omega arith
rows_fit s p w n (an_item {x = x} {xs = xs} h k) q =
    let a = h.fits q in
    let b = rows_fit s p w n k q in
    let c = procedures_append (p x) (procs.joined (map (λ y. (y, p y)) xs)) in
    let d = switches_append (w x q) (switches.joined (map w xs) q) in
    omega (arith, a, b, c, d)

declared_fit : {A : Type 0} (p : A → Procs) (w : A → Switches) (n : A → ℕ) {xs : List A} → Each A (λ x. SizedDeclaration (p x) (w x) (n x)) xs → (q : Option ℕ)
    → procedures_tokens (procs.joined (map (λ x. (x, p x)) xs)) + switches_tokens (switches.joined (map w xs) q) ≤ total (map n xs)
declared_fit p w n no_item q = omega arith
declared_fit p w n (an_item {x = x} {xs = xs} h k) q =
    let a = h.fits q in
    let b = declared_fit p w n k q in
    let c = procedures_append (p x) (procs.joined (map (λ y. (y, p y)) xs)) in
    let d = switches_append (w x q) (switches.joined (map w xs) q) in
    omega (arith, a, b, c, d)

pub block_sized : {A B : Type 0} (p : A → Procs) (w : A → Switches) (n : A → ℕ) (s : B → Stmt) (o : B → Procs) (v : B → Switches) (m : B → ℕ) {ds : List A} {ss : List B}
    → Each A (λ x. SizedDeclaration (p x) (w x) (n x)) ds → Each B (λ x. SizedStatement (s x) (o x) (v x) (m x)) ss
    → SizedBody (row (map s ss)) (procs.joined (map (λ x. (x, p x)) ds) ++ procs.joined (map (λ x. (x, o x)) ss)) (λ q. switches.joined (map w ds) q ++ switches.joined (map v ss) q)
    (suc (total (map n ds) + separated (map m ss)))
block_sized p w n s o v m {ds = ds} {ss = ss} h k = record {
  fits = λ q.
      let a : statement_tokens (row (map s ss)) ≡ separated (map statement_tokens (map s ss)) = statement_rolled (statement.Seq (map s ss)) in
      let b = declared_fit p w n h q in
      let c = rows_fit s o v m k q in
      let d = procedures_append (procs.joined (map (λ x. (x, p x)) ds)) (procs.joined (map (λ x. (x, o x)) ss)) in
      let e = switches_append (switches.joined (map w ds) q) (switches.joined (map v ss) q) in
      omega (arith, a, b, c, d, e);
}

pub body_stated : {s : Stmt} {ps : Procs} {ws : Switches} {n : ℕ} → SizedBody s ps ws n → SizedStatement s ps ws n
body_stated h = record { fits = λ q. let a = h.fits q in omega (arith, a) }

-- ---- parameters

module _ (numbers : Numbers) where
  each_parameter : (p : RawParam) (ns : List RawName) → length (each_param numbers p ns) ≡ length ns
  each_parameter p [] = refl
  each_parameter p (n ∷ ns) = ap suc (each_parameter p ns)

  parameters_in : (p : RawParam) → length (params_in numbers p) ≡ parameters_of p
  parameters_in (param.Value at t ns) = each_parameter (param.Value at t ns) ns
  parameters_in (param.Location at t ns) = each_parameter (param.Location at t ns) ns
  parameters_in (param.Array t ns) = each_parameter (param.Array t ns) ns
  parameters_in (param.Table t) = refl
  parameters_in (param.Label at ns) = each_parameter (param.Label at ns) ns
  parameters_in (param.Switch at ns) = each_parameter (param.Switch at ns) ns
  parameters_in (param.Proc answer at n is) = refl

  pub parameters_counted : (ps : List RawParam) → 2 * length (params_of numbers ps) ≡ total (map param_tokens ps)
  parameters_counted [] = omega arith
  parameters_counted (p ∷ ps) =
      let a : length (params_in numbers p ++ params_of numbers ps) ≡ length (params_in numbers p) + length (params_of numbers ps) = length-append (params_in numbers p) (params_of numbers ps) in
      let b = parameters_in p in
      let c = parameters_counted ps in
      omega (arith, a, b, c)
