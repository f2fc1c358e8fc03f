-- The unit of a text without faults fits.
use Rattle.std.proofs.Common.{◌≡◌, inl, inr, ℕ, zero, suc, ◌+◌, List, [], ◌∷◌, map, Bool, true, false, IsTrue, if◌then◌else◌, All, Option, Some, None, slice_get, refl, sym, ap, subst, ◌∙◌, arith}
use Rattle.std.specs.Str.{bytes_eq}
use Rattle.std.proofs.lemmas.List.Elements.{All-from_recursion}
use Rattle.std.proofs.lemmas.Option.{none-some, same_Some}
use Rattle.cw_table.specs.declared.table.Row.{Row}
use Rattle.cw_tree.specs.declared.statement.RawBlock.{RawBlock}
use Rattle.cw_facts.specs.Facts.{block_facts}
use Rattle.cw_scope.specs.declared.resolve.Named.{Named}
use Rattle.cw_items.specs.declared.families.Site.{Site}
use Rattle.cw_judge.specs.Judged.{block_judged}
use Rattle.cw_make.specs.Labels.{proc_within}
use Rattle.cw_make.specs.Procedures.{block_procs}
use Rattle.cw_make_expr.specs.Parts.{Numbers}
use Rattle.cw_make_stmt.specs.Made.{statement_of, block_of}
use Rattle.cw_unit.specs.declared.unit.Unit.{Unit as SourceUnit}
use Rattle.cw_unit.specs.declared.unit.Proc.{Proc}
use Rattle.cw_unit.specs.declared.unit.Stmt.{Stmt}
use Rattle.cw_unit.specs.declared.unit.Def.{Def}
use Rattle.cw_unit.specs.declared.unit.Def.TheVariants as def
use Rattle.cw_unit.specs.declared.descriptor.Desc.{Desc}
use Rattle.cw_unit.specs.declared.descriptor.DescBody.{DescBody}
use Rattle.cw_unit.specs.declared.descriptor.DescBody.TheVariants as bodies
use Rattle.cw_unit.specs.declared.descriptor.Spec.{Spec}
use Rattle.cw_unit.specs.Allocation.{Name}
use Rattle.cw_unit.specs.Program.{name_in, name_of, definition_in}
use Rattle.cw_built.specs.Listed.{are_named, body_in, body_at}
use Rattle.cw_built.proofs.Apart.{name-equal, listing-is}
use Rattle.cw_comm.specs.Agreement.{listing_of}
use Rattle.cw_depth.specs.CallGraph.{spec_of}
use Rattle.cw_deepest.specs.Programs.Calls.{in_statement}
use Rattle.cw_deepest.specs.Programs.Fitting.{Fits, calls_of_procedure}
use Rattle.cw_deepest.specs.Linked.UnitFits.{scope_in, calls_in}
use Rattle.cw_sound.specs.Uses.Mentions.{In}
use Rattle.cw_sound.proofs.Expressions.Judging.{NoFault}
use Rattle.cw_sound.specs.Statements.Bodies.{Body, Bodies, block_bodies}
use Rattle.cw_sound.specs.Statements.Counted.{Counted}
use Rattle.cw_sound.proofs.Calls.Trees.Parts.{AllFit}
use Rattle.cw_sound.proofs.Storage.Definitions.{MetAt}
use Rattle.cw_sound.proofs.Calls.Names.Defined.{MeetsSaid}
use Rattle.cw_sound.proofs.Calls.Names.Known.{Stood, inside, owned}
use Rattle.cw_sound.proofs.Calls.Statements.Trees.{AllRight, block_is_right}

-- ---- the body of a procedure

pub record BodyAt (named : Named) (numbers : Numbers) (bs : Bodies) (q : ℕ) (x : Proc) : Type 0 where
  pub body : Body
  pub is_there : In body bs
  pub is_number : proc_within numbers (Some body.token) None ≡ Some q
  pub is_made : x.body ≡ statement_of named numbers body.statement

abbrev procedure_body : Proc → Stmt
procedure_body x = x.body

heads : (s t : Stmt) (ss ts : List Stmt) → s ∷ ss ≡ t ∷ ts → (s ≡ t) × (ss ≡ ts)
heads s t ss ts e = (cc, cc)

body_at_place : (named : Named) (numbers : Numbers) (n : ℕ) (qs : List Proc) (bs : Bodies) → map procedure_body qs ≡ map (λ (x : Body). statement_of named numbers x.statement) bs → Counted numbers n bs → (q : ℕ) (x : Proc) → slice_get qs q ≡ Some x → BodyAt named numbers bs (n + q) x
body_at_place named numbers n [] bs same counted q x e = absurd (none-some x e)
body_at_place named numbers n (y ∷ qs) [] same counted q x e = absurd (cc)
body_at_place named numbers n (y ∷ qs) (b ∷ bs) same counted zero x e =
    let parts = heads (procedure_body y) (statement_of named numbers b.statement) (map procedure_body qs) (map (λ (z : Body). statement_of named numbers z.statement) bs) same in
    let here : n ≡ n + 0 = omega arith in
    record { body = b; is_there = inl refl; is_number = counted.0 ∙ ap (λ (k : ℕ). Some k) here; is_made = ap procedure_body (sym (same_Some y x e)) ∙ parts.0 }
body_at_place named numbers n (y ∷ qs) (b ∷ bs) same counted (suc q) x e =
    let parts = heads (procedure_body y) (statement_of named numbers b.statement) (map procedure_body qs) (map (λ (z : Body). statement_of named numbers z.statement) bs) same in
    let r = body_at_place named numbers (suc n) qs bs parts.1 counted.1 q x e in
    let next : suc n + q ≡ n + suc q = omega arith in
    record { body = r.body; is_there = inr r.is_there; is_number = r.is_number ∙ ap (λ (k : ℕ). Some k) next; is_made = r.is_made }

module _ (named : Named) (sites : List (Row Site)) (numbers : Numbers) (u : SourceUnit) (b : RawBlock) (stood : Stood named numbers u None (block_facts b true)) (free : NoFault (block_judged named sites b))
    (counted : Counted numbers 0 (block_bodies b)) (same : map procedure_body (block_procs named numbers b) ≡ map (λ (x : Body). statement_of named numbers x.statement) (block_bodies b)) (is_body : u.body ≡ block_of named numbers b) (is_procs : u.procs ≡ block_procs named numbers b) where
  abbrev FitsIn : (who : Option ℕ) → Stmt → Type 0
  FitsIn who s = All (Fits (scope_in u who)) (in_statement s)

  right : AllFit named numbers (inside named numbers u None) (in_statement (block_of named numbers b)) × AllRight named sites numbers (inside named numbers u) (owned named numbers u) (block_bodies b)
  right = block_is_right named sites numbers (inside named numbers u) (owned named numbers u) b true None stood free

  segment_fits : FitsIn None u.body
  segment_fits = subst (FitsIn None) (sym is_body) (All-from_recursion (Fits (scope_in u None)) (in_statement (block_of named numbers b)) right.0)

  procedure_fits : (q : ℕ) (x : Proc) → slice_get u.procs q ≡ Some x → FitsIn (Some q) x.body
  procedure_fits q x e =
      let r = body_at_place named numbers 0 (block_procs named numbers b) (block_bodies b) same counted q x (ap (λ (qs : List Proc). slice_get qs q) (sym is_procs) ∙ e) in
      let start : 0 + q ≡ q = omega arith in
      let number = r.is_number ∙ ap (λ (k : ℕ). Some k) start in
      let s : Stmt = statement_of named numbers r.body.statement in
      let w : Option ℕ = proc_within numbers (Some r.body.token) None in
      subst (FitsIn (Some q)) (sym r.is_made) (subst (λ (o : Option ℕ). FitsIn o s) number (All-from_recursion (Fits (scope_in u w)) (in_statement s) (right.1 r.body r.is_there)))

  at_procedure : (q : ℕ) (o : Option Proc) → slice_get u.procs q ≡ o → All (Fits (scope_in u (Some q))) (calls_of_procedure o)
  at_procedure q None e = All-from_recursion (Fits (scope_in u (Some q))) [] tt
  at_procedure q (Some x) e = procedure_fits q x e

  pub calls_fit : (who : Option ℕ) → All (Fits (scope_in u who)) (calls_in u who)
  calls_fit None = segment_fits
  calls_fit (Some q) = at_procedure q (slice_get u.procs q) refl

-- ---- definitions

record Found (u : SourceUnit) (name : Name) (ds : List (ℕ × Def)) (y : Def) : Type 0 where
  entry : ℕ × Def
  is_there : In entry ds
  is_def : entry.1 ≡ y
  is_name : bytes_eq name (name_of u entry.0) ≡ true

found_of : (u : SourceUnit) (name : Name) (ds : List (ℕ × Def)) (y : Def) → definition_in u name ds ≡ Some y → Found u name ds y
found_of u name [] y e = absurd (none-some y e)
found_of u name (d ∷ ds) y e = by_test (found_of u name ds y) (bytes_eq name (name_of u d.0)) refl e
  where
    by_test : (definition_in u name ds ≡ Some y → Found u name ds y) → (b : Bool) → bytes_eq name (name_of u d.0) ≡ b → (if b then Some d.1 else definition_in u name ds) ≡ Some y → Found u name (d ∷ ds) y
    by_test rest true t f = record { entry = d; is_there = inl refl; is_def = same_Some d.1 y f; is_name = t }
    by_test rest false t f = let r = rest f in record { entry = r.entry; is_there = inr r.is_there; is_def = r.is_def; is_name = r.is_name }

-- a name is that of one descriptor
one_descriptor : (ds : List Desc) (i j : ℕ) (a b : Desc) → IsTrue (are_named ds) → slice_get ds i ≡ Some a → slice_get ds j ≡ Some b → a.name ≡ b.name → a ≡ b
one_descriptor ds i j a b h e f same = same_Some a b (sym (listing-is ds i a h e) ∙ ap (λ (n : Name). listing_of n ds) same ∙ listing-is ds j b h f)

module _ (u : SourceUnit) where
  said_at : (d : ℕ) (o : Option Desc) (b : DescBody) → slice_get u.descs d ≡ o → body_in o ≡ Some b → (a : Desc) × (slice_get u.descs d ≡ Some a) × (a.body ≡ b)
  said_at d None b e f = absurd (none-some b f)
  said_at d (Some a) b e f = (a, e, same_Some a.body b f)

  pub definition_fits : IsTrue (are_named u.descs) → ((x : ℕ × Def) → In x u.defined → MetAt u (MeetsSaid u) x.0 x.1) → (d q : ℕ) (s : Spec) (x : Proc) → body_at u d ≡ Some (bodies.Proc s) → definition_in u (name_of u d) u.defined ≡ Some (def.Proc q) → slice_get u.procs q ≡ Some x → spec_of x ≡ s
  definition_fits known met d q s x says defines there =
      let a = said_at d (slice_get u.descs d) (bodies.Proc s) refl says in
      let f = found_of u (name_of u d) u.defined (def.Proc q) defines in
      let m = met f.entry f.is_there in
      let name : a.0.name ≡ m.descriptor.name = ap name_in (sym a.1) ∙ name-equal (name_of u d) (name_of u f.entry.0) f.is_name ∙ ap name_in m.is_there in
      let one : m.descriptor ≡ a.0 = sym (one_descriptor u.descs d f.entry.0 a.0 m.descriptor known a.1 m.is_there name) in
      let body : m.descriptor.body ≡ bodies.Proc s = ap (λ (z : Desc). z.body) one ∙ a.2 in
      let meets : MeetsSaid u (bodies.Proc s) (def.Proc q) = subst (λ (y : Def). MeetsSaid u (bodies.Proc s) y) f.is_def (subst (λ (z : DescBody). MeetsSaid u z f.entry.1) body m.meets_it) in
      meets x there
