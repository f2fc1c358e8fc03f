-- A unit whose bodies have orders that do what they mean is built: its procedures have few parameters, and those that take words are items.
use Rattle.std.proofs.Common.{◌≡◌, ℕ, suc, ◌+◌, ◌≤◌, List, [], ◌∷◌, length, map, Bool, true, IsTrue, ◌&&◌, nat_le, Some, None, slice_get, refl, sym, ap, subst, ◌∙◌, arith}
use Rattle.std.proofs.lemmas.Bool.Decides.{nat_tests}
use Rattle.std.specs.declared.result.Result.TheVariants as result
use Rattle.cw_table.specs.Rows.{item_at}
use Rattle.cw_tree.specs.declared.statement.RawProc.{RawProc, out-RawProc}
use Rattle.cw_facts.specs.Facts.{block_facts, parameters_facts}
use Rattle.cw_facts.specs.Text.{communicators_facts}
use Rattle.cw_facts.specs.Signatures.{flattened}
use Rattle.cw_scope.specs.declared.resolve.Named.{Named}
use Rattle.cw_scope.specs.Outcome.{Resolves}
use Rattle.cw_scope.specs.Resolved.{text_signatures}
use Rattle.cw_make_items.specs.Lookup.{Numbers, proc_in, proc_here}
use Rattle.cw_make.specs.Procedures.{params_of, block_procs}
use Rattle.cw_unit.specs.declared.unit.Unit.{Unit as SourceUnit}
use Rattle.cw_unit.specs.declared.unit.Proc.{Proc}
use Rattle.cw_safety.specs.Kinds.{kind_of_param}
use Rattle.cw_gen_expr.specs.NamedItems.{has_words}
use Rattle.cw_gen_unit.specs.BuiltStatements.{is_statement}
use Rattle.cw_gen_unit.specs.BuiltUnits.{items_fit, is_procedure, are_procedures, are_built}
use Rattle.cw_gen_unit.specs.ReferenceUnits.{answer_of}
use Rattle.cw_sound.specs.Uses.Stands.{kind_specified}
use Rattle.cw_sound.specs.Uses.Mentions.{In}
use Rattle.cw_sound.specs.Names.Placed.{Placed}
use Rattle.cw_sound.specs.Names.Standing.{CountsOwn, FewParameters, ItemsStand}
use Rattle.cw_sound.proofs.Names.Lists.{in_right}
use Rattle.cw_sound.proofs.Names.MentionsOf.{signatures_append}
use Rattle.cw_sound.proofs.Names.Params.{kinds_as_specified}
use Rattle.cw_sound.proofs.Names.TreeParts.{block_parts}
use Rattle.cw_sound.proofs.Expressions.Truth.{both}
use Rattle.cw_sound.specs.Statements.Counted.{BodiesBuilt}
use Rattle.cw_sound.proofs.Units.Numbering.{At, From, from_start}
use Rattle.cw_sound.proofs.Units.Procedures.{ProcOf, part_has}
use Rattle.cw_sound.proofs.Names.Signed.{row_of}
use Rattle.cw_sound.proofs.Units.Parameters.{Within, parameters_fit}

le_true : (a b : ℕ) → a ≤ b → nat_le a b ≡ true
le_true a b h = grind (arith, nat_tests, h)

map_length : {A B : Type 0} (f : A → B) (xs : List A) → length (map f xs) ≡ length xs
map_length f [] = refl
map_length f (x ∷ xs) = ap (λ n. suc n) (map_length f xs)

module _ (named : Named) (numbers : Numbers) (u : SourceUnit) (resolves : Resolves named.raw.now (result.Ok named)) (placed : Placed named.raw.now) (counts : CountsOwn named numbers) (items : ItemsStand named numbers u) (few : FewParameters named) where
  abbrev Procedures : ℕ → List Proc → Type 0
  Procedures = From named numbers placed counts (ProcOf named numbers)

  abbrev has_body : ℕ → Proc → Bool
  has_body k q = is_statement u (has_words u (Some k)) (Some k) (answer_of u (Some k)) q.body 64

  size : (p : RawProc) → length (params_of numbers (out-RawProc p).params) ≡ length (flattened (out-RawProc p).params)
  size p =
      sym (map_length kind_of_param (params_of numbers (out-RawProc p).params)) ∙ ap length (kinds_as_specified numbers (out-RawProc p).params)
      ∙ map_length kind_specified (flattened (out-RawProc p).params)

  made_few : (p : RawProc) → length (flattened (out-RawProc p).params) ≤ 32 → IsTrue (nat_le (length (params_of numbers (out-RawProc p).params)) 32)
  made_few p h = subst (λ n. IsTrue (nat_le n 32)) (sym (size p)) (le_true (length (flattened (out-RawProc p).params)) 32 h)

  abbrev heads_fit : ℕ → Proc → Bool
  heads_fit n q = nat_le (length q.params) 32 && items_fit (λ i. has_words u (Some n) i 1) q.params

  head_fits : (n : ℕ) (q : Proc) → At named numbers placed counts (ProcOf named numbers) n q → IsTrue (heads_fit n q)
  head_fits n q a =
      let r = a.related in
      let p : RawProc = r.proc in
      let body : proc_here numbers (out-RawProc p).name.at.token ≡ n = ap (λ t. proc_in (item_at numbers t)) (sym r.name) ∙ ap proc_in a.number in
      let inside : Within named numbers u items n (parameters_facts (out-RawProc p).params) = subst (λ k. Within named numbers u items k (parameters_facts (out-RawProc p).params)) body (r.inside None) in
      subst (λ (x : Proc). IsTrue (heads_fit n x)) (sym r.is_proc)
      (both (nat_le (length (params_of numbers (out-RawProc p).params)) 32) (items_fit (λ i. has_words u (Some n) i 1) (params_of numbers (out-RawProc p).params))
      (made_few p (few (row_of p) r.signature)) (parameters_fit named numbers u items n (out-RawProc p).params inside))

  all_procedures : (n : ℕ) (qs : List Proc) → Procedures n qs → ((k : ℕ) (q : Proc) → slice_get qs k ≡ Some q → IsTrue (has_body (n + k) q)) → IsTrue (are_procedures u n qs)
  all_procedures n [] h b = refl
  all_procedures n (q ∷ qs) h b =
      let start : n + 0 ≡ n = omega arith in
      both (is_procedure u n q) (are_procedures u (suc n) qs)
      (both (has_body n q) (heads_fit n q) (subst (λ k. IsTrue (has_body k q)) start (b 0 q refl)) (head_fits n q h.0))
      (all_procedures (suc n) qs h.1 (λ k x e.
      let next : n + suc k ≡ suc n + k = omega arith in
      subst (λ j. IsTrue (has_body j x)) next (b (suc k) x e)))

  procedures : u.procs ≡ block_procs named numbers named.raw.now.block → Procedures 0 u.procs
  procedures made =
      subst (Procedures 0) (sym made)
      (from_start named numbers placed counts (ProcOf named numbers) (block_procs named numbers named.raw.now.block)
      (part_has named numbers (block_parts named numbers named.raw.now.block true) None (λ m i. i)
      (λ r i. subst (λ rs. In r rs) (sym (resolves.4 ∙ signatures_append (communicators_facts named.raw.now.comms) (block_facts named.raw.now.block true)))
      (in_right r (text_signatures (communicators_facts named.raw.now.comms)) (text_signatures (block_facts named.raw.now.block true)) i))))

  pub unit_built : u.procs ≡ block_procs named numbers named.raw.now.block → BodiesBuilt u → IsTrue (are_built (u ∷ []))
  unit_built made built =
      both (is_statement u (has_words u None) None 0 u.body 64 && are_procedures u 0 u.procs) true
      (both (is_statement u (has_words u None) None 0 u.body 64) (are_procedures u 0 u.procs) built.body
      (all_procedures 0 u.procs (procedures made) (λ k q e.
      let start : k ≡ 0 + k = omega arith in
      subst (λ j. IsTrue (has_body j q)) start (built.procedures k q e)))) refl
