-- The names of the items and procedures of a text's unit.
use Rattle.std.proofs.Common.{◌≡◌, ℕ, zero, suc, List, [], ◌∷◌, ◌++◌, Bool, true, false, ◌&&◌, ◌||◌, IsTrue, cond, nat_eq, nat_lt, Option, Some, None, slice_get, refl, sym, ap, subst, ◌∙◌, arith}
use Rattle.std.specs.Prelude.{option_map, find}
use Rattle.std.proofs.lemmas.Option.{same_Some}
use Rattle.cw_table.specs.declared.table.Row.{Row}
use Rattle.cw_table.specs.Rows.{stands_at, item_at}
use Rattle.cw_tree.specs.declared.leaf.Position.{Position}
use Rattle.cw_tree.specs.declared.statement.RawProc.{RawProc, out-RawProc}
use Rattle.cw_facts.specs.declared.fact.Declaration.{Declaration}
use Rattle.cw_facts.specs.declared.fact.Fact.{Fact}
use Rattle.cw_facts.specs.declared.fact.Fact.TheVariants as fact
use Rattle.cw_facts.specs.declared.fact.Fact.TheOpen as layer
use Rattle.cw_facts.specs.declared.fact.Fact.TheFolds.{fold-roll-Fact}
use Rattle.cw_facts.specs.declared.fact.Kind.TheVariants as kind
use Rattle.cw_facts.specs.Facts.{declares, specifies, answer_facts, parameters_facts, block_facts}
use Rattle.cw_facts.specs.Signatures.{flattened}
use Rattle.cw_facts.specs.Text.{communicators_facts}
use Rattle.cw_grammar.specs.Tokens.{is_identifier}
use Rattle.cw_scope.specs.declared.resolve.Named.{Named}
use Rattle.cw_scope.specs.Outcome.{Resolves}
use Rattle.cw_scope.specs.Resolved.{declarations_step, fact_declarations, text_declarations}
use Rattle.std.specs.declared.result.Result.TheVariants as results
use Rattle.cw_items.specs.declared.thing.Sort.{Sort}
use Rattle.cw_items.specs.declared.thing.Sort.TheVariants as sort
use Rattle.cw_items.specs.Things.{text_things}
use Rattle.cw_number.specs.declared.numbered.Numbered.{Numbered}
use Rattle.cw_number.specs.Listed.{listed_of}
use Rattle.cw_number.specs.Numbers.{numbers_of}
use Rattle.cw_make_items.specs.Lookup.{line_of}
use Rattle.cw_make_items.specs.Items.{addresses_of, declared_name, item_name, item_line}
use Rattle.cw_preset.specs.Held.{held_of}
use Rattle.cw_make.specs.Made.{unit_of}
use Rattle.cw_unit.specs.declared.unit.Item.{Item}
use Rattle.cw_unit.specs.declared.unit.Proc.{Proc}
use Rattle.cw_fields.specs.Names.{is_name, is_empty, is_name_or_empty}
use Rattle.cw_obj.specs.ReferenceObject.{name_or_none, proc_name, owner_name, entry_of}
use Rattle.cw_writable.specs.Front.Front.{is_titled}
use Rattle.cw_writable.proofs.Front.Truth.{lt_true, both}
use Rattle.cw_sound.proofs.Names.ListedNumbers.{declarations_append}
use Rattle.cw_sound.proofs.Names.ListedRows.{declared_row}
use Rattle.cw_sound.proofs.Names.Parts.{Switches, Part, procedure_with, both as together, items, block, procedure, more}
use Rattle.cw_sound.proofs.Names.TreeParts.{block_parts}
use Rattle.cw_sound.proofs.Items.Numbering.{made-of}
use Rattle.cw_sound.specs.Written.Counts.{Each}
use Rattle.cw_sound.specs.Written.Identified.{IsIdentified, HasIdentifiers}
use Rattle.cw_sound.proofs.Written.Segment.{identifier_is_name}

each_left : {A : Type 0} (P : A → Type 0) (xs ys : List A) → Each P (xs ++ ys) → Each P xs
each_left P [] ys h = tt
each_left P (x ∷ xs) ys h = (h.0, each_left P xs ys h.1)

each_right : {A : Type 0} (P : A → Type 0) (xs ys : List A) → Each P (xs ++ ys) → Each P ys
each_right P [] ys h = h
each_right P (x ∷ xs) ys h = each_right P xs ys h.1

pub each_both : {A : Type 0} (P : A → Type 0) (xs ys : List A) → Each P xs → Each P ys → Each P (xs ++ ys)
each_both P [] ys h k = k
each_both P (x ∷ xs) ys h k = (h.0, each_both P xs ys h.1 k)

-- ---- procedures

abbrev Identified : List Fact → Type 0
Identified fs = Each IsIdentified (text_declarations fs)

pub block_rows : (o : Option ℕ) (fs : List Fact) → fact_declarations (fact.Block o fs) ≡ text_declarations fs
block_rows o fs = ap fact_declarations (sym (fact.rolls-Block o fs)) ∙ fold-roll-Fact (List (Row Declaration)) declarations_step (layer.Block o fs)

in_block : (o : Option ℕ) (fs : List Fact) → Identified (fact.Block o fs ∷ []) → Identified fs
in_block o fs h = subst (Each IsIdentified) (block_rows o fs) (each_left IsIdentified (fact_declarations (fact.Block o fs)) [] h)

parts_of : (fs gs : List Fact) → Identified (fs ++ gs) → Identified fs × Identified gs
parts_of fs gs h =
    let k = subst (Each IsIdentified) (declarations_append fs gs) h in
    (each_left IsIdentified (text_declarations fs) (text_declarations gs) k, each_right IsIdentified (text_declarations fs) (text_declarations gs) k)

abbrev NameFits : Proc → Type 0
NameFits q = IsTrue (is_name q.name)

module _ (named : Named) (numbers : List (Row Numbered)) where
  own_name : (p : RawProc) (fs : List Fact) → Identified (procedure_with named numbers p fs) → is_identifier (out-RawProc p).name.name ≡ true
  own_name p fs h =
      let x = out-RawProc p in
      let rest : List Fact = specifies x.name.at.token x.answer (flattened x.params) ∷ fact.Block (Some x.name.at.token) (answer_facts x.answer ++ (parameters_facts x.params ++ fs)) ∷ [] in
      (subst (Each IsIdentified) (declared_row (λ t. Unit {0}) x.name (kind.Proc x.answer)) (each_left IsIdentified (fact_declarations (declares x.name (kind.Proc x.answer))) (text_declarations rest) h)).0

  in_body : (p : RawProc) (fs : List Fact) → Identified (procedure_with named numbers p fs) → Identified fs
  in_body p fs h =
      let x = out-RawProc p in
      let inside : List Fact = answer_facts x.answer ++ (parameters_facts x.params ++ fs) in
      let first : Fact = specifies x.name.at.token x.answer (flattened x.params) in
      let a = each_right IsIdentified (fact_declarations (declares x.name (kind.Proc x.answer))) (text_declarations (first ∷ fact.Block (Some x.name.at.token) inside ∷ [])) h in
      let b = each_right IsIdentified (fact_declarations first) (text_declarations (fact.Block (Some x.name.at.token) inside ∷ [])) a in
      let c = in_block (Some x.name.at.token) inside b in
      (parts_of (parameters_facts x.params) fs (parts_of (answer_facts x.answer) (parameters_facts x.params ++ fs) c).1).1

  names_fit : {fs : List Fact} {ws : Switches} {qs : List Proc} {s : ℕ → Bool} → Part named numbers fs ws qs s → Identified fs → Each NameFits qs
  names_fit (together {fs = fs} {gs = gs} {ps = ps} {qs = qs} a b) h =
      let k = parts_of fs gs h in
      each_both NameFits ps qs (names_fit a k.0) (names_fit b k.1)
  names_fit (block {fs = fs} a) h = names_fit a (in_block None fs h)
  names_fit (procedure p {fs = fs} a) h = (identifier_is_name (out-RawProc p).name.name (own_name p fs h), names_fit a (in_body p fs h))
  names_fit (more x a) h = names_fit a h
  names_fit _ h = tt

-- ---- items

or_right : (b : Bool) → IsTrue (b || true)
or_right true = refl
or_right false = refl

name_is : (w : List ℕ) → is_identifier w ≡ true → IsTrue (is_name_or_empty w)
name_is w h = either (is_empty w) (is_name w) (identifier_is_name w h)
  where
    either : (a b : Bool) → IsTrue b → IsTrue (a || b)
    either true b k = refl
    either false b k = k

row_named : (rs : List (Row Declaration)) → Each IsIdentified rs → (token : ℕ) (o : Option Declaration) → item_at rs token ≡ o → IsTrue (is_name_or_empty (name_or_none (declared_name o)))
row_named rs h token None e = refl
row_named [] h token (Some d) e = absurd (cc)
row_named (r ∷ rs) h token (Some d) e = of_test (nat_eq token r.token) refl (λ f. row_named rs h.1 token (Some d) f)
  where
    of_test : (b : Bool) → nat_eq token r.token ≡ b → (item_at rs token ≡ Some d → IsTrue (is_name_or_empty d.name.name)) → IsTrue (is_name_or_empty d.name.name)
    of_test true q later =
        let is : Some r.item ≡ Some d = sym (ap (λ b. option_map (λ (x : Row Declaration). x.item) (cond b (Some r) (find (stands_at token) rs))) q) ∙ e in
        subst (λ (x : Declaration). IsTrue (is_name_or_empty x.name.name)) (same_Some r.item d is) (name_is r.item.name.name h.0)
    of_test false q later = later (sym (ap (λ b. option_map (λ (x : Row Declaration). x.item) (cond b (Some r) (find (stands_at token) rs))) q) ∙ e)

own_titled : (s : Sort) (at : Position) (o : Option Declaration) → IsTrue (is_name_or_empty (name_or_none (declared_name o)))
    → IsTrue (is_name_or_empty (name_or_none (item_name s o)) && (nat_lt (item_line s at) 65536 && (is_empty (name_or_none (item_name s o)) || nat_eq (item_line s at) 0)))
own_titled sort.Named at o h = both (is_name_or_empty (name_or_none (declared_name o))) (true && (is_empty (name_or_none (declared_name o)) || true)) h (or_right (is_empty (name_or_none (declared_name o))))
own_titled sort.Text at o h = both (nat_lt (line_of at) 65536) true (lt_true (line_of at) 65536 (omega arith)) refl
own_titled sort.Loop at o h = both (nat_lt (line_of at) 65536) true (lt_true (line_of at) 65536 (omega arith)) refl

proc_named : (qs : List Proc) → Each NameFits qs → (q : ℕ) → IsTrue (is_name_or_empty (proc_name (slice_get qs q)))
proc_named [] h q = refl
proc_named (x ∷ xs) h zero = either (is_empty x.name) (is_name x.name) h.0
  where
    either : (a b : Bool) → IsTrue b → IsTrue (a || b)
    either true b k = refl
    either false b k = k
proc_named (x ∷ xs) h (suc q) = proc_named xs h.1 q

module _ (named : Named) (resolves : Resolves named.raw.now (results.Ok named)) (names : HasIdentifiers named.raw.now) where
  procs_named : Each NameFits (unit_of named).procs
  procs_named =
      names_fit named (numbers_of named) (block_parts named (numbers_of named) named.raw.now.block true)
      (parts_of (communicators_facts named.raw.now.comms) (block_facts named.raw.now.block true) names).1

  owner_named : (o : Option ℕ) → IsTrue (is_name_or_empty (owner_name (unit_of named) o))
  owner_named None = refl
  owner_named (Some q) = proc_named (unit_of named).procs procs_named q

  pub items_titled : (i : ℕ) (x : Item) → slice_get (unit_of named).items i ≡ Some x → IsTrue (is_titled (entry_of (unit_of named) (0, 0) x))
  items_titled i x e =
      let m = made-of named.declarations (numbers_of named) (listed_of named.raw.now) (addresses_of named.raw.now.comms) (held_of named.raw.now) (text_things named named.raw.now) i x e in
      let t = m.0 in
      let o : Option Declaration = item_at named.declarations t.at.token in
      let own = own_titled t.sort t.at o (row_named named.declarations (subst (Each IsIdentified) (sym resolves.3) names) t.at.token o refl) in
      let rest = λ (y : Item). (is_name_or_empty (name_or_none y.name) && (nat_lt y.line 65536 && (is_empty (name_or_none y.name) || nat_eq y.line 0))) in
      both (is_name_or_empty (owner_name (unit_of named) x.owner)) (rest x) (owner_named x.owner) (subst (λ (y : Item). IsTrue (rest y)) m.2 own)
