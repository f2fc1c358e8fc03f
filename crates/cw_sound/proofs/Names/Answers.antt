-- ANSWER is used in the body of a procedure that has an answer of its type.
use Rattle.std.proofs.Common.{◌≡◌, ◌⊎◌, inl, inr, ℕ, List, [], ◌∷◌, ◌++◌, Bool, true, false, IsTrue, Option, Some, None, slice_get, refl, sym, ap, subst, ◌∙◌}
use Rattle.std.specs.Prelude.{option_map, option_and_then}
use Rattle.cw_table.specs.Rows.{item_at}
use Rattle.cw_tree.specs.declared.leaf.RawName.{RawName}
use Rattle.cw_tree.specs.declared.leaf.RawType.{RawType}
use Rattle.cw_tree.specs.declared.statement.RawParam.{RawParam}
use Rattle.cw_tree.specs.declared.statement.RawParam.TheVariants as raw
use Rattle.cw_tree.specs.declared.statement.RawProc.{RawProc, out-RawProc}
use Rattle.cw_facts.specs.declared.fact.Fact.{Fact}
use Rattle.cw_facts.specs.declared.fact.Kind.{Kind as NameKind}
use Rattle.cw_facts.specs.declared.fact.Kind.TheVariants as kind
use Rattle.cw_facts.specs.Facts.{specifies, each_uses, elements_facts, data_facts, answer_facts, answer_name, type_position, parameter_facts, parameters_facts}
use Rattle.cw_facts.specs.Signatures.{plain}
use Rattle.cw_scope.specs.declared.resolve.Named.{Named}
use Rattle.cw_make_items.specs.Lookup.{Numbers, proc_here}
use Rattle.cw_unit.specs.declared.unit.Proc.{Proc}
use Rattle.cw_unit.specs.declared.unit.Switch.{Switch}
use Rattle.cw_sound.specs.Uses.Mentions.{In, Mention, Here, here, declares as declared, uses, stores, facts_mentions}
use Rattle.cw_sound.proofs.Names.Lists.{in_left, in_right, in_either}
use Rattle.cw_sound.proofs.Names.Rows.{mentions_append}
use Rattle.cw_sound.proofs.Names.Sorts.{of_kind}
use Rattle.cw_sound.proofs.Names.Parts as part
use Rattle.cw_sound.proofs.Names.Parts.{Part, is_plain}
use Rattle.cw_sound.proofs.Names.MentionsOf.{Says, declared_first, block_alone}
use Rattle.cw_sound.proofs.Names.InProcedure.{is_taken, all_say}
use Rattle.cw_sound.proofs.Names.PartKinds.{IsData, is_data, data_say, uses_say, shape, answers, params, body, first_mention, within_it}

-- the procedure of an answer, which is declared in the same part
pub record Owned (numbers : Numbers) (ms : List Here) (q : Option ℕ) (t : RawType) : Type 0 where
  pub owner : Option ℕ
  pub name : RawName
  pub is_declared : In (here owner (declared (record { name = name; kind = kind.Proc (Some t) }))) ms
  pub is_body : q ≡ Some (proc_here numbers name.at.token)

abbrev pub OwnedKind : Numbers → List Here → Option ℕ → NameKind → Type 0
OwnedKind numbers ms q (kind.Answer t) = Owned numbers ms q t
OwnedKind numbers ms q _ = Unit {0}

abbrev pub OwnedMention : Numbers → List Here → Option ℕ → Mention → Type 0
OwnedMention numbers ms q (declared d) = OwnedKind numbers ms q d.kind
OwnedMention numbers ms q (uses x) = Unit {0}
OwnedMention numbers ms q (stores token n) = Unit {0}

kind_in_more : (numbers : Numbers) (ms ns : List Here) (q : Option ℕ) (k : NameKind) → ((h : Here) → In h ms → In h ns) → OwnedKind numbers ms q k → OwnedKind numbers ns q k
kind_in_more numbers ms ns q (kind.Answer t) sub o =
    record { owner = o.owner; name = o.name; is_declared = sub (here o.owner (declared (record { name = o.name; kind = kind.Proc (Some t) }))) o.is_declared; is_body = o.is_body }
kind_in_more numbers ms ns q _ sub o = tt

in_more : (numbers : Numbers) (ms ns : List Here) (q : Option ℕ) (m : Mention) → ((h : Here) → In h ms → In h ns) → OwnedMention numbers ms q m → OwnedMention numbers ns q m
in_more numbers ms ns q (declared d) sub o = kind_in_more numbers ms ns q d.kind sub o
in_more numbers ms ns q (uses x) sub o = tt
in_more numbers ms ns q (stores token n) sub o = tt

abbrev is_answer : NameKind → Bool
is_answer (kind.Answer t) = true
is_answer _ = false

other_kind : (numbers : Numbers) (ms : List Here) (q : Option ℕ) (k : NameKind) → is_answer k ≡ false → OwnedKind numbers ms q k
other_kind numbers ms q (kind.Answer t) e = absurd (cc)
other_kind numbers ms q _ e = tt

other : (numbers : Numbers) (ms : List Here) (q : Option ℕ) (m : Mention) → of_kind is_answer m ≡ false → OwnedMention numbers ms q m
other numbers ms q (declared d) e = other_kind numbers ms q d.kind e
other numbers ms q (uses x) e = tt
other numbers ms q (stores token n) e = tt

data_kind : (k : NameKind) → IsTrue (is_data k) → is_answer k ≡ false
data_kind (kind.Answer t) h = absurd (cc)
data_kind _ h = refl

taken_kind : (k : NameKind) → IsTrue (is_taken k) → is_answer k ≡ false
taken_kind (kind.Answer t) h = absurd (cc)
taken_kind _ h = refl

data_so : (m : Mention) → IsData m → of_kind is_answer m ≡ false
data_so (declared d) h = data_kind d.kind h
data_so (uses x) h = refl
data_so (stores token n) h = refl

plain_so : (m : Mention) → IsTrue (is_plain m) → of_kind is_answer m ≡ false
plain_so (declared d) h = absurd (cc)
plain_so (uses x) h = refl
plain_so (stores token n) h = refl

module _ (named : Named) (numbers : Numbers) where
  abbrev pub AllOwned : List Here → Type 0
  AllOwned ms = (m : Here) → In m ms → OwnedMention numbers ms m.who m.mention

  append_owned : (xs ys : List Here) → AllOwned xs → AllOwned ys → AllOwned (xs ++ ys)
  append_owned xs ys h k m i = by_side (in_either m xs ys i)
    where
      by_side : In m xs ⊎ In m ys → OwnedMention numbers (xs ++ ys) m.who m.mention
      by_side (inl j) = in_more numbers xs (xs ++ ys) m.who m.mention (λ x. in_left x xs ys) (h m j)
      by_side (inr j) = in_more numbers ys (xs ++ ys) m.who m.mention (λ x. in_right x xs ys) (k m j)

  first_owned : (q : Option ℕ) (x : Mention) (ms : List Here) → of_kind is_answer x ≡ false → AllOwned ms → AllOwned (here q x ∷ ms)
  first_owned q x ms e h m (inl is) = subst (λ n. OwnedMention numbers (here q x ∷ ms) n.who n.mention) is (other numbers (here q x ∷ ms) q x e)
  first_owned q x ms e h m (inr i) = in_more numbers ms (here q x ∷ ms) m.who m.mention (λ y j. inr j) (h m i)

  others : (ms : List Here) → ((m : Here) → In m ms → of_kind is_answer m.mention ≡ false) → AllOwned ms
  others ms h m i = other numbers ms m.who m.mention (h m i)

  -- the answer of a procedure stands behind its name
  answer_owned : (n : RawName) (o : Option RawType) (q : Option ℕ) (rest : List Here) → AllOwned rest
      → AllOwned (here q (declared (record { name = n; kind = kind.Proc o })) ∷ (facts_mentions numbers (answer_facts o) (Some (proc_here numbers n.at.token)) ++ rest))
  answer_owned n None q rest h = first_owned q (declared (record { name = n; kind = kind.Proc None })) rest refl h
  answer_owned n (Some t) q rest h =
      subst (λ ms. AllOwned (here q (declared (record { name = n; kind = kind.Proc (Some t) })) ∷ (ms ++ rest))) (sym (declared_first numbers (answer_name (type_position t)) (kind.Answer t) [] (Some (proc_here numbers n.at.token)))) whole
    where
      whole : AllOwned (here q (declared (record { name = n; kind = kind.Proc (Some t) })) ∷ (here (Some (proc_here numbers n.at.token)) (declared (record { name = answer_name (type_position t); kind = kind.Answer t })) ∷ rest))
      whole m (inl e) =
          subst (λ x. OwnedMention numbers (here q (declared (record { name = n; kind = kind.Proc (Some t) })) ∷ (here (Some (proc_here numbers n.at.token)) (declared (record { name = answer_name (type_position t); kind = kind.Answer t })) ∷ rest)) x.who x.mention) e tt
      whole m (inr (inl e)) =
          subst (λ x. OwnedMention numbers (here q (declared (record { name = n; kind = kind.Proc (Some t) })) ∷ (here (Some (proc_here numbers n.at.token)) (declared (record { name = answer_name (type_position t); kind = kind.Answer t })) ∷ rest)) x.who x.mention) e
          (record { owner = q; name = n; is_declared = inl refl; is_body = refl })
      whole m (inr (inr i)) =
          in_more numbers rest (here q (declared (record { name = n; kind = kind.Proc (Some t) })) ∷ (here (Some (proc_here numbers n.at.token)) (declared (record { name = answer_name (type_position t); kind = kind.Answer t })) ∷ rest)) m.who m.mention (λ x j. inr (inr j)) (h m i)

  abbrev NoAnswer : Mention → Type 0
  NoAnswer m = of_kind is_answer m ≡ false

  params_say : (ps : List RawParam) → Says numbers NoAnswer (parameters_facts ps)
  params_say = all_say numbers NoAnswer (λ n k. taken_kind k)

  pub part_owned : {fs : List Fact} {ws : Option ℕ → List Switch} {ps : List Proc} {s : ℕ → Bool} → Part named numbers fs ws ps s → (q : Option ℕ) → AllOwned (facts_mentions numbers fs q)
  part_owned part.empty q = λ m i. absurd i
  part_owned (part.both {fs} {gs} a b) q = subst AllOwned (sym (mentions_append numbers fs gs q)) (append_owned (facts_mentions numbers fs q) (facts_mentions numbers gs q) (part_owned a q) (part_owned b q))
  part_owned (part.plain {fs} h) q = others (facts_mentions numbers fs q) (λ m i. plain_so m.mention (h.mentions q m i).1)
  part_owned (part.items d) q = others (facts_mentions numbers (data_facts d) q) (λ m i. data_so m.mention (data_say numbers d q m i).1)
  part_owned (part.label n) q = subst AllOwned (sym (declared_first numbers n kind.Label [] q)) (first_owned q (declared (record { name = n; kind = kind.Label })) [] refl (λ m i. absurd i))
  part_owned (part.switch n labels) q =
      subst AllOwned (sym (declared_first numbers n kind.Switch (each_uses labels) q))
      (first_owned q (declared (record { name = n; kind = kind.Switch })) (facts_mentions numbers (each_uses labels) q) refl (others (facts_mentions numbers (each_uses labels) q) (λ m i. plain_so m.mention (uses_say numbers labels q m i).1)))
  part_owned (part.block {fs} a) q = subst AllOwned (sym (block_alone numbers None fs q)) (part_owned a q)
  part_owned (part.procedure p {fs} a) q =
      subst AllOwned (sym (shape named numbers p fs q))
      (answer_owned (out-RawProc p).name (out-RawProc p).answer q (params named numbers p fs q ++ body named numbers p fs q)
      (append_owned (params named numbers p fs q) (body named numbers p fs q) (others (params named numbers p fs q) (λ m i. (params_say (out-RawProc p).params (within_it named numbers p fs q) m i).1)) (part_owned a (within_it named numbers p fs q))))
  part_owned (part.more h a) q = part_owned a q
