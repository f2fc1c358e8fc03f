-- The procedures that the outermost block declares have the numbers from 0 on: what stands beside each of them, with its number.
use Rattle.std.proofs.Common.{◌≡◌, ℕ, suc, ◌+◌, arith, List, [], ◌∷◌, ◌++◌, length, Bool, true, false, cond, IsTrue, Option, Some, refl, sym, ap, subst, ◌∙◌, append_assoc, length-append}
use Rattle.cw_table.specs.Rows.{item_at}
use Rattle.cw_facts.specs.declared.fact.Declaration.{Declaration}
use Rattle.cw_facts.specs.declared.fact.Kind.{Kind as NameKind}
use Rattle.cw_facts.specs.declared.fact.Kind.TheVariants as kind
use Rattle.cw_scope.specs.declared.resolve.Named.{Named}
use Rattle.cw_number.specs.declared.numbers.Counts.{Counts}
use Rattle.cw_number.specs.declared.numbered.Numbered.TheVariants as numbered
use Rattle.cw_number.specs.Numbers.{own_number, none_counted}
use Rattle.cw_make_items.specs.Lookup.{Numbers}
use Rattle.cw_sound.specs.Uses.Mentions.{In, Mention, Here, here, declares, uses, stores, block_mentions}
use Rattle.cw_sound.specs.Names.Placed.{Placed}
use Rattle.cw_sound.specs.Names.Standing.{is_own_procedure, counted_from, CountsOwn}
use Rattle.cw_sound.proofs.Names.Lists.{in_middle}
use Rattle.cw_sound.proofs.Names.Picking.{pick_append, Zip}
use Rattle.cw_sound.proofs.Names.PartKinds.{procs_in}
use Rattle.cw_sound.proofs.Names.Sorts.{of_kind, few_before, procedures_before}

numbered_procedure : (k : NameKind) (c : Counts) → IsTrue (is_own_procedure k) → own_number c k ≡ Some (numbered.Proc c.procs)
numbered_procedure (kind.Proc t) c h = refl
numbered_procedure _ c h = absurd (cc)

module _ (named : Named) (numbers : Numbers) (placed : Placed named.raw.now) (counts : CountsOwn named numbers) where
  abbrev all : List Here
  all = block_mentions numbers named.raw.now

  number_there : (before after : List Here) (owner : Option ℕ) (d : Declaration) → all ≡ before ++ here owner (declares d) ∷ after → IsTrue (is_own_procedure d.kind) → item_at numbers d.name.at.token ≡ Some (numbered.Proc (length (procs_in before)))
  number_there before after owner d split test =
      let count = procedures_before before (few_before numbers named.raw.now placed is_own_procedure before after (here owner (declares d)) split) in
      counts before after owner d (numbered.Proc (length (procs_in before))) split (numbered_procedure d.kind (counted_from none_counted before) test ∙ ap (λ n. Some (numbered.Proc n)) count)

  module _ {X : Type 0} (R : Here → X → Type 0) where
    -- the declaration of a procedure with its number
    pub record At (n : ℕ) (x : X) : Type 0 where
      pub owner : Option ℕ
      pub declaration : Declaration
      pub is_declared : In (here owner (declares declaration)) all
      pub number : item_at numbers declaration.name.at.token ≡ Some (numbered.Proc n)
      pub related : R (here owner (declares declaration)) x

    abbrev pub From : ℕ → List X → Type 0
    From n [] = Unit {0}
    From n (x ∷ xs) = At n x × From (suc n) xs

    at_mention : (before after : List Here) (owner : Option ℕ) (m : Mention) (x : X) → all ≡ before ++ here owner m ∷ after → of_kind is_own_procedure m ≡ true → R (here owner m) x → At (length (procs_in before)) x
    at_mention before after owner (declares d) x split test r = record {
      owner = owner;
      declaration = d;
      is_declared = subst (In (here owner (declares d))) (sym split) (in_middle (here owner (declares d)) before after);
      number = number_there before after owner d split test;
      related = r;
    }
    at_mention before after owner (uses y) x split test r = absurd (cc)
    at_mention before after owner (stores token n) x split test r = absurd (cc)

    longer : (b : Bool) (m : Here) → length (cond b (m ∷ []) []) ≡ cond b 1 0
    longer true m = refl
    longer false m = refl

    size_with : (before : List Here) (m : Here) (b : Bool) → of_kind is_own_procedure m.mention ≡ b → length (procs_in (before ++ m ∷ [])) ≡ length (procs_in before) + cond b 1 0
    size_with before m b e =
        ap length (pick_append (of_kind is_own_procedure) before (m ∷ [])) ∙ length-append (procs_in before) (procs_in (m ∷ []))
        ∙ ap (λ k. length (procs_in before) + k) (longer (of_kind is_own_procedure m.mention) m ∙ ap (λ c. cond c 1 0) e)

    from : (before ms : List Here) (xs : List X) → all ≡ before ++ ms → Zip R (procs_in ms) xs → From (length (procs_in before)) xs
    from before [] [] split h = tt
    from before [] (x ∷ xs) split h = absurd h
    from before (m ∷ ms) xs split h = by_test (λ ys k. from (before ++ m ∷ []) ms ys (split ∙ sym (append_assoc before (m ∷ []) ms)) k) (of_kind is_own_procedure m.mention) refl xs h
      where
        by_test : ((ys : List X) → Zip R (procs_in ms) ys → From (length (procs_in (before ++ m ∷ []))) ys) → (b : Bool) → of_kind is_own_procedure m.mention ≡ b → (ys : List X) → Zip R (cond b (m ∷ procs_in ms) (procs_in ms)) ys → From (length (procs_in before)) ys
        by_test later true e [] k = absurd k
        by_test later true e (y ∷ ys) k =
            let size = size_with before m true e in
            let next : length (procs_in (before ++ m ∷ [])) ≡ suc (length (procs_in before)) = omega (arith, size) in
            (at_mention before ms m.who m.mention y split e k.0, subst (λ n. From n ys) next (later ys k.1))
        by_test later false e ys k =
            let size = size_with before m false e in
            let same : length (procs_in (before ++ m ∷ [])) ≡ length (procs_in before) = omega (arith, size) in
            subst (λ n. From n ys) same (later ys k)

    pub from_start : (xs : List X) → Zip R (procs_in all) xs → From 0 xs
    from_start xs h = from [] all xs refl h
