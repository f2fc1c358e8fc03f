-- READBYTE and WRITEBYTE stand for themselves.
use Rattle.std.proofs.Common.{◌≡◌, ◌≢◌, ◌⊎◌, inl, inr, ℕ, ◌+◌, ◌<◌, List, [], ◌∷◌, ◌++◌, map, Bool, true, false, cond, nat_le, IsTrue, ◌&&◌, pos, int_le, Option, Some, None, refl, sym, ap, subst, ◌∙◌, arith}
use Rattle.std.specs.declared.result.Result.TheVariants as result
use Rattle.cw_table.specs.declared.table.Row.{Row}
use Rattle.cw_table.specs.Rows.{item_at}
use Rattle.cw_tree.specs.declared.leaf.RawName.{RawName}
use Rattle.cw_tree.specs.declared.leaf.RawType.{RawType}
use Rattle.cw_tree.specs.declared.leaf.RawType.TheVariants as type
use Rattle.cw_tree.specs.declared.segment.RawIps.{RawIps}
use Rattle.cw_tree.specs.declared.segment.RawIps.TheVariants as inner
use Rattle.cw_tree.specs.declared.segment.RawPs.{RawPs}
use Rattle.cw_tree.specs.declared.segment.RawPs.TheVariants as ps
use Rattle.cw_tree.specs.declared.segment.RawSpec.{RawSpec}
use Rattle.cw_tree.specs.declared.leaf.RawInt.{RawInt}
use Rattle.cw_tree.specs.declared.leaf.RawInt.TheVariants as int
use Rattle.cw_tree.specs.declared.leaf.RawSint.{RawSint}
use Rattle.cw_facts.specs.declared.fact.Fact.{Fact}
use Rattle.cw_facts.specs.declared.fact.Declaration.{Declaration}
use Rattle.cw_facts.specs.declared.fact.Kind.{Kind as NameKind}
use Rattle.cw_facts.specs.declared.fact.Kind.TheVariants as kind
use Rattle.cw_facts.specs.declared.fact.Signature.{Signature}
use Rattle.cw_facts.specs.Facts.{declares, specifies, block_facts}
use Rattle.cw_facts.specs.Text.{spec_facts, communicators_facts, text_facts}
use Rattle.cw_scope.specs.declared.resolve.Named.{Named}
use Rattle.cw_scope.specs.Outcome.{Resolves}
use Rattle.cw_scope.specs.Definitions.{fits_built_in, fits_built_in_if, answers_integer, answers_nothing, takes_nothing, takes_integer, is_integer_value}
use Rattle.cw_scope.specs.Resolved.{text_declarations, text_signatures}
use Rattle.cw_scope.specs.Same.{same_amount, same_signed}
use Rattle.cw_scale.specs.Kinds.{kind_of, answer_fraction, fraction_in, fraction_of_sint}
use Rattle.cw_amount.specs.Amounts.{whole, octal, int_amount, is_negative, signed_if, sint_amount, word_of, place_amount}
use Rattle.std.proofs.lemmas.Bool.Decides.{nat_tests}
use Rattle.cw_items.specs.Things.{text_things}
use Rattle.cw_number.specs.declared.listed.Listing.{Listing}
use Rattle.cw_number.specs.declared.numbered.Numbered.{Numbered}
use Rattle.cw_number.specs.declared.numbered.Numbered.TheVariants as numbered
use Rattle.cw_number.specs.Listed.{listed_of}
use Rattle.cw_number.specs.Numbers.{item_rows, listed_rows, declared_rows, none_counted, built_in_number, own_number, begin_of, numbers_of}
use Rattle.cw_make_expr.specs.Parts.{target_of, number_of}
use Rattle.cw_make_items.specs.Lookup.{Numbers}
use Rattle.cw_make_items.specs.Descriptors.{descs_of}
use Rattle.cw_unit.specs.declared.unit.Unit.{Unit as SourceUnit}
use Rattle.cw_unit.specs.declared.descriptor.Desc.{Desc}
use Rattle.cw_unit.specs.Scales.{answer_scale}
use Rattle.cw_safety.specs.Kinds.{WordKind}
use Rattle.cw_sound.specs.Uses.Mentions.{In, Here, here, declares as declared, facts_mentions, listed_mentions, text_mentions}
use Rattle.cw_sound.specs.Uses.Stands.{StandsAs, Called, IsReader, IsWriter, kind_specified}
use Rattle.cw_sound.specs.Names.Placed.{Placed, tokens, Each, Differ}
use Rattle.cw_sound.specs.Names.Found.{Refers}
use Rattle.cw_sound.specs.Names.Standing.{is_other, is_built_in, StandsIn, StandsFrom, Stand, ItemsStand}
use Rattle.cw_sound.proofs.Names.Lists.{in_left, in_either, split}
use Rattle.cw_sound.proofs.Names.FoundRows.{found, eq_other, at_later, each_row}
use Rattle.cw_sound.proofs.Names.Rows.{row, rows_in, in_rows, facts_rows, mentions_append}
use Rattle.cw_sound.proofs.Names.MentionsOf.{declared_first, specified_first, signatures_append}
use Rattle.cw_sound.proofs.Names.Sorts.{of_kind}
use Rattle.cw_sound.proofs.Names.ListedRows.{numbered_rows}
use Rattle.cw_sound.proofs.Names.Counting.{behind_none, lt_true, steps, declared_at}
use Rattle.cw_sound.proofs.Names.ListedParts as listed
use Rattle.cw_sound.proofs.Names.ListedParts.{Listed, is_special, communicators_parts}
use Rattle.cw_sound.proofs.Names.ListedNumbers.{differ_parts, declarations_append, tokens_append, listed_each, each_map, each_both}
use Rattle.cw_sound.proofs.Names.ListedDeclarations.{ToldKind, SpecialTold, told}
use Rattle.cw_sound.proofs.Names.BuiltIns.{data_kind, is_listed, is_fitting}
use Rattle.cw_sound.proofs.Names.StandingNames.{number_here, signature_here}

-- ---- no row of what is listed has the token of one of them

clash : (b : Bool) → b ≡ true → b ≡ false → ⊥
clash true e f = cc
clash false e f = cc

module _ (numbers : Numbers) where
  alone_other : (n : RawName) (k : NameKind) (q owner : Option ℕ) (d : Declaration) → is_special k ≡ false → In (here owner (declared d)) (facts_mentions numbers (declares n k ∷ []) q) → IsTrue (is_special d.kind) → ⊥
  alone_other n k q owner d e i h = by_side (subst (In (here owner (declared d))) (declared_first numbers n k [] q) i)
    where
      by_side : In (here owner (declared d)) (here q (declared (record { name = n; kind = k })) ∷ []) → ⊥
      by_side (inl is) = clash (is_special d.kind) h (subst (λ (m : Here). of_kind is_special m.mention ≡ false) is e)
      by_side (inr j) = j

  spec_other : (k : NameKind) (s : RawSpec) (q owner : Option ℕ) (d : Declaration) → is_special k ≡ false → In (here owner (declared d)) (facts_mentions numbers (spec_facts k s) q) → IsTrue (is_special d.kind) → ⊥
  spec_other k s q owner d e i h =
      by_side (subst (In (here owner (declared d))) (declared_first numbers s.name k (specifies s.name.at.token s.answer s.params ∷ []) q ∙ ap (λ ms. here q (declared (record { name = s.name; kind = k })) ∷ ms) (specified_first numbers s.name.at.token s.answer s.params [] q)) i)
    where
      by_side : In (here owner (declared d)) (here q (declared (record { name = s.name; kind = k })) ∷ []) → ⊥
      by_side (inl is) = clash (is_special d.kind) h (subst (λ (m : Here). of_kind is_special m.mention ≡ false) is e)
      by_side (inr j) = j

  in_row : (fs : List Fact) (q owner : Option ℕ) (d : Declaration) → In (here owner (declared d)) (facts_mentions numbers fs q) → In (row d) (text_declarations fs)
  in_row fs q owner d i = subst (In (row d)) (facts_rows numbers fs q) (in_rows owner d (facts_mentions numbers fs q) i)

  either : {A B C : Type 0} → A ⊎ B → (A → C) → (B → C) → C
  either (inl x) h k = h x
  either (inr y) h k = k y

  rows_apart : {fs : List Fact} {rs : List (Row Listing)} {ds : List Desc} → Listed fs rs ds → Differ (tokens (text_declarations fs)) → (q owner : Option ℕ) (d : Declaration) → In (here owner (declared d)) (facts_mentions numbers fs q) → IsTrue (is_special d.kind) → Each (λ s. s ≢ d.name.at.token) (tokens rs)
  rows_apart (listed.also {fs} {gs} {rs} {qs} a b) differ q owner d i h =
      let t : ℕ = d.name.at.token in
      let parts = differ_parts (tokens (text_declarations fs)) (tokens (text_declarations gs)) (subst Differ (ap tokens (declarations_append fs gs) ∙ tokens_append (text_declarations fs) (text_declarations gs)) differ) in
      subst (Each (λ s. s ≢ t)) (sym (tokens_append rs qs))
      (either (in_either (here owner (declared d)) (facts_mentions numbers fs q) (facts_mentions numbers gs q) (subst (In (here owner (declared d))) (mentions_append numbers fs gs q) i))
      (λ j. each_both (λ s. s ≢ t) (tokens rs) (tokens qs) (rows_apart a parts.0 q owner d j h)
      (listed_each b (λ s. s ≢ t)
      (each_map (λ y. t ≢ y) (λ y. y ≢ t) (tokens (text_declarations gs)) (λ y k e. k (sym e)) (each_row (λ x. Each (λ y. x ≢ y) (tokens (text_declarations gs))) (text_declarations fs) parts.2 (row d) (in_row fs q owner d j)))))
      (λ j. each_both (λ s. s ≢ t) (tokens rs) (tokens qs)
      (listed_each a (λ s. s ≢ t) (each_map (λ x. Each (λ y. x ≢ y) (tokens (text_declarations gs))) (λ x. x ≢ t) (tokens (text_declarations fs)) (λ x k. each_row (λ y. x ≢ y) (text_declarations gs) k (row d) (in_row gs q owner d j)) parts.2))
      (rows_apart b parts.1 q owner d j h)))
  rows_apart (listed.stored n k x e w) differ q owner d i h = absurd (alone_other n k q owner d (data_kind k e) i h)
  rows_apart (listed.label n) differ q owner d i h = absurd (alone_other n kind.Label q owner d refl i h)
  rows_apart (listed.switch n) differ q owner d i h = absurd (alone_other n kind.Switch q owner d refl i h)
  rows_apart (listed.procedure l s) differ q owner d i h = absurd (spec_other (kind.Proc s.answer) s q owner d refl i h)
  rows_apart _ differ q owner d i h = tt

none_apart : {T : Type 0} → (rs : List (Row T)) (t : ℕ) → Each (λ s. s ≢ t) (tokens rs) → item_at rs t ≡ None
none_apart [] t h = refl
none_apart (r ∷ rs) t h = at_later r rs t (eq_other t r.token h.0) ∙ none_apart rs t h.1

-- ---- what they are specified as

and_parts : (a b : Bool) → IsTrue (a && b) → IsTrue a × IsTrue b
and_parts true b h = (refl, h)
and_parts false b h = absurd (cc)

no_params : (params : List RawPs) → IsTrue (takes_nothing params) → params ≡ []
no_params [] h = refl
no_params (p ∷ more) h = absurd (cc)

one_value : (p : RawIps) → IsTrue (is_integer_value p) → kind_specified (ps.Plain p) ≡ WordKind
one_value (inner.Value at t) h = refl
one_value _ h = absurd (cc)

one_word : (params : List RawPs) → IsTrue (takes_integer params) → map kind_specified params ≡ WordKind ∷ []
one_word [] h = absurd (cc)
one_word (ps.Plain p ∷ []) h = ap (λ k. k ∷ []) (one_value p h)
one_word (ps.Plain p ∷ q ∷ more) h = absurd (cc)
one_word (ps.Proc answer at params ∷ more) h = absurd (cc)

no_answer : (o : Option RawType) → IsTrue (answers_nothing o) → answer_fraction o ≡ 0
no_answer None h = refl
no_answer (Some t) h = absurd (cc)

-- INTEGER has no bits after the point, however it is written
zero_fraction : (negative : Bool) (v : Option ℕ) → IsTrue (same_signed (signed_if negative v) (Some (pos 0)) false) → fraction_in negative v ≡ 0
zero_fraction negative None h = refl
zero_fraction true (Some n) h = refl
zero_fraction false (Some n) h =
    let less = (and_parts (int_le (pos n) (pos 0)) (int_le (pos 0) (pos n)) h).0 in
    none_left n (at_most n less)
  where
    at_most : (n : ℕ) → IsTrue (int_le (pos n) (pos 0)) → n ≡ 0
    at_most n e = grind (arith, nat_tests, e)

    none_left : (n : ℕ) → n ≡ 0 → fraction_in false (Some n) ≡ 0
    none_left n e = ap (λ m. fraction_in false (Some m)) e

zero_octal : (negative : Bool) (v : Option ℕ) → IsTrue (same_signed (signed_if negative v) (Some (pos 0)) false) → fraction_in negative (word_of v) ≡ 0
zero_octal negative None h = refl
zero_octal negative (Some n) h = by_test (nat_le n 65535) (zero_fraction negative (Some n) h)
  where
    by_test : (b : Bool) → fraction_in negative (Some n) ≡ 0 → fraction_in negative (cond b (Some n) None) ≡ 0
    by_test true e = e
    by_test false e = refl

zero_of : (f : RawSint) → IsTrue (same_signed (sint_amount f) (Some (pos 0)) false) → fraction_of_sint f ≡ 0
zero_of f h = by_value f.value h
  where
    by_value : (v : RawInt) → IsTrue (same_signed (signed_if (is_negative f.sign) (int_amount v)) (Some (pos 0)) false) → fraction_in (is_negative f.sign) (place_amount v) ≡ 0
    by_value (int.Number n) e = zero_fraction (is_negative f.sign) (whole n.number) e
    by_value (int.Octal n) e = zero_octal (is_negative f.sign) (octal n.number.number) e

integer_answer : (o : Option RawType) → IsTrue (answers_integer o) → answer_fraction o ≡ 0
integer_answer None h = absurd (cc)
integer_answer (Some (type.Integer at)) h = refl
integer_answer (Some (type.Fixed at t f)) h = zero_of f (and_parts (same_amount (int_amount t) (Some 16) false) (same_signed (sint_amount f) (Some (pos 0)) false) h).1

-- ---- their numbers

special_of : (k : NameKind) → IsTrue (is_built_in k) → IsTrue (is_special k)
special_of kind.ReadByte h = refl
special_of kind.WriteByte h = refl
special_of kind.Bounds h = refl
special_of _ h = absurd (cc)

module _ (named : Named) (numbers : Numbers) (u : SourceUnit) (resolves : Resolves named.raw.now (result.Ok named)) (placed : Placed named.raw.now) (items : ItemsStand named numbers u) (is : numbers ≡ numbers_of named) where
  abbrev comms : List Fact
  comms = communicators_facts named.raw.now.comms

  abbrev rows : List (Row Listing)
  rows = listed_of named.raw.now

  comm_parts : Listed comms rows (descs_of numbers rows (text_things named named.raw.now) named.raw.now.comms)
  comm_parts = communicators_parts numbers rows (text_things named named.raw.now) named.raw.now.comms

  sigs_differ : Differ (tokens named.signatures)
  sigs_differ = subst (λ rs. Differ (tokens rs)) (sym resolves.4) placed.signatures

  comms_differ : Differ (tokens (text_declarations comms))
  comms_differ =
      (differ_parts (tokens (text_declarations comms)) (tokens (text_declarations (block_facts named.raw.now.block true)))
      (subst Differ (ap tokens (declarations_append comms (block_facts named.raw.now.block true)) ∙ tokens_append (text_declarations comms) (text_declarations (block_facts named.raw.now.block true))) placed.declarations)).0

  module _ (owner : Option ℕ) (d : Declaration) (h : IsTrue (is_special d.kind)) (i : In (here owner (declared d)) (text_mentions numbers named.raw.now)) where
    in_listed : In (here owner (declared d)) (listed_mentions numbers named.raw.now)
    in_listed = is_listed named numbers (text_things named named.raw.now) resolves placed owner d h i

    below : d.name.at.token < begin_of named.raw.now
    below = each_row (λ t. t < begin_of named.raw.now) (text_declarations comms) placed.listed (row d) (in_row numbers comms None owner d in_listed)

    number_is : (number : Numbered) → built_in_number d.kind ≡ Some number → IsTrue (is_other d.kind) → item_at numbers d.name.at.token ≡ Some number
    number_is number e other =
        let begin : ℕ = begin_of named.raw.now in
        let cut = split (here owner (declared d)) (text_mentions numbers named.raw.now) i in
        let rows_are = sym (facts_rows numbers (text_facts named.raw.now) None) ∙ ap rows_in cut.2 in
        let differ = subst (λ rs. Differ (tokens rs)) rows_are placed.declarations in
        let here_number = ap (λ b. cond b (built_in_number d.kind) (own_number (steps begin none_counted cut.0) d.kind)) (lt_true d.name.at.token begin below) ∙ e in
        ap (λ ns. item_at ns d.name.at.token) is
        ∙ behind_none (item_rows 0 (text_things named named.raw.now)) (listed_rows 0 rows ++ declared_rows begin none_counted named.declarations) d.name.at.token (items.others owner d other i)
        ∙ behind_none (listed_rows 0 rows) (declared_rows begin none_counted named.declarations) d.name.at.token
        (none_apart (listed_rows 0 rows) d.name.at.token (numbered_rows (λ s. s ≢ d.name.at.token) 0 rows (rows_apart numbers comm_parts comms_differ None owner d in_listed h)))
        ∙ ap (λ rs. item_at (declared_rows begin none_counted rs) d.name.at.token) (resolves.3 ∙ rows_are)
        ∙ declared_at begin none_counted cut.0 owner d cut.1 number differ here_number

    told_here : ToldKind numbers named.signatures rows (descs_of numbers rows (text_things named named.raw.now) named.raw.now.comms) d.name d.kind
    told_here =
        told numbers named.signatures comm_parts None
        (λ r j. subst (In r) (sym (resolves.4 ∙ signatures_append comms (block_facts named.raw.now.block true))) (in_left r (text_signatures comms) (text_signatures (block_facts named.raw.now.block true)) j))
        (here owner (declared d)) in_listed

    fits_here : (s : Signature) → In (record { token = d.name.at.token; item = s }) named.signatures → IsTrue (fits_built_in d.kind s)
    fits_here s j =
        subst (λ o. IsTrue (fits_built_in_if d.kind o)) (found named.signatures (record { token = d.name.at.token; item = s }) sigs_differ j)
        (is_fitting named numbers (text_things named named.raw.now) resolves placed owner d h i)

    -- a built-in procedure that is told as its kind wants it
    called : (k : NameKind) (number : Numbered) (who : Option ℕ) (Is : List RawPs → Option Numbered → Type 0) → d.kind ≡ k → built_in_number k ≡ Some number → IsTrue (is_other k) → (t : SpecialTold numbers named.signatures d.name) (n : RawName) → Refers named n d
        → (IsTrue (fits_built_in k (record { answer = t.0; params = t.1 })) → (number_of named numbers n ≡ Some number → Is t.1 (number_of named numbers n)) × (answer_scale u (target_of (kind_of named n) (Some number)) ≡ answer_fraction t.0))
        → (answer : Option RawType) × Called named numbers u who n answer Is
    called k number who Is e numbered_so other t n r so =
        let fit = so (subst (λ z. IsTrue (fits_built_in z (record { answer = t.0; params = t.1 }))) e (fits_here (record { answer = t.0; params = t.1 }) t.2)) in
        let is_number = number_here named numbers u n d r ∙ number_is number (ap built_in_number e ∙ numbered_so) (ap is_other e ∙ other) in (
          t.0,
          record {
            params = t.1;
            signature = signature_here named numbers u n d (record { answer = t.0; params = t.1 }) sigs_differ r t.2;
            is = fit.0 is_number;
            scale = ap (λ o. answer_scale u (target_of (kind_of named n) o)) is_number ∙ fit.1;
          },
        )

    reads : d.kind ≡ kind.ReadByte → SpecialTold numbers named.signatures d.name → (who : Option ℕ) (n : RawName) → Refers named n d → StandsAs named numbers u who kind.ReadByte n
    reads e t who n r =
        called kind.ReadByte numbered.ReadByte who (IsReader named numbers u who) e refl refl t n r
        (λ fit. let p = and_parts (answers_integer t.0) (takes_nothing t.1) fit in (λ is. (no_params t.1 p.1, is), sym (integer_answer t.0 p.0)))

    writes : d.kind ≡ kind.WriteByte → SpecialTold numbers named.signatures d.name → (who : Option ℕ) (n : RawName) → Refers named n d → StandsAs named numbers u who kind.WriteByte n
    writes e t who n r =
        called kind.WriteByte numbered.WriteByte who (IsWriter named numbers u who) e refl refl t n r
        (λ fit. let p = and_parts (answers_nothing t.0) (takes_integer t.1) fit in (λ is. (one_word t.1 p.1, is), sym (no_answer t.0 p.0)))

    by_kind : (k : NameKind) → d.kind ≡ k → IsTrue (is_built_in k) → ToldKind numbers named.signatures rows (descs_of numbers rows (text_things named named.raw.now) named.raw.now.comms) d.name k → (who : Option ℕ) → StandsIn named numbers u who d
    by_kind kind.ReadByte e b t who n r = subst (λ z. StandsAs named numbers u who z n) (sym e) (reads e t who n r)
    by_kind kind.WriteByte e b t who n r = subst (λ z. StandsAs named numbers u who z n) (sym e) (writes e t who n r)
    by_kind _ e b x who n r = absurd (cc)

  by_owner : (d : Declaration) (o : Option ℕ) → ((who : Option ℕ) → StandsIn named numbers u who d) → StandsFrom named numbers u o d
  by_owner d None s = s
  by_owner d (Some p) s = s (Some p)

  pub built_ins_stand : Stand named numbers u is_built_in (text_mentions numbers named.raw.now)
  built_ins_stand owner d h i = by_owner d owner (by_kind owner d (special_of d.kind h) i d.kind refl h (told_here owner d (special_of d.kind h) i))
