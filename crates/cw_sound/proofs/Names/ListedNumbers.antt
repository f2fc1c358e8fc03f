-- The number of what the communicators list is its place among that.
use Rattle.std.proofs.Common.{◌≡◌, ◌≢◌, inl, inr, ℕ, zero, suc, ◌+◌, ◌≤◌, List, [], ◌∷◌, ◌++◌, length, Some, slice_get, refl, sym, ap, subst, ◌∙◌, arith, append_assoc, length-append}
use Rattle.std.proofs.lemmas.Option.{same_Some}
use Rattle.cw_table.specs.declared.table.Row.{Row}
use Rattle.cw_table.specs.Rows.{item_at}
use Rattle.cw_tree.specs.declared.leaf.RawName.{RawName}
use Rattle.cw_facts.specs.declared.fact.Fact.{Fact}
use Rattle.cw_facts.specs.declared.fact.Kind.{Kind as NameKind}
use Rattle.cw_facts.specs.declared.fact.Kind.TheVariants as kind
use Rattle.cw_facts.specs.Facts.{declares, specifies}
use Rattle.cw_scope.specs.Resolved.{fact_declarations, text_declarations}
use Rattle.cw_number.specs.declared.listed.Listing.{Listing}
use Rattle.cw_number.specs.declared.numbered.Numbered.{Numbered}
use Rattle.cw_number.specs.Listed.{row}
use Rattle.cw_number.specs.Numbers.{row_if, listed_number, listed_rows, next_short}
use Rattle.cw_unit.specs.declared.descriptor.Desc.{Desc}
use Rattle.cw_sound.specs.Uses.Mentions.{In}
use Rattle.cw_sound.specs.Names.Placed.{tokens, Each, Differ}
use Rattle.cw_sound.proofs.Names.FoundRows.{eq_same, at_first, each_row}
use Rattle.cw_sound.proofs.Names.ListedRows.{rows_both, said_first, said_second, said_name, declared_row}
use Rattle.cw_sound.proofs.Names.Counting.{skip}
use Rattle.cw_sound.proofs.Names.ListedParts.{Listed, none, also, used, stored, unlisted, label, switch, procedure, special}

-- ---- the tokens of what is listed differ

each_first : (P : ℕ → Type 0) (xs ys : List ℕ) → Each P (xs ++ ys) → Each P xs
each_first P [] ys h = tt
each_first P (x ∷ xs) ys h = (h.0, each_first P xs ys h.1)

each_second : (P : ℕ → Type 0) (xs ys : List ℕ) → Each P (xs ++ ys) → Each P ys
each_second P [] ys h = h
each_second P (x ∷ xs) ys h = each_second P xs ys h.1

pub each_both : (P : ℕ → Type 0) (xs ys : List ℕ) → Each P xs → Each P ys → Each P (xs ++ ys)
each_both P [] ys h k = k
each_both P (x ∷ xs) ys h k = (h.0, each_both P xs ys h.1 k)

abbrev Apart : List ℕ → List ℕ → Type 0
Apart xs ys = Each (λ x. Each (λ y. x ≢ y) ys) xs

pub differ_parts : (xs ys : List ℕ) → Differ (xs ++ ys) → Differ xs × Differ ys × Apart xs ys
differ_parts [] ys h = (tt, h, tt)
differ_parts (x ∷ xs) ys h =
    let rest = differ_parts xs ys h.1 in
    ((each_first (λ y. x ≢ y) xs ys h.0, rest.0), rest.1, (each_second (λ y. x ≢ y) xs ys h.0, rest.2))

differ_both : (xs ys : List ℕ) → Differ xs → Differ ys → Apart xs ys → Differ (xs ++ ys)
differ_both [] ys h k a = k
differ_both (x ∷ xs) ys h k a = (each_both (λ y. x ≢ y) xs ys h.0 a.0, differ_both xs ys h.1 k a.1)

pub each_map : (P Q : ℕ → Type 0) (xs : List ℕ) → ((x : ℕ) → P x → Q x) → Each P xs → Each Q xs
each_map P Q [] f h = tt
each_map P Q (x ∷ xs) f h = (f x h.0, each_map P Q xs f h.1)

pub tokens_append : {T : Type 0} → (xs ys : List (Row T)) → tokens (xs ++ ys) ≡ tokens xs ++ tokens ys
tokens_append [] ys = refl
tokens_append (x ∷ xs) ys = ap (λ ts. x.token ∷ ts) (tokens_append xs ys)

pub declarations_append : (xs ys : List Fact) → text_declarations (xs ++ ys) ≡ text_declarations xs ++ text_declarations ys
declarations_append [] ys = refl
declarations_append (x ∷ xs) ys = ap (λ rs. fact_declarations x ++ rs) (declarations_append xs ys) ∙ sym (append_assoc (fact_declarations x) (text_declarations xs) (text_declarations ys))

pub listed_each : {fs : List Fact} {rs : List (Row Listing)} {ds : List Desc} → Listed fs rs ds → (P : ℕ → Type 0) → Each P (tokens (text_declarations fs)) → Each P (tokens rs)
listed_each (also {fs} {gs} {rs} {qs} a b) P h = rows_both P rs qs (listed_each a P (said_first P fs gs h)) (listed_each b P (said_second P fs gs h))
listed_each (stored n k d e w) P h = (said_name P n k [] h, tt)
listed_each (label n) P h = (said_name P n kind.Label [] h, tt)
listed_each (switch n) P h = (said_name P n kind.Switch [] h, tt)
listed_each (procedure l s) P h = (said_name P s.name (kind.Proc s.answer) (specifies s.name.at.token s.answer s.params ∷ []) h, tt)
listed_each _ P h = tt

pub listed_differ : {fs : List Fact} {rs : List (Row Listing)} {ds : List Desc} → Listed fs rs ds → Differ (tokens (text_declarations fs)) → Differ (tokens rs)
listed_differ none h = tt
listed_differ (also {fs} {gs} {rs} {qs} a b) h =
    let parts = differ_parts (tokens (text_declarations fs)) (tokens (text_declarations gs)) (subst Differ (ap tokens (declarations_append fs gs) ∙ tokens_append (text_declarations fs) (text_declarations gs)) h) in
    let inner = each_map (λ x. Each (λ y. x ≢ y) (tokens (text_declarations gs))) (λ x. Each (λ y. x ≢ y) (tokens qs)) (tokens (text_declarations fs)) (λ x k. listed_each b (λ y. x ≢ y) k) parts.2 in
    subst Differ (sym (tokens_append rs qs)) (differ_both (tokens rs) (tokens qs) (listed_differ a parts.0) (listed_differ b parts.1) (listed_each a (λ x. Each (λ y. x ≢ y) (tokens qs)) inner))
listed_differ (used x) h = tt
listed_differ (unlisted n k e) h = tt
listed_differ (special k s e) h = tt
listed_differ _ h = (tt, tt)

-- ---- there are no more of them than declarations

one_declared : (n : RawName) (k : NameKind) (fs : List Fact) → 1 ≤ length (text_declarations (declares n k ∷ fs))
one_declared n k fs =
    let same = ap (λ rs. length (rs ++ text_declarations fs)) (declared_row (λ t. Unit {0}) n k) in
    omega (arith, same)

pub listed_few : {fs : List Fact} {rs : List (Row Listing)} {ds : List Desc} → Listed fs rs ds → length rs ≤ length (text_declarations fs)
listed_few (also {fs} {gs} {rs} {qs} a b) =
    let left = listed_few a in
    let right = listed_few b in
    let rows_so = length-append rs qs in
    let all_so = ap length (declarations_append fs gs) ∙ length-append (text_declarations fs) (text_declarations gs) in
    omega (arith, left, right, rows_so, all_so)
listed_few (stored n k d e w) = one_declared n k []
listed_few (label n) = one_declared n kind.Label []
listed_few (switch n) = one_declared n kind.Switch []
listed_few (procedure l s) = one_declared s.name (kind.Proc s.answer) (specifies s.name.at.token s.answer s.params ∷ [])
listed_few _ = omega arith

-- ---- numbers

in_at : {X : Type 0} → (xs : List X) (i : ℕ) (x : X) → slice_get xs i ≡ Some x → In x xs
in_at [] i x e = absurd (cc)
in_at (y ∷ ys) zero x e = inl (same_Some y x e)
in_at (y ∷ ys) (suc i) x e = inr (in_at ys i x e)

pub number_at : (rs : List (Row Listing)) (k i : ℕ) (n : RawName) (l : Listing) (number : Numbered) → Differ (tokens rs) → slice_get rs i ≡ Some (row l n) → k + length rs ≤ 65536 → listed_number (k + i) l ≡ Some number
    → item_at (listed_rows k rs) n.at.token ≡ Some number
number_at [] k i n l number differ e few h = absurd (cc)
number_at (r ∷ rs) k zero n l number differ e few h =
    let is : row l n ≡ r = sym (same_Some r (row l n) e) in
    let none_more : k + 0 ≡ k = omega arith in
    subst (λ (x : Row Listing). item_at (row_if x.token (listed_number k x.item) ++ listed_rows (next_short k) rs) n.at.token ≡ Some number) is
    (ap (λ o. item_at (row_if n.at.token o ++ listed_rows (next_short k) rs) n.at.token) (ap (λ j. listed_number j l) (sym none_more) ∙ h)
    ∙ at_first (record { token = n.at.token; item = number }) (listed_rows (next_short k) rs) n.at.token (eq_same n.at.token))
number_at (r ∷ rs) k (suc i) n l number differ e few h =
    let there = in_at rs i (row l n) e in
    let other = each_row (λ s. r.token ≢ s) rs differ.0 (row l n) there in
    let some = few_here rs i (row l n) there in
    let next : next_short k ≡ k + 1 = omega (arith, few, some) in
    let same : (k + 1) + i ≡ k + suc i = omega arith in
    skip n.at.token r.token (listed_number k r.item) (listed_rows (next_short k) rs) other
    ∙ number_at rs (next_short k) i n l number differ.1 e (omega (arith, few, next)) (ap (λ j. listed_number j l) (ap (λ j. j + i) next ∙ same) ∙ h)
  where
    few_here : {X : Type 0} → (xs : List X) (i : ℕ) (x : X) → In x xs → 1 ≤ length xs
    few_here [] i x h = absurd h
    few_here (y ∷ ys) i x h = omega arith
