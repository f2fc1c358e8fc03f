-- Flags that are set one after another.
use Rattle.std.proofs.Common.{suc, ◌+◌, ◌≤◌, [], ◌∷◌, Option, drop, drop-cons, get_or, refl, sym, ap, ap₂, ◌∙◌, arith}
use Rattle.std.proofs.lemmas.List.{drop_all}
use Rattle.std.proofs.Math.Bool.{or_assoc}
use Rattle.std.specs.Prelude.{◌≡◌, ℕ, ◌<◌, List, length, Bool, true, false, ◌||◌, ◌&&◌}
use Rattle.cw_unit.specs.declared.unit.Goal.{Goal}
use Rattle.cw_unit.specs.declared.unit.Def.{Def}
use Rattle.cw_order.specs.declared.order.Order.{Order}
use Rattle.cw_order.specs.declared.order.Orders.{Orders}
use Rattle.cw_tmpl.specs.Named.{is_number, goals_list_label, orders_name_switch, shared_has_switch, is_named_switch, orders_name_label, shared_has_label, switches_list_label, is_named_label}
use Rattle.cw_assemble.specs.Flags.{flag, AreFlags}

-- the items from a place on
item_next : {A : Type 0} (xs : List A) (i : ℕ) (d : A) → i < length xs → drop i xs ≡ get_or xs i d ∷ drop (i + 1) xs
item_next xs i d lt =
    let e : suc i ≡ i + 1 = omega arith in
    drop-cons xs i d lt ∙ ap (λ n. get_or xs i d ∷ drop n xs) e

-- The flags of now, with what is still to be set, are those of the beginning with all that is to be set.
pub record Setting (now old : List Bool) (left all : ℕ → Bool) : Type 0 where
  pub long : length now ≡ length old
  pub each : (k : ℕ) → k < length old → (flag now k || left k) ≡ (flag old k || all k)

-- The flag of the number of one item, if it has one, is set: what is left to set are those of the items behind it.
pub set_next : {A : Type 0} (named : List A → ℕ → Bool) (number : A → Option ℕ) (xs : List A) (i : ℕ) (d : A) (now new old : List Bool) (m : Option ℕ) (all : ℕ → Bool)
    → ((x : A) (rest : List A) (k : ℕ) → named (x ∷ rest) k ≡ (is_number k (number x) || named rest k)) → i < length xs → m ≡ number (get_or xs i d) → length new ≡ length now
    → ((k : ℕ) → k < length now → flag new k ≡ (flag now k || is_number k m)) → Setting now old (named (drop i xs)) all → Setting new old (named (drop (i + 1) xs)) all
set_next named number xs i d now new old m all law lt is long sets s = record {
  long = long ∙ s.long;
  each = λ k inside.
      let x = get_or xs i d in
      let rest = drop (i + 1) xs in
      let within : k < length now = omega (arith, s.long, inside) in
      ap (λ b. b || named rest k) (sets k within)
      ∙ or_assoc (flag now k) (is_number k m) (named rest k)
      ∙ ap (λ n. flag now k || (is_number k n || named rest k)) is
      ∙ ap (λ b. flag now k || b) (sym (law x rest k))
      ∙ ap (λ l. flag now k || named l k) (sym (item_next xs i d lt))
      ∙ s.each k inside;
}

-- The same of one switch, whose labels are set where it is named.
pub set_next_switch : (named : ℕ → Bool) (xs : List (List Goal)) (i : ℕ) (one gs : List Goal) (has : Bool) (now new old : List Bool) (all : ℕ → Bool) → i < length xs → one ≡ get_or xs i one → gs ≡ one → has ≡ named i
    → length new ≡ length now → ((k : ℕ) → k < length now → flag new k ≡ (flag now k || (has && goals_list_label gs k)))
    → Setting now old (switches_list_label named i (drop i xs)) all → Setting new old (switches_list_label named (i + 1) (drop (i + 1) xs)) all
set_next_switch named xs i one gs has now new old all lt is same flagged long sets s = record {
  long = long ∙ s.long;
  each = λ k inside.
      let rest = drop (i + 1) xs in
      let within : k < length now = omega (arith, s.long, inside) in
      let next : i + 1 ≡ suc i = omega arith in
      let here : drop i xs ≡ gs ∷ rest = item_next xs i one lt ∙ ap (λ g. g ∷ rest) (sym is ∙ sym same) in
      ap (λ b. b || switches_list_label named (i + 1) rest k) (sets k within)
      ∙ or_assoc (flag now k) (has && goals_list_label gs k) (switches_list_label named (i + 1) rest k)
      ∙ ap₂ (λ h n. flag now k || ((h && goals_list_label gs k) || switches_list_label named n rest k)) flagged next
      ∙ ap (λ l. flag now k || switches_list_label named i l k) (sym here)
      ∙ s.each k inside;
}

or_none : (b : Bool) → (b || false) ≡ b
or_none true = refl
or_none false = refl

-- where no item is left, all flags are set
pub all_set : {A : Type 0} (left : List A → ℕ → Bool) (all : ℕ → Bool) (xs : List A) (i : ℕ) (now old : List Bool) → length xs ≤ i → ((k : ℕ) → left [] k ≡ false)
    → Setting now old (left (drop i xs)) all → (k : ℕ) → k < length old → flag now k ≡ (flag old k || all k)
all_set left all xs i now old past none s k inside =
    let unset : left (drop i xs) k ≡ false = ap (λ l. left l k) (drop_all i xs past) ∙ none k in
    sym (or_none (flag now k)) ∙ ap (λ b. flag now k || b) (sym unset) ∙ s.each k inside

-- those of a test are set
abbrev Sets : (old new : List Bool) → (test : ℕ → Bool) → Type 0
Sets old new test = (k : ℕ) → k < length old → flag new k ≡ (flag old k || test k)

set_more : (old new : List Bool) (n : ℕ) (before test : ℕ → Bool) → AreFlags old n before → length new ≡ length old → Sets old new test → AreFlags new n (λ k. before k || test k)
set_more old new n before test flags long sets =
    let many = flags.long in
    record { long = long ∙ flags.long; each = λ k lt. sets k (let l : k < length old = omega arith in l) ∙ ap (λ b. b || test k) (flags.each k lt) }

same_flags : (old new : List Bool) (m n : ℕ) (test other : ℕ → Bool) → new ≡ old → m ≡ n → ((k : ℕ) → test k ≡ other k) → AreFlags old m test → AreFlags new n other
same_flags old new m n test other same count tests flags =
    record { long = ap length same ∙ flags.long ∙ count; each = λ k lt. ap (λ fs. flag fs k) same ∙ flags.each k (let l : k < m = omega arith in l) ∙ tests k }

pub switches_told : (o : Orders) (n : ℕ) (flags one two last : List Bool) (list : List Order) (shared : List Def) → AreFlags flags n (λ k. false) → n ≡ length o.switches → list ≡ o.list → shared ≡ o.shared
    → length one ≡ length flags → Sets flags one (orders_name_switch list) → length two ≡ length one → Sets one two (shared_has_switch shared) → last ≡ two → AreFlags last (length o.switches) (is_named_switch o)
unfolding is_named_switch
switches_told o n flags one two last list shared none count el es long1 sets1 long2 sets2 same =
    let first = set_more flags one n (λ k. false) (orders_name_switch list) none long1 sets1 in
    let both = set_more one two n (orders_name_switch list) (shared_has_switch shared) first long2 sets2 in
    same_flags two last n (length o.switches) (λ k. orders_name_switch list k || shared_has_switch shared k) (λ k. orders_name_switch o.list k || shared_has_switch o.shared k) same count
    (λ k. ap₂ (λ l s. orders_name_switch l k || shared_has_switch s k) el es) both

pub labels_told : (o : Orders) (n : ℕ) (flags one two three last : List Bool) (list : List Order) (shared : List Def) → AreFlags flags n (λ k. false) → n ≡ length o.labels → list ≡ o.list → shared ≡ o.shared
    → length one ≡ length flags → Sets flags one (orders_name_label list) → length two ≡ length one → Sets one two (shared_has_label shared)
    → length three ≡ length two → Sets two three (switches_list_label (is_named_switch o) 0 o.switches) → last ≡ three → AreFlags last (length o.labels) (is_named_label o)
unfolding is_named_label
labels_told o n flags one two three last list shared none count el es long1 sets1 long2 sets2 long3 sets3 same =
    let first = set_more flags one n (λ k. false) (orders_name_label list) none long1 sets1 in
    let both = set_more one two n (orders_name_label list) (shared_has_label shared) first long2 sets2 in
    let all = set_more two three n (λ k. orders_name_label list k || shared_has_label shared k) (switches_list_label (is_named_switch o) 0 o.switches) both long3 sets3 in
    same_flags three last n (length o.labels) (λ k. (orders_name_label list k || shared_has_label shared k) || switches_list_label (is_named_switch o) 0 o.switches k)
    (λ k. (orders_name_label o.list k || shared_has_label o.shared k) || switches_list_label (is_named_switch o) 0 o.switches k) same count
    (λ k. ap₂ (λ l s. (orders_name_label l k || shared_has_label s k) || switches_list_label (is_named_switch o) 0 o.switches k) el es) all
