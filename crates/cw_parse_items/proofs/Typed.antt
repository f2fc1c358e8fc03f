-- What begins with a type.
use Rattle.std.proofs.Common.{◌≡◌, ℕ, Bool, true, false, List, [], ◌∷◌, Option, Some, None, Ok, Err, refl, sym, ap, subst, ◌∙◌}
use Rattle.cw_lex.specs.declared.token.TokenKind.TheVariants as kinds
use Rattle.cw_lex.specs.declared.token.Word.TheVariants as words
use Rattle.cw_tree.specs.declared.leaf.RawType.{RawType}
use Rattle.cw_tree.specs.declared.items.RawData.{RawData}
use Rattle.cw_tree.specs.declared.segment.RawCitem.TheVariants as citem_tree
use Rattle.cw_tree.specs.declared.segment.RawIps.TheVariants as ips_tree
use Rattle.cw_tree.specs.declared.segment.RawPs.TheVariants as ps_tree
use Rattle.cw_tree.specs.declared.statement.RawDecl.TheVariants as decl_tree
use Rattle.cw_tree.specs.declared.statement.RawParam.TheVariants as param_tree
use Rattle.cw_grammar.specs.Tokens.{Item}
use Rattle.cw_grammar.specs.Grammar.{Sort, a_from, an_option, a_type, a_data, a_citem, a_decl, a_param, a_ps, Value, Grammar, ◌·◌, ◌∣◌, ◌⇒◌, starts, first}
use Rattle.cw_grammar.specs.Rules.{number_type, word, name, commas, ◌*>◌}
use Rattle.cw_grammar.specs.Statements.{from, singles, arrays, item_data, citem, decl, param, procedure_param, procedure_ps, ps, spec_behind, proc_behind}
use Rattle.cw_grammar.specs.declared.stop.Stop.{Stop}
use Rattle.cw_grammar.specs.Reading.{Read, Fails, syntax_at, deep_at, ◌>>=◌, applied, take_one, reads}
use Rattle.cw_grammar.proofs.Failing.{fails_where}
use Rattle.cw_grammar.proofs.From.{from_first, from_other, first_one, second_of, applied_map, mapped_ok, some_applied}

-- ---- forms

pub mapped_fails : {A B : Type 0} (s : Stop) (f : A → B) (o : Read A) (total : Read B) → (o >>= λ y. Ok (f y.0, y.1)) ≡ total → Fails s o → Fails s total
mapped_fails s f o total e failed = fails_where s o total (λ k is. sym e ∙ rw is refl) failed

pub mapped_reads : {A B : Type 0} (f : A → B) (o : Read A) (total : Read B) (x : A) (us : List Item) → (o >>= λ y. Ok (f y.0, y.1)) ≡ total → o ≡ Ok (x, us) → total ≡ Ok (f x, us)
mapped_reads f o total x us e h = sym e ∙ rw h refl

some_mapped : {A B C : Type 0} (x : A) (f : B → C) (o : Read (Option A → B)) → applied x (o >>= λ y. Ok ((λ a. f (y.0 (Some a))), y.1)) ≡ (applied (Some x) o >>= λ y. Ok (f y.0, y.1))
some_mapped x f (Ok y) = refl
some_mapped x f (Err k) = refl

-- ---- data

pub data_singles : (ts us : List Item) (x : RawType) → starts ts (first number_type) ≡ true → reads 0 number_type ts ≡ Ok (x, us) → starts us (kinds.Name ∷ []) ≡ true → applied x (reads 0 singles us) ≡ reads 0 item_data ts
unfolding item_data singles number_type
data_singles ts us x t e f = sym (rw t (from_first 0 a_type a_data number_type singles arrays x ts us e f))

pub data_arrays : (ts us : List Item) (x : RawType) → starts ts (first number_type) ≡ true → reads 0 number_type ts ≡ Ok (x, us) → starts us (kinds.Name ∷ []) ≡ false → applied x (reads 0 arrays us) ≡ reads 0 item_data ts
unfolding item_data singles number_type
data_arrays ts us x t e f = sym (rw t (from_other 0 a_type a_data number_type singles arrays x ts us e f))

-- ---- communicators' items

abbrev citem_singles : Grammar (a_from a_type a_citem)
citem_singles = singles ⇒ (λ f t. citem_tree.Data (f t))

abbrev citem_arrays : Grammar (a_from a_type a_citem)
citem_arrays = arrays ⇒ (λ f t. citem_tree.Data (f t))

abbrev citem_spec : Grammar (a_from a_type a_citem)
citem_spec = spec_behind ⇒ (λ f t. citem_tree.Spec (f (Some t)))

pub citem_of_singles : (ts us vs : List Item) (x : RawType) (d : RawData) → starts ts (first number_type) ≡ true → reads 0 number_type ts ≡ Ok (x, us) → starts us (kinds.Name ∷ []) ≡ true → applied x (reads 0 singles us) ≡ Ok (d, vs) → reads 0 citem ts ≡ Ok (citem_tree.Data d, vs)
unfolding citem singles number_type
citem_of_singles ts us vs x d t e f h =
    rw t (from_first 0 a_type a_citem number_type citem_singles (citem_arrays ∣ citem_spec) x ts us e f ∙ mapped_ok 0 a_type a_data a_citem singles (λ y. citem_tree.Data y) x d us vs h)

pub citem_of_arrays : (ts us vs : List Item) (x : RawType) (d : RawData) → starts ts (first number_type) ≡ true → reads 0 number_type ts ≡ Ok (x, us) → starts us (kinds.Name ∷ []) ≡ false → starts us (kinds.Word words.Array ∷ []) ≡ true → applied x (reads 0 arrays us) ≡ Ok (d, vs) → reads 0 citem ts ≡ Ok (citem_tree.Data d, vs)
unfolding citem singles arrays number_type
citem_of_arrays ts us vs x d t e f g h =
    rw t (from_other 0 a_type a_citem number_type citem_singles (citem_arrays ∣ citem_spec) x ts us e f
    ∙ ap (λ (o : Read (Value (a_from a_type a_citem))). applied x o) (first_one 0 (a_from a_type a_citem) citem_arrays citem_spec us g) ∙ mapped_ok 0 a_type a_data a_citem arrays (λ y. citem_tree.Data y) x d us vs h)

pub citem_singles_read : (ts us : List Item) (x : RawType) → starts ts (first number_type) ≡ true → reads 0 number_type ts ≡ Ok (x, us) → starts us (kinds.Name ∷ []) ≡ true → (applied x (reads 0 singles us) >>= λ y. Ok (citem_tree.Data y.0, y.1)) ≡ reads 0 citem ts
unfolding citem singles number_type
citem_singles_read ts us x t e f =
    sym (rw t (from_first 0 a_type a_citem number_type citem_singles (citem_arrays ∣ citem_spec) x ts us e f ∙ applied_map x (λ y. citem_tree.Data y) (reads 0 singles us)))

pub citem_arrays_read : (ts us : List Item) (x : RawType) → starts ts (first number_type) ≡ true → reads 0 number_type ts ≡ Ok (x, us) → starts us (kinds.Name ∷ []) ≡ false → starts us (kinds.Word words.Array ∷ []) ≡ true
    → (applied x (reads 0 arrays us) >>= λ y. Ok (citem_tree.Data y.0, y.1)) ≡ reads 0 citem ts
unfolding citem singles arrays number_type
citem_arrays_read ts us x t e f g =
    sym (rw t (from_other 0 a_type a_citem number_type citem_singles (citem_arrays ∣ citem_spec) x ts us e f
    ∙ ap (λ (o : Read (Value (a_from a_type a_citem))). applied x o) (first_one 0 (a_from a_type a_citem) citem_arrays citem_spec us g) ∙ applied_map x (λ y. citem_tree.Data y) (reads 0 arrays us)))

pub citem_spec_read : (ts us : List Item) (x : RawType) → starts ts (first number_type) ≡ true → reads 0 number_type ts ≡ Ok (x, us) → starts us (kinds.Name ∷ []) ≡ false → starts us (kinds.Word words.Array ∷ []) ≡ false
    → (applied (Some x) (reads 0 spec_behind us) >>= λ y. Ok (citem_tree.Spec y.0, y.1)) ≡ reads 0 citem ts
unfolding citem singles arrays number_type
citem_spec_read ts us x t e f g =
    sym (rw t (from_other 0 a_type a_citem number_type citem_singles (citem_arrays ∣ citem_spec) x ts us e f
    ∙ ap (λ (o : Read (Value (a_from a_type a_citem))). applied x o) (second_of 0 (a_from a_type a_citem) citem_arrays citem_spec us g) ∙ some_mapped x (λ y. citem_tree.Spec y) (reads 0 spec_behind us)))

-- ---- declarations

abbrev pub decl_singles : Grammar (a_from a_type a_decl)
decl_singles = singles ⇒ (λ f t. decl_tree.Data (f t))

abbrev pub decl_arrays : Grammar (a_from a_type a_decl)
decl_arrays = arrays ⇒ (λ f t. decl_tree.Data (f t))

abbrev pub decl_proc : Grammar (a_from a_type a_decl)
decl_proc = proc_behind ⇒ (λ f t. f (Some t))

pub local_singles : (ts us vs : List Item) (x : RawType) (d : RawData) → starts ts (first number_type) ≡ true → reads 0 number_type ts ≡ Ok (x, us) → starts us (kinds.Name ∷ []) ≡ true → applied x (reads 0 singles us) ≡ Ok (d, vs) → reads 0 (decl true) ts ≡ Ok (decl_tree.Data d, vs)
unfolding decl singles number_type
local_singles ts us vs x d t e f h =
    rw t (from_first 0 a_type a_decl number_type decl_singles decl_arrays x ts us e f ∙ mapped_ok 0 a_type a_data a_decl singles (λ y. decl_tree.Data y) x d us vs h)

pub local_arrays : (ts us vs : List Item) (x : RawType) (d : RawData) → starts ts (first number_type) ≡ true → reads 0 number_type ts ≡ Ok (x, us) → starts us (kinds.Name ∷ []) ≡ false → applied x (reads 0 arrays us) ≡ Ok (d, vs) → reads 0 (decl true) ts ≡ Ok (decl_tree.Data d, vs)
unfolding decl singles number_type
local_arrays ts us vs x d t e f h =
    rw t (from_other 0 a_type a_decl number_type decl_singles decl_arrays x ts us e f ∙ mapped_ok 0 a_type a_data a_decl arrays (λ y. decl_tree.Data y) x d us vs h)

pub local_singles_read : (ts us : List Item) (x : RawType) → starts ts (first number_type) ≡ true → reads 0 number_type ts ≡ Ok (x, us) → starts us (kinds.Name ∷ []) ≡ true → (applied x (reads 0 singles us) >>= λ y. Ok (decl_tree.Data y.0, y.1)) ≡ reads 0 (decl true) ts
unfolding decl singles number_type
local_singles_read ts us x t e f = sym (rw t (from_first 0 a_type a_decl number_type decl_singles decl_arrays x ts us e f ∙ applied_map x (λ y. decl_tree.Data y) (reads 0 singles us)))

pub local_arrays_read : (ts us : List Item) (x : RawType) → starts ts (first number_type) ≡ true → reads 0 number_type ts ≡ Ok (x, us) → starts us (kinds.Name ∷ []) ≡ false → (applied x (reads 0 arrays us) >>= λ y. Ok (decl_tree.Data y.0, y.1)) ≡ reads 0 (decl true) ts
unfolding decl singles number_type
local_arrays_read ts us x t e f = sym (rw t (from_other 0 a_type a_decl number_type decl_singles decl_arrays x ts us e f ∙ applied_map x (λ y. decl_tree.Data y) (reads 0 arrays us)))

-- ---- parameters

abbrev param_arrays : Grammar (a_from a_type a_param)
param_arrays = word words.Array *> commas name ⇒ (λ ns t. param_tree.Array t ns)

abbrev param_proc : Grammar (a_from a_type a_param)
param_proc = procedure_param ⇒ (λ f t. f (Some t))

pub param_of_proc : (ts us : List Item) (x : RawType) → starts ts (first number_type) ≡ true → reads 0 number_type ts ≡ Ok (x, us) → starts us (kinds.Word words.Array ∷ []) ≡ false → applied (Some x) (reads 0 procedure_param us) ≡ reads 0 param ts
unfolding param number_type
param_of_proc ts us x t e f = sym (rw t (from_other 0 a_type a_param number_type param_arrays param_proc x ts us e f ∙ some_applied x (reads 0 procedure_param us)))

-- ---- specifications of parameters

abbrev ps_arrays : Grammar (a_from a_type a_ps)
ps_arrays = word words.Array ⇒ (λ a t. ps_tree.Plain (ips_tree.Array t))

abbrev ps_proc : Grammar (a_from a_type a_ps)
ps_proc = procedure_ps ⇒ (λ f t. f (Some t))

pub ps_of_array : (ts us vs : List Item) (x : RawType) (a : Item) → starts ts (first number_type) ≡ true → reads 0 number_type ts ≡ Ok (x, us)
    → starts us (kinds.Word words.Array ∷ []) ≡ true → take_one (kinds.Word words.Array) us ≡ Ok (a, vs)
    → reads 0 ps ts ≡ Ok (ps_tree.Plain (ips_tree.Array x), vs)
unfolding ps number_type
ps_of_array ts us vs x a t e f h = rw t (from_first 0 a_type a_ps number_type ps_arrays ps_proc x ts us e f ∙ rw h refl)

pub ps_of_proc : (ts us : List Item) (x : RawType) → starts ts (first number_type) ≡ true → reads 0 number_type ts ≡ Ok (x, us) → starts us (kinds.Word words.Array ∷ []) ≡ false
    → applied (Some x) (reads 0 procedure_ps us) ≡ reads 0 ps ts
unfolding ps number_type
ps_of_proc ts us x t e f = sym (rw t (from_other 0 a_type a_ps number_type ps_arrays ps_proc x ts us e f ∙ some_applied x (reads 0 procedure_ps us)))
