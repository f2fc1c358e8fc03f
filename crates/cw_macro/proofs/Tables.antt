-- The table of the definitions as a function of names.
use Rattle.std.proofs.Common.{◌≡◌, ℕ, Bool, true, false, cond, List, Option, refl, sym, ap, ◌∙◌}
use Rattle.std.specs.Option.{option_map}
use Rattle.std.specs.Str.{bytes_eq}
use Rattle.std.specs.BTreeMap.{BTreeMap, get, UpdatesBy}
use Rattle.std.specs.Cmp.Lexicographic.{texts_ties}
use Rattle.cw_macro.specs.declared.definition.Macro.{Macro}
use Rattle.cw_macro.specs.Expansion.{Definitions, redefined}
use Rattle.cw_macro.specs.Views.{name_cmp, macro_view}

pub same_table : (f g : Definitions) → ((name : List ℕ) → f name ≡ g name) → f ≡ g
same_table f g h = λ i name. h name i

chosen : (b : Bool) (w o : Option Macro) → option_map macro_view (cond b w o) ≡ cond b (option_map macro_view w) (option_map macro_view o)
chosen true w o = refl
chosen false w o = refl

abbrev table : BTreeMap (List ℕ) Macro → Definitions
table m name = option_map macro_view (get name_cmp m name)

pub updated : (old new : BTreeMap (List ℕ) Macro) (k : List ℕ) (name : List ℕ) (w : Option Macro) → k ≡ name → UpdatesBy name_cmp (name_cmp k) old new w → table new ≡ redefined (table old) name (option_map macro_view w)
updated old new k name w e u = same_table (table new) (redefined (table old) name (option_map macro_view w)) (λ q.
    ap (option_map macro_view) (u.0 q)
    ∙ chosen _ w (get name_cmp old q)
    ∙ ap (λ (b : Bool). cond b (option_map macro_view w) (table old q)) (sym (texts_ties k q))
    ∙ ap (λ (n : List ℕ). cond (bytes_eq n q) (option_map macro_view w) (table old q)) e)
