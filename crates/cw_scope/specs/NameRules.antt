-- The rules of names.
use Rattle.std.specs.Prelude.{ℕ, ◌==◌, List, [], ◌∷◌, ◌++◌, Bool, true, false, not, ◌&&◌, ◌||◌, Option, Some, None, is_some, map}
use Rattle.cw_tree.specs.declared.items.RawBounds.{RawBounds}
use Rattle.cw_tree.specs.declared.items.RawElem.{RawElem}
use Rattle.cw_tree.specs.declared.items.RawElem.TheVariants as elem
use Rattle.cw_facts.specs.declared.fact.Fact.{Fact, Fact-F, fold-Fact}
use Rattle.cw_facts.specs.declared.fact.Fact.TheOpen as layer
use Rattle.cw_facts.specs.declared.fact.Declaration.{Declaration}
use Rattle.cw_facts.specs.declared.fact.Kind.{Kind}
use Rattle.cw_facts.specs.declared.fact.Kind.TheVariants as kind
use Rattle.cw_facts.specs.declared.fact.Use.{Use}
use Rattle.cw_facts.specs.declared.fact.Form.{Form}
use Rattle.cw_facts.specs.declared.fact.Form.TheVariants as form
use Rattle.cw_facts.specs.declared.fact.Reading.{Reading}
use Rattle.cw_facts.specs.declared.fact.Reading.TheVariants as reading
use Rattle.cw_scope.specs.declared.fault.Rule.{Rule}
use Rattle.cw_scope.specs.declared.fault.Rule.TheVariants as rule
use Rattle.cw_table.specs.declared.table.Row.{Row}
use Rattle.cw_scope.specs.Faults.{Judgement, fine, wrong, unless, both}
use Rattle.cw_scope.specs.Scope.{Environment, declared_in, declaration_of}

-- ---- what a kind allows

abbrev pub dimensions : RawBounds → ℕ
dimensions b = if_second (is_some b.second)
  where
    if_second : Bool → ℕ
    if_second true = 2
    if_second false = 1

-- whether a name of this kind is a reference with so many indexes
abbrev pub is_reference : Kind → (indexes : ℕ) → Bool
is_reference (kind.Single t) n = n == 0
is_reference (kind.Value t) n = n == 0
is_reference (kind.Location t) n = n == 0
is_reference (kind.Array t b) n = n == dimensions b
is_reference (kind.Table s) n = n == 1
is_reference (kind.Element table e) n = n == 1
is_reference (kind.ArrayParam t) n = n == 1
is_reference (kind.TableParam s) n = n == 1
is_reference _ n = false

-- an element in the bracket form is a part of a word, even of 16 bits
abbrev pub is_part_element : RawElem → Bool
is_part_element (elem.Word n t w) = false
is_part_element (elem.Part n u t f w b) = true

abbrev pub is_part : Kind → Bool
is_part (kind.Element table e) = is_part_element e
is_part _ = false

-- a procedure, and whether it has an answer
abbrev pub answers : Kind → Bool
answers (kind.Proc t) = is_some t
answers (kind.ProcParam t) = is_some t
answers kind.ReadByte = true
answers _ = false

abbrev pub is_procedure : Kind → Bool
is_procedure (kind.Proc t) = true
is_procedure (kind.ProcParam t) = true
is_procedure kind.ReadByte = true
is_procedure kind.WriteByte = true
is_procedure _ = false

abbrev pub is_label : Kind → Bool
is_label kind.Label = true
is_label kind.LabelParam = true
is_label _ = false

abbrev pub is_switch : Kind → Bool
is_switch kind.Switch = true
is_switch kind.SwitchParam = true
is_switch _ = false

abbrev pub is_own_label : Kind → Bool
is_own_label kind.Label = true
is_own_label _ = false

abbrev pub is_own_switch : Kind → Bool
is_own_switch kind.Switch = true
is_own_switch _ = false

abbrev pub is_data : Kind → Bool
is_data (kind.Single t) = true
is_data (kind.Array t b) = true
is_data (kind.Table s) = true
is_data _ = false

abbrev pub is_answer : Kind → Bool
is_answer (kind.Answer t) = true
is_answer _ = false

-- A declared name that may be a whole argument by itself is judged with the call's parameters.
abbrev pub fits_reading : Reading → (indexes : ℕ) → Kind → Bool
fits_reading reading.Argument n k = true
fits_reading reading.Value n k = is_reference k n || (n == 0 && answers k)
fits_reading reading.Target n k = is_reference k n
fits_reading reading.Whole n k = is_reference k n && not (is_part k)

-- whether a name of this kind can be used so
abbrev pub fits : Form → Kind → Bool
fits (form.Reference r n) k = fits_reading r n k
fits form.CallValue k = answers k
fits form.Call k = is_procedure k
fits form.Goto k = is_label k
fits form.GotoSwitch k = is_switch k
fits form.Listed k = is_own_label k
fits form.Base k = is_data k
fits form.Answer k = is_answer k

-- ---- uses

-- ANSWER outside a typed procedure stands where it cannot
abbrev pub undeclared_rule : Form → Rule
undeclared_rule form.Answer = rule.WrongKind
undeclared_rule _ = rule.Undeclared

abbrev pub use_faults : Option Declaration → Use → Judgement
use_faults None u = wrong (undeclared_rule u.form) u.name
use_faults (Some d) u = unless (fits u.form d.kind) rule.WrongKind u.name

abbrev pub resolutions : Option Declaration → Use → List (Row ℕ)
resolutions None u = []
resolutions (Some d) u = record { token = u.name.at.token; item = d.name.at.token } ∷ []

-- ---- declarations

-- a name is declared once in a block
abbrev pub repeat_faults : (first : Option Declaration) → Declaration → Judgement
repeat_faults None d = fine
repeat_faults (Some first) d = unless (first.name.at.token == d.name.at.token) rule.Twice d.name

abbrev pub own_block : Environment → List Declaration
own_block [] = []
own_block (block ∷ []) = block
own_block (outer ∷ inner ∷ blocks) = own_block (inner ∷ blocks)

abbrev pub declaration_faults : Environment → Declaration → Judgement
declaration_faults env d = repeat_faults (declared_in (own_block env) d.name.name) d

-- ---- blocks

-- what a fact declares in its block, and, by the environment, its faults and the declarations to which it refers
pub record Said : Type 0 where
  pub declared : List Declaration
  pub faults : Environment → Judgement
  pub resolved : Environment → List (Row ℕ)

abbrev pub all_declared : List Said → List Declaration
all_declared [] = []
all_declared (x ∷ xs) = x.declared ++ all_declared xs

abbrev pub all_faults : Environment → List Said → Judgement
all_faults env [] = fine
all_faults env (x ∷ xs) = both (x.faults env) (all_faults env xs)

abbrev pub all_resolved : Environment → List Said → List (Row ℕ)
all_resolved env [] = []
all_resolved env (x ∷ xs) = x.resolved env ++ all_resolved env xs

-- a block is judged with its own declarations innermost
abbrev pub within : Environment → List Said → Environment
within env xs = env ++ all_declared xs ∷ []

-- what says nothing of names
abbrev pub silent : Said
silent = record { declared = []; faults = λ env. fine; resolved = λ env. [] }

abbrev pub said_step : Fact-F Said → Said
said_step (layer.Declares d) = record { declared = d ∷ []; faults = λ env. declaration_faults env d; resolved = λ env. [] }
said_step (layer.Uses u) =
    record { declared = []; faults = λ env. use_faults (declaration_of env u.name.name) u; resolved = λ env. resolutions (declaration_of env u.name.name) u }
said_step (layer.Specifies token s) = silent
said_step (layer.Loop at) = silent
said_step (layer.Text at n) = silent
said_step (layer.Block owner xs) = record { declared = []; faults = λ env. all_faults (within env xs) xs; resolved = λ env. all_resolved (within env xs) xs }

abbrev pub said : Fact → Said
said = fold-Fact Said said_step

-- of the facts of a whole text, a block of its own
abbrev pub name_faults : List Fact → Judgement
name_faults facts = all_faults (within [] (map said facts)) (map said facts)

abbrev pub name_resolutions : List Fact → List (Row ℕ)
name_resolutions facts = all_resolved (within [] (map said facts)) (map said facts)
