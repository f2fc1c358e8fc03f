-- What the facts of a text say.
use Rattle.std.proofs.Common.{ℕ, ◌*◌, ◌==◌, List, [], ◌∷◌, ◌++◌, length, Bool, true, false, Option, Some, sym, subst, append-nil, append_assoc}
use Rattle.cw_tree.specs.declared.leaf.RawName.{RawName}
use Rattle.cw_tree.specs.declared.leaf.RawType.{RawType}
use Rattle.cw_tree.specs.declared.expression.RawExpr.{RawExpr}
use Rattle.cw_tree.specs.declared.statement.RawFelem.{RawFelem}
use Rattle.cw_tree.specs.declared.statement.RawBlock.{RawBlock}
use Rattle.cw_tree.specs.declared.statement.RawParam.{RawParam}
use Rattle.cw_tree.specs.declared.segment.Raw.{Raw}
use Rattle.cw_facts.specs.declared.fact.Fact.{Fact}
use Rattle.cw_facts.specs.declared.fact.Fact.TheVariants as fact
use Rattle.cw_facts.specs.declared.fact.Form.TheVariants as form
use Rattle.cw_facts.specs.declared.fact.Kind.TheVariants as kind
use Rattle.cw_facts.specs.declared.fact.Reading.{Reading}
use Rattle.cw_facts.specs.declared.fact.Reading.TheVariants as reading
use Rattle.cw_facts.specs.Signatures.{flattened}
use Rattle.cw_facts.specs.Uses as uses
use Rattle.cw_facts.specs.Uses.{Uses, uses_of, reading_of, indexed, each_for, argument_uses}
use Rattle.cw_facts.specs.Facts as facts
use Rattle.cw_facts.specs.Facts.{BlockFacts, joined, declares, specifies, answer_name, felem_facts, felems_facts, enclosed, facts_if, answer_facts, parameters_facts, block_facts}
use Rattle.cw_facts.specs.Text.{text_facts}
use Rattle.cw_grammar.specs.Grammar.{a_list, an_option, a_name, a_type, a_param, a_block, a_raw}
use Rattle.cw_derived.specs.NormalForm as normal
use Rattle.cw_derived.specs.NormalForm.{IsNormal}
use Rattle.cw_derived.proofs.Withins.{all_within, front}
use Rattle.cw_sound.proofs.Expressions.Folds.{uses_pass}
use Rattle.cw_sound.proofs.Statements.Folds.{facts_pass}
use Rattle.cw_sound.proofs.Trees.Many.{Many, none, more}
use Rattle.cw_sound.proofs.Trees.Trees.{Closed, StatementsClosed, Element, one, while, step, holds}
use Rattle.cw_sound.proofs.Trees.Said.{Said, nothing, widened, together, uses_said, loop_said, text_said, block_said, procedure_said}
use Rattle.cw_sound.proofs.Trees.Leaves.{name_said, names_said, listed_said, data_said, base_said, parameters_said, answers_core, answers_places, communicators_said, proc_said}

abbrev Speaks : Uses → List ℕ → Type 0
Speaks u a = (r : Reading) (i : Bool) → Said i (u r) a

abbrev Says : ℕ → Uses → List ℕ → Type 0
Says n u a = Speaks u a

abbrev StatementSays : ℕ → Bool → List Fact → List ℕ → Type 0
StatementSays n p f a = Said p f a

abbrev BlockSays : ℕ → Bool → BlockFacts → List ℕ → Type 0
BlockSays n p f a = (outermost : Bool) → Said p (f outermost) a

each_said : {us : List Uses} {a : List ℕ} (r : Reading) (i : Bool) → Many Uses Speaks us a → Said i (each_for r us) a
each_said r i none = nothing i []
each_said r i (more h k) = together (h r i) (each_said r i k)

expressions : Closed Uses uses_pass Says
expressions = record {
  wider = λ w h r i. widened w (h r i);
  deeper = λ h. h;
  number = λ n x r i. nothing i [];
  octal = λ n x r i. nothing i [];
  literal = λ h r i. nothing i [];
  string = λ n at cs r i. text_said i at (length cs);
  location = λ at h r i. h reading.Whole i;
  forced = λ t h r i. h reading.Value i;
  bracket = λ at h r i. h reading.Value i;
  referred = λ h. h;
  call = λ f h r i. together (uses_said i f form.CallValue) (each_said reading.Argument i h);
  named = λ n f r i. uses_said i f (form.Reference r 0);
  one_index = λ f h r i. together (uses_said i f (form.Reference (indexed r) 1)) (h reading.Value i);
  two_indexes = λ f h k r i. together (uses_said i f (form.Reference (indexed r) 2)) (together (h reading.Value i) (k reading.Value i));
  bare = λ at h r i. h reading.Value i;
  prim = λ bits h r i. h (reading_of r (length bits == 0)) i;
  mask = λ os h r i. each_said _ i h;
  union = λ os h r i. each_said _ i h;
  differ = λ os h r i. each_said _ i h;
  conjunction = λ os h r i. each_said reading.Value i h;
  condition = λ os h r i. each_said reading.Value i h;
  term = λ os e h r i. each_said _ i h;
  sum = λ sign os e h r i. each_said _ i h;
  comparison = λ op h k r i. together (h reading.Value i) (k reading.Value i);
  sole = λ h. h;
  choice = λ at h k l r i. together (h reading.Value i) (together (k reading.Value i) (l reading.Value i));
}

element_says : {x : RawFelem} {a : List ℕ} (i : Bool) → Element Uses uses_pass Speaks x a → Said i (felem_facts x) a
element_says i (one h) = h reading.Value i
element_says i (while h k) = together (h reading.Value i) (k reading.Value i)
element_says i (step h k l) = together (h reading.Value i) (together (k reading.Value i) (l reading.Value i))

elements_say : {xs : List RawFelem} {a : List ℕ} (i : Bool) → Many RawFelem (Element Uses uses_pass Speaks) xs a → Said i (felems_facts xs) a
elements_say i none = nothing i []
elements_say i (more h k) = together (element_says i h) (elements_say i k)

arguments_say : {xs : List RawExpr} {a : List ℕ} (i : Bool) → Many RawExpr (λ x. Speaks (uses.expression_uses x)) xs a → Said i (argument_uses xs) a
arguments_say i none = nothing i []
arguments_say i (more h k) = together (h reading.Argument i) (arguments_say i k)

joined_said : {p : Bool} {fs : List (List Fact)} {a : List ℕ} → Many (List Fact) (Said p) fs a → Said p (joined fs) a
joined_said {p = p} none = nothing p []
joined_said (more h k) = together h (joined_said k)

enclosed_said : {p : Bool} (b : Bool) {fs : List Fact} {a : List ℕ} → Said p fs a → Said p (enclosed b fs) a
enclosed_said true h = block_said h
enclosed_said false h = h

after_nothing : {p : Bool} {f : List Fact} {a : List ℕ} → Said p f a → Said p (f ++ []) a
after_nothing {p = p} {f = f} {a = a} h = subst (λ (z : List Fact). Said p z a) (sym (append-nil f)) h

if_says : {p : Bool} {c l x y : List Fact} {a b d e : List ℕ} → Said p c a → Said p l b → Said p x d → Said p y e → Said p (c ++ (l ++ (x ++ y))) (a ++ ((b ++ d) ++ e))
if_says {p = p} {c = c} {l = l} {x = x} {y = y} {a = a} {b = b} {d = d} {e = e} h k m o =
    subst (λ (z : List ℕ). Said p (c ++ (l ++ (x ++ y))) (a ++ z)) (sym (append_assoc b d e)) (together h (together k (together m o)))

procedure_says : {n : ℕ} {o : Option RawType} {f : RawName} {xs : List RawParam} {y : List Fact} {a : List ℕ} (b : List ℕ) {c d e : List ℕ} → IsNormal n false (an_option a_type) o a → IsNormal n false a_name f c → IsNormal n false (a_list a_param) xs d → Said true y e
    → Said false (declares f (kind.Proc o) ∷ specifies f.at.token o (flattened xs) ∷ fact.Block (Some f.at.token) (answer_facts o ++ (parameters_facts xs ++ y)) ∷ []) (a ++ (b ++ (c ++ (d ++ e))))
procedure_says {o = o} {f = f} {xs = xs} b t h k l =
    procedure_said f.at.token b (proc_said false (kind.Proc o) o (flattened xs) h) (answers_core true o) (answers_places t) (together (parameters_said true k) l)

statements : StatementsClosed Uses uses_pass Says (List Fact) BlockFacts facts_pass StatementSays BlockSays
statements = record {
  wider = λ w h. widened w h;
  deeper = λ h. h;
  block_wider = λ w h o. widened w (h o);
  block_deeper = λ h. h;
  empty = λ n p. nothing p [];
  assign = λ h k. together (h reading.Target _) (k reading.Value _);
  assign_bits = λ z h k. together (h reading.Whole _) (k reading.Value _);
  jump = λ n p at f. uses_said p f form.Goto;
  jump_through = λ at f h. together (uses_said _ f form.GotoSwitch) (h reading.Value _);
  called = λ f h. together (uses_said _ f form.Call) (arguments_say _ h);
  answer = λ at h. together (uses_said _ (answer_name at) form.Answer) (h reading.Value _);
  inner_block = λ h. h false;
  whole_block = λ at h k o. enclosed_said _ (together (joined_said h) (joined_said k));
  labelled = λ l h. together (names_said _ kind.Label l) h;
  simple = λ h. h;
  if_alone = λ at h l k. together (h reading.Value _) (together (names_said _ kind.Label l) (after_nothing k));
  if_else = λ at h l k m. if_says (h reading.Value _) (names_said _ kind.Label l) k m;
  loop = λ at h k l. together (loop_said _ at) (together (h reading.Whole _) (together (elements_say _ k) l));
  data_declared = λ h. data_said _ h;
  overlay = λ at h k. together (base_said _ h) (data_said _ k);
  switch = λ at h k. together (name_said _ kind.Switch h) (listed_said _ k);
  procedure = λ o g f xs h. procedure_says _ o f xs h;
}

pub block_says : {n : ℕ} {p : Bool} {x : RawBlock} {a : List ℕ} → IsNormal n p a_block x a → (outermost : Bool) → Said p (block_facts x outermost) a
block_says h = holds Uses uses_pass Says (List Fact) BlockFacts facts_pass StatementSays BlockSays expressions statements h

pub raw_says : {n : ℕ} {x : Raw} {a : List ℕ} → IsNormal n false a_raw x a → Said false (text_facts x) a
raw_says (normal.is_raw f tokens {a = a} {b = b} h e k) =
    together (communicators_said false h) (widened (front (2 * tokens ∷ []) (all_within b)) (block_says k true))
