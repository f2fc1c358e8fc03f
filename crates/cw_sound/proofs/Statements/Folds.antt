-- Passes over declarations and statements: what each of them makes of a first layer.
use Rattle.std.proofs.Common.{ℕ, List, Bool}
use Rattle.cw_table.specs.declared.table.Row.{Row}
use Rattle.cw_facts.specs.declared.fact.Fact.{Fact}
use Rattle.cw_facts.specs.Facts as facts
use Rattle.cw_facts.specs.Facts.{BlockFacts}
use Rattle.cw_scope.specs.declared.resolve.Named.{Named}
use Rattle.cw_scale.specs.Faults.{Judgement}
use Rattle.cw_items.specs.declared.families.Site.{Site}
use Rattle.cw_items.specs.Things as things
use Rattle.cw_items.specs.Things.{Things}
use Rattle.cw_judge.specs.Judged as judged
use Rattle.cw_preset.specs.Strings.{Rows}
use Rattle.cw_preset.specs.Held as rows
use Rattle.cw_make_expr.specs.Parts.{Numbers}
use Rattle.cw_make_stmt.specs.Made as made
use Rattle.cw_make.specs.Switches as switches
use Rattle.cw_make.specs.Switches.{Switches}
use Rattle.cw_unit.specs.declared.unit.Stmt.{Stmt}
use Rattle.cw_tokens.specs.TreeTokens as tokens
use Rattle.cw_sound.specs.Ready.Lined as lined
use Rattle.cw_sound.specs.Statements.Levels as levels
use Rattle.cw_sound.specs.Statements.Regular as regular
use Rattle.cw_tree.specs.declared.statement.RawDecl.TheOpen.{RawForm-F, RawSimple-F}
use Rattle.cw_tree.proofs.Statements.{statement_steps}
use Rattle.cw_sound.specs.Expressions.Gathered.{Gathering}
use Rattle.cw_sound.specs.Expressions.Levels.{by_largest}
use Rattle.cw_sound.specs.Expressions.Regular.{by_all}
use Rattle.cw_sound.specs.Statements.Gathered as gathered
use Rattle.cw_sound.proofs.Statements.Passes.{Pass}

-- the facts of a tree
abbrev pub facts_pass : Pass (List Fact) BlockFacts
facts_pass = statement_steps facts.declaration_step facts.form_step facts.simple_step facts.block_step facts.procedure_step facts.statement_step

-- its things, which are stored
abbrev pub things_pass : Named → Pass Things Things
things_pass named = statement_steps (things.declaration_step named) (things.form_step named) (things.simple_step named) (things.block_step named) (things.procedure_step named) (things.statement_step named)

-- what it holds at the start
abbrev pub rows_pass : Pass Rows Rows
rows_pass = statement_steps rows.declaration_step rows.form_step rows.simple_step rows.block_step rows.procedure_step rows.statement_step

-- its judgement
abbrev pub judged_pass : Named → List (Row Site) → Pass Judgement Judgement
judged_pass named sites = statement_steps (judged.declaration_step named sites) (judged.form_step named sites) (judged.simple_step named sites) (judged.block_step named sites) (judged.procedure_step named sites) (judged.statement_step named sites)

-- what is made of it
abbrev pub made_pass : Named → Numbers → Pass Stmt Stmt
made_pass named numbers = statement_steps (made.declaration_step named numbers) (made.form_step named numbers) (made.simple_step named numbers) (made.block_step named numbers) (made.procedure_step named numbers) (made.statement_step named numbers)

-- its switches
abbrev pub switches_pass : Named → Numbers → Pass Switches Switches
switches_pass named numbers = statement_steps (switches.declaration_step named numbers) (switches.form_step named numbers) (switches.simple_step named numbers) (switches.block_step named numbers) (switches.procedure_step named numbers) (switches.statement_step named numbers)

-- the tokens that it counts
abbrev pub tokens_pass : Pass ℕ ℕ
tokens_pass = statement_steps tokens.decl_step tokens.form_step tokens.simple_step tokens.block_step tokens.proc_step tokens.stmt_step

-- what is gathered
module _ {A : Type 0} (g : Gathering A) (form : RawForm-F A A A A A A → A) (simple : RawSimple-F A A A A A A → A) where
  abbrev pub gathered_pass : Pass A A
  gathered_pass = statement_steps (gathered.declaration_step g) form simple (gathered.block_step g) (gathered.procedure_step g) (gathered.statement_step g)

-- the levels that it needs
abbrev pub levels_pass : Pass ℕ ℕ
levels_pass = gathered_pass by_largest levels.form_step levels.simple_step

-- whether it is regular
abbrev pub regular_pass : Pass Bool Bool
regular_pass = gathered_pass by_all regular.form_step regular.simple_step

-- whether its statements have lines
abbrev pub lined_pass : Pass Bool Bool
lined_pass = gathered_pass by_all lined.form_step lined.simple_step
