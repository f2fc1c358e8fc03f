use Rattle.std.proofs.Common.{◌≡◌, ℕ, ◌∷◌, [], subst}
use Rattle.cw_i86.specs.declared.instr.Instr.{Instr}
use Rattle.cw_assemble.specs.declared.draft.Draft.{Draft}
use Rattle.cw_tmpl.specs.declared.blocks.Element.{Element}
use Rattle.cw_tmpl.specs.declared.pieces.Coded.TheVariants as coded
use Rattle.cw_tmpl.specs.declared.pieces.Target.TheVariants as target
use Rattle.cw_assemble.specs.Growing.{Adds}
use Rattle.cw_tmpl.specs.Library.{address_entry}
use Rattle.cw_tmpl.specs.Mnemonics.{compare, double, jump_if_below}
use Rattle.cw_tmpl.specs.Templates.{index_added, address_tested}
use Rattle.cw_assemble.proofs.Growing.{adds_then}
use Rattle.cw_assemble.proofs.blocks.put_address_tested.Goals as goal

tested_added : (old one new : Draft) (e : Element) (origin : ℕ) (i1 i2 i3 : Instr) → i1 ≡ compare 6 7 → i2 ≡ jump_if_below 5 → i3 ≡ double 6 → Adds old (index_added e.index e.family origin) one
    → Adds one (coded.Whole i1 ∷ coded.Whole i2 ∷ coded.Call (target.LibraryAhead address_entry) ∷ coded.Data e.line ∷ coded.Whole i3 ∷ []) new → Adds old (address_tested e origin) new
tested_added old one new e origin i1 i2 i3 e1 e2 e3 a b =
    let same : coded.Whole i1 ∷ coded.Whole i2 ∷ coded.Call (target.LibraryAhead address_entry) ∷ coded.Data e.line ∷ coded.Whole i3 ∷ []
    ≡ coded.Whole (compare 6 7) ∷ coded.Whole (jump_if_below 5) ∷ coded.Call (target.LibraryAhead address_entry) ∷ coded.Data e.line ∷ coded.Whole (double 6) ∷ [] = cc in
    adds_then old one new (index_added e.index e.family origin) _ a (subst (λ ps. Adds one ps new) same b)

pub returns : goal.returns
returns c =
    tested_added c.args.code.now c.put_index.new.code c.put_all.new.self c.args.element c.args.zero c.compare.result c.jump_if_below.result c.double.result c.compare.ensures c.jump_if_below.ensures c.double.ensures c.put_index.ensures c.put_all.ensures
