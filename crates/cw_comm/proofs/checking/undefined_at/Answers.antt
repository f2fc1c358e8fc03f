use Rattle.std.proofs.Common.{sym, subst}
use Rattle.cw_comm.specs.Tables.{TellsWanted}
use Rattle.cw_comm.proofs.Searching.{first_listings, first_definers, stands_at}
use Rattle.cw_comm.proofs.Wanting.{listed_here, not_wanted, has_definer, undefined}
use Rattle.cw_comm.proofs.checking.undefined_at.Goals as goal

pub returns-then-not-is_wanted : goal.returns-then-not-is_wanted
returns-then-not-is_wanted c =
    not_wanted (first_listings c.requires.descriptor.at.first) (first_definers c.requires.descriptor.at.first) c.requires.same c.args.at.now.segment c.args.descriptor c.number-name.result
    (stands_at c.args.at.now c.args.descriptor c.number-name.result c.requires.descriptor c.number-name.ensures) c.in-Some.first c.in-Some.place (sym c.in-Some.ensures)
    (subst (TellsWanted c.args.at.now.listed.now.segments.now c.in-Some.first c.in-Some.place) c.if-not-is_wanted.true c.is_wanted.ensures)

pub returns-in-None : goal.returns-in-None
returns-in-None c = λ none.
    absurd
    (listed_here (first_listings c.requires.descriptor.at.first) (first_definers c.requires.descriptor.at.first) c.requires.same c.args.at.now.segment c.args.descriptor c.number-name.result
    (stands_at c.args.at.now c.args.descriptor c.number-name.result c.requires.descriptor c.number-name.ensures) (sym c.in-None.ensures))

pub returns-in-Some-definer : goal.returns-in-Some-definer
returns-in-Some-definer c =
    has_definer (first_listings c.requires.descriptor.at.first) (first_definers c.requires.descriptor.at.first) c.requires.same c.args.at.now.segment c.args.descriptor c.number-name.result
    (stands_at c.args.at.now c.args.descriptor c.number-name.result c.requires.descriptor c.number-name.ensures) c.in-Some-definer.field-0 (sym c.in-Some-definer.ensures)

pub returns-in-None-definer : goal.returns-in-None-definer
returns-in-None-definer c =
    undefined (first_listings c.requires.descriptor.at.first) (first_definers c.requires.descriptor.at.first) c.requires.same c.args.at.now.segment c.args.descriptor c.number-name.result
    (stands_at c.args.at.now c.args.descriptor c.number-name.result c.requires.descriptor c.number-name.ensures) c.in-Some.first c.in-Some.place (sym c.in-Some.ensures)
    (subst (TellsWanted c.args.at.now.listed.now.segments.now c.in-Some.first c.in-Some.place) c.if-not-is_wanted.false c.is_wanted.ensures) (sym c.in-None-definer.ensures)
