use Rattle.std.proofs.Common.{decimal, refl}
use Rattle.cw_make.specs.Made.{unit_of}
use Rattle.cw_big_units.proofs.Names.{named_of}
use Rattle.cw_big_units.proofs.Texts.{has_names}
use Rattle.cw_big_units.proofs.Types.{decimal_fits, no_type_fault}
use Rattle.cw_big_units.proofs.laws.large_units.Goals as goal

pub returns : goal.returns
returns c i is_last l h =
    let named = named_of is_last (decimal i) in (
      unit_of named,
      record {
        named = named;
        has = record { names = has_names c.expands_to_itself.ensures i is_last l h; judges = no_type_fault is_last (decimal i) (decimal_fits i l h) };
        unit_is = refl;
      },
    )
