use Rattle.std.proofs.Common.{subst, sym, ap}
use Rattle.cw_build.specs.Linking.{AreLinked}
use Rattle.cw_build.proofs.Objects.{all-objects, all-contents}
use Rattle.cw_build_laws.proofs.Images.Apart.{same-image, same-contents}
use Rattle.cw_build_laws.proofs.laws.images.separate_objects.Goals as goal

pub returns : goal.returns
returns c =
    let tells = c.object_of_unit.ensures in
    record {
      opened = all-objects tells;
      linked = λ us limits compiled.
          let same = all-contents tells us compiled in
          (subst (λ cs. AreLinked cs limits) same, subst (λ cs. AreLinked cs limits) (sym same));
      image = λ us limits compiled. same-image us limits _ (all-contents tells us compiled);
      migrated = λ object migrated is. same-contents object migrated is.spelled;
    }
