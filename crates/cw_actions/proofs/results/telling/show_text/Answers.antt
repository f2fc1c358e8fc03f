use Rattle.std.proofs.Common.{List, ℕ, subst, sym}
use Rattle.cw_compile.specs.Texts.{IsCanonicalOf}
use Rattle.cw_actions.proofs.Resulting.Steps.{shows_of, faulty_shows}
use Rattle.cw_actions.proofs.results.telling.show_text.Goals as goal

pub returns-in-Ok : goal.returns-in-Ok
returns-in-Ok g c =
    let Q : List ℕ → Type 0 = λ shown. IsCanonicalOf c.args.text.now shown in
    shows_of _ _ _ _ c.as_slice.result.now (subst Q (sym c.as_slice.ensures.value) c.in-Ok.ensures.shown) c.write_text.ensures

pub returns-in-Err : goal.returns-in-Err
returns-in-Err g c = faulty_shows _ _ c.in-Err.fault _ c.faulty.ensures c.in-Err.ensures.fault
