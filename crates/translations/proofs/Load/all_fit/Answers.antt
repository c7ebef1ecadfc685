use Rattle.std.proofs.Common.{◌≡◌, false, sym, rules}
use Rattle.lemmas.proofs.All.{all_stop}
use Rattle.translations.specs.Fits.{all_fit}
use Rattle.translations.proofs.Load.all_fit.Goals as goal

pub returns-then-not-translation_fits : goal.returns-then-not-translation_fits
unfolding all_fit
returns-then-not-translation_fits c =
    let misfit : c.translation_fits.result ≡ false = search rules in
    sym (all_stop _ c.loop-i.i _ c.loop-i-test.true (rw (← c.translation_at-size.ensures, ← c.translation_fits.ensures) misfit))
