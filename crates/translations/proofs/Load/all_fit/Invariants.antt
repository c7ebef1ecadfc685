use Rattle.std.proofs.Common.{◌≡◌, ◌+◌, true}
use Rattle.lemmas.specs.All.{all_below}
use Rattle.tlp.specs.Translations.{translation_at}
use Rattle.translations.specs.Fits.{translation_fits}
use Rattle.translations.proofs.Load.all_fit.Given as goal

abbrev pub invariant-loop-i : goal.invariant-loop-i
invariant-loop-i l = all_below (λ k. translation_fits l.self.range l.self.e (l.self.before + k) (translation_at l.self.payload.now k).size) l.i ≡ true
