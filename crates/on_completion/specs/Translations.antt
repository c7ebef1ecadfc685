-- Completion for a Translation Request. 01, "Completion for a TR, no data", "Completion for a TR, data".
use Rattle.std.specs.Prelude.{Bool, false, cond, not, ◌&&◌, List, ℕ, eqb, Err, Result}
use Rattle.packet.specs.declared.Tag.{Tag}
use Rattle.packet.specs.Numbers.{refuse}
use Rattle.tags.specs.declared.PendingTranslation.{PendingTranslation}
use Rattle.tags.specs.declared.TagState.{TagState}
use Rattle.tags.specs.declared.TagState.TheVariants.{Free, Translate}
use Rattle.translations.specs.declared.Part.{Part}
use Rattle.translations.specs.declared.Part.TheVariants.{Misfit, OffBoundary, First, Last}
use Rattle.translations.specs.Fits.{classified}
use Rattle.translations.specs.Fills.{applied, after_first}
use Rattle.state.specs.declared.Function.{Function}
use Rattle.state.specs.State.{with_enable, with_cache, with_tag}
use Rattle.state.specs.Answers.{Unrefused, Success, discarded, more, filled, aborted, switched_off, sends_nothing}

-- no data: status 000 does not fit; 100 frees the tag; any other also clears E
unfoldable pub on_translation_status : Function → Tag → ℕ → Result Success ℕ
on_translation_status f t status =
    refuse 8 (eqb status 0)
    (cond (eqb status 4)
    (sends_nothing (with_tag f t Free) aborted)
    (sends_nothing (with_enable (with_tag f t Free) false) switched_off))

-- data for a stale request, or while E is clear, change no entry
abbrev pub is_live : Function → PendingTranslation → Bool
is_live f q = f.enabled && not q.stale

-- A completion that fits: the tag gets the state o. If the request is live, the entries are updated and the answer is
-- w; otherwise the data are discarded.
unfoldable pub applied_if_live : Function → Tag → PendingTranslation → List ℕ → TagState → Unrefused → Result Success ℕ
applied_if_live f t q load o w =
    cond (is_live f q)
    (sends_nothing (with_tag (with_cache f (applied q load f.cache)) t o) w)
    (sends_nothing (with_tag f t o) discarded)

-- an only packet off the boundary is discarded unread; the answer is "more" after a first packet and
-- "filled" after the last
abbrev pub on_translation_part : Function → Tag → PendingTranslation → ℕ → List ℕ → Part → Result Success ℕ
on_translation_part f t q count load Misfit = Err 8
on_translation_part f t q count load OffBoundary = sends_nothing (with_tag f t Free) discarded
on_translation_part f t q count load First = applied_if_live f t q load (Translate (after_first q count load)) more
on_translation_part f t q count load Last = applied_if_live f t q load Free filled

unfoldable pub on_translation_data : Function → Tag → PendingTranslation → ℕ → ℕ → List ℕ → Result Success ℕ
on_translation_data f t q count lower load = on_translation_part f t q count load (classified q f.rcb count lower load)
