-- A completion, by the state of its tag: refusals 7, 8. 01, "The seventeen numbers".
use Rattle.std.specs.Prelude.{List, ℕ, length, Err, Result}
use Rattle.packet.specs.declared.Completion.{Completion}
use Rattle.packet.specs.declared.Outcome.{Outcome}
use Rattle.packet.specs.declared.Outcome.TheVariants.{Data, Status}
use Rattle.tags.specs.declared.TagState.{TagState}
use Rattle.tags.specs.declared.TagState.TheVariants.{Free, Translate, Read}
use Rattle.tags.specs.Tags.{tag_state}
use Rattle.state.specs.declared.Function.{Function}
use Rattle.state.specs.Answers.{Success}
use Rattle.on_completion.specs.Reads.{on_read_data, on_read_status}
use Rattle.on_completion.specs.Translations.{on_translation_data, on_translation_status}

-- the effect of a completion on a tag in this state
abbrev pub completed_for : Function → Completion → List ℕ → Outcome → TagState → Result Success ℕ
completed_for f c load outcome Free = Err 7
completed_for f c load (Data dwords) (Translate q) = on_translation_data f c.tag q c.count c.lower load
completed_for f c load (Status status) (Translate q) = on_translation_status f c.tag status
completed_for f c load (Data dwords) (Read r) = on_read_data f c.tag r c.count (length load)
completed_for f c load (Status status) (Read r) = on_read_status f c.tag status

unfoldable pub completed : Function → Completion → List ℕ → Result Success ℕ
completed f c load = completed_for f c load c.outcome (tag_state f.tags c.tag)
