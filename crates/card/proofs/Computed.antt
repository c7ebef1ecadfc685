-- The definitions that a call computes with. A proof by computation says `unfolding
-- computed`, which unfolds all of them.
use Prim.Native.Nat.{ℕ}
use Rattle.lemmas.specs.All.{all_below}
use Rattle.lemmas.specs.Iterate.{iterate}
use Rattle.ranges.specs.Range.{region_of, rounded_of, range_from, units_from, relocated}
use Rattle.ranges.specs.Size.{lowest_zero, size_of, translation_of}
use Rattle.packet.specs.Forms.{choose}
use Rattle.packet.specs.Frames.{decode_frame}
use Rattle.packet.specs.Kinds.{body_in, well_formed, allowed_body, body_in_range, payload_length, form_of, packet_frame}
use Rattle.packet.specs.Reading.{read_form, reading, payload_in, qword_at}
use Rattle.packet.specs.Writing.{bytes_of, writing}
use Rattle.tlp.specs.Translations.{translation_at}
use Rattle.tags.specs.Itags.{is_in, with_itag, without}
use Rattle.tags.specs.Tags.{free_tag, tag_state, set_tag, translation_range, read_range, pending_overlaps, invalidated_tags, all_stale, delayed_itags}
use Rattle.atc.specs.Cache.{found, filled_with, unit_dropped, range_dropped}
use Rattle.pages.specs.Pages.{is_waiting, used_credits, is_spent, request_added}
use Rattle.translations.specs.Fills.{unit_updated, updated_if_covered, updated_at, applied}
use Rattle.translations.specs.Fits.{on_boundary, first_part, second_part, part_of, common_size, begins_in, received_count, translation_fits, all_fit, size_fits, classified}
use Rattle.state.specs.Answers.{sends}
use Rattle.state.specs.Switches.{resetting, enabling, disabling, switching_on}
use Rattle.on_completion.specs.Completions.{completed}
use Rattle.on_completion.specs.Reads.{on_read_data, on_read_status}
use Rattle.on_completion.specs.Translations.{applied_if_live, on_translation_data, on_translation_status}
use Rattle.call_access.specs.Access.{looking_up, accessing}
use Rattle.call_page.specs.PageRequests.{requesting_on}
use Rattle.call_ask.specs.Ask.{is_below_top, is_askable, asking}
use Rattle.call_send.specs.Drain.{sends_vector}
use Rattle.on_invalidate.specs.Invalidate.{invalidated_range, invalidated}
use Rattle.call_receive.specs.Receive.{taken, received}
use Rattle.card.specs.Call.{calling}

unfoldable pub computed : ℕ
unfolding all_below iterate region_of rounded_of range_from units_from relocated lowest_zero size_of translation_of choose decode_frame body_in well_formed allowed_body body_in_range payload_length form_of packet_frame read_form reading payload_in qword_at bytes_of writing translation_at is_in with_itag without free_tag tag_state set_tag translation_range read_range pending_overlaps invalidated_tags all_stale delayed_itags found filled_with unit_dropped range_dropped is_waiting used_credits is_spent request_added unit_updated updated_if_covered updated_at applied on_boundary first_part second_part part_of common_size begins_in received_count translation_fits all_fit size_fits classified sends resetting enabling disabling switching_on completed on_read_data on_read_status applied_if_live on_translation_data on_translation_status looking_up accessing requesting_on is_below_top is_askable asking sends_vector invalidated_range invalidated taken received calling
computed = 0
