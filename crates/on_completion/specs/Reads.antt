-- Completion for a read. 01, "Completion for a read".
use Rattle.std.specs.Prelude.{cond, ℕ, ◌-◌, eqb, leb, Result}
use Rattle.packet.specs.declared.Tag.{Tag}
use Rattle.packet.specs.Numbers.{refuse, check}
use Rattle.tags.specs.declared.PendingRead.{PendingRead}
use Rattle.tags.specs.declared.TagState.TheVariants.{Free, Read}
use Rattle.state.specs.declared.Function.{Function}
use Rattle.state.specs.State.{with_tag}
use Rattle.state.specs.Answers.{Success, payload_more, payload_last, read_failed, sends_nothing}

abbrev pub with_due : PendingRead → ℕ → PendingRead
with_due r due =
    record { address = r.address; bytes = r.bytes; due = due; translated = r.translated; itags = r.itags }

-- with data: Byte Count must be the bytes still due, and the payload must not be longer; once all bytes have come the
-- tag is free and delays no ITag
unfoldable pub on_read_data : Function → Tag → PendingRead → ℕ → ℕ → Result Success ℕ
on_read_data f t r count bytes =
    check 8 (eqb count r.due)
    (check 8 (leb bytes r.due)
    (cond (eqb bytes r.due)
    (sends_nothing (with_tag f t Free) payload_last)
    (sends_nothing (with_tag f t (Read (with_due r (r.due - bytes)))) payload_more)))

-- without data: status 000 does not fit; any other ends the read
unfoldable pub on_read_status : Function → Tag → ℕ → Result Success ℕ
on_read_status f t status = refuse 8 (eqb status 0) (sends_nothing (with_tag f t Free) read_failed)
