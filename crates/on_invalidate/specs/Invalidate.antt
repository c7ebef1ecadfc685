-- Invalidate Request. 01, "Invalidate Request".
use Rattle.std.specs.Prelude.{Bool, false, not, ℕ, eqb, None, Option, Result, Some}
use Rattle.ranges.specs.declared.Range.{Range}
use Rattle.ranges.specs.Size.{size_of}
use Rattle.ranges.specs.Range.{unit_exponent, rounded_of}
use Rattle.packet.specs.declared.InvalidateRequest.{InvalidateRequest}
use Rattle.packet.specs.Numbers.{refuse}
use Rattle.atc.specs.Cache.{range_dropped}
use Rattle.tags.specs.Itags.{is_in, with_itag}
use Rattle.tags.specs.Tags.{invalidated_tags}
use Rattle.state.specs.declared.Function.{Function}
use Rattle.state.specs.State.{with_agent, with_waiting, with_cache, with_tags}
use Rattle.state.specs.Answers.{Success, done, sends_nothing}

-- every request that is read has a size; without one the range would be the whole address space
abbrev pub exponent_or64 : Option ℕ → ℕ
exponent_or64 (Some e) = e
exponent_or64 None = 64

-- the range of a request, rounded up to the unit
unfoldable pub invalidated_range : ℕ → InvalidateRequest → Range
invalidated_range stu i = rounded_of i.address (exponent_or64 (size_of i.address i.sized)) (unit_exponent stu)

-- is the sender another than the known agent?
abbrev pub is_other_agent : Option ℕ → ℕ → Bool
is_other_agent None from = false
is_other_agent (Some id) from = not (eqb id from)

-- overlapping entries are deleted, overlapping Translation Requests become stale, and overlapping translated reads
-- delay the ITag; the ITag waits, and the sender is the agent
abbrev pub invalidated_by : Function → ℕ → InvalidateRequest → Function
invalidated_by f from i =
    let range = invalidated_range f.stu i in
    let tables = with_cache (with_tags f (invalidated_tags range i.itag f.tags)) (range_dropped f.stu range f.cache) in
    with_agent (with_waiting tables (with_itag f.waiting i.itag)) (Some from)

-- refusals 10, 9 in this order
unfoldable pub invalidated : Function → ℕ → InvalidateRequest → Result Success ℕ
invalidated f from i =
    refuse 10 (is_other_agent f.agent from)
    (refuse 9 (is_in f.waiting i.itag)
    (sends_nothing (invalidated_by f from i) done))
