-- Reset, Enable, Disable, and the page interface on and off. 01, "The Function's tables", "Enable / disable", "Page requests".
use Rattle.std.specs.Prelude.{Bool, true, false, cond, ◌&&◌, ℕ, leb, Err, Result}
use Rattle.packet.specs.Numbers.{check}
use Rattle.atc.specs.Cache.{emptied}
use Rattle.tags.specs.Tags.{all_stale}
use Rattle.pages.specs.declared.Interface.{Interface}
use Rattle.pages.specs.declared.Interface.TheVariants.{Off, On, Stopped}
use Rattle.pages.specs.Pages.{switched_off, switched_on}
use Rattle.state.specs.declared.Function.{Function}
use Rattle.state.specs.declared.ResetArgs.{ResetArgs}
use Rattle.state.specs.State.{is_rcb, rcb_of, fresh, with_enable, with_cache, with_tags, with_pages}
use Rattle.state.specs.Answers.{Success, done, sends_nothing}

-- a reset sets ID, STU and RCB; refused with 12 if the STU is above 31 or the RCB is invalid
unfoldable pub resetting : ResetArgs → Result Success ℕ
resetting a =
    check 12 (leb a.stu 31)
    (check 12 (is_rcb a.rcb)
    (sends_nothing (fresh a.id a.stu (rcb_of a.rcb)) done))

-- setting E when it is clear empties the cache, leaves the hand, and makes outstanding Translation Requests stale
unfoldable pub enabling : Function → Result Success ℕ
enabling f =
    cond f.enabled (sends_nothing f done)
    (sends_nothing (with_enable (with_cache (with_tags f (all_stale f.tags)) (emptied f.cache)) true) done)

-- clearing E changes nothing else
unfoldable pub disabling : Function → Result Success ℕ
disabling f = sends_nothing (with_enable f false) done

abbrev pub is_allocation : ℕ → Bool
is_allocation allocation = leb 1 allocation && leb allocation 512

-- switching on: refused with 15 if stopped; with 12 if on, or for an allocation outside 1 to 512
unfoldable pub switching_on : Function → ℕ → Interface → Result Success ℕ
switching_on f allocation Off =
    check 12 (is_allocation allocation) (sends_nothing (with_pages f (switched_on allocation)) done)
switching_on f allocation On = Err 12
switching_on f allocation Stopped = Err 15

-- switching off: if on, all groups are closed and the allocation is 0; otherwise nothing changes
unfoldable pub switching_off : Function → Interface → Result Success ℕ
switching_off f Off = sends_nothing f done
switching_off f On = sends_nothing (with_pages f switched_off) done
switching_off f Stopped = sends_nothing f done
