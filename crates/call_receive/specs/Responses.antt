-- PRG Response. 01, "Page requests".
use Rattle.std.specs.Prelude.{cond, ℕ, leb, Err, Result}
use Rattle.packet.specs.declared.PrgIndex.{PrgIndex}
use Rattle.packet.specs.Numbers.{check}
use Rattle.pages.specs.declared.Interface.{Interface}
use Rattle.pages.specs.declared.Interface.TheVariants.{Off, On, Stopped}
use Rattle.pages.specs.declared.Pages.{Pages}
use Rattle.pages.specs.Pages.{is_waiting, closed, stopped, with_groups}
use Rattle.state.specs.declared.Function.{Function}
use Rattle.state.specs.State.{with_pages}
use Rattle.state.specs.Answers.{Success, done, sends_nothing}

-- the group is closed
abbrev pub group_answered : Pages → PrgIndex → Pages
group_answered p k = with_groups p (closed p.groups k)

-- codes 0 and 1 close a waiting group; codes 2 to 15 are Response Failure, for any index
unfoldable pub responded_on : Function → ℕ → PrgIndex → Result Success ℕ
responded_on f code k =
    cond (leb code 1)
    (check 7 (is_waiting f.pages.groups k) (sends_nothing (with_pages f (group_answered f.pages k)) done))
    (sends_nothing (with_pages f stopped) done)

-- refused with 7 if the interface is not on
abbrev pub responded : Function → ℕ → PrgIndex → Interface → Result Success ℕ
responded f code k Off = Err 7
responded f code k On = responded_on f code k
responded f code k Stopped = Err 7
