-- Page requests. 01, "Page requests".
use Rattle.std.specs.Prelude.{Bool, ◌&&◌, ◌||◌, List, [], ℕ, ◌%◌, eqb, Err, Result}
use Rattle.packet.specs.declared.Packet.{Packet}
use Rattle.packet.specs.declared.PageRequest.{PageRequest}
use Rattle.packet.specs.declared.Body.TheVariants.{Prq}
use Rattle.packet.specs.Numbers.{refuse, check}
use Rattle.pages.specs.declared.Interface.{Interface}
use Rattle.pages.specs.declared.Interface.TheVariants.{Off, On, Stopped}
use Rattle.pages.specs.declared.Pages.{Pages}
use Rattle.pages.specs.Pages.{is_index, is_waiting, is_spent, request_added, with_groups}
use Rattle.state.specs.declared.Function.{Function}
use Rattle.state.specs.State.{with_pages, head_of}
use Rattle.state.specs.Answers.{Success, done, sends}

abbrev pub page_request_packet : ℕ → PageRequest → Packet
page_request_packet id q = record { head = head_of id; body = Prq q }

-- R or W is set, the address is that of a page, and the index is 0 to 31
abbrev pub is_valid_request : PageRequest → Bool
is_valid_request q = (q.read || q.write) && (eqb (q.page % 4096) 0 && is_index q.index)

-- one more request, which uses a credit
abbrev pub with_request : Pages → PageRequest → Pages
with_request p q = with_groups p (request_added p.groups q.index q.last)

-- with the interface on: refused with 12; with 16 if the group waits or no credit is left; with 17
unfoldable pub requesting_on : Function → PageRequest → List ℕ → Result Success ℕ
requesting_on f q out =
    check 12 (is_valid_request q)
    (refuse 16 (is_waiting f.pages.groups q.index)
    (refuse 16 (is_spent f.pages.groups f.pages.allocation)
    (sends (with_pages f (with_request f.pages q)) done (page_request_packet f.id q) [] out)))

-- refused with 15 if the interface is off or stopped
abbrev pub requesting : Function → PageRequest → List ℕ → Interface → Result Success ℕ
requesting f q out Off = Err 15
requesting f q out On = requesting_on f q out
requesting f q out Stopped = Err 15
