-- The page request interface. 01, "Page requests".
use Rattle.std.specs.Prelude.{ℕ, ◌+◌, ◌%◌, ◌^◌, Bool, false, cond, ◌&&◌, List, replicate, nat_le, nat_lt, slice_index_or, slice_set}
use Rattle.std.specs.List.{sum_by}
use Rattle.packet.specs.declared.PrgIndex.{PrgIndex}
use Rattle.pages.specs.declared.Interface.TheVariants.{Off, On, Stopped}
use Rattle.pages.specs.declared.Group.{Group}
use Rattle.pages.specs.declared.Pages.{Pages}

abbrev pub idle : Group
idle = record { waits = false; requests = 0 }

-- no group is open
abbrev pub closed_all : List Group
closed_all = replicate 32 idle

abbrev pub switched_off : Pages
switched_off = record { interface = Off; allocation = 0; groups = closed_all }

abbrev pub switched_on : ℕ → Pages
switched_on allocation = record { interface = On; allocation = allocation; groups = closed_all }

abbrev pub stopped : Pages
stopped = record { interface = Stopped; allocation = 0; groups = closed_all }

abbrev pub is_index : PrgIndex → Bool
is_index k = nat_lt k.0 32

-- the group with this index; past the last, a group that does not wait
abbrev pub group_at : List Group → PrgIndex → Group
group_at groups k = slice_index_or groups k.0 idle

unfoldable pub is_waiting : List Group → PrgIndex → Bool
is_waiting groups k = is_index k && (group_at groups k).waits

abbrev pub requests_of : Group → ℕ
requests_of g = g.requests

-- the credits in use: one for each request of an open group
unfoldable pub used_credits : List Group → ℕ
used_credits groups = sum_by requests_of groups

unfoldable pub is_spent : List Group → ℕ → Bool
is_spent groups allocation = nat_le allocation (used_credits groups)

-- one more request; after its last request the group waits
abbrev pub one_more_request : Group → Bool → Group
one_more_request g last = record { waits = last; requests = (g.requests + 1) % 2 ^ 16 }

unfoldable pub request_added : List Group → PrgIndex → Bool → List Group
request_added groups k last = cond (is_index k) (slice_set groups k.0 (one_more_request (group_at groups k) last)) groups

-- a group is closed and its credits return
unfoldable pub closed : List Group → PrgIndex → List Group
closed groups k = cond (is_index k) (slice_set groups k.0 idle) groups

abbrev pub with_groups : Pages → List Group → Pages
with_groups p groups = record { interface = p.interface; allocation = p.allocation; groups = groups }
