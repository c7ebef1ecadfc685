-- One definition over all calls. Serves 01, "The Function's tables".
use Rattle.std.specs.Prelude.{List, ℕ, Result}
use Rattle.state.specs.declared.Function.{Function}
use Rattle.state.specs.Answers.{Success, Observed, commit}
use Rattle.state.specs.Switches.{resetting, enabling, disabling, switching_on, switching_off}
use Rattle.call_ask.specs.Ask.{asking}
use Rattle.call_access.specs.Access.{accessing}
use Rattle.call_send.specs.Drain.{draining}
use Rattle.call_page.specs.PageRequests.{requesting}
use Rattle.call_receive.specs.Receive.{received}
use Rattle.card.specs.declared.Command.{Command}
use Rattle.card.specs.declared.Command.TheVariants.{Reset, Enable, Disable, Ask, Access, Receive, Drain, PagesOn, PagesOff, PageRequest}

-- what a call does: bytes is the received packet or the payload to write, out the buffer for the packet to send
unfoldable pub calling : Function → Command → List ℕ → List ℕ → Result Success ℕ
calling f (Reset a) bytes out = resetting a
calling f Enable bytes out = enabling f
calling f Disable bytes out = disabling f
calling f (Ask a) bytes out = asking f a out
calling f (Access a) bytes out = accessing f a bytes out
calling f Receive bytes out = received f bytes
calling f Drain bytes out = draining f out
calling f (PagesOn allocation) bytes out = switching_on f allocation f.pages.interface
calling f PagesOff bytes out = switching_off f f.pages.interface
calling f (PageRequest q) bytes out = requesting f q out f.pages.interface

-- and its observable result
abbrev pub step : Function → Command → List ℕ → List ℕ → Observed
step f c bytes out = commit f out (calling f c bytes out)
