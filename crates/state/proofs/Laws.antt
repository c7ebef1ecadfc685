-- Laws of the state, and of the effects and answers of calls.
use Rattle.std.specs.Prelude.{Err, Ok, Result}
use mathlib.Core.Path.{◌≡◌, refl}
use mathlib.Core.Bool.{Bool, true, false, cond}
use mathlib.Core.List.{List, []}
use Prim.Native.Nat.{ℕ}
use lib.ListN.{length}
use Rattle.lemmas.proofs.Cases.{either_case, impossible}
use Rattle.packet.specs.declared.Packet.{Packet}
use Rattle.packet.specs.Among.{is_among}
use Rattle.packet.proofs.Among.{Among, among_ok, among_refusal, Sendable, only_room}
use Rattle.packet.specs.Writing.{writing, bytes_of}
use Rattle.state.specs.declared.Function.{Function}
use Rattle.state.specs.State.{rcb_of, fresh}
use Rattle.state.specs.Answers.{Unrefused, Success, commit, sends_nothing, sends_written, sends}
use Rattle.state.specs.Switches.{resetting}

-- a reset to ID 0, STU 0, RCB 64 gives a new Function, from any state
pub reset_is_new : (f : Function) (out : List ℕ)
    → (commit f out (resetting (record { id = 0; stu = 0; rcb = 64 }))).state ≡ fresh 0 0 (rcb_of 64)
unfolding resetting
reset_is_new f out = refl

-- a packet to send is refused only for lack of room
pub sends_numbers : (l : List ℕ) (f : Function) (w : Unrefused) (p : Packet) (load out : List ℕ) → is_among 17 l ≡ true
    → Sendable p (length load) → Among l (sends f w p load out)
unfolding sends
sends_numbers l f w p load out h s =
    go (writing p (length load) (length out)) (only_room l p (length load) (length out) h s)
  where
    go : (s : Result ℕ ℕ) → Among l s → Among l (sends_written f w (bytes_of p load) s)
    go (Ok n) h = among_ok l (record { state = f; answer = w; sent = n; bytes = bytes_of p load })
    go (Err n) h = among_refusal l n (h.one n refl)

-- Q holds for the effect of a call, if it is not refused
pub record Does (Q : Success → Type 0) (s : Result Success ℕ) : Type 0 where
  pub success : (d : Success) → s ≡ Ok d → Q d

module _ (Q : Success → Type 0) where
  pub does_nothing : (g : Function) (w : Unrefused) → Q (record { state = g; answer = w; sent = 0; bytes = [] })
      → Does Q (sends_nothing g w)
  does_nothing g w h = record { success = λ d e. let same : record { state = g; answer = w; sent = 0; bytes = [] } ≡ d = cc in rw same at h }

  pub does_refusal : (n : ℕ) → Does Q (Err n)
  does_refusal n = record { success = λ d e. impossible cc }

  pub does_case : (t : Bool) (a b : Result Success ℕ) → (t ≡ true → Does Q a) → (t ≡ false → Does Q b)
      → Does Q (cond t a b)
  does_case t a b = either_case (Does Q) t a b

  -- a packet that is sent is one that could be written
  pub does_write : (g : Function) (w : Unrefused) (p : Packet) (load out : List ℕ)
      → ((n : ℕ) → writing p (length load) (length out) ≡ Ok n → Q (record { state = g; answer = w; sent = n; bytes = bytes_of p load }))
      → Does Q (sends g w p load out)
  unfolding sends
  does_write g w p load out h = go (writing p (length load) (length out)) refl
    where
      go : (s : Result ℕ ℕ) → writing p (length load) (length out) ≡ s → Does Q (sends_written g w (bytes_of p load) s)
      go (Ok n) e = record { success = λ d k. let same : record { state = g; answer = w; sent = n; bytes = bytes_of p load } ≡ d = cc in rw same at (h n e) }
      go (Err n) e = does_refusal n

  pub does_send : (g : Function) (w : Unrefused) (p : Packet) (load out : List ℕ)
      → ((n : ℕ) → Q (record { state = g; answer = w; sent = n; bytes = bytes_of p load }))
      → Does Q (sends g w p load out)
  does_send g w p load out h = does_write g w p load out (λ n e. h n)

pub ruleset does = (does_nothing, does_refusal, does_case, does_send)

-- a property of the state before a call and of its new state holds after it, refused or not
pub commit_in : (Q : Function → Type 0) (f : Function) (out : List ℕ) (s : Result Success ℕ) → Q f
    → Does (λ d. Q d.state) s → Q (commit f out s).state
commit_in Q f out (Ok d) h k = k.success d refl
commit_in Q f out (Err n) h k = h
