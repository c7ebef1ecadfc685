-- What closes a `return` of a call: the tests that led there say which case of its definition holds.
use Rattle.std.specs.Prelude.{Err, Ok, Result}
use mathlib.Core.Path.{◌≡◌, refl, sym, ap, ◌∙◌}
use mathlib.Core.Bool.{Bool, true, false, cond}
use mathlib.Core.List.{List, [], ◌∷◌, ◌++◌}
use Prim.Native.Nat.{ℕ}
use lib.ListN.{length, drop}
use borrow.Author.Tests.{lt-ltb, le-ltb, le-leb, lt-leb, eq-eqb, ne_eqb}
use Rattle.packet.specs.declared.Packet.{Packet}
use Rattle.packet.specs.declared.Refusal.{Refusal}
use Rattle.packet.specs.Numbers.{number_of}
use Rattle.packet.specs.Writing.{writing, bytes_of, buffer_after}
use Rattle.state.specs.declared.Function.{Function}
use Rattle.state.specs.declared.Effect.{Effect}
use Rattle.state.specs.Answers.{Unrefused, Success, Observed, unrefused, commit, observed, sends}
use Rattle.lemmas.proofs.Cases.{impossible}

module _ (f : Function) (out : List ℕ) where
  pub commit_take : (t : Bool) (a b : Result Success ℕ) (x : Observed) → t ≡ true → x ≡ commit f out a
      → x ≡ commit f out (cond t a b)
  commit_take t a b x e q = q ∙ sym (ap (λ (u : Bool). commit f out (cond u a b)) e)

  pub commit_skip : (t : Bool) (a b : Result Success ℕ) (x : Observed) → t ≡ false → x ≡ commit f out b
      → x ≡ commit f out (cond t a b)
  commit_skip t a b x e q = q ∙ sym (ap (λ (u : Bool). commit f out (cond u a b)) e)

  -- a packet that was written, and one that was not
  module _ (g : Function) (w : Unrefused) (p : Packet) (load buffer : List ℕ) (b : buffer ≡ buffer_after (writing p (length load) (length out)) (bytes_of p load) out) where
    pub commit_sent : (n : ℕ) → ◌≡◌ {A = Result ℕ ℕ} (Ok n) (writing p (length load) (length out))
        → record { state = g; answer = Ok w; sent = n; buffer = buffer } ≡ commit f out (sends g w p load out)
    unfolding sends
    commit_sent n e = rw (b, ← e)

    pub commit_unsent : (n : ℕ) → ◌≡◌ {A = Result ℕ ℕ} (Err n) (writing p (length load) (length out))
        → record { state = f; answer = Err n; sent = 0; buffer = buffer } ≡ commit f out (sends g w p load out)
    unfolding sends
    commit_unsent n e = rw (b, ← e)

pub ruleset commits = (commit_take, commit_skip, lt-ltb, le-ltb, le-leb, lt-leb, eq-eqb, ne_eqb)

-- a call that was given no buffer sends nothing, and leaves any buffer as it is
pub quiet : (f g : Function) (w : Result Unrefused ℕ) (n : ℕ) (out : List ℕ) (s : Result Success ℕ)
    → record { state = g; answer = w; sent = n; buffer = [] } ≡ commit f [] s
    → record { state = g; answer = w; sent = n; buffer = out } ≡ commit f out s
quiet f g w n out (Err k) q =
    ap (λ (r : Observed). record { state = r.state; answer = r.answer; sent = r.sent; buffer = out }) q
quiet f g w n out (Ok d) q =
    let none : d.bytes ≡ [] = bare d.bytes (sym (ap (λ (r : Observed). r.buffer) q)) in
    ap (λ (r : Observed). record { state = r.state; answer = r.answer; sent = r.sent; buffer = out }) q ∙ rw none
  where
    bare : (l : List ℕ) → l ++ drop (length l) [] ≡ [] → l ≡ []
    bare [] b = refl
    bare (x ∷ l) b = impossible cc

-- the same, of what a call of the code returns
pub quiet_result : (f g : Function) (r : Result Effect Refusal) (out : List ℕ) (s : Result Success ℕ)
    → observed g r [] ≡ commit f [] s → observed g r out ≡ commit f out s
quiet_result f g (Ok e) out s q = quiet f g (Ok (unrefused e.answer)) e.sent out s q
quiet_result f g (Err n) out s q = quiet f g (Err (number_of n)) 0 out s q
