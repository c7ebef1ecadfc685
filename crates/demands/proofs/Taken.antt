-- A packet that is not refused is one that the Function takes.
use Rattle.std.specs.Prelude.{Err, Ok, Result}
use mathlib.Core.Path.{◌≡◌, refl}
use mathlib.Core.Bool.{true, false}
use mathlib.Core.List.{List}
use Prim.Native.Nat.{ℕ}
use lib.Dec.{eqb}
use Rattle.packet.specs.declared.Body.{Body}
use Rattle.packet.specs.declared.Body.TheVariants.{Cpl, Inv, Prs}
use Rattle.state.specs.declared.Function.{Function}
use Rattle.state.specs.Answers.{Success, commit}
use Rattle.state.proofs.Laws.{Does, does_refusal}
use Rattle.card.specs.declared.Command.{Command}
use Rattle.card.specs.declared.Command.TheVariants.{Receive}
use Rattle.card.specs.Call.{calling, step}
use Rattle.card.proofs.Cases.{Arrives, Cases, cases}
use Rattle.lemmas.proofs.Bools.{no_tf}
use Rattle.demands.specs.Observed.{Noted, is_refused, is_taken, is_for_body}
use Rattle.demands.proofs.Views.{Proper}

always : (Q : Type 0) (s : Result Success ℕ) → Q → Does (λ d. Q) s
always Q s q = record { success = λ d e. q }

module _ (me : Noted) (f : Function) (o : Proper me f) (bytes out : List ℕ) where
  arrives : (b : Body) (to : ℕ) → Arrives f bytes b to → is_for_body me b ≡ eqb to me.id
      → is_taken me Receive bytes ≡ true
  arrives b to a e = rw (a.reads, a.is, e) (rw o.own at a.ours)

  each : Cases f bytes out (λ x s. Does (λ d. is_taken me x bytes ≡ true) s)
  each =
      record {
        refused = λ x n l. does_refusal _ n;
        refused_kind = λ p r n l. does_refusal _ n;
        reset = λ a s b. always _ _ refl;
        enabled = always _ _ refl;
        enable = always _ _ refl;
        disable = always _ _ refl;
        pages_on = λ n g. always _ _ refl;
        pages_off = always _ _ refl;
        pages_not_on = always _ _ refl;
        ask = λ a t few e. always _ _ refl;
        read = λ a at t w l e. always _ _ refl;
        write = λ a at w l. always _ _ refl;
        drains_none = λ z. always _ _ refl;
        drains = λ z. always _ _ refl;
        page = λ q e s. always _ _ refl;
        read_ends = λ x r n a h d c z. always _ _ (arrives (Cpl x) x.requester a refl);
        read_goes_on = λ x r n a h d c l z. always _ _ (arrives (Cpl x) x.requester a refl);
        read_fails = λ x r s a h d z. always _ _ (arrives (Cpl x) x.requester a refl);
        aborts = λ x q s a h d z. always _ _ (arrives (Cpl x) x.requester a refl);
        switches_off = λ x q s a h d z. always _ _ (arrives (Cpl x) x.requester a refl);
        off_boundary = λ x q n a h d j. always _ _ (arrives (Cpl x) x.requester a refl);
        first_discarded = λ x q n a h d j. always _ _ (arrives (Cpl x) x.requester a refl);
        last_discarded = λ x q n a h d j. always _ _ (arrives (Cpl x) x.requester a refl);
        first_fills = λ x q n a h d j l. always _ _ (arrives (Cpl x) x.requester a refl);
        last_fills = λ x q n a h d j l. always _ _ (arrives (Cpl x) x.requester a refl);
        invalidates = λ i a e w. always _ _ (arrives (Inv i) i.device a refl);
        answers_group = λ s a. always _ _ (arrives (Prs s) s.device a refl);
        stops_pages = λ s a. always _ _ (arrives (Prs s) s.device a refl);
      }

pub taken_law : (me : Noted) (f : Function) → Proper me f → (x : Command) (bytes out : List ℕ)
    → is_refused (step f x bytes out).answer ≡ false → is_taken me x bytes ≡ true
taken_law me f o x bytes out r = go (calling f x bytes out) (cases f bytes out _ (each me f o bytes out) x) r
  where
    go : (s : Result Success ℕ) → Does (λ d. is_taken me x bytes ≡ true) s → is_refused (commit f out s).answer ≡ false
        → is_taken me x bytes ≡ true
    go (Ok d) h r = h.success d refl
    go (Err n) h r = no_tf r
