-- The Function decides nothing by Attr, and sends zeros in it.
use Rattle.std.specs.Prelude.{Err, Ok, Result}
use mathlib.Core.Path.{◌≡◌, refl, ap, ◌∙◌}
use mathlib.Core.List.{List, [], ◌++◌}
use Prim.Native.Nat.{ℕ}
use lib.ListN.{length, take, drop}
use Rattle.packet.specs.declared.Packet.{Packet}
use Rattle.packet.specs.Frames.{attr_at}
use Rattle.packet.specs.Kinds.{attr_in, attr_bits}
use Rattle.packet.specs.SameButAttr.{SameButAttr}
use Rattle.tlp.proofs.Laws.{sent_bytes, written_attr, read_attr}
use Rattle.state.specs.declared.Function.{Function}
use Rattle.state.specs.Answers.{Unrefused, Success, Observed, commit, sends_nothing, sends}
use Rattle.state.proofs.Laws.{Does, does_nothing, does_refusal, does_write}
use Rattle.call_receive.specs.Receive.{payload_for}
use Rattle.call_receive.proofs.SameButAttr.{same_received, same_handed_back}
use Rattle.card.specs.declared.Command.{Command}
use Rattle.card.specs.declared.Command.TheVariants.{Receive}
use Rattle.card.specs.Call.{calling, step}
use Rattle.card.specs.Attr.{Alike, sent_by, SendsZeros, AttrDecidesNothing}
use Rattle.card.proofs.Cases.{Cases, cases}

-- ---- a received packet

alike : (f : Function) (b c out : List ℕ) → SameButAttr b c → Alike f b c out
unfolding calling
alike f b c out e =
    let same : step f Receive b out ≡ step f Receive c out = ap (commit f out) (same_received b c e f) in
    record {
      effect = same;
      payload = ap (λ (o : Observed). payload_for o.answer b) same ∙ same_handed_back b c e (step f Receive c out).answer;
    }

-- ---- a packet that is sent

module _ (f : Function) (bytes out : List ℕ) where
  abbrev Clear : Success → Type 0
  Clear d = attr_at (take d.sent (d.bytes ++ drop (length d.bytes) out)) ≡ 0

  clear_sent : (g : Function) (w : Unrefused) (p : Packet) (load : List ℕ) → attr_bits p.head.attr ≡ 0
      → Does Clear (sends g w p load out)
  clear_sent g w p load z =
      does_write Clear g w p load out
      (λ n e. let whole = rw e at (sent_bytes p load out n e) in rw whole (written_attr p load ∙ z))

  silent : (g : Function) (w : Unrefused) → Does Clear (sends_nothing g w)
  silent g w = does_nothing Clear g w refl

  clear_cases : Cases f bytes out (λ c s. Does Clear s)
  clear_cases =
      record {
        refused = λ c n l. does_refusal Clear n;
        refused_kind = λ p e n l. does_refusal Clear n;
        reset = λ a s b. silent _ _;
        enabled = silent _ _;
        enable = silent _ _;
        disable = silent _ _;
        pages_on = λ n g. silent _ _;
        pages_off = silent _ _;
        pages_not_on = silent _ _;
        ask = λ a t few e. clear_sent _ _ _ [] refl;
        read = λ a at t w e free. clear_sent _ _ _ bytes refl;
        write = λ a at w e. clear_sent _ _ _ bytes refl;
        drains_none = λ z. silent _ _;
        drains = λ z. clear_sent _ _ _ [] refl;
        page = λ q e s. clear_sent _ _ _ [] refl;
        read_ends = λ x r n a h d c l. silent _ _;
        read_goes_on = λ x r n a h d c l m. silent _ _;
        read_fails = λ x r s a h d z. silent _ _;
        aborts = λ x q s a h d z. silent _ _;
        switches_off = λ x q s a h d z. silent _ _;
        off_boundary = λ x q n a h d j. silent _ _;
        first_discarded = λ x q n a h d j. silent _ _;
        last_discarded = λ x q n a h d j. silent _ _;
        first_fills = λ x q n a h d j l. silent _ _;
        last_fills = λ x q n a h d j l. silent _ _;
        invalidates = λ i a o w. silent _ _;
        answers_group = λ s a. silent _ _;
        stops_pages = λ s a. silent _ _;
      }

  committed : (s : Result Success ℕ) → Does Clear s → attr_at (take (commit f out s).sent (commit f out s).buffer) ≡ 0
  committed (Ok d) h = h.success d refl
  committed (Err n) h = refl

  clear_call : (c : Command) → attr_at (sent_by f c bytes out) ≡ 0
  clear_call c = committed (calling f c bytes out) (cases f bytes out _ clear_cases c)

sends_zeros : (f : Function) (c : Command) (bytes out : List ℕ) → SendsZeros f c bytes out
sends_zeros f c bytes out =
    record {
      bits = clear_call f bytes out c;
      reads = λ p e. read_attr (sent_by f c bytes out) p e ∙ ap attr_in (clear_call f bytes out c);
    }

pub attr_decides_nothing : AttrDecidesNothing
attr_decides_nothing = record { received = alike; sent = sends_zeros }
