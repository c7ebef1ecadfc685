-- A refused call changes nothing, and its number is one of those that 01 gives for the call.
use Rattle.std.specs.Prelude.{Err, Ok, Result}
use mathlib.Core.Path.{◌≡◌, refl, ap}
use mathlib.Core.Bool.{true, ◌&&◌, ◌||◌}
use mathlib.Core.List.{List, []}
use Prim.Native.Nat.{ℕ, ◌%◌, ◌≤◌}
use native.Mathlib.Omega.{arith}
use lib.Dec.{leb, eqb, lit≤}
use lib.ListN.{length}
use borrow.Author.Tests.{leb-true, eqb-true, ltb-true}
use Rattle.lemmas.proofs.Cases.{and_both, impossible}
use Rattle.packet.specs.declared.Body.{Body}
use Rattle.packet.specs.declared.Body.TheVariants.{Tr, Mem, Cpl, Inv, Ic, Prq, Prs}
use Rattle.packet.specs.Among.{is_among}
use Rattle.packet.proofs.Among.{Among, among_ok, among_refusal, every_one, every_one_lem, tr_sendable, read_sendable, write_sendable, ic_sendable, prq_sendable}
use Rattle.pages.specs.Pages.{is_index}
use Rattle.state.specs.declared.Function.{Function}
use Rattle.state.specs.State.{head_of}
use Rattle.state.specs.Answers.{Success, commit}
use Rattle.state.proofs.Laws.{sends_numbers}
use Rattle.call_ask.proofs.AskLaws.{few_units}
use Rattle.call_access.proofs.Laws.{reached}
use Rattle.card.specs.declared.Command.{Command}
use Rattle.card.specs.declared.Command.TheVariants.{Reset, Enable, Disable, Ask as Asks, Access, Receive, Drain, PagesOn, PagesOff, PageRequest as PageRequests}
use Rattle.card.specs.Numbers.{numbers_of}
use Rattle.card.specs.Call.{calling, step}
use Rattle.card.proofs.Cases.{numbers_of_kind, Cases, cases}

-- A refused call leaves the state and the buffer unchanged, and sends nothing.
pub refused_keeps : (f : Function) (c : Command) (bytes out : List ℕ) (n : ℕ) → (step f c bytes out).answer ≡ Err n
    → ((step f c bytes out).state ≡ f) × ((step f c bytes out).sent ≡ 0) × ((step f c bytes out).buffer ≡ out)
refused_keeps f c bytes out n = go (calling f c bytes out)
  where
    go : (s : Result Success ℕ) → (commit f out s).answer ≡ Err n
        → ((commit f out s).state ≡ f) × ((commit f out s).sent ≡ 0) × ((commit f out s).buffer ≡ out)
    go (Ok d) e = impossible cc
    go (Err m) e = (refl, refl, refl)

-- a packet that is read and then refused gets a number of its kind's list, which is part of the call's list
kinds : (b : Body) → every_one (λ n. is_among n (numbers_of Receive)) (numbers_of_kind b) ≡ true
kinds (Tr t) = refl
kinds (Mem m) = refl
kinds (Cpl c) = refl
kinds (Inv i) = refl
kinds (Ic i) = refl
kinds (Prq q) = refl
kinds (Prs s) = refl

-- a call that sends, if it passes its tests, is refused only for lack of room
fits_call : (f : Function) (bytes out : List ℕ) → Cases f bytes out (λ c s. Among (numbers_of c) s)
fits_call f bytes out =
    record {
      refused = λ c n l. among_refusal _ n l;
      refused_kind = λ p e n l. among_refusal _ n (every_one_lem (λ m. is_among m (numbers_of Receive)) (numbers_of_kind p.body) n (kinds p.body) l);
      reset = λ a s b. among_ok _ _;
      enabled = among_ok _ _;
      enable = among_ok _ _;
      disable = among_ok _ _;
      pages_on = λ n g. among_ok _ _;
      pages_off = among_ok _ _;
      pages_not_on = among_ok _ _;
      ask = λ a t few e. let n = few_units f.rcb f.stu a few in
          sends_numbers _ _ _ _ [] out refl (tr_sendable (head_of f.id) refl _ (omega arith) (omega (arith, n.0)) (omega (arith, n.1)) (omega arith));
      read = λ a at t w e free. let h = reached f a (length bytes) at e in
          sends_numbers _ _ _ _ bytes out refl (rw (h.fills, w) (read_sendable (head_of f.id) refl a.dwords at.address at.translated h.some h.few h.dword t));
      write = λ a at w e. let h = reached f a (length bytes) at e in
          sends_numbers _ _ _ _ bytes out refl (write_sendable (head_of f.id) refl a.dwords at.address at.translated h.some h.few h.dword (length bytes) (rw w at h.fills));
      drains_none = λ z. among_ok _ _;
      drains = λ z. sends_numbers _ _ _ _ [] out refl (ic_sendable (head_of f.id) refl _ (lit≤ tt));
      page = λ q e s. let wish = and_both (q.read || q.write) _ e in
          let page = and_both (eqb (q.page % 4096) 0) (is_index q.index) wish.1 in
          sends_numbers _ _ _ _ [] out refl (prq_sendable (head_of f.id) refl q (eqb-true (q.page % 4096) 0 page.0) (omega (arith, ltb-true q.index.0 32 page.1)));
      read_ends = λ x r n a h d c l. among_ok _ _;
      read_goes_on = λ x r n a h d c l m. among_ok _ _;
      read_fails = λ x r s a h d z. among_ok _ _;
      aborts = λ x q s a h d z. among_ok _ _;
      switches_off = λ x q s a h d z. among_ok _ _;
      off_boundary = λ x q n a h d j. among_ok _ _;
      first_discarded = λ x q n a h d j. among_ok _ _;
      last_discarded = λ x q n a h d j. among_ok _ _;
      first_fills = λ x q n a h d j l. among_ok _ _;
      last_fills = λ x q n a h d j l. among_ok _ _;
      invalidates = λ i a o w. among_ok _ _;
      answers_group = λ s a. among_ok _ _;
      stops_pages = λ s a. among_ok _ _;
    }

calling_numbers : (f : Function) (c : Command) (bytes out : List ℕ) → Among (numbers_of c) (calling f c bytes out)
calling_numbers f c bytes out = cases f bytes out _ (fits_call f bytes out) c

-- A call is refused only with a number of its own list,
pub refused_with_lem : (f : Function) (c : Command) (bytes out : List ℕ) (n : ℕ) → (step f c bytes out).answer ≡ Err n
    → is_among n (numbers_of c) ≡ true
refused_with_lem f c bytes out n e = go (calling f c bytes out) (calling_numbers f c bytes out) e
  where
    go : (s : Result Success ℕ) → Among (numbers_of c) s → (commit f out s).answer ≡ Err n
        → is_among n (numbers_of c) ≡ true
    go (Ok d) h q = impossible cc
    go (Err m) h q = h.one n (let same : m ≡ n = cc in ap Err same)

seventeen : (c : Command) → every_one (λ n. leb 1 n && leb n 17) (numbers_of c) ≡ true
seventeen (Reset a) = refl
seventeen Enable = refl
seventeen Disable = refl
seventeen (Asks a) = refl
seventeen (Access a) = refl
seventeen Receive = refl
seventeen Drain = refl
seventeen (PagesOn allocation) = refl
seventeen PagesOff = refl
seventeen (PageRequests q) = refl

-- which is one of the seventeen
pub numbers : (f : Function) (c : Command) (bytes out : List ℕ) (n : ℕ) → (step f c bytes out).answer ≡ Err n
    → (1 ≤ n) × (n ≤ 17)
numbers f c bytes out n e =
    let both = and_both (leb 1 n) (leb n 17) (every_one_lem (λ m. leb 1 m && leb m 17) (numbers_of c) n (seventeen c) (refused_with_lem f c bytes out n e)) in
    (leb-true 1 n both.0, leb-true n 17 both.1)
