-- The numbers of the entries do not matter: a lawful machine stays lawful when it shows its entries under others.
use Rattle.std.specs.Prelude.{Option, None, Some}
use mathlib.Core.Path.{◌≡◌, refl, sym, ap, ◌∙◌}
use mathlib.Core.Logic.{inl, inr, ⊎_elim}
use Prim.Native.Nat.{ℕ}
use Rattle.demand3.specs.Terms.{Terms}
use Rattle.demand3.specs.Seen.{Taken, CPL, INV, DRAIN, Seen}
use Rattle.demand3.specs.Runs.{Observer, Machine, Bench}
use Rattle.demand3.proofs.Laws.{View, Step, HeldIn, fills}
use Rattle.demand3.proofs.Theorem.{Blank, Lawful}

-- the entry with number j is shown as number `turn j`, and the other way round
module _ {T : Terms} where
  abbrev turned : View T → (ℕ → ℕ) → View T
  turned v turn =
      record {
        held = λ j. v.held (turn j);
        opens = v.opens;
        live = v.live;
        waiting = v.waiting;
        waits_for = v.waits_for;
        agent = v.agent;
      }

  turned_held : (v : View T) (turn : ℕ → ℕ) → ((j : ℕ) → turn (turn j) ≡ j) → (e : T.Entry) → HeldIn v e
      → HeldIn (turned v turn) e
  turned_held v turn twice e h = (turn h.0, ap v.held (twice h.0) ∙ h.1)

  -- what fills the cache does not depend on the numbers
  turned_fills : (v : View T) (turn : ℕ → ℕ) (y : Option (Taken T)) (e : T.Entry)
      → fills v y e ≡ fills (turned v turn) y e
  turned_fills v turn None e = refl
  turned_fills v turn (Some (CPL t n None)) e = refl
  turned_fills v turn (Some (CPL t n (Some d))) e = refl
  turned_fills v turn (Some (INV i a)) e = refl
  turned_fills v turn (Some (DRAIN n)) e = refl

  turned_step : (tags : ℕ) (v w : View T) (x : Seen T) (before after : ℕ → ℕ) → ((j : ℕ) → before (before j) ≡ j)
      → Step tags v w x → Step tags (turned v before) (turned w after) x
  turned_step tags v w x before after twice q =
      record {
        opens = q.opens;
        unused = q.unused;
        live = q.live;
        entries = λ j e h. ⊎_elim (λ y. inl (turned_held v before twice e y)) (λ y. inr (sym (turned_fills v before x.took e) ∙ y)) (q.entries (after j) e h);
        through = λ b k e. let t = q.through b k e in record { entry = t.entry; held = turned_held v before twice t.entry t.held; serves = t.serves };
        direct = q.direct;
        waiting = q.waiting;
        waits_for = q.waits_for;
        carried = q.carried;
        first = q.first;
        lasts = q.lasts;
        not_yet = q.not_yet;
        dropped = λ i a p j e h. q.dropped i a p (after j) e h;
        stale = q.stale;
      }

module _ {T : Terms} {R : Observer T} (M : Machine R) (turn : M.State → ℕ → ℕ) (twice : (f : M.State) (j : ℕ) → turn f (turn f j) ≡ j) where
  abbrev pub renumbered : Machine R
  renumbered =
      record {
        State = M.State;
        new = M.new;
        state = M.state;
        answer = M.answer;
        buffer = M.buffer;
        held = λ f j. M.held f (turn f j);
      }

  abbrev of : Bench renumbered → Bench M
  of s = record { fn = s.fn; notes = s.notes }

  blank_turned : (v : View T) (f : ℕ → ℕ) → Blank v → Blank (turned v f)
  blank_turned v f b = record { held = λ j. b.held (f j); opens = b.opens; waiting = b.waiting }

  pub renumbered_lawful : Lawful M → Lawful renumbered
  renumbered_lawful L =
      record {
        view = λ s. turned (L.view (of s)) (turn s.fn);
        held = λ s j. L.held (of s) (turn s.fn j);
        Proper = λ s. L.Proper (of s);
        keeps = λ s c u o. L.keeps (of s) c u o;
        law = λ s c u o. turned_step R.tags _ _ _ (turn s.fn) (turn (M.state s.fn c)) (twice s.fn) (L.law (of s) c u o);
        legible = λ s c u o. L.legible (of s) c u o;
        taken = λ s c u o r. L.taken (of s) c u o r;
        busy = λ s c o i a e. L.busy (of s) c o i a e;
        apart = λ s c u o. L.apart (of s) c u o;
        written = λ s c u o. L.written (of s) c u o;
        silent = λ s c e. L.silent (of s) c e;
        reset = λ s c e. let z = L.reset (of s) c e in (z.0, blank_turned _ _ z.1);
        new = (L.new.0, blank_turned _ _ L.new.1);
      }
