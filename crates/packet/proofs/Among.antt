-- Which numbers a call can be refused with.
use Rattle.std.specs.Prelude.{Err, None, Ok, Option, Result, Some}
use mathlib.Core.Path.{◌≡◌, refl}
use mathlib.Core.Bool.{Bool, true, false, cond, ◌&&◌}
use mathlib.Core.List.{List, [], ◌∷◌}
use Prim.Native.Nat.{ℕ, ◌+◌, ◌*◌, ◌%◌, ◌<◌, ◌≤◌}
use native.Mathlib.Omega.{arith}
use lib.Dec.{ltb, eqb, lit≤}
use borrow.Author.Tests.{eqb-true, lt-ltb, le-leb, eq-eqb, ne_eqb}
use Rattle.lemmas.proofs.Cases.{by_cases, either_case, and_both, never_both, impossible}
use Rattle.packet.specs.declared.Frame.{Frame}
use Rattle.packet.specs.declared.Form.{Form}
use Rattle.packet.specs.declared.Head.{Head}
use Rattle.packet.specs.declared.Tag.{Tag}
use Rattle.packet.specs.declared.Access.TheVariants.{Read, Write}
use Rattle.packet.specs.declared.TranslationRequest.{TranslationRequest}
use Rattle.packet.specs.declared.InvalidateCompletion.{InvalidateCompletion}
use Rattle.packet.specs.declared.PageRequest.{PageRequest}
use Rattle.packet.specs.declared.Body.TheVariants.{Tr, Mem, Ic, Prq}
use Rattle.packet.specs.declared.Packet.{Packet}
use Rattle.packet.specs.Forms.{payload_offset}
use Rattle.packet.specs.Kinds.{body_in_range, allowed_body, allowed, short_enough, payload_length, form_of}
use Rattle.packet.specs.Reading.{read_form, read_choice, reading}
use Rattle.packet.specs.Writing.{writing}
use Rattle.packet.specs.Among.{is_among}

-- if the result is a refusal, its number is on the list
pub record Among {A : Type 0} (l : List ℕ) (s : Result A ℕ) : Type 0 where
  pub one : (n : ℕ) → s ≡ Err n → is_among n l ≡ true

module _ {A : Type 0} (l : List ℕ) where
  pub among_ok : (a : A) → Among l (Ok a)
  among_ok a = record { one = λ n e. impossible cc }

  pub among_refusal : (n : ℕ) → is_among n l ≡ true → Among {A = A} l (Err n)
  among_refusal n h = record { one = λ m e. let same : n ≡ m = cc in rw same at h }

  pub among_case : (t : Bool) (a b : Result A ℕ) → (t ≡ true → Among l a) → (t ≡ false → Among l b) → Among l (cond t a b)
  among_case t a b = either_case (Among l) t a b

pub ruleset among = (among_ok, among_refusal, among_case)

-- every number of a list passes a test
abbrev pub every_one : (ℕ → Bool) → List ℕ → Bool
every_one p [] = true
every_one p (m ∷ l) = p m && every_one p l

-- and so does any number on it
pub every_one_lem : (p : ℕ → Bool) (l : List ℕ) (n : ℕ) → every_one p l ≡ true → is_among n l ≡ true → p n ≡ true
every_one_lem p [] n h e = absurd (never_both _ e refl)
every_one_lem p (m ∷ l) n h e =
    let both = and_both (p m) (every_one p l) h in
    by_cases (eqb n m) (λ t. rw (eqb-true n m t) both.0) (λ t. every_one_lem p l n both.1 (rw t at e))

-- a longer list of numbers holds too
pub among_monotone : {A : Type 0} (l m : List ℕ) (s : Result A ℕ) → every_one (λ n. is_among n m) l ≡ true → Among l s
    → Among m s
among_monotone l m s h x = record { one = λ n e. every_one_lem (λ k. is_among k m) l n h (x.one n e) }

-- ---- reading

reading_form : (m : Form) (f : Frame) (n : ℕ) → Among (1 ∷ 2 ∷ 3 ∷ 4 ∷ []) (read_form m f n)
unfolding read_form
reading_form m f n = search among

reading_choice : (c : Option Form) (f : Frame) (n : ℕ) → Among (1 ∷ 2 ∷ 3 ∷ 4 ∷ []) (read_choice c f n)
reading_choice (Some m) f n = reading_form m f n
reading_choice None f n = search among

-- reading refuses only with 1, 2, 3 or 4
pub reading_numbers : (b : List ℕ) → Among (1 ∷ 2 ∷ 3 ∷ 4 ∷ []) (reading b)
unfolding reading
reading_numbers b = search (among, reading_choice)

-- ---- writing

-- writing refuses only with 12, 4 or 17
pub writing_numbers : (p : Packet) (load room : ℕ) → Among (12 ∷ 4 ∷ 17 ∷ []) (writing p load room)
unfolding writing
writing_numbers p load room = search among

-- a packet that passes every test but the one for room
pub record Sendable (p : Packet) (load : ℕ) : Type 0 where
  pub tc : p.head.tc < 8
  pub body : body_in_range p.body ≡ true
  pub fills : load ≡ payload_length p.body
  pub allows : allowed p ≡ true

-- is refused only with 17
pub only_room : (l : List ℕ) (p : Packet) (load room : ℕ) → is_among 17 l ≡ true → Sendable p load
    → Among l (writing p load room)
unfolding writing
only_room l p load room h s =
    let n = payload_offset (form_of p.body) + load in
    rw (lt-ltb p.head.tc 8 s.tc, s.body, eq-eqb load (payload_length p.body) s.fills, s.allows)
    (among_case l (ltb room n) (Err 17) (Ok n) (λ short. among_refusal l 17 h) (λ long. among_ok l n))

short : (w : ℕ) → 1 ≤ w → w ≤ 32 → short_enough w ≡ true
short w some few = rw (ne_eqb w 0 (omega arith), le-leb w 32 few)

-- each kind that a Function sends, on Traffic Class 0
module _ (h : Head) (tc : h.tc ≡ 0) where
  first : h.tc < 8
  first = rw tc (lit≤ tt)

  pub tr_sendable : (t : TranslationRequest) → t.dwords % 2 ≡ 0 → 1 ≤ t.dwords → t.dwords ≤ 32
      → t.address % 4096 ≡ 0 → Sendable (record { head = h; body = Tr t }) 0
  unfolding body_in_range allowed_body payload_length
  tr_sendable t even some few page =
      record {
        tc = first;
        body = rw (lt-ltb t.dwords 1024 (omega arith), page);
        fills = refl;
        allows = rw (even, short t.dwords some few);
      }

  module _ (dwords address : ℕ) (translated : Bool) (some : 1 ≤ dwords) (few : dwords ≤ 32) (dword : address % 4 ≡ 0) where
    pub read_sendable : (tag : Tag)
        → Sendable (record { head = h; body = Mem (record { access = Read tag; dwords = dwords; address = address; translated = translated }) }) 0
    unfolding body_in_range allowed_body payload_length
    read_sendable tag = record { tc = first; body = rw (lt-ltb dwords 1024 (omega arith), dword); fills = refl; allows = short dwords some few }

    pub write_sendable : (load : ℕ) → load ≡ 4 * dwords
        → Sendable (record { head = h; body = Mem (record { access = Write; dwords = dwords; address = address; translated = translated }) }) load
    unfolding body_in_range allowed_body payload_length
    write_sendable load all =
        record {
          tc = first;
          body = rw (lt-ltb dwords 1024 (omega arith), dword);
          fills = rw (ne_eqb dwords 0 (omega arith)) (omega arith);
          allows = short dwords some few;
        }

  pub ic_sendable : (i : InvalidateCompletion) → i.cc < 8 → Sendable (record { head = h; body = Ic i }) 0
  unfolding body_in_range allowed_body payload_length
  ic_sendable i cc = record { tc = first; body = lt-ltb i.cc 8 cc; fills = refl; allows = refl }

  pub prq_sendable : (q : PageRequest) → q.page % 4096 ≡ 0 → q.index.0 < 512
      → Sendable (record { head = h; body = Prq q }) 0
  unfolding body_in_range allowed_body payload_length
  prq_sendable q page index =
      record { tc = first; body = rw (page, lt-ltb q.index.0 512 index); fills = refl; allows = rw tc }
