-- Characters without a line feed, and with one after them.
use Rattle.std.specs.Prelude.{Option, Some, None, position}
use Rattle.std.specs.List.{position_from}
use Rattle.std.proofs.lemmas.Bool.{and_parts}
use Rattle.std.proofs.lemmas.List.{get_or-drop}
use Rattle.std.proofs.lemmas.List.Quantifiers.{position-Some}
use Rattle.std.proofs.lemmas.Iterator.Adapters.{position_from-zero}
use mathlib.Core.Path.{◌≡◌, refl, sym, ap, ◌∙◌}
use mathlib.Core.Bool.{Bool, true, false, cond, not, ◌&&◌, true≢false, and_assoc}
use mathlib.Core.List.{List, [], ◌∷◌, ◌++◌, append-nil}
use Prim.Native.Nat.{ℕ, zero, suc, ◌+◌, ◌≤◌, ◌<◌}
use native.Mathlib.Numerals.{add-one}
use native.Mathlib.Omega.{arith}
use lib.Dec.{eqb, leb}
use lib.ListN.{length, take, drop, get_or, length-drop, take-append-drop, drop_of_length-le}
use lib.Seq.{take-suc, take-add, append_snoc, split_at, length-take-le, get_or-take}
use borrow.Author.Tests.{eqb-true, not-true, leb-true, leb-false}
use Rattle.text.specs.Digits.{is_hex, all_hex}
use Rattle.text.proofs.Pairs.{hex_cons, digit_at}
use Rattle.lister.specs.Line.{line_text}
use Rattle.lister.specs.Stream.{printed, number_after, start_after}
use Rattle.lister.proofs.Cuts.{printed_append, number_after_append, start_after_append}
use Rattle.lister.specs.Pieces.{no_feed, LineEnd}

pub no_feed_append : (a b : List ℕ) → no_feed (a ++ b) ≡ (no_feed a && no_feed b)
unfolding no_feed
no_feed_append [] b = refl
no_feed_append (x ∷ a) b =
    ap (λ (t : Bool). not (eqb x 10) && t) (no_feed_append a b) ∙ sym (and_assoc (not (eqb x 10)) (no_feed a) (no_feed b))

-- a hex digit is not a line feed
digit : (c : ℕ) (t : Bool) → eqb c 10 ≡ t → is_hex c ≡ true → not t ≡ true
digit c false e h = refl
digit c true e h = absurd (true≢false (sym h ∙ ap is_hex (eqb-true c 10 e)))

pub hex_no_feed : (cs : List ℕ) → all_hex cs ≡ true → no_feed cs ≡ true
unfolding no_feed
hex_no_feed [] h = refl
hex_no_feed (c ∷ cs) h =
    let b = hex_cons c cs h in
    rw (digit c (eqb c 10) refl b.0, hex_no_feed cs b.1)

not_feed : (c : ℕ) (cs : List ℕ) → no_feed (c ∷ cs) ≡ true → (eqb c 10 ≡ false) × (no_feed cs ≡ true)
unfolding no_feed
not_feed c cs h = let b = and_parts (not (eqb c 10)) (no_feed cs) h in (not-true (eqb c 10) b.0, b.1)

snoc : (p : List ℕ) (c : ℕ) (cs : List ℕ) → p ++ c ∷ [] ++ cs ≡ p ++ (c ∷ cs)
snoc p c cs = append_snoc p c cs

-- ---- characters that end no line

pub printed_none : (k : ℕ) (p cs : List ℕ) → no_feed cs ≡ true → printed k p cs ≡ []
unfolding printed
printed_none k p [] h = refl
printed_none k p (c ∷ cs) h = let n = not_feed c cs h in rw n.0 (printed_none k (p ++ c ∷ []) cs n.1)

pub number_none : (k : ℕ) (cs : List ℕ) → no_feed cs ≡ true → number_after k cs ≡ k
unfolding number_after
number_none k [] h = refl
number_none k (c ∷ cs) h = let n = not_feed c cs h in rw n.0 (number_none k cs n.1)

pub start_none : (p cs : List ℕ) → no_feed cs ≡ true → start_after p cs ≡ p ++ cs
unfolding start_after
start_none p [] h = sym (append-nil p)
start_none p (c ∷ cs) h = let n = not_feed c cs h in rw n.0 (start_none (p ++ c ∷ []) cs n.1 ∙ snoc p c cs)

-- ---- characters that end one line

module _ (cs : List ℕ) (h : no_feed cs ≡ true) (rest : List ℕ) where
  pub printed_line : (k : ℕ) (p : List ℕ)
      → printed k p (cs ++ 10 ∷ rest) ≡ line_text k (p ++ cs) ++ printed (k + 1) [] rest
  unfolding printed
  printed_line k p =
      printed_append k p cs (10 ∷ rest) ∙ rw (printed_none k p cs h, number_none k cs h, start_none p cs h)

  pub number_line : (k : ℕ) → number_after k (cs ++ 10 ∷ rest) ≡ number_after (k + 1) rest
  unfolding number_after
  number_line k = number_after_append k cs (10 ∷ rest) ∙ rw (number_none k cs h)

  pub start_line : (p : List ℕ) → start_after p (cs ++ 10 ∷ rest) ≡ start_after [] rest
  unfolding start_after
  start_line p = start_after_append p cs (10 ∷ rest)

-- a list with a line feed at n, and none before
pub at_feed : (cs : List ℕ) (n : ℕ) → n < length cs → get_or cs n 0 ≡ 10 → cs ≡ take n cs ++ 10 ∷ drop (n + 1) cs
at_feed cs n h e = split_at cs n 0 h ∙ rw (e, add-one)

-- ---- whole lines, one after the other

abbrev pub WholeLines : ℕ → List ℕ → ℕ → ℕ → Type 0
WholeLines k cs taken n =
    (taken ≤ length cs) × (start_after [] (take taken cs) ≡ []) × (n ≡ number_after k (take taken cs))

module _ (k : ℕ) (cs : List ℕ) (taken n : ℕ) (w : WholeLines k cs taken n) where
  module _ (end : ℕ) (e : LineEnd (drop taken cs) end) (more : end < length (drop taken cs)) where
    next : take (taken + (end + 1)) cs ≡ take taken cs ++ (take end (drop taken cs) ++ 10 ∷ [])
    next = take-add taken (end + 1) cs ∙ rw (add-one, take-suc (drop taken cs) end 0 more, e.2 more)

    pub one_more : WholeLines k cs (taken + (end + 1)) (n + 1)
    unfolding start_after number_after
    one_more =
        let l = length-drop taken cs in (
          omega arith,
          rw (next, start_after_append) (start_line (take end (drop taken cs)) e.1 [] (start_after [] (take taken cs))),
          rw (next, number_after_append, ← w.2) (sym (number_line (take end (drop taken cs)) e.1 [] n)),
        )

    pub printed_more : printed k [] (take (taken + (end + 1)) cs)
        ≡ printed k [] (take taken cs) ++ line_text n (take end (drop taken cs))
    unfolding printed
    printed_more =
        ap (printed k []) next ∙ printed_append k [] (take taken cs) (take end (drop taken cs) ++ 10 ∷ [])
        ∙ rw (w.1, ← w.2) (ap (λ (l : List ℕ). printed k [] (take taken cs) ++ l) (printed_line (take end (drop taken cs)) e.1 [] n [] ∙ append-nil (line_text n (take end (drop taken cs)))))

  module _ (e : no_feed (drop taken cs) ≡ true) where
    pub number_end : n ≡ number_after k cs
    number_end = sym (ap (number_after k) (sym (take-append-drop taken cs)) ∙ number_after_append k (take taken cs) (drop taken cs) ∙ number_none (number_after k (take taken cs)) (drop taken cs) e ∙ sym w.2)

    pub start_end : drop taken cs ≡ start_after [] cs
    start_end = sym (ap (start_after []) (sym (take-append-drop taken cs)) ∙ start_after_append [] (take taken cs) (drop taken cs) ∙ rw w.1 (start_none [] (drop taken cs) e))

    pub printed_end : printed k [] (take taken cs) ≡ printed k [] cs
    printed_end =
        sym (ap (printed k []) (sym (take-append-drop taken cs)) ∙ printed_append k [] (take taken cs) (drop taken cs)
        ∙ rw (printed_none (number_after k (take taken cs)) (start_after [] (take taken cs)) (drop taken cs) e) (append-nil (printed k [] (take taken cs))))

pub all_taken : (cs : List ℕ) (taken : ℕ) → length cs ≤ taken → no_feed (drop taken cs) ≡ true
unfolding no_feed
all_taken cs taken h = rw (drop_of_length-le cs {i = taken} h)

-- the hex digits at the start of a list end before its first line feed
pub hex_before : (cs : List ℕ) (n end : ℕ) → all_hex (take n cs) ≡ true → n ≤ length cs → LineEnd cs end
    → end < length cs → n ≤ end
hex_before cs n end h l e more = by_test (leb n end) refl
  where
    by_test : (t : Bool) → leb n end ≡ t → n ≤ end
    by_test true q = leb-true n end q
    by_test false q =
        let before : end < n = leb-false n end q in
        let long : length (take n cs) ≡ n = length-take-le n cs l in
        let d : is_hex (get_or (take n cs) end 0) ≡ true = digit_at (take n cs) end h (omega arith) in
        absurd (true≢false (sym d ∙ ap is_hex (get_or-take n cs end 0 before ∙ e.2 more)))

-- a list with a line feed: the line that it ends, and the rest
module _ (cs : List ℕ) (end : ℕ) (e : LineEnd cs end) (more : end < length cs) where
  parts : cs ≡ take end cs ++ 10 ∷ drop (end + 1) cs
  parts = at_feed cs end more (e.2 more)

  pub number_parts : (k : ℕ) → number_after k cs ≡ number_after (k + 1) (drop (end + 1) cs)
  number_parts k = ap (number_after k) parts ∙ number_line (take end cs) e.1 (drop (end + 1) cs) k

  pub start_parts : (p : List ℕ) → start_after p cs ≡ start_after [] (drop (end + 1) cs)
  start_parts p = ap (start_after p) parts ∙ start_line (take end cs) e.1 (drop (end + 1) cs) p

  pub printed_parts : (k : ℕ) (p : List ℕ)
      → printed k p cs ≡ line_text k (p ++ take end cs) ++ printed (k + 1) [] (drop (end + 1) cs)
  printed_parts k p = ap (printed k p) parts ∙ printed_line (take end cs) e.1 (drop (end + 1) cs) k p

-- ---- the first line feed, by std's search

none_case : (t : Bool) (i : ℕ) (r : Option ℕ) (b : Bool) → (r ≡ None → b ≡ true) → cond t (Some i) r ≡ None → (not t && b) ≡ true
none_case true i r b f e = cc
none_case false i r b f e = f e

none_found : (cs : List ℕ) (i : ℕ) → position_from (λ (c : ℕ). eqb c 10) i cs ≡ None → no_feed cs ≡ true
unfolding no_feed
none_found [] i e = refl
none_found (c ∷ cs) i e =
    none_case (eqb c 10) i (position_from (λ (c : ℕ). eqb c 10) (i + 1) cs) (no_feed cs) (none_found cs (i + 1)) e

none_before : (cs : List ℕ) (n : ℕ) → ((k : ℕ) → k < n → eqb (get_or cs k 0) 10 ≡ false) → n ≤ length cs → no_feed (take n cs) ≡ true
unfolding no_feed
none_before cs zero f h = refl
none_before [] (suc n) f h = refl
none_before (c ∷ cs) (suc n) f h =
    rw (f 0 (omega arith)) (none_before cs n (λ k l. f (suc k) (omega arith)) (omega arith))

module _ (cs : List ℕ) (from : ℕ) (h : from ≤ length cs) (e : no_feed (take from cs) ≡ true) where
  pub feed_none : position (λ (c : ℕ). eqb c 10) (drop from cs) ≡ None → no_feed cs ≡ true
  feed_none f =
      let rest = none_found (drop from cs) 0 (sym (position_from-zero (λ (c : ℕ). eqb c 10) (drop from cs)) ∙ f) in
      ap no_feed (sym (take-append-drop from cs)) ∙ no_feed_append (take from cs) (drop from cs) ∙ rw (e, rest) refl

  pub feed_found : (n : ℕ) → position (λ (c : ℕ). eqb c 10) (drop from cs) ≡ Some n → (from + n < length cs) × LineEnd cs (from + n)
  feed_found n f =
      let at = position-Some (λ (c : ℕ). eqb c 10) (drop from cs) n 0 f in
      let long = length-drop from cs in
      let before = none_before (drop from cs) n at.2 (omega arith) in (
        omega arith,
        (omega arith, rw (take-add from n cs, no_feed_append, e, before) refl, λ more. eqb-true (get_or cs (from + n) 0) 10 (rw get_or-drop at at.1)),
      )
