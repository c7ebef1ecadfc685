-- Laws of hex: bytes decoded pair by pair.
use Rattle.std.proofs.lemmas.Bool.{and_parts}
use mathlib.Core.Path.{◌≡◌, refl, sym, ap, ◌∙◌}
use mathlib.Core.Bool.{Bool, true, false, ◌&&◌, and_assoc}
use mathlib.Core.List.{List, [], ◌∷◌, ◌++◌}
use Prim.Native.Nat.{ℕ, zero, suc, ◌+◌, ◌*◌, ◌%◌, ◌≤◌, ◌<◌, zero-le}
use native.Mathlib.Nat.{not-suc-le-zero, le_of_suc-le-suc}
use native.Mathlib.Numerals.{add-one}
use native.Mathlib.Omega.{arith}
use lib.ListN.{length, take, drop, get_or, set, take-append-drop}
use lib.Seq.{take-suc, drop-cons, take-suc-set, append_snoc, length-take-le}
use borrow.Author.Tests.{lt-ltb, le-ltb}
use Rattle.text.specs.Digits.{hex_value, is_hex, all_hex, unhex}

-- ---- digits

-- the first is a digit, and so are the others
pub hex_cons : (c : ℕ) (cs : List ℕ) → all_hex (c ∷ cs) ≡ true → (is_hex c ≡ true) × (all_hex cs ≡ true)
unfolding all_hex
hex_cons c cs = and_parts (is_hex c) (all_hex cs)

pub digit_at : (cs : List ℕ) (i : ℕ) → all_hex cs ≡ true → i < length cs → is_hex (get_or cs i 0) ≡ true
digit_at [] i h l = absurd (not-suc-le-zero l)
digit_at (c ∷ cs) zero h l = (hex_cons c cs h).0
digit_at (c ∷ cs) (suc i) h l = digit_at cs i (hex_cons c cs h).1 (le_of_suc-le-suc l)

pub all_hex_append : (a b : List ℕ) → all_hex (a ++ b) ≡ (all_hex a && all_hex b)
unfolding all_hex
all_hex_append [] b = refl
all_hex_append (x ∷ a) b =
    ap (λ (t : Bool). is_hex x && t) (all_hex_append a b) ∙ sym (and_assoc (is_hex x) (all_hex a) (all_hex b))

unhex_append : (a b : List ℕ) → length a % 2 ≡ 0 → unhex (a ++ b) ≡ unhex a ++ unhex b
unfolding unhex
unhex_append [] b h = refl
unhex_append (x ∷ []) b h = let z : ◌≡◌ {A = ℕ} 1 0 = h in absurd (omega arith)
unhex_append (x ∷ y ∷ a) b h = ap (λ (l : List ℕ). (hex_value x * 16 + hex_value y) ∷ l) (unhex_append a b (omega arith))

pair_at : (cs : List ℕ) (n : ℕ) → n + 1 < length cs
    → take (n + 2) cs ≡ take n cs ++ (get_or cs n 0 ∷ get_or cs (n + 1) 0 ∷ [])
pair_at cs n h =
    let two : n + 2 ≡ suc (n + 1) = omega arith in
    let one : n + 1 ≡ suc n = add-one n in
    let h' : n < length cs = omega arith in
    rw (two, take-suc cs (n + 1) 0 h, one, take-suc cs n 0 h') (append_snoc (take n cs) (get_or cs n 0) (get_or cs (suc n) 0 ∷ []))

rest_at : (cs : List ℕ) (n : ℕ) → n + 1 < length cs
    → drop n cs ≡ get_or cs n 0 ∷ get_or cs (n + 1) 0 ∷ drop (suc (n + 1)) cs
rest_at cs n h =
    let one : n + 1 ≡ suc n = add-one n in
    let h' : n < length cs = omega arith in
    drop-cons cs n 0 h' ∙ ap (λ (l : List ℕ). get_or cs n 0 ∷ l) (rw (← one) (drop-cons cs (n + 1) 0 h))

-- ---- pairs

-- the first i pairs decode to i bytes
abbrev pub Run : List ℕ → ℕ → List ℕ → Type 0
Run cs i bytes = (i * 2 ≤ length cs) × (all_hex (take (i * 2) cs) ≡ true) × (take i bytes ≡ unhex (take (i * 2) cs))

pub none_spelled : (cs bytes : List ℕ) → Run cs 0 bytes
unfolding all_hex unhex
none_spelled cs bytes = (zero-le, refl, refl)

module _ (cs bytes : List ℕ) (i : ℕ) (r : Run cs i bytes) (more : i * 2 + 1 < length cs) where
  next_pair : take ((i + 1) * 2) cs ≡ take (i * 2) cs ++ (get_or cs (i * 2) 0 ∷ get_or cs (i * 2 + 1) 0 ∷ [])
  next_pair =
      let e : (i + 1) * 2 ≡ i * 2 + 2 = omega arith in
      rw e (pair_at cs (i * 2) more)

  even_front : length (take (i * 2) cs) % 2 ≡ 0
  even_front = let e = length-take-le (i * 2) cs r.0 in omega arith

  pub turn : (h l : ℕ) → i < length bytes → h ≡ hex_value (get_or cs (i * 2) 0) → l ≡ hex_value (get_or cs (i * 2 + 1) 0)
      → h ≤ 15 → l ≤ 15
      → Run cs (i + 1) (set bytes i (h * 16 + l))
  unfolding all_hex unhex
  turn h l room eh el small small' = (
    omega arith,
    rw (next_pair, all_hex_append, r.1, ← eh, ← el, lt-ltb h 16 (omega arith), lt-ltb l 16 (omega arith)),
    ap (λ (k : ℕ). take k (set bytes i (h * 16 + l))) (add-one i)
        ∙ take-suc-set bytes i (h * 16 + l) room
        ∙ sym (ap unhex next_pair ∙ unhex_append (take (i * 2) cs) (get_or cs (i * 2) 0 ∷ get_or cs (i * 2 + 1) 0 ∷ []) even_front ∙ rw (r.2, eh, el)),
  )

-- a pair that is not a byte
pub no_high : (x y h : ℕ) → h ≡ hex_value x → 15 < h → (is_hex x && is_hex y) ≡ false
no_high x y h e big = rw (← e, le-ltb h 16 (omega arith))

pub no_low : (x y h l : ℕ) → h ≡ hex_value x → h ≤ 15 → l ≡ hex_value y → 15 < l → (is_hex x && is_hex y) ≡ false
no_low x y h l e small f big = rw (← e, ← f, lt-ltb h 16 (omega arith), le-ltb l 16 (omega arith))

and-false : (a b c : Bool) → (a && b) ≡ false → (a && (b && c)) ≡ false
and-false true b c e = rw e
and-false false b c e = refl

pub no_byte : (cs : List ℕ) (n : ℕ) → all_hex (take n cs) ≡ true → n + 1 < length cs
    → (is_hex (get_or cs n 0) && is_hex (get_or cs (n + 1) 0)) ≡ false → all_hex cs ≡ false
unfolding all_hex
no_byte cs n e more none =
    ap all_hex (sym (take-append-drop n cs)) ∙ all_hex_append (take n cs) (drop n cs)
    ∙ rw (e, rest_at cs n more) (and-false (is_hex (get_or cs n 0)) (is_hex (get_or cs (n + 1) 0)) (all_hex (drop (suc (n + 1)) cs)) none)
