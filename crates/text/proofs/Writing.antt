-- Laws of the loop that writes decimal digits.
use mathlib.Core.Path.{◌≡◌, refl, sym, ap, ◌∙◌}
use mathlib.Core.List.{List, [], ◌∷◌, ◌++◌, append_assoc, append-nil}
use Prim.Native.Nat.{ℕ, zero, suc, ◌+◌, ◌-◌, ◌/◌, ◌%◌, ◌≤◌, ◌<◌}
use native.Mathlib.Nat.{not-suc-le-zero, le_refl, le_of_suc-le-suc}
use native.Mathlib.Numerals.{sub-one}
use native.Mathlib.Omega.{arith}
use lib.ListN.{length, take, drop, set, length-set, length-drop, take-append-drop}
use lib.Seq.{take-take, take-set-le}
use borrow.Author.Tests.{lt-ltb, le-ltb}
use Rattle.text.specs.Digits.{decimal_in, decimal}
use Rattle.text.specs.Numerals.{zeros, numeral_at, numeral}

last : (k n : ℕ) → 0 < k → n < 10 → decimal_in k n ≡ (48 + n % 10) ∷ []
unfolding decimal_in
last zero n h l = absurd (not-suc-le-zero h)
last (suc k) n h l =
    let m : n % 10 ≡ n = omega arith in
    rw (lt-ltb n 10 l, m)

more : (k n : ℕ) → 0 < k → 10 ≤ n → decimal_in k n ≡ decimal_in (k - 1) (n / 10) ++ ((48 + n % 10) ∷ [])
unfolding decimal_in
more zero n h l = absurd (not-suc-le-zero h)
more (suc k) n h l = rw (le-ltb n 10 l, sub-one)

take_replicate : (i n : ℕ) → i ≤ n → take i (zeros n) ≡ zeros i
take_replicate zero n h = refl
take_replicate (suc i) zero h = absurd (not-suc-le-zero h)
take_replicate (suc i) (suc n) h = ap (λ (l : List ℕ). 48 ∷ l) (take_replicate i n (le_of_suc-le-suc h))

fewer : (i n : ℕ) (d : List ℕ) → i ≤ n → take n d ≡ zeros n → take i d ≡ zeros i
fewer i n d h e = sym (take-take i n d h) ∙ ap (take i) e ∙ take_replicate i n h

pub stored : (d : List ℕ) (i v : ℕ) → i < length d → drop i (set d i v) ≡ v ∷ drop (suc i) d
stored [] i v h = absurd (not-suc-le-zero h)
stored (x ∷ d) zero v h = refl
stored (x ∷ d) (suc i) v h = stored d i v (le_of_suc-le-suc h)

stored_before : (d : List ℕ) (i v : ℕ) → 0 < i → i ≤ length d → drop (i - 1) (set d (i - 1) v) ≡ v ∷ drop i d
stored_before d zero v p h = absurd (not-suc-le-zero p)
stored_before d (suc i) v p h = rw sub-one (stored d i v h)

finish : (d : List ℕ) (i : ℕ) (ds : List ℕ) → i ≤ 20 → length d ≡ 20 → take i d ≡ zeros i → drop i d ≡ ds
    → record { digits = d; start = i } ≡ numeral_at (20 - length ds) ds
finish d i ds h n z e =
    let long : length ds ≡ length d - i = sym (ap length e) ∙ length-drop i d in
    let at : i ≡ 20 - length ds = omega arith in
    let all : d ≡ zeros i ++ ds = sym (take-append-drop i d) ∙ (λ k. z k ++ e k) in
    rw (← at) (λ k. record { digits = all k; start = i })

-- the elements before i are 0, and the digits from i on follow those of the rest of the number
pub record Held (n : ℕ) (d : List ℕ) (i r : ℕ) : Type 0 where
  pub within : i ≤ 20
  pub long : length d ≡ 20
  pub before : take i d ≡ zeros i
  pub after : decimal_in 20 n ≡ decimal_in i r ++ drop i d

pub none_held : (n : ℕ) → Held n (zeros 20) 20 n
none_held n = record { within = omega arith; long = refl; before = refl; after = simp append-nil }

module _ (n : ℕ) (d : List ℕ) (i r : ℕ) (h : Held n d i r) (pos : 0 < i) where
  zeros_kept : (v : ℕ) → take (i - 1) (set d (i - 1) v) ≡ zeros (i - 1)
  zeros_kept v = take-set-le (i - 1) d (i - 1) v (le_refl (i - 1)) ∙ fewer (i - 1) i d (omega arith) h.before

  pub held_more : 10 ≤ r → Held n (set d (i - 1) (48 + r % 10)) (i - 1) (r / 10)
  held_more l = record {
    within = omega arith;
    long = length-set d (i - 1) (48 + r % 10) ∙ h.long;
    before = zeros_kept (48 + r % 10);
    after = h.after ∙ rw (more i r pos l, append_assoc, stored_before d i (48 + r % 10) pos (omega arith));
  }

  pub held_last : r < 10 → record { digits = set d (i - 1) (48 + r % 10); start = i - 1 } ≡ numeral n
  unfolding numeral decimal
  held_last l =
      finish (set d (i - 1) (48 + r % 10)) (i - 1) (decimal_in 20 n) (omega arith) (length-set d (i - 1) (48 + r % 10) ∙ h.long) (zeros_kept (48 + r % 10))
      (stored_before d i (48 + r % 10) pos (omega arith) ∙ sym (h.after ∙ rw (last i r pos l)))

pub held_full : (n : ℕ) (d : List ℕ) (i r : ℕ) → Held n d i r → i ≤ 0 → record { digits = d; start = i } ≡ numeral n
unfolding numeral decimal decimal_in
held_full n d i r h none =
    let e : i ≡ 0 = omega arith in
    finish d i (decimal_in 20 n) h.within h.long h.before (sym (h.after ∙ rw e))
