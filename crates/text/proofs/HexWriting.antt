-- Laws of the loop that writes hex digits.
use mathlib.Core.Path.{◌≡◌, sym, ◌∙◌}
use mathlib.Core.List.{List, ◌++◌, append_assoc}
use Prim.Native.Nat.{ℕ, zero, suc, ◌-◌, ◌/◌, ◌%◌, ◌≤◌, ◌<◌}
use native.Mathlib.Nat.{not-suc-le-zero}
use native.Mathlib.Numerals.{sub-one}
use native.Mathlib.Omega.{arith}
use lib.ListN.{length, drop, set, length-set}
use Rattle.text.specs.Digits.{hex_digit, hex_in, hex4, hex8}
use Rattle.text.proofs.Writing.{stored}

-- the digits before i are still to be written, and those from i on follow them
pub record Written (k n : ℕ) (d : List ℕ) (i r : ℕ) : Type 0 where
  pub long : length d ≡ k
  pub after : hex_in k n ≡ hex_in i r ++ drop i d

pub one_more : (k n : ℕ) (d : List ℕ) (i r v : ℕ) → Written k n d i r → 0 < i → i ≤ k → v ≡ hex_digit (r % 16)
    → Written k n (set d (i - 1) v) (i - 1) (r / 16)
unfolding hex_in
one_more k n d zero r v w h l e = absurd (not-suc-le-zero h)
one_more k n d (suc i) r v w h l e = rw sub-one (record {
  long = length-set d i v ∙ w.long;
  after = w.after ∙ rw (append_assoc, stored d i v (rw w.long l), ← e);
})

pub all_written : (k n : ℕ) (d : List ℕ) (i r : ℕ) → Written k n d i r → i ≤ 0 → d ≡ hex_in k n
unfolding hex_in
all_written k n d zero r w h = sym w.after
all_written k n d (suc i) r w h = absurd (omega arith)

-- four digits, and eight
pub four : (n : ℕ) → hex_in 4 n ≡ hex4 n
unfolding hex_in
four n =
    let b : n / 256 % 16 ≡ n / 16 / 16 % 16 = omega arith in
    let c : n / 4096 % 16 ≡ n / 16 / 16 / 16 % 16 = omega arith in
    rw (b, c)

pub eight : (n : ℕ) → hex_in 8 n ≡ hex8 n
unfolding hex_in
eight n =
    let a : n % 65536 % 16 ≡ n % 16 = omega arith in
    let b : n % 65536 / 16 % 16 ≡ n / 16 % 16 = omega arith in
    let c : n % 65536 / 256 % 16 ≡ n / 16 / 16 % 16 = omega arith in
    let d : n % 65536 / 4096 % 16 ≡ n / 16 / 16 / 16 % 16 = omega arith in
    let m : n / 65536 ≡ n / 16 / 16 / 16 / 16 = omega arith in
    let e : n / 16 / 16 / 16 / 16 / 256 % 16 ≡ n / 16 / 16 / 16 / 16 / 16 / 16 % 16 = omega arith in
    let f : n / 16 / 16 / 16 / 16 / 4096 % 16 ≡ n / 16 / 16 / 16 / 16 / 16 / 16 / 16 % 16 = omega arith in
    rw (a, b, c, d, m, e, f)
