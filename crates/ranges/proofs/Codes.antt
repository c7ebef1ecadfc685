-- What is encoded is decoded again.
use Rattle.std.specs.Prelude.{Some}
use mathlib.Core.Path.{◌≡◌, refl, sym, ap, ◌∙◌}
use mathlib.Core.Bool.{Bool, true, false, cond}
use Prim.Native.Nat.{ℕ, suc, ◌+◌, ◌-◌, ◌*◌, ◌/◌, ◌%◌, ◌^◌, ◌<◌, ◌≤◌}
use native.Mathlib.Nat.{add-zero, mul_assoc, min-eq_left, max-eq_right}
use native.Mathlib.Numerals.{add-one}
use native.Mathlib.Omega.{arith}
use native.Mathlib.Decide.{dec_le}
use lib.Dec.{eqb, ltb}
use lib.Pow.{pow-add, pow_pos, pow_mono, shr-shr, high}
use borrow.Author.Tests.{lt-ltb, le-ltb}
use Rattle.lemmas.proofs.Powers.{region_lt}
use Rattle.ranges.specs.declared.Translation.{Translation}
use Rattle.ranges.specs.Size.{bit, size_of, base_of, translation_of, coded, word_of}
use Rattle.ranges.specs.Range.{region_of}
use Rattle.ranges.proofs.Laws.{lowest_trailing, trailing_ones, size_of_page}

-- the code of the region of 2 ^ (n + 13) bytes with the number q; shifted by 12, it has n trailing ones
shape : (n q : ℕ) → q * 2 ^ (n + 13) + (2 ^ (n + 12) - 4096) ≡ (q * 2 ^ suc n + (2 ^ n - 1)) * 4096
shape n q =
    let b : 2 ^ (n + 13) ≡ 2 ^ suc n * 4096 = rw (← add-one n) (ap (λ (k : ℕ). 2 ^ k) (same n) ∙ pow-add 2 (n + 1) 12) in
    rw (pow-add 2 n 12, b, ← mul_assoc q (2 ^ suc n) 4096) (omega (arith, pow_pos n))
  where
    same : (n : ℕ) → n + 13 ≡ n + 1 + 12
    same n = omega arith

module _ (a e : ℕ) (low : 12 ≤ e) (up : e ≤ 64) where
  pub coded_is : coded a e ≡ a / 2 ^ e * 2 ^ e + (2 ^ (e - 1) - 4096)
  unfolding coded region_of
  coded_is = rw (min-eq_left {n = e} {m = 64} up, max-eq_right {n = 12} {m = e} low, min-eq_left {n = e} {m = 64} up)

  -- the code of a region in the address space is in the address space
  pub coded_le : a < 2 ^ 64 → (region_of a e).first + (2 ^ (e - 1) - 4096) ≤ 2 ^ 64 - 4096
  unfolding region_of
  coded_le h =
      rw (min-eq_left {n = e} {m = 64} up) (omega (arith, region_lt 64 e a h up, pow_mono {i = e - 1} {j = e} (omega arith), pow_mono {i = 12} {j = e} low))

  -- the low twelve bits are clear
  coded_page : (y : ℕ) × (coded a e ≡ y * 4096)
  coded_page = go (dec_le 13 e)
    where
      go : Dec (13 ≤ e) → (y : ℕ) × (coded a e ≡ y * 4096)
      go (yes h) =
          let n = e - 13 in
          let f : n + 13 ≡ e = omega arith in
          let g : n + 12 ≡ e - 1 = omega arith in
          (a / 2 ^ e * 2 ^ suc n + (2 ^ n - 1), coded_is ∙ rw (f, g) at (shape n (a / 2 ^ e)))
      go (no h) =
          let f : e ≡ 12 = omega arith in
          (a / 2 ^ 12, coded_is ∙ rw f (add-zero _))

  -- every size from 4096 bytes to 2 ^ 64 is decoded as it was encoded
  pub coded_size_lem : size_of (coded a e) (ltb 12 e) ≡ Some e
  unfolding size_of
  coded_size_lem = go (dec_le 13 e)
    where
      go : Dec (13 ≤ e) → size_of (coded a e) (ltb 12 e) ≡ Some e
      go (yes h) =
          let n = e - 13 in
          let f : n + 13 ≡ e = omega arith in
          let g : n + 12 ≡ e - 1 = omega arith in
          let y = a / 2 ^ e * 2 ^ suc n + (2 ^ n - 1) in
          let c : coded a e ≡ y * 4096 = coded_is ∙ rw (f, g) at (shape n (a / 2 ^ e)) in
          let d : y * 4096 / 2 ^ 12 ≡ y = omega arith in
          rw (lt-ltb 12 e h, c, lowest_trailing 52 12 (y * 4096), d, trailing_ones 52 n (a / 2 ^ e) (omega arith), lt-ltb (12 + n) 64 (omega arith)) (ap Some (omega arith))
      go (no h) = let f : e ≡ 12 = omega arith in rw (le-ltb 12 e (omega arith)) (ap Some (sym f))

  -- and so is the region
  pub coded_base : base_of (coded a e) (Some e) ≡ (region_of a e).first
  unfolding region_of
  coded_base =
      let small : 2 ^ (e - 1) - 4096 < 2 ^ e = omega (arith, pow_mono {i = e - 1} {j = e} (omega arith), pow_pos e) in
      rw (coded_is, min-eq_left {n = e} {m = 64} up, high (a / 2 ^ e) e small)

-- ---- a translation

-- a word of a page number and five bits, and each of them again
abbrev digits : ℕ → ℕ → ℕ → ℕ → ℕ → ℕ → ℕ
digits y s n u w r = y * 4096 + s * 2048 + n * 1024 + u * 4 + w * 2 + r

each_digit : (y s n u w r : ℕ) → s ≤ 1 → n ≤ 1 → u ≤ 1 → w ≤ 1 → r ≤ 1
    → (digits y s n u w r / 4096 ≡ y) × (digits y s n u w r / 2 ^ 11 % 2 ≡ s) × (digits y s n u w r / 2 ^ 10 % 2 ≡ n) × (digits y s n u w r / 2 ^ 2 % 2 ≡ u) × (digits y s n u w r / 2 ^ 1 % 2 ≡ w) × (digits y s n u w r % 2 ≡ r)
each_digit y s n u w r hs hn hu hw hr =
    (omega arith, omega arith, omega arith, omega arith, omega arith, omega arith)

flag_times : (b : Bool) (k : ℕ) → cond b k 0 ≡ cond b 1 0 * k
flag_times true k = omega arith
flag_times false k = omega arith

flag_small : (b : Bool) (k : ℕ) → cond b k 0 ≤ k
flag_small true k = omega arith
flag_small false k = omega arith

flag_is : (b : Bool) → eqb (cond b 1 0) 1 ≡ b
flag_is true = refl
flag_is false = refl

-- the same with flags for the bits
module _ (y : ℕ) (s n u w r : Bool) where
  abbrev word : ℕ
  word = y * 4096 + cond s 2048 0 + cond n 1024 0 + cond u 4 0 + cond w 2 0 + cond r 1 0

  each_flag : (word / 4096 ≡ y) × (bit word 11 ≡ s) × (bit word 10 ≡ n) × (bit word 2 ≡ u) × (bit word 1 ≡ w) × (eqb (word % 2) 1 ≡ r)
  each_flag =
      let d = each_digit y (cond s 1 0) (cond n 1 0) (cond u 1 0) (cond w 1 0) (cond r 1 0) (flag_small s 1) (flag_small n 1) (flag_small u 1) (flag_small w 1) (flag_small r 1) in
      rw (flag_times s 2048, flag_times n 1024, flag_times u 4, flag_times w 2, d.0, d.1, d.2, d.3, d.4, d.5) (refl, flag_is s, flag_is n, flag_is u, flag_is w, flag_is r)

-- the bits below 4096 do not affect the region
region_of_page : (a e : ℕ) → 12 ≤ e → e ≤ 64 → (region_of (a / 4096 * 4096) e).first ≡ (region_of a e).first
unfolding region_of
region_of_page a e low up =
    let k = e - 12 in
    let f : 12 + k ≡ e = omega arith in
    let g : a / 4096 * 4096 / 2 ^ 12 ≡ a / 2 ^ 12 = omega arith in
    rw (min-eq_left {n = e} {m = 64} up, ← f, ← shr-shr (a / 4096 * 4096) 12 k, g, shr-shr a 12 k)

-- a translation of an aligned region is decoded as it was encoded
module _ (base e : ℕ) (n u w r : Bool) (low : 12 ≤ e) (up : e ≤ 64) (aligned : (region_of base e).first ≡ base) where
  abbrev given : Translation
  given = record { base = base; size = Some e; n = n; u = u; w = w; r = r }

  above : word_of given / 4096 * 4096 ≡ coded base e
  unfolding word_of
  above = let p = coded_page base e low up in rw (p.1, (each_flag p.0 (ltb 12 e) n u w r).0)

  s_bit : bit (word_of given) 11 ≡ ltb 12 e
  unfolding word_of
  s_bit = let p = coded_page base e low up in rw p.1 (each_flag p.0 (ltb 12 e) n u w r).1

  word_size : size_of (word_of given) (bit (word_of given) 11) ≡ Some e
  word_size =
      ap (size_of (word_of given)) s_bit
      ∙ sym (size_of_page (word_of given) (ltb 12 e))
      ∙ ap (λ (a : ℕ). size_of a (ltb 12 e)) above
      ∙ coded_size_lem base e low up

  word_base : base_of (word_of given) (Some e) ≡ base
  word_base =
      sym (region_of_page (word_of given) e low up)
      ∙ ap (λ (a : ℕ). (region_of a e).first) above
      ∙ coded_base base e low up
      ∙ aligned

  abbrev read_flags : Translation
  read_flags = record { base = base; size = Some e; n = bit (word_of given) 10; u = bit (word_of given) 2; w = bit (word_of given) 1; r = eqb (word_of given % 2) 1 }

  word_flags : read_flags ≡ given
  unfolding word_of
  word_flags =
      let p = coded_page base e low up in
      let f = each_flag p.0 (ltb 12 e) n u w r in
      rw (p.1, f.2, f.3, f.4, f.5)

  pub word_decoded : translation_of (word_of given) ≡ given
  unfolding translation_of
  word_decoded = rw (word_size, word_base) word_flags

  pub word_lt : base < 2 ^ 64 → word_of given < 2 ^ 64
  unfolding word_of coded
  word_lt h =
      let most = coded_le base e low up h in
      rw (min-eq_left {n = e} {m = 64} up, max-eq_right {n = 12} {m = e} low) (omega (arith, most, flag_small (ltb 12 e) 2048, flag_small n 1024, flag_small u 4, flag_small w 2, flag_small r 1))
