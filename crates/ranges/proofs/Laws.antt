-- Laws of sizes and ranges.
use Rattle.std.specs.Prelude.{None, Some}
use mathlib.Core.Path.{◌≡◌, refl, sym, ap, ◌∙◌}
use mathlib.Core.Bool.{Bool, true, false, cond}
use Prim.Native.Nat.{ℕ, zero, suc, ◌+◌, ◌-◌, ◌*◌, ◌/◌, ◌%◌, ◌^◌, ◌<◌, ◌≤◌, max}
use native.Mathlib.Nat.{add-zero, pow-suc, mul_assoc, min-eq_left, max-eq_left, max-eq_right, div-mul-le_self, le-div_iff_mul-le, lt-div-mul-add, div-lt_iff_lt-mul, suc-mul, add-mul, le-max_left, le-max_right, mul-mod_left, mul-le-mul_right, le_trans, le_refl}
use native.Mathlib.Numerals.{add-one}
use native.Mathlib.Omega.{arith}
use native.Mathlib.Decide.{dec_le}
use lib.Dec.{eqb, leb, ltb}
use lib.Pow.{pow-add, pow_pos, shr-shr, mod-pow-add}
use borrow.Author.Tests.{leb-true, le-leb, ltb-true, ltb-false, eqb-true}
use Rattle.lemmas.proofs.Cases.{by_cases, and_both, impossible}
use Rattle.ranges.specs.declared.Range.{Range}
use Rattle.ranges.specs.Size.{bit, lowest_zero, size_of}
use Rattle.ranges.specs.Range.{region_in, region_of, rounded_of, overlaps}

-- The search for the lowest zero bit, at bit b: it stops, goes on, or ends.
pub zero_here : (b x : ℕ) → b < 64 → bit x b ≡ false → lowest_zero (64 - b) b x ≡ b
unfolding lowest_zero
zero_here b x h e = let s : 64 - b ≡ suc (64 - (b + 1)) = omega arith in rw (s, e)

pub zero_step : (b x : ℕ) → b < 64 → bit x b ≡ true → lowest_zero (64 - b) b x ≡ lowest_zero (64 - (b + 1)) (b + 1) x
unfolding lowest_zero
zero_step b x h e = let s : 64 - b ≡ suc (64 - (b + 1)) = omega arith in rw (s, e)

pub zero_end : (b x : ℕ) → 64 ≤ b → lowest_zero (64 - b) b x ≡ b
unfolding lowest_zero
zero_end b x h = let s : 64 - b ≡ 0 = omega arith in rw s

-- ---- sizes

-- the number of trailing ones, at most k
unfoldable pub trailing : ℕ → ℕ → ℕ
trailing zero y = 0
trailing (suc k) y = cond (eqb (y % 2) 1) (suc (trailing k (y / 2))) 0

-- the lowest zero bit from bit b on follows the trailing ones of the number shifted by b
pub lowest_trailing : (k b x : ℕ) → lowest_zero k b x ≡ b + trailing k (x / 2 ^ b)
unfolding lowest_zero trailing
lowest_trailing zero b x = sym (add-zero b)
lowest_trailing (suc k) b x =
    by_cases (eqb (x / 2 ^ b % 2) 1)
    (λ p. rw (p, lowest_trailing k (b + 1) x, ← shr-shr x b 1) (omega arith))
    (λ p. rw (p, add-zero b))

halves : (a b : ℕ) → 0 < b → ((a * 2 + (b * 2 - 1)) % 2 ≡ 1) × ((a * 2 + (b * 2 - 1)) / 2 ≡ a + (b - 1))
halves a b h = omega arith

-- the bits below 4096 do not affect the size
pub size_of_page : (a : ℕ) (s : Bool) → size_of (a / 4096 * 4096) s ≡ size_of a s
unfolding size_of
size_of_page a s =
    let e : a / 4096 * 4096 / 2 ^ 12 ≡ a / 2 ^ 12 = omega arith in
    rw (lowest_trailing 52 12 (a / 4096 * 4096), lowest_trailing 52 12 a, e)

-- n ones below a zero
pub trailing_ones : (k n q : ℕ) → n < k → trailing k (q * 2 ^ suc n + (2 ^ n - 1)) ≡ n
unfolding trailing
trailing_ones zero n q h = absurd (omega arith)
trailing_ones (suc k) zero q h =
    let e : (q * 2 + 0) % 2 ≡ 0 = omega arith in
    rw e
trailing_ones (suc k) (suc n) q h =
    let a = q * 2 ^ suc n in
    let s = halves a (2 ^ n) (pow_pos n) in
    let y : q * 2 ^ suc (suc n) + (2 ^ suc n - 1) ≡ a * 2 + (2 ^ n * 2 - 1) = rw (pow-suc 2 (suc n), pow-suc 2 n, ← mul_assoc q (2 ^ n * 2) 2) in
    rw (y, s.0, s.1) (ap suc (trailing_ones k n q (omega arith)))

pub trailing_le : (k y : ℕ) → trailing k y ≤ k
unfolding trailing
trailing_le zero y = omega arith
trailing_le (suc k) y =
    by_cases (eqb (y % 2) 1) (λ p. rw p (omega (arith, trailing_le k (y / 2)))) (λ p. rw p (omega arith))

-- if a number has k trailing ones, its lowest k bits are ones
pub all_ones : (k y : ℕ) → trailing k y ≡ k → y % 2 ^ k ≡ 2 ^ k - 1
unfolding trailing
all_ones zero y e = omega arith
all_ones (suc k) y e =
    by_cases (eqb (y % 2) 1)
    (λ p. go (eqb-true (y % 2) 1 p) (all_ones k (y / 2) (same (rw p at e))))
    (λ p. absurd (never (rw p at e)))
  where
    same : suc (trailing k (y / 2)) ≡ suc k → trailing k (y / 2) ≡ k
    same q = omega arith

    never : 0 ≡ suc k → ⊥
    never q = omega arith

    go : y % 2 ≡ 1 → y / 2 % 2 ^ k ≡ 2 ^ k - 1 → y % 2 ^ suc k ≡ 2 ^ suc k - 1
    go o r = rw (← add-one k, mod-pow-add y k 1, r, o, pow-add 2 k 1) (omega (arith, pow_pos k))

-- S clear is 4096 bytes
pub plain_size : (a : ℕ) → size_of a false ≡ Some 12
unfolding size_of
plain_size a = refl

-- a size is at least 4096 bytes and at most 2 ^ 64
pub size_between : (a : ℕ) (s : Bool) (e : ℕ) → size_of a s ≡ Some e → (12 ≤ e) × (e ≤ 64)
unfolding size_of
size_between a false e p = let q : 12 ≡ e = cc in omega arith
size_between a true e p = by_cases (ltb (lowest_zero 52 12 a) 64) (λ t. some t (rw t at p)) (λ t. none (rw t at p))
  where
    some : ltb (lowest_zero 52 12 a) 64 ≡ true → Some (lowest_zero 52 12 a + 1) ≡ Some e → (12 ≤ e) × (e ≤ 64)
    some t q = let r : lowest_zero 52 12 a + 1 ≡ e = cc in omega (arith, ltb-true (lowest_zero 52 12 a) 64 t, lowest_trailing 52 12 a)

    none : None ≡ Some e → (12 ≤ e) × (e ≤ 64)
    none q = impossible cc

-- there is no size only if S is set and bits 63:12 are all ones
pub no_size_lem : (a : ℕ) (s : Bool) → a < 2 ^ 64 → size_of a s ≡ None → (s ≡ true) × (a / 4096 ≡ 0xF_FFFF_FFFF_FFFF)
unfolding size_of
no_size_lem a false h p = impossible cc
no_size_lem a true h p = (refl, by_cases (ltb (lowest_zero 52 12 a) 64) (λ t. some (rw t at p)) (λ t. none (ltb-false (lowest_zero 52 12 a) 64 t)))
  where
    some : Some (lowest_zero 52 12 a + 1) ≡ None → a / 4096 ≡ 0xF_FFFF_FFFF_FFFF
    some q = impossible cc

    none : 64 ≤ lowest_zero 52 12 a → a / 4096 ≡ 0xF_FFFF_FFFF_FFFF
    none l =
        let n : trailing 52 (a / 4096) ≡ 52 = omega (arith, lowest_trailing 52 12 a, trailing_le 52 (a / 4096)) in
        omega (arith, all_ones 52 (a / 4096) n)

-- ---- rounding up to the unit, 2 ^ u bytes

module _ (a e u : ℕ) (he : e ≤ 64) (hu : u ≤ 64) where
  -- the larger exponent is at most 64, so the minimum with 64 changes nothing
  rounded_is : rounded_of a e u ≡ region_in a (max e u)
  unfolding rounded_of region_of
  rounded_is = ap (region_in a) (min-eq_left (larger (dec_le e u)))
    where
      larger : Dec (e ≤ u) → max e u ≤ 64
      larger (yes l) = rw (max-eq_right l) hu
      larger (no n) = rw (max-eq_left {n = e} {m = u} (omega arith)) he

-- the region of a larger exponent contains that of a smaller one
pub region_holds : (a e f : ℕ) → e ≤ f
    → (a / 2 ^ f * 2 ^ f ≤ a / 2 ^ e * 2 ^ e) × (a / 2 ^ e * 2 ^ e + (2 ^ e - 1) ≤ a / 2 ^ f * 2 ^ f + (2 ^ f - 1))
region_holds a e f h =
    let d = f - e in
    let y = a / 2 ^ e in
    let z = y / 2 ^ d * 2 ^ d in
    let n : e + d ≡ f = omega arith in
    let size : 2 ^ f ≡ 2 ^ d * 2 ^ e = ap (λ (k : ℕ). 2 ^ k) (omega arith) ∙ pow-add 2 d e in
    let first : a / 2 ^ f * 2 ^ f ≡ z * 2 ^ e = rw (← n, ← shr-shr a e d, n, size, mul_assoc) in
    let low : z * 2 ^ e ≤ y * 2 ^ e = mul-le-mul_right (2 ^ e) (div-mul-le_self y (2 ^ d)) in
    let high : suc y * 2 ^ e ≤ (z + 2 ^ d) * 2 ^ e = mul-le-mul_right (2 ^ e) (lt-div-mul-add {a = y} (pow_pos d)) in
    let up : suc y * 2 ^ e ≡ y * 2 ^ e + 2 ^ e = suc-mul y (2 ^ e) in
    let across : (z + 2 ^ d) * 2 ^ e ≡ z * 2 ^ e + 2 ^ d * 2 ^ e = add-mul z (2 ^ d) (2 ^ e) in
    rw (first, size) (low, omega (arith, pow_pos e))

-- a region is aligned to every smaller power of two; y is its number
aligned : (y f u : ℕ) → u ≤ f → (y * 2 ^ f % 2 ^ u ≡ 0) × ((y * 2 ^ f + (2 ^ f - 1) + 1) % 2 ^ u ≡ 0)
aligned y f u h =
    let d = f - u in
    let size : 2 ^ f ≡ 2 ^ d * 2 ^ u = ap (λ (k : ℕ). 2 ^ k) (omega arith) ∙ pow-add 2 d u in
    let first : y * 2 ^ f ≡ y * 2 ^ d * 2 ^ u = rw (size, mul_assoc) in
    let one : y * 2 ^ f + (2 ^ f - 1) + 1 ≡ y * 2 ^ f + 2 ^ f = omega (arith, pow_pos f) in
    let last : y * 2 ^ f + 2 ^ f ≡ (y * 2 ^ d + 2 ^ d) * 2 ^ u = rw (first, size) (sym (add-mul (y * 2 ^ d) (2 ^ d) (2 ^ u))) in
    (rw first (mul-mod_left (y * 2 ^ d) (2 ^ u)), rw (one, last) (mul-mod_left (y * 2 ^ d + 2 ^ d) (2 ^ u)))

-- a range of whole units that contains a region contains every unit that overlaps the region
smallest : (a e u i j : ℕ) → i * 2 ^ u ≤ a / 2 ^ e * 2 ^ e → a / 2 ^ e * 2 ^ e + (2 ^ e - 1) < j * 2 ^ u
    → (i * 2 ^ u ≤ a / 2 ^ u * 2 ^ u) × (a / 2 ^ u * 2 ^ u + (2 ^ u - 1) < j * 2 ^ u)
smallest a e u i j l r =
    let below : i * 2 ^ u ≤ a = le_trans l (div-mul-le_self a (2 ^ e)) in
    let above : a < j * 2 ^ u = omega (arith, lt-div-mul-add {a = a} {b = 2 ^ e} (pow_pos e)) in
    let x = a / 2 ^ u in
    let low : i ≤ x = (le-div_iff_mul-le {k = 2 ^ u} {x = i} {y = a} (pow_pos u)).1 below in
    let high : x < j = (div-lt_iff_lt-mul {k = 2 ^ u} {x = a} {y = j} (pow_pos u)).1 above in
    let top : suc x * 2 ^ u ≤ j * 2 ^ u = mul-le-mul_right (2 ^ u) high in
    (mul-le-mul_right (2 ^ u) low, omega (arith, suc-mul x (2 ^ u), pow_pos u))

module _ (a e u : ℕ) (he : e ≤ 64) (hu : u ≤ 64) where
  -- the rounded range contains the region,
  pub rounded_holds : ((rounded_of a e u).first ≤ (region_in a e).first) × ((region_in a e).last ≤ (rounded_of a e u).last)
  rounded_holds = rw (rounded_is a e u he hu) (region_holds a e (max e u) (le-max_left e u))

  -- is aligned to the unit,
  pub rounded_aligned : ((rounded_of a e u).first % 2 ^ u ≡ 0) × (((rounded_of a e u).last + 1) % 2 ^ u ≡ 0)
  rounded_aligned = rw (rounded_is a e u he hu) (aligned (a / 2 ^ max e u) (max e u) u (le-max_right e u))

  -- and is the smallest such range
  pub rounded_smallest : (i j : ℕ) → i * 2 ^ u ≤ (region_in a e).first → (region_in a e).last < j * 2 ^ u
      → (i * 2 ^ u ≤ (rounded_of a e u).first) × ((rounded_of a e u).last < j * 2 ^ u)
  rounded_smallest i j l r = rw (rounded_is a e u he hu) (go (dec_le e u))
    where
      go : Dec (e ≤ u) → (i * 2 ^ u ≤ (region_in a (max e u)).first) × ((region_in a (max e u)).last < j * 2 ^ u)
      go (yes h) = rw (max-eq_right h) (smallest a e u i j l r)
      go (no n) = rw (max-eq_left {n = e} {m = u} (omega arith)) (l, r)

-- ---- two ranges overlap if and only if they have a byte in common

pub shared_overlaps : (p q : Range) (x : ℕ) → p.first ≤ x → x ≤ p.last → q.first ≤ x → x ≤ q.last
    → overlaps p q ≡ true
shared_overlaps p q x a b c d =
    rw (le-leb p.first q.last (le_trans a d), le-leb q.first p.last (le_trans c b))

pub overlaps_shared : (p q : Range) → p.first ≤ p.last → q.first ≤ q.last → overlaps p q ≡ true
    → (x : ℕ) × (p.first ≤ x) × (x ≤ p.last) × (q.first ≤ x) × (x ≤ q.last)
overlaps_shared p q a b e =
    let l = and_both (leb p.first q.last) (leb q.first p.last) e in
    let h = leb-true p.first q.last l.0 in
    let k = leb-true q.first p.last l.1 in
    go (dec_le p.first q.first) h k
  where
    go : Dec (p.first ≤ q.first) → p.first ≤ q.last → q.first ≤ p.last
        → (x : ℕ) × (p.first ≤ x) × (x ≤ p.last) × (q.first ≤ x) × (x ≤ q.last)
    go (yes l) h k = (q.first, l, k, le_refl _, b)
    go (no n) h k = (p.first, le_refl _, a, omega arith, h)
