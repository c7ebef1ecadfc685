-- Laws of ranges of units, and of addresses moved between regions.
use mathlib.Core.Path.{◌≡◌, refl, sym, ap, ◌∙◌}
use mathlib.Core.Bool.{true, ◌&&◌}
use Prim.Native.Nat.{ℕ, ◌+◌, ◌-◌, ◌*◌, ◌/◌, ◌%◌, ◌^◌, ◌<◌, ◌≤◌, min}
use native.Mathlib.Nat.{mul-le-mul_right, add-mul, one-mul, le_trans, min-eq_left, min-le_left, min-le_right, le-min, div-mul-le_self, lt-div-mul-add, le-div_iff_mul-le, mul_assoc, div-add-mod', mul-add-mod_self_right}
use native.Mathlib.Omega.{arith}
use lib.Pow.{pow_pos, pow-add, mod-mod-pow, shr-shr, shl-shr}
use lib.Dec.{leb, lit≤}
use borrow.Author.Tests.{le-leb, leb-true}
use Rattle.lemmas.proofs.Cases.{and_both}
use Rattle.lemmas.proofs.Powers.{region_lt}
use Rattle.lemmas.proofs.Tests.{same_leb}
use Rattle.ranges.proofs.Laws.{region_holds}
use Rattle.ranges.specs.declared.Range.{Range}
use Rattle.ranges.specs.Range.{region_of, range_from, units_from, unit_exponent, unit_bytes, unit_count, relocated, overlaps, is_within}

-- the region of an address begins no later than the address,
pub region_first : (a e : ℕ) → (region_of a e).first ≤ a
unfolding region_of
region_first a e = div-mul-le_self a (2 ^ min e 64)

-- a relocated address stays in the address space,
pub relocated_lt : (base a e : ℕ) → base < 2 ^ 64 → relocated base a e < 2 ^ 64
unfolding relocated region_of
relocated_lt base a e h =
    let k = min e 64 in
    omega (arith, region_lt 64 k base h (min-le_right e 64), lt-div-mul-add {a = a} {b = 2 ^ k} (pow_pos k), div-mul-le_self a (2 ^ k))

offset_low : (m x a k : ℕ) → k ≤ m → (x * 2 ^ m + (a - a / 2 ^ m * 2 ^ m)) % 2 ^ k ≡ a % 2 ^ k
offset_low m x a k h =
    let j = m - k in
    let same : j + k ≡ m = omega arith in
    let rest : a - a / 2 ^ m * 2 ^ m ≡ a % 2 ^ m = omega (arith, div-add-mod' a (2 ^ m)) in
    let first : x * 2 ^ m ≡ x * 2 ^ j * 2 ^ k = ap (λ (n : ℕ). x * 2 ^ n) (sym same) ∙ rw (pow-add 2 j k) (sym (mul_assoc x (2 ^ j) (2 ^ k))) in
    rw (rest, first, mul-add-mod_self_right (x * 2 ^ j) (2 ^ k) (a % 2 ^ m), ← same) (mod-mod-pow a j k)

-- and keeps the low bits of the address, up to the size of the region
pub relocated_low : (base a e k : ℕ) → k ≤ e → k ≤ 64 → relocated base a e % 2 ^ k ≡ a % 2 ^ k
unfolding relocated region_of
relocated_low base a e k h g = offset_low (min e 64) (base / 2 ^ min e 64) a k (le-min h g)

-- the units of a request do not overflow 64 bits
pub units_fit : (further unit : ℕ) → unit ≤ 0x800_0000_0000
    → (unit_count further * unit ≤ 0x8000_0000_0000) × (unit ≤ unit_count further * unit)
units_fit further unit h =
    let few : unit_count further ≤ 16 = omega arith in
    let one : 1 ≤ unit_count further = omega arith in
    (omega (arith, mul-le-mul_right unit few), omega (arith, mul-le-mul_right unit one))

-- a range ends no sooner than it begins, and inside the address space
pub range_from_ends : (first rest : ℕ) → first < 2 ^ 64
    → (first ≤ (range_from first rest).last) × ((range_from first rest).last < 2 ^ 64)
unfolding range_from
range_from_ends first rest h =
    (le-min (omega arith) (omega arith), omega (arith, min-le_right (first + rest) (2 ^ 64 - 1)))

-- region n begins at or before a byte if and only if it is not after the byte's own region
pub region_leb : (n e x : ℕ) → leb (n * 2 ^ e) x ≡ leb n (x / 2 ^ e)
region_leb n e x =
    let iff = le-div_iff_mul-le {k = 2 ^ e} {x = n} {y = x} (pow_pos e) in
    same_leb (n * 2 ^ e) x n (x / 2 ^ e) (λ l. iff.1 l) (λ l. iff.0 l)

-- a later byte is not in an earlier region
pub region_monotone : (a b e : ℕ) → a ≤ b → a / 2 ^ e ≤ b / 2 ^ e
region_monotone a b e h =
    (le-div_iff_mul-le {k = 2 ^ e} {x = a / 2 ^ e} {y = b} (pow_pos e)).1 (le_trans (div-mul-le_self a (2 ^ e)) h)

-- the offset of a unit of a request fits 64 bits
pub offset_fits : (j unit : ℕ) → j ≤ 15 → unit ≤ 0x800_0000_0000 → j * unit ≤ 0x8000_0000_0000
offset_fits j unit h k = omega (arith, mul-le-mul_right unit h)

-- a 16-bit number of units fits 64 bits, and one unit or more is at least one byte
pub many_fit : (n unit : ℕ) → n < 2 ^ 16 → unit ≤ 0x800_0000_0000 → n * unit < 2 ^ 64
many_fit n unit h k =
    let few : n ≤ 65535 = omega arith in
    omega (arith, mul-le-mul_right unit few)

pub some_bytes : (n unit : ℕ) → 1 ≤ n → 1 ≤ unit → 1 ≤ n * unit
some_bytes n unit h k = omega (arith, mul-le-mul_right unit h)

-- a region begins inside the address space
pub region_lt_top : (a e : ℕ) → a < 2 ^ 64 → (region_of a e).first < 2 ^ 64
region_lt_top a e h = omega (arith, region_first a e)

-- ---- the units of a range

-- the range begins with the unit of its address,
pub units_from_first : (a further stu : ℕ) → (units_from a further stu).first ≡ (region_of a (unit_exponent stu)).first
unfolding units_from range_from
units_from_first a further stu = refl

-- does not depend on the address bits below 4096,
pub units_from_low_bits : (a further stu : ℕ) → units_from (a / 4096 * 4096) further stu ≡ units_from a further stu
unfolding units_from region_of
units_from_low_bits a further stu = rw (min-eq_left {n = 12 + stu % 32} {m = 64} (omega arith), ← shr-shr (a / 4096 * 4096) 12 (stu % 32), shl-shr (a / 4096) 12, shr-shr a 12 (stu % 32))

step_le : (j n U : ℕ) → j < n → j * U + U ≤ n * U
step_le j n U h = let most : (j + 1) * U ≤ n * U = mul-le-mul_right {m = j + 1} {n = n} U (omega arith) in rw (add-mul j 1 U, one-mul U) at most

-- and contains each of its units that begins in it
pub units_from_holds : (a further stu j : ℕ) → j < unit_count further
    → (region_of a (unit_exponent stu)).first + j * unit_bytes stu ≤ (units_from a further stu).last
    → is_within (region_of ((region_of a (unit_exponent stu)).first + j * unit_bytes stu) (unit_exponent stu)) (units_from a further stu) ≡ true
unfolding region_of units_from range_from
units_from_holds a further stu j among inside =
    rw (min-eq_left {n = 12 + stu % 32} {m = 64} (omega arith)) (within (12 + stu % 32) (a / 2 ^ (12 + stu % 32)) (unit_count further) (omega arith) among (rw (min-eq_left {n = 12 + stu % 32} {m = 64} (omega arith)) at inside))
  where
    within : (e n m : ℕ) → e ≤ 64 → j < m → n * 2 ^ e + j * 2 ^ e ≤ min (n * 2 ^ e + (m * 2 ^ e - 1)) (2 ^ 64 - 1)
        → (leb (n * 2 ^ e) ((n * 2 ^ e + j * 2 ^ e) / 2 ^ e * 2 ^ e) && leb ((n * 2 ^ e + j * 2 ^ e) / 2 ^ e * 2 ^ e + (2 ^ e - 1)) (min (n * 2 ^ e + (m * 2 ^ e - 1)) (2 ^ 64 - 1))) ≡ true
    within e n m small few h =
        let x = n * 2 ^ e + j * 2 ^ e in
        let own : x / 2 ^ e * 2 ^ e ≡ x = ap (λ (k : ℕ). k / 2 ^ e * 2 ^ e) (sym (add-mul n j (2 ^ e))) ∙ ap (λ (k : ℕ). k * 2 ^ e) (shl-shr (n + j) e) ∙ add-mul n j (2 ^ e) in
        let low : x < 2 ^ 64 = omega (arith, h, min-le_right (n * 2 ^ e + (m * 2 ^ e - 1)) (2 ^ 64 - 1)) in
        let top : x + (2 ^ e - 1) < 2 ^ 64 = rw own at (region_lt 64 e x low small) in
        let most = step_le j m (2 ^ e) few in
        rw (own, le-leb (n * 2 ^ e) x (omega arith)) (le-leb (x + (2 ^ e - 1)) (min (n * 2 ^ e + (m * 2 ^ e - 1)) (2 ^ 64 - 1)) (le-min (omega (arith, most)) (omega (arith, top))))

-- the region of where a region begins is that region,
pub region_again : (a e : ℕ) → region_of (region_of a e).first e ≡ region_of a e
unfolding region_of
region_again a e = rw (shl-shr (a / 2 ^ min e 64) (min e 64))

-- and n bytes within one page lie in the region of their first byte
pub page_in_region : (a n e : ℕ) → 12 ≤ e → 1 ≤ n → a % 4096 + n ≤ 4096
    → is_within (range_from a (n - 1)) (region_of a e) ≡ true
unfolding region_of range_from
page_in_region a n e big some page =
    let m = min e 64 in
    let more : 12 ≤ m = le-min big (lit≤ tt) in
    let h = region_holds a 12 m more in
    let least = min-le_left (a + (n - 1)) (2 ^ 64 - 1) in
    rw (le-leb (a / 2 ^ m * 2 ^ m) a (omega (arith, div-mul-le_self a (2 ^ m))), le-leb (min (a + (n - 1)) (2 ^ 64 - 1)) (a / 2 ^ m * 2 ^ m + (2 ^ m - 1)) (omega (arith, h.1, least, div-add-mod' a 4096)))

-- a range that contains an overlapping one overlaps
pub within_overlaps : (x y a : Range) → is_within x y ≡ true → overlaps x a ≡ true → overlaps y a ≡ true
within_overlaps x y a i o =
    let in-it = and_both (leb y.first x.first) (leb x.last y.last) i in
    let over = and_both (leb x.first a.last) (leb a.first x.last) o in
    let low : y.first ≤ a.last = le_trans (leb-true y.first x.first in-it.0) (leb-true x.first a.last over.0) in
    let high : a.first ≤ y.last = le_trans (leb-true a.first x.last over.1) (leb-true x.last y.last in-it.1) in
    rw (le-leb y.first a.last low, le-leb a.first y.last high)
