-- One byte after another of a record.
use Rattle.std.proofs.Common.{ℕ, zero, suc, ◌+◌, ◌≡◌, ◌<◌, List, [], ◌∷◌, ◌++◌, length, take, drop, replicate, refl, sym, ap, ◌∙◌, get_or, set, arith}
use Rattle.std.proofs.lemmas.List.{take_more, take_more_set, length-append, length-replicate}
use Rattle.test_records.specs.Left.{first_byte}

zero_in : (n i : ℕ) → get_or {A = ℕ} (replicate n 0) i 0 ≡ 0
zero_in zero i = refl
zero_in (suc n) zero = refl
zero_in (suc n) (suc i) = zero_in n i

-- the byte at an index of a record that has zeros after it
pub byte_at : (bs : List ℕ) (n i : ℕ) → get_or (bs ++ replicate n 0) i 0 ≡ first_byte (drop i bs)
byte_at [] n zero = zero_in n 0
byte_at [] n (suc i) = zero_in n (suc i)
byte_at (b ∷ bs) n zero = refl
byte_at (b ∷ bs) n (suc i) = byte_at bs n i

-- one byte more is stored
pub read_more : (bs items : List ℕ) (n i v : ℕ) → i < n → length items ≡ n → take i items ≡ take i (bs ++ replicate n 0)
    → v ≡ first_byte (drop i bs) → take (i + 1) (set items i v) ≡ take (i + 1) (bs ++ replicate n 0)
read_more bs items n i v h l e x =
    let whole = bs ++ replicate n 0 in
    let inside : i < length whole = rw (length-append, length-replicate) (omega arith) in
    let stored = take_more_set items i v (rw l h) in
    stored ∙ ap (λ (xs : List ℕ). xs ++ v ∷ []) e
    ∙ ap (λ (y : ℕ). take i whole ++ y ∷ []) (x ∙ sym (byte_at bs n i)) ∙ sym (take_more whole i 0 inside)
