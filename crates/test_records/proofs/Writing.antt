-- One text written after another.
use Rattle.std.proofs.Common.{ℕ, zero, suc, ◌+◌, ◌≤◌, ◌≡◌, List, [], ◌∷◌, ◌++◌, length, take, refl, sym, ap, ◌∙◌, arith, ◌<◌, ◌/◌, ◌%◌, get_or}
use Rattle.std.proofs.lemmas.List.{take_all, take_more, length-take-le, append_assoc, append-nil}
use Rattle.test_records.proofs.Digits.{table, digit_at}
use Rattle.test_records.specs.declared.output.Output.{Output}
use Rattle.test_records.specs.Written.{written, Adds, AddsSome, hex_text}

-- what is cut off twice is cut off once
take-cut : (n : ℕ) (xs ys : List ℕ) → take n (take n xs ++ ys) ≡ take n (xs ++ ys)
take-cut zero xs ys = refl
take-cut (suc n) [] ys = refl
take-cut (suc n) (x ∷ xs) ys = ap (λ (l : List ℕ). x ∷ l) (take-cut n xs ys)

pub adds_none : (o : Output) → Adds [] o o
adds_none o =
    let short : length (take o.at o.space.now) ≤ length o.space.now = rw (length-take-le o.at o.space.now o.in_room) o.in_room in
    (refl, refl, sym (rw append-nil (take_all (length o.space.now) (written o) short)))

pub adds_more : (s t : List ℕ) (a b c : Output) → Adds s a b → Adds t b c → Adds (s ++ t) a c
adds_more s t a b c p q =
    let n = length a.space.now in (
      q.0 ∙ p.0,
      q.1 ∙ p.1,
      q.2 ∙ ap (λ (k : ℕ). take k (written b ++ t)) p.1 ∙ ap (λ (l : List ℕ). take n (l ++ t)) p.2
          ∙ take-cut n (written a ++ s) t ∙ ap (take n) (append_assoc (written a) s t),
    )

pub hex_text-append : (xs ys : List ℕ) → hex_text (xs ++ ys) ≡ hex_text xs ++ hex_text ys
unfolding hex_text
hex_text-append [] ys = refl
hex_text-append (x ∷ xs) ys = rw (hex_text-append xs ys) refl

-- the digits of one byte more
pub hex_more : (bs : List ℕ) (i : ℕ) (a b c d : Output) (x y : ℕ) → i < length bs → get_or bs i 0 < 256
    → x ≡ get_or bs i 0 / 16 → y ≡ get_or bs i 0 % 16 → Adds (hex_text (take i bs)) a b
    → Adds (get_or table x 0 ∷ []) b c → Adds (get_or table y 0 ∷ []) c d → Adds (hex_text (take (i + 1) bs)) a d
unfolding hex_text
hex_more bs i a b c d x y h small ex ey p q r =
    let n = get_or bs i 0 in
    let high = rw (ex, digit_at (n / 16) (omega arith)) at q in
    let low = rw (ey, digit_at (n % 16) (omega arith)) at r in
    rw (take_more bs i 0 h, hex_text-append) (adds_more _ _ a b d p (adds_more _ _ b c d high low))

pub some_from : (s : List ℕ) (a b : Output) → Adds s a b → AddsSome a b
unfolding AddsSome
some_from s a b p = (s, p)

pub some_more : (a b c : Output) → AddsSome a b → AddsSome b c → AddsSome a c
unfolding AddsSome
some_more a b c p q = (p.0 ++ q.0, adds_more p.0 q.0 a b c p.1 q.1)
