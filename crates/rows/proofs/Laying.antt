-- One text written after another.
use Rattle.std.specs.Prelude.{Result}
use mathlib.Core.Path.{◌≡◌, refl, sym, ap, ◌∙◌}
use mathlib.Core.Bool.{Bool, true, false, cond}
use lib.Dec.{ltb}
use mathlib.Core.List.{List, [], ◌∷◌, ◌++◌, append_assoc, append-nil}
use Prim.Native.Nat.{ℕ, ◌+◌, ◌-◌, ◌≤◌, zero-le}
use native.Mathlib.Nat.{add-zero, zero-add, add_assoc, le_refl}
use native.Mathlib.Omega.{arith}
use lib.ListN.{length, take, drop, length-append, length-drop, take-append-drop, drop_of_length-le}
use lib.Seq.{length-take-le, take_at, drop_at, drop-drop}
use borrow.Author.Tests.{le-ltb}
use Rattle.packet.specs.declared.Packet.{Packet}
use Rattle.text.specs.Digits.{decimal}
use Rattle.rows.specs.Rows.{at_start, answer_text, out_line, row_in}
use Rattle.rows.specs.Places.{lay, Laid}
use Rattle.rows.specs.declared.put.Row.{Row}
use Rattle.rows.specs.Row.{Puts}

lay_lay : (at : ℕ) (s t l : List ℕ) → at ≤ length l → lay (at + length s) t (lay at s l) ≡ lay at (s ++ t) l
lay_lay at s t l h =
    let front : length (take at l ++ s) ≡ at + length s = length-append (take at l) s ∙ ap (λ (n : ℕ). n + length s) (length-take-le at l h) in
    let rest : drop (at + length s + length t) (take at l ++ s ++ drop (at + length s) l) ≡ drop (at + length (s ++ t)) l =
    sym (drop-drop (length t) (at + length s) (take at l ++ s ++ drop (at + length s) l))
    ∙ ap (drop (length t)) (drop_at (take at l ++ s) (drop (at + length s) l) (at + length s) front)
    ∙ drop-drop (length t) (at + length s) l
    ∙ ap (λ (n : ℕ). drop n l) (add_assoc at (length s) (length t) ∙ ap (λ (n : ℕ). at + n) (sym (length-append s t))) in
    ap (λ (x : List ℕ). x ++ t ++ drop (at + length s + length t) (take at l ++ s ++ drop (at + length s) l)) (take_at (take at l ++ s) (drop (at + length s) l) (at + length s) front)
    ∙ ap (λ (x : List ℕ). take at l ++ s ++ t ++ x) rest
    ∙ ap (λ (x : List ℕ). x ++ drop (at + length (s ++ t)) l) (append_assoc (take at l) s t)

pub then : (at : ℕ) (s t l : List ℕ) (n : ℕ) (m : List ℕ) (e : ℕ) (r : List ℕ) → at ≤ length l → Laid at s l n m
    → Laid n t m e r → Laid at (s ++ t) l e r
then at s t l n m e r h p q = (
  q.0 ∙ ap (λ (k : ℕ). k + length t) p.0 ∙ add_assoc at (length s) (length t) ∙ ap (λ (k : ℕ). at + k) (sym (length-append s t)),
  q.1 ∙ (λ k. lay (p.0 k) t (p.1 k)) ∙ lay_lay at s t l h,
)

-- three texts, one after another, which are w
module _ (s t u w : List ℕ) (e : s ++ t ++ u ≡ w) where
  laid_three : (at : ℕ) (out : List ℕ) (a b c : Row) → at ≤ length out → Laid at s out a.at a.out.now → Puts t a b → Puts u b c
      → Laid at w out c.at c.out.now
  laid_three at out a b c h p q r =
      let front = then at s t out a.at a.out.now b.at b.out.now h p q.1 in
      rw e at (then at (s ++ t) u out b.at b.out.now c.at c.out.now h front r.1)

  pub put_three : (a b c d : Row) → a.at ≤ length a.out.now → Puts s a b → Puts t b c → Puts u c d → Puts w a d
  put_three a b c d h p q r = (r.0 ∙ q.0 ∙ p.0, laid_three a.at a.out.now b c d h p.1 q r)

pub at_start_lem : (s l : List ℕ) (n : ℕ) (m : List ℕ) → Laid 0 s l n m → (n, m) ≡ at_start s l
at_start_lem s l n m p = (λ k. (p.0 k, p.1 k)) ∙ rw zero-add

-- a whole line: number, tab, answer, line feed
pub row : (k : ℕ) (x : Result Packet ℕ) (out : List ℕ) (a b c d : Row) → 64 ≤ length out
    → Laid 0 (decimal k) out a.at a.out.now → Puts (9 ∷ []) a b → Puts (answer_text x) b c → Puts (10 ∷ []) c d
    → (d.at, d.out.now) ≡ row_in (out_line k x) out
unfolding row_in out_line
row k x out a b c d room p q r s =
    let line = decimal k ++ 9 ∷ answer_text x ++ 10 ∷ [] in
    let tab = then 0 (decimal k) (9 ∷ []) out a.at a.out.now b.at b.out.now zero-le p q.1 in
    let all = laid_three (decimal k ++ 9 ∷ []) (answer_text x) (10 ∷ []) line (simp append_assoc) 0 out b c d zero-le tab r s in
    rw (le-ltb (length out) 64 room) (at_start_lem line out d.at d.out.now all)

pub nothing_laid : (at : ℕ) (l : List ℕ) → Laid at [] l at l
nothing_laid at l = (sym (add-zero at), sym (rw (append-nil, add-zero) (take-append-drop at l)))

-- a text written at the start, and one written after it
pub laid_start : (s l : List ℕ) (n : ℕ) (m : List ℕ) → Laid 0 s l n m → take n m ≡ s
laid_start s l n m p = rw p.1 (take_at s (drop (0 + length s) l) n (sym (p.0 ∙ zero-add (length s))))

pub laid_after : (at : ℕ) (s l : List ℕ) (n : ℕ) (m : List ℕ) → at ≤ length l → Laid at s l n m
    → Laid 0 (take at l ++ s) l n m
laid_after at s l n m h p =
    let e : length (take at l ++ s) ≡ at + length s = length-append (take at l) s ∙ ap (λ (k : ℕ). k + length s) (length-take-le at l h) in
    (rw (zero-add, e) p.0, rw (zero-add, e) p.1)

-- a row written to the part of a buffer from an index on
pub row_after : (at : ℕ) (s out : List ℕ) (n : ℕ) (l : List ℕ) → at + 64 ≤ length out → (n, l) ≡ row_in s (drop at out)
    → Laid at s out (at + n) (take at out ++ (l ++ drop (length out - at) (drop at out)))
unfolding row_in
row_after at s out n l room e =
    let more : 64 ≤ length (drop at out) = rw length-drop (omega arith) in
    let f : (n, l) ≡ at_start s (drop at out) = rw (le-ltb (length (drop at out)) 64 more) at e in
    let none : drop (length out - at) (drop at out) ≡ [] = drop_of_length-le (drop at out) {i = length out - at} (rw length-drop (le_refl _)) in (
      ap (λ (k : ℕ). at + k) (ap (λ (x : ℕ × List ℕ). x.0) f),
      ap (λ (x : List ℕ). take at out ++ x) (ap (λ (x : List ℕ). l ++ x) none ∙ append-nil l ∙ ap (λ (x : ℕ × List ℕ). x.1) f)
          ∙ sym (append_assoc (take at out) s (drop (length s) (drop at out)))
          ∙ ap (λ (x : List ℕ). take at out ++ s ++ x) (drop-drop (length s) at out),
    )

pub laid_length : (at : ℕ) (s l : List ℕ) (n : ℕ) (m : List ℕ) → at + length s ≤ length l → Laid at s l n m
    → length m ≡ length l
laid_length at s l n m h p =
    let e : length (take at l) ≡ at = length-take-le at l (omega arith) in
    rw (p.1, length-append, length-append, e, length-drop) (omega arith)

-- ---- the buffer after a row is written

within : (s out o : List ℕ) → o ≡ s ++ drop (length s) out → length o ≡ length out → length s ≤ length out
within s out o e l = let f = ap length e ∙ length-append s (drop (length s) out) in omega arith

-- a text at the start of a buffer is no longer than the buffer
pub start_within : (s out : List ℕ) (n : ℕ) (o : List ℕ) → (n, o) ≡ at_start s out → length o ≡ length out
    → n ≤ length out
start_within s out n o e l = rw (ap (λ (x : ℕ × List ℕ). x.0) e) (within s out o (ap (λ (x : ℕ × List ℕ). x.1) e) l)

-- and so is a row
pub row_within : (s out : List ℕ) (n : ℕ) (o : List ℕ) → (n, o) ≡ row_in s out → length o ≡ length out → n ≤ length out
unfolding row_in
row_within s out n o e l = go (ltb (length out) 64) e
  where
    go : (t : Bool) → (n, o) ≡ cond t (0, out) (at_start s out) → n ≤ length out
    go true q = rw (ap (λ (x : ℕ × List ℕ). x.0) q) zero-le
    go false q = start_within s out n o q l

-- an empty row writes nothing, in any buffer
pub row_none : (out : List ℕ) → row_in [] out ≡ (0, out)
unfolding row_in
row_none out = go (ltb (length out) 64)
  where
    go : (t : Bool) → cond t (0, out) (at_start [] out) ≡ (0, out)
    go true = refl
    go false = refl

-- a row written to a buffer that has room
pub row_start : (s out : List ℕ) (n : ℕ) (l : List ℕ) → 64 ≤ length out → (n, l) ≡ row_in s out → Laid 0 s out n l
unfolding row_in
row_start s out n l room e =
    let f : (n, l) ≡ at_start s out = rw (le-ltb (length out) 64 room) at e in
    (ap (λ (x : ℕ × List ℕ). x.0) f ∙ sym (zero-add (length s)), ap (λ (x : ℕ × List ℕ). x.1) f ∙ rw zero-add)
