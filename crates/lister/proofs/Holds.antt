-- The kept start of a line, and what is appended to it.
use mathlib.Core.Path.{◌≡◌, refl, sym, ap, ◌∙◌}
use mathlib.Core.Bool.{Bool, true, false}
use mathlib.Core.List.{List, [], ◌∷◌, ◌++◌}
use Prim.Native.Nat.{ℕ, ◌+◌, ◌-◌, ◌≤◌, ◌<◌, min, zero-le}
use native.Mathlib.Nat.{zero-add, not-suc-le-zero, min-eq_left, min-eq_right}
use native.Mathlib.Omega.{arith}
use lib.Dec.{leb}
use lib.ListN.{length, take, take-append-drop}
use lib.Seq.{take_all, take-length, take-append-add, length-take-le}
use borrow.Author.Tests.{leb-true, leb-false, lt-ltb, le-ltb}
use Rattle.rows.specs.Rows.{row_in}
use Rattle.lister.specs.declared.Progress.{Progress}
use Rattle.lister.specs.Line.{line_text}
use Rattle.rows.specs.Places.{Laid}
use Rattle.lister.specs.Stream.{printed, number_after, start_after, last_text, first289}
use Rattle.lister.specs.Pieces.{start_in, takes, fed, finished}
use Rattle.rows.proofs.Laying.{then, laid_start, laid_after, at_start_lem, row_none}

cut_after : (p cs : List ℕ) → length p ≤ 289 → p ++ take (289 - length p) cs ≡ first289 (p ++ cs)
cut_after p cs h =
    let e : 289 ≡ length p + (289 - length p) = omega arith in
    sym (ap (λ (n : ℕ). take n (p ++ cs)) e ∙ take-append-add p cs (289 - length p))

-- a line with the kept start p, assembled in an empty array
pub held_cut : (p cs l₀ l₁ l₂ : List ℕ) (a n : ℕ) → length p ≤ 289 → Laid 0 (take 289 p) l₀ a l₁
    → Laid a (take (289 - a) cs) l₁ n l₂ → take n l₂ ≡ first289 (p ++ cs)
held_cut p cs l₀ l₁ l₂ a n h f g =
    let f' = rw (take_all 289 p h) at f in
    let e : a ≡ length p = f'.0 ∙ zero-add (length p) in
    laid_start (p ++ take (289 - a) cs) l₀ n l₂ (then 0 p (take (289 - a) cs) l₀ a l₁ n l₂ zero-le f' g) ∙ rw e (cut_after p cs h)

-- characters appended to the kept ones
pub kept_cut : (held : ℕ) (hold cs : List ℕ) (n : ℕ) (m : List ℕ) → held ≤ 289 → held ≤ length hold
    → Laid held (take (289 - held) cs) hold n m
    → Laid 0 (first289 (take held hold ++ cs)) hold n m
kept_cut held hold cs n m h l p =
    let e : length (take held hold) ≡ held = length-take-le held hold l in
    let c : take held hold ++ take (289 - held) cs ≡ first289 (take held hold ++ cs) = rw e at (cut_after (take held hold) cs (omega arith)) in
    rw c at (laid_after held (take (289 - held) cs) hold n m l p)

-- ---- what is kept at the start

start_case : (t : Bool) (m : ℕ) (hold : List ℕ) → leb m (length hold) ≡ t
    → take (min m (length hold)) hold ≡ take m hold
start_case true m hold e = rw (min-eq_left (leb-true m (length hold) e))
start_case false m hold e =
    let h : length hold ≤ m = let l = leb-false m (length hold) e in omega arith in
    rw (min-eq_right h, take-length) (sym (take_all m hold h))

pub start_is : (held : ℕ) (hold : List ℕ) (m s : ℕ) → m ≡ min held 289 → s ≡ min m (length hold)
    → take s hold ≡ start_in held hold
start_is held hold m s e f = rw (f, e) (start_case (leb (min held 289) (length hold)) (min held 289) hold refl)

-- ---- the last line

pub finish_none : (from : Progress) (hold out : List ℕ) → start_in from.held hold ≡ []
    → (0, out) ≡ finished from hold out
unfolding finished
finish_none from hold out e = rw e (sym (row_none out))

last_line : (k : ℕ) (p : List ℕ) → 0 < length p → last_text k p ≡ line_text k p
last_line k [] h = absurd (not-suc-le-zero h)
last_line k (c ∷ p) h = refl

pub finish_line : (from : Progress) (hold out p : List ℕ) → p ≡ start_in from.held hold → 0 < length p
    → row_in (line_text from.number p) out ≡ finished from hold out
unfolding finished
finish_line from hold out p e h = rw (← e, last_line from.number p h)

-- where s characters are kept
pub finish_empty : (from : Progress) (hold out : List ℕ) (m s : ℕ) → s ≡ min m (length hold) → m ≡ min from.held 289
    → s ≡ 0 → (0, out) ≡ finished from hold out
finish_empty from hold out m s e f z =
    finish_none from hold out (sym (start_is from.held hold m s f e) ∙ ap (λ (n : ℕ). take n hold) z)

pub finish_held : (from : Progress) (hold out : List ℕ) (m s : ℕ) → s ≡ min m (length hold) → m ≡ min from.held 289
    → s ≤ length hold → 0 < s → row_in (line_text from.number (take s hold)) out ≡ finished from hold out
finish_held from hold out m s e f h p =
    let long = length-take-le s hold h in
    finish_line from hold out (take s hold) (start_is from.held hold m s f e) (omega arith)

-- ---- a block

pub fed_none : (from : Progress) (hold block out : List ℕ) (s : ℕ) → length hold < 289
    → take s hold ≡ start_in from.held hold → s ≤ length hold
    → (record { progress = record { number = from.number; held = s }; taken = 0; ready = 0 }, hold, out)
    ≡ fed from hold block out
unfolding fed printed number_after start_after
fed_none from hold block out s short e h =
    let n : length (take s hold) ≡ s = length-take-le s hold h in
    rw (lt-ltb (length hold) 289 short, ← e, take_all 289 (take s hold) (omega arith), n, take-append-drop)

pub fed_some : (from : Progress) (hold block out : List ℕ) (s t n h w : ℕ) (hold' out' : List ℕ) → 289 ≤ length hold
    → take s hold ≡ start_in from.held hold
    → t ≡ takes from.number (length block) (length out) → n ≡ number_after from.number (take t block)
    → Laid 0 (first289 (start_after (take s hold) (take t block))) hold h hold'
    → Laid 0 (printed from.number (take s hold) (take t block)) out w out'
    → (record { progress = record { number = n; held = h }; taken = t; ready = w }, hold', out')
    ≡ fed from hold block out
unfolding fed
fed_some from hold block out s t n h w hold' out' room e f m a b =
    let x = at_start_lem (first289 (start_after (take s hold) (take t block))) hold h hold' a in
    let y = at_start_lem (printed from.number (take s hold) (take t block)) out w out' b in
    rw (le-ltb (length hold) 289 room, ← f, ← e) (λ i. (record { progress = record { number = m i; held = (x i).0 }; taken = t; ready = (y i).0 }, (x i).1, (y i).1))
