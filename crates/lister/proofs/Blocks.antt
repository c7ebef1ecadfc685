-- For any blocks, the output of a program is the listing of the input.
use Prim.Native.Nat.{ℕ, ◌+◌, ◌-◌, ◌*◌, ◌/◌, ◌^◌, ◌≤◌, ◌<◌, min}
use mathlib.Core.Path.{◌≡◌, refl, ap, ◌∙◌}
use mathlib.Core.Bool.{Bool, true, false, cond}
use mathlib.Core.List.{List, [], ◌∷◌, ◌++◌, append-nil}
use native.Mathlib.Nat.{min-eq_left, min-le_right}
use native.Mathlib.Omega.{arith}
use lib.Dec.{eqb}
use lib.ListN.{length, take, drop, length-append, length-drop, length-take}
use lib.Seq.{take_at, take_all}
use borrow.Author.Tests.{le-ltb}
use Rattle.rows.specs.Rows.{row_in}
use Rattle.rows.proofs.Short.{out_line_short}
use Rattle.rows.proofs.Laying.{laid_start, row_start}
use Rattle.lister.specs.declared.Progress.{Progress}
use Rattle.lister.specs.declared.Fed.{Fed}
use Rattle.lister.specs.Line.{line_read, line_text}
use Rattle.lister.specs.Stream.{printed, number_after, start_after, last_text, first289, concat}
use Rattle.lister.specs.Pieces.{initial_progress, start_in, takes, left, left_of, fed, finished}
use Rattle.lister.proofs.Cuts.{in_pieces, any_pieces, printed_cut, start_after_cut}
use Rattle.lister.proofs.Calls.{start_kept}
use Rattle.lister.specs.Blocks.{handed_out, AllAtMost, AnyBlocks}

-- ---- one step

pub line_short : (k : ℕ) (cs : List ℕ) → length (line_text k cs) ≤ 64
unfolding line_text
line_short k cs = out_line_short k (line_read cs)

short_case : (t : Bool) (x y : List ℕ) (n : ℕ) → length x ≤ n → length y ≤ n → length (cond t x y) ≤ n
short_case true x y n h k = h
short_case false x y n h k = k

pub printed_short : (k : ℕ) (p cs : List ℕ) → length (printed k p cs) ≤ length cs * 64
unfolding printed
printed_short k p [] = omega arith
printed_short k p (c ∷ cs) =
    let s = line_short k p in
    let r = printed_short (k + 1) [] cs in
    let q = printed_short k (p ++ c ∷ []) cs in
    short_case (eqb c 10) (line_text k p ++ printed (k + 1) [] cs) (printed k (p ++ c ∷ []) cs) (length (c ∷ cs) * 64) (rw length-append (omega arith)) (omega arith)

most_case : (t : Bool) (x y n : ℕ) → x ≤ n → y ≤ n → cond t x y ≤ n
most_case true x y n h k = h
most_case false x y n h k = k

number_after_most : (k : ℕ) (cs : List ℕ) → number_after k cs ≤ k + length cs
unfolding number_after
number_after_most k [] = omega arith
number_after_most k (c ∷ cs) =
    let r = number_after_most (k + 1) cs in
    let q = number_after_most k cs in
    most_case (eqb c 10) (number_after (k + 1) cs) (number_after k cs) (k + length (c ∷ cs)) (omega arith) (omega arith)

-- writing to the start of a buffer that has room does not change its length
start_long : (s l : List ℕ) → length s ≤ length l → length (s ++ drop (length s) l) ≡ length l
start_long s l h = rw (length-append, length-drop) (omega arith)

-- all of a block is taken
takes_all : (k n room : ℕ) → n * 64 ≤ room → k + n < 2 ^ 64 → takes k n room ≡ n
takes_all k n room h m =
    let few : n ≤ room / 64 = omega arith in
    let numbered : n ≤ 2 ^ 64 - 1 - k = omega arith in
    rw (min-eq_left few) (min-eq_left numbered)

fed_long : (from : Progress) (hold b out : List ℕ) → 289 ≤ length hold
    → fed from hold b out ≡ left_of from hold b out (takes from.number (length b) (length out))
unfolding fed
fed_long from hold b out h = rw (le-ltb (length hold) 289 h)

pub fed_whole : (from : Progress) (hold b out : List ℕ) → 289 ≤ length hold → length b * 64 ≤ length out
    → from.number + length b < 2 ^ 64
    → fed from hold b out ≡ left from.number (start_in from.held hold) hold b out (length b)
unfolding fed
fed_whole from hold b out h room few = rw (le-ltb (length hold) 289 h, takes_all from.number (length b) (length out) room few, take_all (length b) b (omega arith))

-- as many characters as are taken have a line number each
taken_numbered : (k n room : ℕ) → n ≤ takes k n room → 0 < n → k + n < 2 ^ 64
taken_numbered k n room h some =
    let few : takes k n room ≤ 2 ^ 64 - 1 - k = min-le_right (min n (room / 64)) (2 ^ 64 - 1 - k) in
    omega arith

-- What a program knows of a call that took the whole block b, where the kept characters were those of the line's
-- start p: the ready bytes, the next line's number, and its kept start.
module _ (from : Progress) (hold b out p : List ℕ) (r : Fed) (h o : List ℕ) where
  pub fed_all : (r, h, o) ≡ fed from hold b out → 289 ≤ length hold → length b * 64 ≤ length out → length b ≤ r.taken
      → 0 < length b → start_in from.held hold ≡ first289 p
      → (take r.ready o ≡ printed from.number p b)
      × (r.progress.number ≡ number_after from.number b)
      × (start_in r.progress.held h ≡ first289 (start_after p b))
  fed_all e long room all some kept =
      let f : fed from hold b out ≡ left_of from hold b out (takes from.number (length b) (length out)) = fed_long from hold b out long in
      let t : r.taken ≡ takes from.number (length b) (length out) = ap (λ (x : Fed × List ℕ × List ℕ). x.0.taken) (e ∙ f) in
      let few = taken_numbered from.number (length b) (length out) (omega arith) some in
      let w = e ∙ fed_whole from hold b out long room few ∙ ap (λ (q : List ℕ). left from.number q hold b out (length b)) kept in
      let s = start_after (first289 p) b in
      let text = printed from.number (first289 p) b in (
        ap (λ (x : Fed × List ℕ × List ℕ). take x.0.ready x.2) w ∙ take_at text (drop (length text) out) (length text) refl ∙ printed_cut from.number p b,
        ap (λ (x : Fed × List ℕ × List ℕ). x.0.progress.number) w,
        ap (λ (x : Fed × List ℕ × List ℕ). start_in x.0.progress.held x.1) w ∙ start_kept s hold ∙ start_after_cut p b,
      )

-- and of the call at the end
pub finished_all : (from : Progress) (hold out : List ℕ) (n : ℕ) (o : List ℕ) → (n, o) ≡ finished from hold out
    → 64 ≤ length out → take n o ≡ last_text from.number (start_in from.held hold)
unfolding finished
finished_all from hold out n o e room =
    let text = last_text from.number (start_in from.held hold) in
    laid_start text out n o (row_start text out n o room e)

-- ---- every step

-- the concatenated parts, for a line whose kept start is p
parts : (n : ℕ) (from : Progress) (hold out p : List ℕ) (bs : List (List ℕ)) → 289 ≤ length hold → 64 ≤ length out
    → n * 64 ≤ length out → AllAtMost n bs
    → from.number + length (concat bs) < 2 ^ 64 → start_in from.held hold ≡ p
    → concat (handed_out from hold out bs) ≡ in_pieces from.number p bs
unfolding handed_out in_pieces concat AllAtMost finished row_in
parts n from hold out p [] h o r all few e =
    rw (e, le-ltb (length out) 64 o) (append-nil _ ∙ take_at (last_text from.number p) (drop (length (last_text from.number p)) out) (length (last_text from.number p)) refl)
parts n from hold out p (b ∷ bs) h o r all few e =
    let total = length-append b (concat bs) in
    let room : length b * 64 ≤ length out = omega (arith, all.0) in
    let most = number_after_most from.number b in
    let s = first289 (start_after p b) in
    let text = printed from.number p b in
    let held : length s ≤ length hold = rw length-take (omega arith) in
    let short : length text ≤ length out = let q = printed_short from.number p b in omega arith in
    let again = parts n (record { number = number_after from.number b; held = length s }) (s ++ drop (length s) hold) (text ++ drop (length text) out) s bs
    (rw (start_long s hold held) h) (rw (start_long text out short) o) (rw (start_long text out short) r) all.1 (omega arith) (start_kept (start_after p b) hold) in
    rw (fed_whole from hold b out h room (omega arith), e, take_at text (drop (length text) out) (length text) refl, again)

pub any_blocks : AnyBlocks
any_blocks n hold out bs f =
    parts n initial_progress hold out [] bs f.0 f.1 f.2 f.3 f.4 refl ∙ any_pieces bs
