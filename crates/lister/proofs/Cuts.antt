-- The output does not depend on how the input is cut into pieces.
use Prim.Native.Nat.{ℕ, zero, suc, ◌+◌, ◌<◌}
use mathlib.Core.Path.{◌≡◌, refl, sym, ap, ◌∙◌}
use mathlib.Core.Bool.{Bool, true, false, cond}
use mathlib.Core.List.{List, [], ◌∷◌, ◌++◌, append_assoc}
use native.Mathlib.Omega.{arith}
use lib.Dec.{ltb, eqb}
use lib.ListN.{length, take}
use lib.Seq.{take_all, take-take, length-take-le}
use borrow.Author.Tests.{lt-ltb, ltb-true, ltb-false}
use Rattle.rows.specs.Rows.{out_line}
use Rattle.lister.specs.Line.{line_read, line_text}
use Rattle.lister.specs.Stream.{printed, number_after, start_after, last_text, listing, first289, concat}

-- ---- one piece after another

choose_number : {A : Type 0} (f : ℕ → A) (t : Bool) (m n : ℕ) → cond t (f m) (f n) ≡ f (cond t m n)
choose_number f true m n = refl
choose_number f false m n = refl

pub number_after_append : (k : ℕ) (a b : List ℕ) → number_after k (a ++ b) ≡ number_after (number_after k a) b
unfolding number_after
number_after_append k [] b = refl
number_after_append k (c ∷ a) b =
    (λ i. cond (eqb c 10) (number_after_append (k + 1) a b i) (number_after_append k a b i))
    ∙ choose_number (λ n. number_after n b) (eqb c 10) (number_after (k + 1) a) (number_after k a)

choose_start : {A : Type 0} (f : List ℕ → A) (t : Bool) (p q : List ℕ) → cond t (f p) (f q) ≡ f (cond t p q)
choose_start f true p q = refl
choose_start f false p q = refl

pub start_after_append : (p a b : List ℕ) → start_after p (a ++ b) ≡ start_after (start_after p a) b
unfolding start_after
start_after_append p [] b = refl
start_after_append p (c ∷ a) b =
    (λ i. cond (eqb c 10) (start_after_append [] a b i) (start_after_append (p ++ c ∷ []) a b i))
    ∙ choose_start (λ q. start_after q b) (eqb c 10) (start_after [] a) (start_after (p ++ c ∷ []) a)

printed_step : (t : Bool) (l x y u v : List ℕ) (f : ℕ → List ℕ → List ℕ) (m n : ℕ) (p q : List ℕ) → x ≡ u ++ f m p
    → y ≡ v ++ f n q
    → cond t (l ++ x) y ≡ cond t (l ++ u) v ++ f (cond t m n) (cond t p q)
printed_step true l x y u v f m n p q d e = ap (λ (s : List ℕ). l ++ s) d ∙ sym (append_assoc l u (f m p))
printed_step false l x y u v f m n p q d e = e

pub printed_append : (k : ℕ) (p a b : List ℕ)
    → printed k p (a ++ b) ≡ printed k p a ++ printed (number_after k a) (start_after p a) b
unfolding printed number_after start_after
printed_append k p [] b = refl
printed_append k p (c ∷ a) b =
    printed_step (eqb c 10) (line_text k p) (printed (k + 1) [] (a ++ b)) (printed k (p ++ c ∷ []) (a ++ b)) (printed (k + 1) [] a) (printed k (p ++ c ∷ []) a)
    (λ n q. printed n q b) (number_after (k + 1) a) (number_after k a) (start_after [] a) (start_after (p ++ c ∷ []) a)
    (printed_append (k + 1) [] a b) (printed_append k (p ++ c ∷ []) a b)

-- ---- a line that is too long, by its first 289 characters

over : (cs : List ℕ) → 288 < length cs → line_read cs ≡ line_read (first289 cs)
unfolding line_read
over cs h = rw (lt-ltb 288 (length cs) h, lt-ltb 288 (length (first289 cs)) (rw length-take-le (omega arith)))

line_cut : (t : Bool) (cs : List ℕ) → ltb 288 (length cs) ≡ t → line_read cs ≡ line_read (first289 cs)
line_cut true cs e = over cs (ltb-true 288 (length cs) e)
line_cut false cs e = let h = ltb-false 288 (length cs) e in ap line_read (sym (take_all 289 cs (omega arith)))

pub read_cut : (cs : List ℕ) → line_read cs ≡ line_read (first289 cs)
read_cut cs = line_cut (ltb 288 (length cs)) cs refl

pub line_text_cut : (k : ℕ) (cs : List ℕ) → line_text k cs ≡ line_text k (first289 cs)
unfolding line_text
line_text_cut k cs = ap (out_line k) (read_cut cs)

line_text_same : (k : ℕ) (p q : List ℕ) → first289 p ≡ first289 q → line_text k p ≡ line_text k q
line_text_same k p q e = line_text_cut k p ∙ ap (line_text k) e ∙ sym (line_text_cut k q)

take_front : (n : ℕ) (p s : List ℕ) → take n (take n p ++ s) ≡ take n (p ++ s)
take_front zero p s = refl
take_front (suc n) [] s = refl
take_front (suc n) (c ∷ p) s = ap (λ (l : List ℕ). c ∷ l) (take_front n p s)

pub cut_append : (p s : List ℕ) → first289 (first289 p ++ s) ≡ first289 (p ++ s)
cut_append p s = take_front 289 p s

same_append : (p q s : List ℕ) → first289 p ≡ first289 q → first289 (p ++ s) ≡ first289 (q ++ s)
same_append p q s e = sym (cut_append p s) ∙ ap (λ (l : List ℕ). first289 (l ++ s)) e ∙ cut_append q s

printed_same : (k : ℕ) (p q cs : List ℕ) → first289 p ≡ first289 q → printed k p cs ≡ printed k q cs
unfolding printed
printed_same k p q [] e = refl
printed_same k p q (c ∷ cs) e =
    λ i. cond (eqb c 10) (line_text_same k p q e i ++ printed (k + 1) [] cs) (printed_same k (p ++ c ∷ []) (q ++ c ∷ []) cs (same_append p q (c ∷ []) e) i)

pub printed_cut : (k : ℕ) (p cs : List ℕ) → printed k (first289 p) cs ≡ printed k p cs
printed_cut k p cs = printed_same k (first289 p) p cs (take-take 289 289 p (omega arith))

start_after_same : (p q cs : List ℕ) → first289 p ≡ first289 q → first289 (start_after p cs) ≡ first289 (start_after q cs)
unfolding start_after
start_after_same p q [] e = e
start_after_same p q (c ∷ cs) e =
    sym (choose_start first289 (eqb c 10) (start_after [] cs) (start_after (p ++ c ∷ []) cs))
    ∙ (λ i. cond (eqb c 10) (first289 (start_after [] cs)) (start_after_same (p ++ c ∷ []) (q ++ c ∷ []) cs (same_append p q (c ∷ []) e) i))
    ∙ choose_start first289 (eqb c 10) (start_after [] cs) (start_after (q ++ c ∷ []) cs)

pub start_after_cut : (p cs : List ℕ) → first289 (start_after (first289 p) cs) ≡ first289 (start_after p cs)
start_after_cut p cs = start_after_same (first289 p) p cs (take-take 289 289 p (omega arith))

pub last_text_cut : (k : ℕ) (p : List ℕ) → last_text k (first289 p) ≡ last_text k p
last_text_cut k [] = refl
last_text_cut k (c ∷ p) = sym (line_text_cut k (c ∷ p))

-- the output for pieces one after the other, with the kept start of a line cut to 289 after each, and at
-- the end that of the last line
unfoldable pub in_pieces : ℕ → List ℕ → List (List ℕ) → List ℕ
in_pieces k p [] = last_text k p
in_pieces k p (b ∷ bs) = printed k p b ++ in_pieces (number_after k b) (first289 (start_after p b)) bs

rest_of : ℕ → List ℕ → List ℕ → List ℕ
rest_of k p cs = printed k p cs ++ last_text (number_after k cs) (start_after p cs)

rest_cut : (k : ℕ) (p cs : List ℕ) → rest_of k (first289 p) cs ≡ rest_of k p cs
unfolding rest_of
rest_cut k p cs =
    (λ i. printed_cut k p cs i ++ last_text (number_after k cs) (start_after (first289 p) cs))
    ∙ ap (λ (l : List ℕ). printed k p cs ++ l) (sym (last_text_cut (number_after k cs) (start_after (first289 p) cs)) ∙ ap (last_text (number_after k cs)) (start_after_cut p cs) ∙ last_text_cut (number_after k cs) (start_after p cs))

rest_append : (k : ℕ) (p a b : List ℕ)
    → printed k p a ++ rest_of (number_after k a) (start_after p a) b ≡ rest_of k p (a ++ b)
unfolding rest_of
rest_append k p a b =
    sym (append_assoc (printed k p a) (printed (number_after k a) (start_after p a) b) (last_text (number_after (number_after k a) b) (start_after (start_after p a) b)))
    ∙ sym (λ i. printed_append k p a b i ++ last_text (number_after_append k a b i) (start_after_append p a b i))

pieces_rest : (k : ℕ) (p : List ℕ) (bs : List (List ℕ)) → in_pieces k p bs ≡ rest_of k p (concat bs)
unfolding in_pieces concat rest_of printed number_after start_after
pieces_rest k p [] = refl
pieces_rest k p (b ∷ bs) =
    ap (λ (l : List ℕ). printed k p b ++ l) (pieces_rest (number_after k b) (first289 (start_after p b)) bs ∙ rest_cut (number_after k b) (start_after p b) (concat bs))
    ∙ rest_append k p b (concat bs)

-- it is the listing of the whole input, for any pieces
pub any_pieces : (bs : List (List ℕ)) → in_pieces 1 [] bs ≡ listing (concat bs)
unfolding listing rest_of
any_pieces bs = pieces_rest 1 [] bs
