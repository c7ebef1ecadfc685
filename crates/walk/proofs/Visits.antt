-- A walk reads at most four entries, in order, and depends on nothing else.
use mathlib.Core.Path.{◌≡◌, refl, ap, ◌∙◌}
use mathlib.Core.Bool.{cond}
use mathlib.Core.List.{List}
use Prim.Native.Nat.{ℕ, zero, suc, ◌+◌, ◌-◌, ◌*◌, ◌^◌, ◌≤◌}
use native.Mathlib.Omega.{arith}
use lib.Dec.{leb, lit≤}
use lib.ListN.{length}
use borrow.Author.Tests.{leb-true}
use Rattle.lemmas.proofs.Cases.{by_cases, either_case}
use Rattle.walk.specs.declared.Rights.{Rights}
use Rattle.walk.specs.declared.End.TheVariants.{Mapped, Unmapped}
use Rattle.walk.specs.Walk.{Walked, rights_in, bits51_to12, all_rights, is_none, both_grant, is_lent, index_at, table_entry, is_large, ends_in, visiting, entry_read, page_of, walk_from, walked}
use Rattle.walk.specs.Visits.{InOrder, SameMeaning, SameAt, OnlyVisitsMatter}
use Rattle.walk.proofs.Laws.{page_or, by_address}

-- ---- how many, and which

-- an entry that is read adds one visit to those that follow
read_few : (entries : List ℕ) (k i : ℕ) (above : Rights) (next : ℕ → Rights → Walked) (m : ℕ)
    → ((x : ℕ) (g : Rights) → length (next x g).visits ≤ m)
    → length (entry_read entries k i above next).visits ≤ suc m
read_few entries k i above next m h =
    either_case (λ (w : Walked). length w.visits ≤ suc m) (is_lent entries k) _ _
    (λ lent.
    either_case (λ (w : Walked). suc (length w.visits) ≤ suc m) (is_none (rights_in (table_entry entries k i))) _ _
    (λ none. omega arith)
    (λ some. omega (arith, h (table_entry entries k i) (both_grant above (rights_in (table_entry entries k i))))))
    (λ missing. omega arith)

from_few : (n : ℕ) (entries : List ℕ) (a k : ℕ) (above : Rights) → length (walk_from n entries a k above).visits ≤ suc n
unfolding walk_from
from_few zero entries a k above =
    read_few entries k (index_at zero a) above (λ x g. ends_in (Mapped (page_of zero x g))) zero (λ x g. omega arith)
from_few (suc n) entries a k above =
    read_few entries k (index_at (suc n) a) above (page_or (suc n) (λ x g. walk_from n entries a (bits51_to12 x) g)) (suc n) (λ x g.
    either_case (λ (w : Walked). length w.visits ≤ suc n) (is_large (suc n) x) (ends_in (Mapped (page_of (suc n) x g))) (walk_from n entries a (bits51_to12 x) g)
    (λ large. omega arith)
    (λ small. from_few n entries a (bits51_to12 x) g))

-- an entry that is read stands where the rules say, if those that follow do
read_order : (n k a : ℕ) (entries : List ℕ) (above : Rights) (next : ℕ → Rights → Walked)
    → ((x : ℕ) (g : Rights) → InOrder (n - 1) (bits51_to12 x) entries a (next x g).visits)
    → InOrder n k entries a (entry_read entries k (index_at n a) above next).visits
read_order n k a entries above next h =
    either_case (λ (w : Walked). InOrder n k entries a w.visits) (is_lent entries k) _ _
    (λ lent. (
      refl,
      refl,
      omega arith,
      leb-true (512 * (k + 1)) (length entries) lent,
      either_case (λ (w : Walked). InOrder (n - 1) (bits51_to12 (table_entry entries k (index_at n a))) entries a w.visits) (is_none (rights_in (table_entry entries k (index_at n a)))) _ _
          (λ none. tt)
          (λ some. h (table_entry entries k (index_at n a)) (both_grant above (rights_in (table_entry entries k (index_at n a))))),
    ))
    (λ missing. tt)

from_order : (n : ℕ) (entries : List ℕ) (a k : ℕ) (above : Rights) → InOrder n k entries a (walk_from n entries a k above).visits
unfolding walk_from
from_order zero entries a k above =
    read_order zero k a entries above (λ x g. ends_in (Mapped (page_of zero x g))) (λ x g. tt)
from_order (suc n) entries a k above =
    read_order (suc n) k a entries above (page_or (suc n) (λ x g. walk_from n entries a (bits51_to12 x) g)) (λ x g.
    either_case (λ (w : Walked). InOrder (suc n - 1) (bits51_to12 x) entries a w.visits) (is_large (suc n) x) (ends_in (Mapped (page_of (suc n) x g))) (walk_from n entries a (bits51_to12 x) g)
    (λ large. tt)
    (λ small. let one : suc n - 1 ≡ n = omega arith in rw one (from_order n entries a (bits51_to12 x) g)))

-- ---- on what a walk depends

module _ (entries others : List ℕ) (long : length entries ≡ length others) where
  -- what follows an entry at a level with n levels below is the same
  abbrev Follows : ℕ → (ℕ → Rights → Walked) → (ℕ → Rights → Walked) → Type 0
  Follows n next later =
      (x y : ℕ) → SameMeaning n x y → (g : Rights) → SameAt (n - 1) (next x g).visits entries others → next x g ≡ later y g

  -- after an entry, by its rights
  abbrev after_entry : ℕ → Rights → (ℕ → Rights → Walked) → Walked
  after_entry x above next =
      cond (is_none (rights_in x)) (ends_in Unmapped) (next x (both_grant above (rights_in x)))

  after_same : (n x y : ℕ) → SameMeaning n x y → (above : Rights) (next later : ℕ → Rights → Walked) → Follows n next later
      → SameAt (n - 1) (after_entry x above next).visits entries others → after_entry x above next ≡ after_entry y above later
  after_same n x y m above next later h s =
      let none : is_none (rights_in x) ≡ is_none (rights_in y) = ap is_none m.rights in
      let grant : both_grant above (rights_in x) ≡ both_grant above (rights_in y) = ap (both_grant above) m.rights in
      by_cases (is_none (rights_in x))
      (λ e. rw (← none, e))
      (λ e. rw (← none, e) (h x y m (both_grant above (rights_in x)) (rw e at s) ∙ ap (later y) grant))

  -- if what follows an entry is the same, so is the walk from the entry on
  read_same : (n k i : ℕ) (above : Rights) (next later : ℕ → Rights → Walked) → Follows n next later
      → SameAt n (entry_read entries k i above next).visits entries others
      → entry_read entries k i above next ≡ entry_read others k i above later
  read_same n k i above next later h s =
      let lent : is_lent entries k ≡ is_lent others k = rw long in
      by_cases (is_lent entries k)
      (λ e. let r = rw e at s in rw (← lent, e) (ap (visiting k i) (after_same n (table_entry entries k i) (table_entry others k i) r.0 above next later h r.1)))
      (λ e. rw (← lent, e))

  page_same : (n x y : ℕ) → SameMeaning n x y → (g : Rights) → ends_in (Mapped (page_of n x g)) ≡ ends_in (Mapped (page_of n y g))
  page_same n x y m g = rw m.number

  -- a page, or the level below
  below_same : (n : ℕ) (next later : ℕ → Rights → Walked) → Follows n next later → Follows n (page_or n next) (page_or n later)
  below_same n next later h x y m g s =
      by_cases (is_large n x)
      (λ e. rw (← m.large, e) (page_same n x y m g))
      (λ e. rw (← m.large, e) (h x y m g (rw e at s)))

  from_same : (n : ℕ) (a k : ℕ) (above : Rights) → SameAt n (walk_from n entries a k above).visits entries others
      → walk_from n entries a k above ≡ walk_from n others a k above
  unfolding walk_from
  from_same zero a k above s =
      read_same zero k (index_at zero a) above _ _ (λ x y m g r. page_same zero x y m g) s
  from_same (suc n) a k above s =
      let one : suc n - 1 ≡ n = omega arith in
      read_same (suc n) k (index_at (suc n) a) above _ _
      (below_same (suc n) (λ x g. walk_from n entries a (bits51_to12 x) g) (λ y g. walk_from n others a (bits51_to12 y) g)
      (λ x y m g r. from_same n a (bits51_to12 x) g (rw one at r) ∙ ap (λ (k : ℕ). walk_from n others a k g) m.number))
      s

  walk_same : (a : ℕ) → SameAt 3 (walked entries a).visits entries others → walked entries a ≡ walked others a
  unfolding walked
  walk_same a s =
      by_cases (leb (2 ^ 48) a)
      (λ high. rw high)
      (λ low. rw low (from_same 3 a 0 all_rights (rw low at s)))

pub only_visits_matter : OnlyVisitsMatter
only_visits_matter =
    record {
      at_most_four = λ entries a. by_address (λ (w : Walked). length w.visits ≤ 4) entries a (lit≤ tt) (from_few 3 entries a 0 all_rights);
      order = λ entries a. by_address (λ (w : Walked). InOrder 3 0 entries a w.visits) entries a tt (from_order 3 entries a 0 all_rights);
      same = λ entries others a long s. walk_same entries others long a s;
    }
