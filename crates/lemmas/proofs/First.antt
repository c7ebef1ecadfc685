-- Laws of the first place of a list at which a test holds.
use Rattle.std.proofs.Common.{◌≡◌, ℕ, ◌<◌, Bool, false, List, [], ◌∷◌, map, length, set, get_or, Option, None, Some, refl, arith, ltb, ltb-false, length-set}
use lib.ListN.{length-map}
use Rattle.std.specs.List.{position, position_or_len}
use Rattle.std.proofs.lemmas.List.Sums.{fails_before_first}
use Rattle.std.proofs.lemmas.List.Folds.{position_or_len-set}
use Rattle.lemmas.proofs.Cases.{by_cases, impossible}

-- an option is None, or Some of a value
pub by_option : {A B : Type 0} (o : Option A) → (o ≡ None → B) → ((x : A) → o ≡ Some x → B) → B
by_option None f g = f refl
by_option (Some x) f g = g x refl

module _ {A : Type 0} (p : A → Bool) where
  -- where no place is found, no element passes
  pub position_none : (l : List A) (i : ℕ) (d : A) → position p l ≡ None → i < length l → p (get_or l i d) ≡ false
  position_none l i d e h =
      by_cases (ltb (position_or_len p l) (length l))
      (λ t. let q : Some (position_or_len p l) ≡ None = rw t at e in impossible cc)
      (λ t. fails_before_first p l i d (omega (arith, ltb-false (position_or_len p l) (length l) t)))

  -- if an element is replaced by one that passes if and only if it did, the place stays
  pub position_set : (l : List A) (k : ℕ) (y d : A) → p y ≡ p (get_or l k d) → position p (set l k y) ≡ position p l
  position_set l k y d e = rw (position_or_len-set p l k y d e, length-set l k y)

  -- and so it does under a map that keeps what passes
  pub position_map : (f : A → A) → ((x : A) → p (f x) ≡ p x) → (l : List A) → position p (map f l) ≡ position p l
  position_map f h l = rw (place l, length-map l f)
    where
      place : (xs : List A) → position_or_len p (map f xs) ≡ position_or_len p xs
      place [] = refl
      place (x ∷ xs) = rw (h x, place xs)
