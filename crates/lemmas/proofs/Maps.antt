-- A loop that replaces elements of an array by a function of them.
use mathlib.Core.Path.{◌≡◌, refl, ap}
use mathlib.Core.List.{List, [], ◌∷◌, ◌++◌, map}
use mathlib.Core.Logic.{◌⊎◌, inl, inr, ⊎_elim}
use Prim.Native.Nat.{ℕ, zero, suc, ◌+◌, ◌<◌}
use native.Mathlib.Nat.{not-suc-le-zero, le_of_suc-le-suc}
use native.Mathlib.Numerals.{add-one}
use lib.ListN.{length, set, take, drop, get_or}

-- the list with its first i elements replaced
abbrev pub map_to : {A : Type 0} → (A → A) → ℕ → List A → List A
map_to f i l = map f (take i l) ++ drop i l

module _ {A : Type 0} (f : A → A) where
  step_suc : (i : ℕ) (d : A) (l : List A) → i < length l → set (map_to f i l) i (f (get_or l i d)) ≡ map_to f (suc i) l
  step_suc i d [] h = absurd (not-suc-le-zero h)
  step_suc zero d (x ∷ l) h = refl
  step_suc (suc i) d (x ∷ l) h = ap (λ (t : List A). f x ∷ t) (step_suc i d l (le_of_suc-le-suc h))

  same_suc : (i : ℕ) (d : A) (l : List A) → i < length l → get_or l i d ≡ f (get_or l i d) → map_to f i l ≡ map_to f (suc i) l
  same_suc i d [] h e = absurd (not-suc-le-zero h)
  same_suc zero d (x ∷ l) h e = ap (λ (y : A). y ∷ l) e
  same_suc (suc i) d (x ∷ l) h e = ap (λ (t : List A). f x ∷ t) (same_suc i d l (le_of_suc-le-suc h) e)

  -- the element that a turn reads is still the original one
  map_read : (i : ℕ) (d : A) (l : List A) → get_or (map_to f i l) i d ≡ get_or l i d
  map_read zero d l = refl
  map_read (suc i) d [] = refl
  map_read (suc i) d (x ∷ l) = map_read i d l

  -- one turn: next is the list before it, and y the stored element
  pub map_turn : {next : List A} {y : A} (i : ℕ) (d : A) (l : List A) → i < length l → next ≡ map_to f i l
      → y ≡ f (get_or next i d) → set next i y ≡ map_to f (i + 1) l
  map_turn {next} {y} i d l h inv e = rw (e, inv, map_read i d l, add-one) (step_suc i d l h)

  -- a turn that stores nothing, since the element is its own image
  pub map_keep : {next : List A} (i : ℕ) (d : A) (l : List A) → i < length l → next ≡ map_to f i l
      → get_or next i d ≡ f (get_or next i d) → next ≡ map_to f (i + 1) l
  map_keep {next} i d l h inv e =
      let here : get_or l i d ≡ f (get_or l i d) = rw (inv, map_read i d l) at e in
      rw (inv, add-one) (same_suc i d l h here)

-- after one store every element is unchanged or is the stored one
pub set_or : {A : Type 0} (l : List A) (k i : ℕ) (y d : A)
    → (get_or (set l k y) i d ≡ get_or l i d) ⊎ ((i ≡ k) × (get_or (set l k y) i d ≡ y))
set_or [] k i y d = inl refl
set_or (x ∷ l) zero zero y d = inr (refl, refl)
set_or (x ∷ l) zero (suc i) y d = inl refl
set_or (x ∷ l) (suc k) zero y d = inl refl
set_or (x ∷ l) (suc k) (suc i) y d = ⊎_elim inl (λ q. inr (ap suc q.0, q.1)) (set_or l k i y d)
