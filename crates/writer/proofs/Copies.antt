-- Two copies, one after the other, write the concatenated list to the start of the buffer.
use mathlib.Core.Path.{◌≡◌, ap, ◌∙◌}
use mathlib.Core.List.{List, [], ◌++◌, append-nil, append_assoc}
use Prim.Native.Nat.{ℕ, ◌+◌, ◌-◌, ◌≤◌}
use native.Mathlib.Nat.{le_refl}
use lib.ListN.{length, take, drop, length-append, length-drop, drop_of_length-le}
use lib.Seq.{length-take-le, take_all, take-length, take-append_seam, drop-append_seam, drop-drop}
use borrow.Rule.Slice.PartMut.{mid_of, put_mid}
use Rattle.packet.specs.declared.Frame.{Frame}
use Rattle.packet.specs.Frames.{encode_frame}

pub two_copies : (h p d o l : List ℕ) → o ≡ take (length h) h ++ drop (length h) d
    → l ≡ take (length p) p ++ drop (length p) (mid_of (length h) (length o - length h) o)
    → put_mid (length h) (length o - length h) o l ≡ (h ++ p) ++ drop (length (h ++ p)) d
two_copies h p d o l eo el =
    let o' : o ≡ h ++ drop (length h) d = eo ∙ ap (λ (x : List ℕ). x ++ drop (length h) d) (take-length h) in
    let t : take (length h) o ≡ h = ap (take (length h)) o' ∙ take-append_seam h (drop (length h) d) in
    let r : drop (length h) o ≡ drop (length h) d = ap (drop (length h)) o' ∙ drop-append_seam h (drop (length h) d) in
    let m : mid_of (length h) (length o - length h) o ≡ drop (length h) d = take_all (length o - length h) (drop (length h) o) (rw length-drop (le_refl _)) ∙ r in
    let l' : l ≡ p ++ drop (length h + length p) d = el ∙ simp (m, take-length, drop-drop) in
    let e : drop (length o - length h) (drop (length h) o) ≡ [] = drop_of_length-le (drop (length h) o) {i = length o - length h} (rw length-drop (le_refl _)) in
    simp (t, l', e, append-nil, length-append, append_assoc)

-- The first n of the 24 bytes of a frame.
pub front_length : (n : ℕ) (l : List ℕ) (f : Frame) → l ≡ encode_frame f → n ≤ 24 → length (take n l) ≡ n
front_length n l f e h = length-take-le n l (rw e h)
