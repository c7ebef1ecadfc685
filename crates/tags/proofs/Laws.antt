-- Laws of ITag vectors and of the tags.
use Rattle.std.specs.Prelude.{Some}
use Rattle.std.specs.List.{position, fold}
use Rattle.std.proofs.lemmas.Option.{same_Some, none-some}
use Rattle.std.proofs.lemmas.List.Quantifiers.{position-Some}
use mathlib.Core.Path.{◌≡◌, refl, sym, ap, ◌∙◌}
use mathlib.Core.Bool.{Bool, true, false, not, cond, ◌&&◌, ◌||◌}
use mathlib.Core.List.{List, [], ◌∷◌, map}
use mathlib.Core.Logic.{◌↔◌, ◌⊎◌, inl, inr, ⊎_elim}
use Prim.Native.Nat.{ℕ, zero, suc, ◌-◌, ◌^◌, ◌<◌, ◌≤◌}
use native.Mathlib.Omega.{arith}
use lib.Dec.{ltb, eqb}
use lib.Bits.{bit_or, or_lt}
use lib.Pow.{pow-lt}
use lib.ListN.{length, get_or, length-set, length-map, get_or-replicate, get_or-eq_default, get_or-map}
use lib.Seq.{get_or-set_same, get_or-set_other}
use borrow.Author.Tests.{eqb-true, eqb-false, ltb-true, ltb-false, lt-ltb}
use Rattle.lemmas.proofs.Cases.{by_cases, or-true, never_both, impossible}
use Rattle.lemmas.proofs.Bools.{no_tf}
use Rattle.lemmas.proofs.First.{by_option}
use Rattle.lemmas.proofs.Bits.{or_set, without_set, none_set, power_set}
use Rattle.ranges.specs.declared.Range.{Range}
use Rattle.ranges.specs.Range.{units_from, range_from, overlaps}
use Rattle.packet.specs.declared.Tag.{Tag}
use Rattle.packet.specs.declared.ITag.{ITag}
use Rattle.tags.specs.declared.TagState.{TagState}
use Rattle.tags.specs.declared.TagState.TheVariants.{Free, Translate, Read}
use Rattle.tags.specs.declared.PendingTranslation.{PendingTranslation}
use Rattle.tags.specs.declared.PendingRead.{PendingRead}
use Rattle.tags.specs.Itags.{bit_index, is_in, with_itag, without}
use Rattle.tags.specs.Tags.{all_free, is_free_state, free_tag, is_tag, tag_state, set_tag, translation_range, read_range, pending_overlaps, invalidated_if, invalidated_tags, stale_state, all_stale, delayed_by, delayed_itags}

-- ---- ITags in vectors

-- an ITag is in a union if and only if it is in one of the two,
pub in_either : (v w : ℕ) (i : ITag) → is_in (bit_or v w) i ≡ (is_in v i || is_in w i)
unfolding is_in
in_either v w i = or_set v w (bit_index i)

-- in a difference if it is in the first and not in the second,
pub in_without : (v w : ℕ) (i : ITag) → is_in (without v w) i ≡ (is_in v i && not (is_in w i))
unfolding is_in without
in_without v w i = without_set v w (bit_index i)

-- and in no empty vector
pub in_none : (i : ITag) → is_in 0 i ≡ false
unfolding is_in
in_none i = none_set (bit_index i)

-- an added ITag is in the vector, with those before
pub in_with_itag : (v : ℕ) (i j : ITag) → is_in (with_itag v i) j ≡ (is_in v j || eqb (bit_index i) (bit_index j))
unfolding with_itag is_in
in_with_itag v i j =
    in_either v (2 ^ bit_index i) j ∙ ap (λ (t : Bool). is_in v j || t) (power_set (bit_index i) (bit_index j))

-- an ITag is determined by its bit,
pub in_bit_index : (v : ℕ) (i : ITag) → is_in v (record { 0 = bit_index i }) ≡ is_in v i
unfolding is_in
in_bit_index v i = let same : bit_index (record { 0 = bit_index i }) ≡ bit_index i = omega arith in rw same

-- and 32 bits are enough after adding and removing
pub with_itag_lt : (v : ℕ) (i : ITag) → v < 2 ^ 32 → with_itag v i < 2 ^ 32
unfolding with_itag
with_itag_lt v i h = or_lt 32 v (2 ^ bit_index i) h (pow-lt (let five : bit_index i < 32 = omega arith in five))

pub without_le : (v w : ℕ) → without v w ≤ v
unfolding without
without_le v w = omega arith

-- ---- what reads delay

-- the state of tag k, free past the last
abbrev state_at : List TagState → ℕ → TagState
state_at tags k = get_or tags k Free

abbrev joined : ℕ → TagState → ℕ
joined v o = bit_or v (delayed_by o)

-- what is in the vector so far, or is delayed by some tag, is in the end
joined_keeps : (i : ITag) (tags : List TagState) (v : ℕ) → is_in v i ≡ true → is_in (fold joined v tags) i ≡ true
joined_keeps i [] v h = h
joined_keeps i (o ∷ tags) v h = joined_keeps i tags (joined v o) (rw (in_either v (delayed_by o) i, h))

delayed_by_lem : (i : ITag) (tags : List TagState) (v k : ℕ) → is_in (delayed_by (state_at tags k)) i ≡ true
    → is_in (fold joined v tags) i ≡ true
delayed_by_lem i [] v k e = absurd (never_both _ e (in_none i))
delayed_by_lem i (o ∷ tags) v zero e = joined_keeps i tags (joined v o) (rw (in_either v (delayed_by o) i, e) (or-true (is_in v i)))
delayed_by_lem i (o ∷ tags) v (suc k) e = delayed_by_lem i tags (joined v o) k e

-- and what is in it in the end was in it, or is delayed by some tag
delayed_at : (i : ITag) (tags : List TagState) (v : ℕ) → is_in (fold joined v tags) i ≡ true
    → (is_in v i ≡ true) ⊎ ((k : ℕ) × (is_in (delayed_by (state_at tags k)) i ≡ true))
delayed_at i [] v e = inl e
delayed_at i (o ∷ tags) v e = ⊎_elim here (λ r. inr (suc r.0, r.1)) (delayed_at i tags (joined v o) e)
  where
    here : is_in (joined v o) i ≡ true → (is_in v i ≡ true) ⊎ ((k : ℕ) × (is_in (delayed_by (state_at (o ∷ tags) k)) i ≡ true))
    here h = by_cases (is_in v i) inl (λ t. inr (0, rw (in_either v (delayed_by o) i, t) at h))

-- an open read that delays an ITag
pub record Delaying (tags : List TagState) (i : ITag) : Type 0 where
  pub tag : Tag
  pub read : PendingRead
  pub state : tag_state tags tag ≡ Read read
  pub delays : is_in read.itags i ≡ true

not_read : (r : PendingRead) → Free ≡ Read r → ⊥
not_read r e = impossible cc

-- the delayed ITags are exactly those that some outstanding read delays
pub delayed_exactly : (tags : List TagState) (i : ITag) → length tags ≡ 32
    → (is_in (delayed_itags tags) i ≡ true) ↔ Delaying tags i
unfolding tag_state delayed_itags
delayed_exactly tags i all =
    (λ e. ⊎_elim (λ h. absurd (never_both _ h (in_none i))) (λ n. one n.0 n.1 (state_at tags n.0) refl) (delayed_at i tags 0 e), back)
  where
    one : (k : ℕ) → is_in (delayed_by (state_at tags k)) i ≡ true → (o : TagState) → state_at tags k ≡ o
        → Delaying tags i
    one k e Free q = absurd (never_both _ (rw q at e) (in_none i))
    one k e (Translate t) q = absurd (never_both _ (rw q at e) (in_none i))
    one k e (Read r) q =
        by_cases (ltb k 32)
        (λ u. record { tag = record { 0 = k }; read = r; state = rw u q; delays = rw q at e })
        (λ u. let far : length tags ≤ k = rw all (ltb-false k 32 u) in
        absurd (never_both _ e (rw (get_or-eq_default tags Free far) (in_none i))))

    back : Delaying tags i → is_in (delayed_itags tags) i ≡ true
    back h =
        by_cases (is_tag h.tag)
        (λ u. let q : state_at tags h.tag.0 ≡ Read h.read = rw u at h.state in delayed_by_lem i tags 0 h.tag.0 (rw q h.delays))
        (λ u. absurd (not_read h.read (rw u at h.state)))

-- ---- setting the state of a tag

-- at first every tag is free,
pub free_tag_state : (t : Tag) → tag_state all_free t ≡ Free
unfolding tag_state
free_tag_state t = by_cases (is_tag t) (λ u. rw (u, get_or-replicate 32 t.0 Free Free (ltb-true t.0 32 u))) (λ u. rw u)

-- and a tag that is not free is one of the 32
pub tag_state_tag : (tags : List TagState) (t : Tag) → (tag_state tags t ≡ Free → ⊥) → is_tag t ≡ true
unfolding tag_state
tag_state_tag tags t used = by_cases (is_tag t) (λ u. u) (λ u. absurd (used (rw u refl)))

module _ (tags : List TagState) (t : Tag) (o : TagState) where
  -- the number of tags does not change
  pub set_tag_long : length (set_tag tags t o) ≡ length tags
  unfolding set_tag
  set_tag_long = by_cases (is_tag t) (λ u. rw u (length-set tags t.0 o)) (λ u. rw u)

  -- no other tag changes,
  pub set_tag_other : (u : Tag) → (u.0 ≡ t.0 → ⊥) → tag_state (set_tag tags t o) u ≡ tag_state tags u
  unfolding tag_state set_tag
  set_tag_other u n =
      by_cases (is_tag t) (λ e. rw (e, get_or-set_other tags t.0 u.0 o Free n)) (λ e. rw e)

  -- and its own state is the new one
  pub set_tag_own : length tags ≡ 32 → is_tag t ≡ true → tag_state (set_tag tags t o) t ≡ o
  unfolding tag_state set_tag
  set_tag_own all e = rw (e, get_or-set_same tags t.0 o Free (rw all (ltb-true t.0 32 e)))

-- a freed tag delays nothing, and the others delay the same ITags as before
pub freed_exactly : (tags : List TagState) (t : Tag) (i : ITag) → length tags ≡ 32
    → Delaying (set_tag tags t Free) i ↔ ((h : Delaying tags i) × (h.tag.0 ≡ t.0 → ⊥))
unfolding tag_state
freed_exactly tags t i all = (there, λ p. record { tag = p.0.tag; read = p.0.read; state = set_tag_other tags t Free p.0.tag p.1 ∙ p.0.state; delays = p.0.delays })
  where
    gone : (u : Tag) → u.0 ≡ t.0 → tag_state (set_tag tags t Free) u ≡ Free
    gone u e =
        let same : u ≡ t = ap (λ (k : ℕ). record { 0 = k }) e in
        rw same (by_cases (is_tag t) (λ b. set_tag_own tags t Free all b) (λ b. rw b))

    there : Delaying (set_tag tags t Free) i → (h : Delaying tags i) × (h.tag.0 ≡ t.0 → ⊥)
    there h =
        by_cases (eqb h.tag.0 t.0)
        (λ b. absurd (not_read h.read (sym (gone h.tag (eqb-true h.tag.0 t.0 b)) ∙ h.state)))
        (λ b. let n = eqb-false h.tag.0 t.0 b in
        (record { tag = h.tag; read = h.read; state = sym (set_tag_other tags t Free h.tag n) ∙ h.state; delays = h.delays }, n))

-- ---- tags after an invalidation

-- the number of tags does not change
pub invalidated_long : (tags : List TagState) (range : Range) (i : ITag)
    → length (invalidated_tags range i tags) ≡ length tags
unfolding invalidated_tags
invalidated_long tags range i = length-map tags (invalidated_if range i)

pub all_stale_long : (tags : List TagState) → length (all_stale tags) ≡ length tags
unfolding all_stale
all_stale_long tags = length-map tags stale_state

-- ---- the same change to every tag

module _ (g : TagState → TagState) (free : g Free ≡ Free) (tags : List TagState) where
  pub tag_state_map : (t : Tag) → tag_state (map g tags) t ≡ g (tag_state tags t)
  unfolding tag_state
  tag_state_map t = by_cases (is_tag t) (λ u. rw u (ap (λ (d : TagState). get_or (map g tags) t.0 d) (sym free) ∙ get_or-map g tags t.0 Free)) (λ u. rw u (sym free))

-- setting E: every Translation Request becomes stale
pub tag_state_all_stale : (tags : List TagState) (t : Tag) → tag_state (all_stale tags) t ≡ stale_state (tag_state tags t)
unfolding all_stale
tag_state_all_stale tags t = tag_state_map stale_state refl tags t

-- the range of a Translation Request is determined by its address and number of units,
pub translation_range_units : (t : PendingTranslation)
    → translation_range t ≡ units_from t.address t.further t.stu
unfolding translation_range
translation_range_units t = refl

-- and decides whether an invalidation overlaps it; for a translated read its bytes do
pub overlaps_translation : (range : Range) (t : PendingTranslation)
    → pending_overlaps range (Translate t) ≡ overlaps (translation_range t) range
unfolding pending_overlaps
overlaps_translation range t = refl

pub overlaps_read : (range : Range) (f : PendingRead)
    → pending_overlaps range (Read f) ≡ (f.translated && overlaps (range_from f.address (f.bytes - 1)) range)
unfolding pending_overlaps read_range
overlaps_read range f = refl

-- an invalidation changes exactly the overlapping tags
pub tag_state_invalidated : (range : Range) (i : ITag) (tags : List TagState) (t : Tag)
    → tag_state (invalidated_tags range i tags) t ≡ invalidated_if range i (tag_state tags t)
unfolding invalidated_tags pending_overlaps
tag_state_invalidated range i tags t = tag_state_map (invalidated_if range i) refl tags t

-- the tag that is set has the new state, and no other changes
pub tag_state_set_tag : (tags : List TagState) (t : Tag) (o : TagState) (u : Tag) → length tags ≡ 32 → is_tag t ≡ true
    → tag_state (set_tag tags t o) u ≡ cond (eqb u.0 t.0) o (tag_state tags u)
tag_state_set_tag tags t o u all own =
    by_cases (eqb u.0 t.0)
    (λ e. let same : u ≡ t = ap (λ (k : ℕ). record { 0 = k }) (eqb-true u.0 t.0 e) in rw (e, same) (set_tag_own tags t o all own))
    (λ e. rw e (set_tag_other tags t o u (eqb-false u.0 t.0 e)))

-- the lowest free tag is a tag, and free
pub free_tag_lem : (tags : List TagState) (t : Tag) → length tags ≡ 32 → free_tag tags ≡ Some t
    → (is_tag t ≡ true) × (tag_state tags t ≡ Free)
unfolding tag_state free_tag
free_tag_lem tags t all e =
    by_option (position is_free_state tags)
    (λ n. absurd (none-some t (rw n at e)))
    (λ i p. let h = position-Some is_free_state tags i Free p in
    let own : ltb i 32 ≡ true = lt-ltb i 32 (omega (arith, h.0, all)) in
    let q : Some (record { 0 = i }) ≡ Some t = rw p at e in
    rw (← same_Some (record { 0 = i }) t q) (own, rw own (is_free (state_at tags i) h.1)))
  where
    is_free : (o : TagState) → is_free_state o ≡ true → o ≡ Free
    is_free Free e = refl
    is_free (Translate q) e = no_tf (sym e)
    is_free (Read r) e = no_tf (sym e)
