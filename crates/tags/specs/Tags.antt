-- The tags. 01, "Ask", "Access", "Invalidate Request".
use Rattle.std.specs.Prelude.{Bool, true, false, cond, ◌&&◌, List, map, ℕ, ◌-◌, ltb, get_or, set, replicate, Option, option_map}
use Rattle.std.specs.List.{position, fold}
use Rattle.std.specs.Int.Bits.{bit_or}
use Rattle.packet.specs.declared.Tag.{Tag}
use Rattle.packet.specs.declared.ITag.{ITag}
use Rattle.ranges.specs.declared.Range.{Range}
use Rattle.ranges.specs.Range.{units_from, range_from, overlaps}
use Rattle.tags.specs.declared.PendingTranslation.{PendingTranslation}
use Rattle.tags.specs.declared.PendingRead.{PendingRead}
use Rattle.tags.specs.declared.TagState.{TagState}
use Rattle.tags.specs.declared.TagState.TheVariants.{Free, Translate, Read}
use Rattle.tags.specs.Itags.{with_itag}

abbrev pub all_free : List TagState
all_free = replicate 32 Free

-- a new Translation Request
abbrev pub new_translation : ℕ → ℕ → ℕ → TagState
new_translation address further stu =
    Translate (record { address = address; further = further; stu = stu; stale = false; size = 0; whole = 0; due = 0 })

-- a new read
abbrev pub new_read : ℕ → ℕ → Bool → TagState
new_read address bytes translated =
    Read (record { address = address; bytes = bytes; due = bytes; translated = translated; itags = 0 })

abbrev pub is_free_state : TagState → Bool
is_free_state Free = true
is_free_state (Translate t) = false
is_free_state (Read f) = false

abbrev pub is_tag : Tag → Bool
is_tag t = ltb t.0 32

-- the lowest free tag, if there is one
unfoldable pub free_tag : List TagState → Option Tag
free_tag tags = option_map (λ i. record { 0 = i }) (position is_free_state tags)

-- the state of a tag
unfoldable pub tag_state : List TagState → Tag → TagState
tag_state tags t = cond (is_tag t) (get_or tags t.0 Free) Free

unfoldable pub set_tag : List TagState → Tag → TagState → List TagState
set_tag tags t o = cond (is_tag t) (set tags t.0 o) tags

-- the range of a Translation Request
unfoldable pub translation_range : PendingTranslation → Range
translation_range t = units_from t.address t.further t.stu

-- the range of a read at its untranslated address, however many bytes have come
unfoldable pub read_range : PendingRead → Range
read_range f = range_from f.address (f.bytes - 1)

-- does an outstanding request overlap an invalidated range? A Translation Request counts with its whole range, a read
-- only if it was sent with a translated address.
unfoldable pub pending_overlaps : Range → TagState → Bool
pending_overlaps range Free = false
pending_overlaps range (Translate t) = overlaps (translation_range t) range
pending_overlaps range (Read f) = f.translated && overlaps (read_range f) range

abbrev pub stale_translation : PendingTranslation → PendingTranslation
stale_translation t = record { address = t.address; further = t.further; stu = t.stu; stale = true; size = t.size; whole = t.whole; due = t.due }

abbrev pub delaying : ITag → PendingRead → PendingRead
delaying itag f = record { address = f.address; bytes = f.bytes; due = f.due; translated = f.translated; itags = with_itag f.itags itag }

-- a Translation Request becomes stale, a read delays the ITag
abbrev pub invalidated_state : ITag → TagState → TagState
invalidated_state itag Free = Free
invalidated_state itag (Translate t) = Translate (stale_translation t)
invalidated_state itag (Read f) = Read (delaying itag f)

abbrev pub invalidated_if : Range → ITag → TagState → TagState
invalidated_if range itag o = cond (pending_overlaps range o) (invalidated_state itag o) o

unfoldable pub invalidated_tags : Range → ITag → List TagState → List TagState
invalidated_tags range itag tags = map (invalidated_if range itag) tags

abbrev pub stale_state : TagState → TagState
stale_state Free = Free
stale_state (Translate t) = Translate (stale_translation t)
stale_state (Read f) = Read f

-- all outstanding Translation Requests become stale
unfoldable pub all_stale : List TagState → List TagState
all_stale tags = map stale_state tags

abbrev pub delayed_by : TagState → ℕ
delayed_by Free = 0
delayed_by (Translate t) = 0
delayed_by (Read f) = f.itags

-- the ITags that some outstanding read delays
unfoldable pub delayed_itags : List TagState → ℕ
delayed_itags tags = fold (λ v o. bit_or v (delayed_by o)) 0 tags
