-- Does a completion with data fit its Translation Request? 01, "Completion for a TR, data".
use Rattle.std.specs.Prelude.{Bool, false, cond, ◌&&◌, List, ℕ, ◌+◌, ◌-◌, ◌*◌, ◌/◌, ◌%◌, ◌^◌, eqb, leb, length, None, Option, Some, unwrap_or}
use Rattle.lemmas.specs.All.{all_below}
use Rattle.ranges.specs.declared.Range.{Range}
use Rattle.ranges.specs.Range.{unit_exponent, unit_count}
use Rattle.tlp.specs.Translations.{translation_at}
use Rattle.tags.specs.declared.PendingTranslation.{PendingTranslation}
use Rattle.tags.specs.Tags.{translation_range}
use Rattle.translations.specs.declared.Rcb.{Rcb}
use Rattle.translations.specs.declared.Rcb.TheVariants.{B64, B128}
use Rattle.translations.specs.declared.Part.{Part}
use Rattle.translations.specs.declared.Part.TheVariants.{Misfit, OffBoundary, First, Last}

-- `next` if the test holds, otherwise it does not fit
abbrev pub check_fit : Bool → Part → Part
check_fit t next = cond t next Misfit

-- the RCB in bytes
abbrev pub boundary : Rcb → ℕ
boundary B64 = 64
boundary B128 = 128

-- is this a multiple of the RCB?
unfoldable pub on_boundary : Rcb → ℕ → Bool
on_boundary rcb n = eqb (n % boundary rcb) 0

-- A first packet, by its Byte Count, Lower Address and payload length, for a request of at most `most` bytes. Byte
-- Count must be whole translations, at least the payload and at most what was requested. If it equals the payload
-- length, this is the only packet; it must end on the boundary to be read. If it is more, the packet must end on the
-- boundary, and a second one follows.
unfoldable pub first_part : Rcb → ℕ → ℕ → ℕ → ℕ → Part
first_part rcb most count lower bytes =
    check_fit (eqb (count % 8) 0)
    (check_fit (leb bytes count)
    (check_fit (leb count most)
    (cond (eqb count bytes)
    (cond (on_boundary rcb (count + lower)) Last OffBoundary)
    (check_fit (on_boundary rcb (bytes + lower)) First))))

-- A second packet must have exactly the rest, with Lower Address 0.
unfoldable pub second_part : ℕ → ℕ → ℕ → ℕ → Part
second_part due count lower bytes = check_fit (eqb count due) (check_fit (eqb bytes due) (check_fit (eqb lower 0) Last))

-- The payload must be whole translations. Bytes are due only after the first of two packets.
unfoldable pub part_of : PendingTranslation → Rcb → ℕ → ℕ → ℕ → Part
part_of t rcb count lower bytes =
    check_fit (eqb (bytes % 8) 0)
    (cond (eqb t.due 0) (first_part rcb (8 * unit_count t.further) count lower bytes) (second_part t.due count lower bytes))

-- the common size of all translations: that of the first, which is recorded for the second packet
unfoldable pub common_size : PendingTranslation → List ℕ → Option ℕ
common_size t payload = cond (eqb t.due 0) (translation_at payload 0).size (Some t.size)

-- a size as an exponent; 0 if there is none, in which case nothing fits
abbrev pub exponent_or0 : Option ℕ → ℕ
exponent_or0 size = unwrap_or size 0

abbrev pub size_is : Option ℕ → ℕ → Bool
size_is (Some own) e = eqb own e
size_is None e = false

-- region k of 2 ^ e bytes begins below the end of the range; region 0 holds the requested address
unfoldable pub begins_in : Range → ℕ → ℕ → Bool
begins_in range e k = leb ((range.first / 2 ^ e + k) * 2 ^ e) range.last

-- the number of translations in the first packet: the bytes no longer due, 8 for each
unfoldable pub received_count : PendingTranslation → ℕ
received_count t = (t.whole - t.due) / 8

unfoldable pub translation_fits : Range → ℕ → ℕ → Option ℕ → Bool
translation_fits range e k size = size_is size e && begins_in range e k

-- every translation of the payload fits; `before` translations came in an earlier packet
unfoldable pub all_fit : Range → ℕ → ℕ → List ℕ → Bool
all_fit range e before payload =
    all_below (λ i. translation_fits range e (before + i) (translation_at payload i).size) (length payload / 8)

-- no size does not fit, nor does a size below the unit
unfoldable pub size_fits : PendingTranslation → Option ℕ → List ℕ → Bool
size_fits t (Some e) payload =
    leb (unit_exponent t.stu) e && all_fit (translation_range t) e (received_count t) payload
size_fits t None payload = false

abbrev pub translations_fit : PendingTranslation → List ℕ → Bool
translations_fit t payload = size_fits t (common_size t payload) payload

-- the translations of a packet that ends off the boundary are not read
abbrev pub classified_by : Bool → Part → Part
classified_by fit Misfit = Misfit
classified_by fit OffBoundary = OffBoundary
classified_by fit First = check_fit fit First
classified_by fit Last = check_fit fit Last

unfoldable pub classified : PendingTranslation → Rcb → ℕ → ℕ → List ℕ → Part
classified t rcb count lower payload =
    classified_by (translations_fit t payload) (part_of t rcb count lower (length payload))
