-- Ask. 01, "Ask".
use Rattle.std.specs.Prelude.{Bool, ◌&&◌, List, [], ℕ, ◌+◌, ◌-◌, ◌*◌, ◌/◌, ◌^◌, leb, Err, None, Option, Result, Some}
use Rattle.ranges.specs.Range.{unit_exponent, unit_bytes, region_of}
use Rattle.packet.specs.declared.Tag.{Tag}
use Rattle.packet.specs.declared.Packet.{Packet}
use Rattle.packet.specs.declared.Body.TheVariants.{Tr}
use Rattle.packet.specs.Numbers.{check}
use Rattle.tags.specs.Tags.{free_tag, new_translation}
use Rattle.translations.specs.declared.Rcb.{Rcb}
use Rattle.translations.specs.Fits.{boundary}
use Rattle.state.specs.declared.Function.{Function}
use Rattle.state.specs.State.{head_of, with_tag}
use Rattle.state.specs.Answers.{Success, tag, sends}
use Rattle.call_ask.specs.declared.AskArgs.{AskArgs}

-- is this number of units allowed?
abbrev pub is_unit_count : Rcb → ℕ → Bool
is_unit_count rcb units = leb 1 units && leb units (boundary rcb / 8)

-- the N units from the one that holds the address on end at or below 2 ^ 64
unfoldable pub is_below_top : ℕ → ℕ → ℕ → Bool
is_below_top stu address units = leb ((region_of address (unit_exponent stu)).first + units * unit_bytes stu) (2 ^ 64)

unfoldable pub is_askable : Rcb → ℕ → AskArgs → Bool
is_askable rcb stu a = is_unit_count rcb a.units && is_below_top stu a.address a.units

-- a request of Length 2N, for the address with bits 11:0 cleared
abbrev pub translation_request_packet : ℕ → Tag → AskArgs → Packet
translation_request_packet id t a =
    record {
      head = head_of id;
      body = Tr (record { tag = t; dwords = 2 * a.units; address = a.address / 4096 * 4096; nowrite = a.nowrite });
    }

abbrev pub ask_with_tag : Function → Tag → AskArgs → List ℕ → Result Success ℕ
ask_with_tag f t a out =
    sends (with_tag f t (new_translation a.address (a.units - 1) f.stu)) (tag t.0)
    (translation_request_packet f.id t a) [] out

-- refused with 11 if no tag is free
abbrev pub ask_on : Function → Option Tag → AskArgs → List ℕ → Result Success ℕ
ask_on f (Some t) a out = ask_with_tag f t a out
ask_on f None a out = Err 11

-- refusals 6, 12, 11, 17 in this order
unfoldable pub asking : Function → AskArgs → List ℕ → Result Success ℕ
asking f a out =
    check 6 f.enabled
    (check 12 (is_askable f.rcb f.stu a)
    (ask_on f (free_tag f.tags) a out))
