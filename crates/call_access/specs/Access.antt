-- Access, and the look-up of its target. 01, "Access".
use Rattle.std.specs.Prelude.{Bool, true, false, cond, ◌&&◌, List, ℕ, ◌+◌, ◌*◌, ◌%◌, eqb, leb, length, Err, None, Ok, Option, Result, Some}
use Rattle.ranges.specs.Range.{unit_exponent, region_of, relocated}
use Rattle.packet.specs.declared.Tag.{Tag}
use Rattle.packet.specs.declared.Access.{Access}
use Rattle.packet.specs.declared.Access.TheVariants.{Read, Write}
use Rattle.packet.specs.declared.Packet.{Packet}
use Rattle.packet.specs.declared.Body.TheVariants.{Mem}
use Rattle.packet.specs.Numbers.{check}
use Rattle.atc.specs.declared.Entry.{Entry}
use Rattle.atc.specs.Cache.{found}
use Rattle.tags.specs.Tags.{free_tag, new_read}
use Rattle.state.specs.declared.Function.{Function}
use Rattle.state.specs.State.{with_tag, head_of}
use Rattle.state.specs.Answers.{Success, done, tag, sends}
use Rattle.call_access.specs.declared.Direction.{Direction}
use Rattle.call_access.specs.declared.Direction.TheVariants.{Read as ToRead, Write as ToWrite}
use Rattle.call_access.specs.declared.AccessArgs.{AccessArgs}
use Rattle.call_access.specs.declared.Target.{Target}

-- 1 to 32 DWORDs from a DWORD-aligned address on, within one 4096-byte page
abbrev pub is_in_page : ℕ → ℕ → Bool
is_in_page address dwords =
    leb 1 dwords && (leb dwords 32 && (eqb (address % 4) 0 && leb (address % 4096 + 4 * dwords) 4096))

-- a write has 4 bytes of payload per DWORD, a read has none
abbrev pub payload_length_for : Direction → ℕ → ℕ
payload_length_for ToRead dwords = 0
payload_length_for ToWrite dwords = 4 * dwords

-- the address of the unit that holds an address
abbrev pub unit_at : ℕ → ℕ → ℕ
unit_at stu address = (region_of address (unit_exponent stu)).first

-- does an entry permit this direction?
abbrev pub is_allowed : Direction → Entry → Bool
is_allowed ToRead e = e.r
is_allowed ToWrite e = e.w

-- the address with the same offset in the translated unit; if U is set, the untranslated address
abbrev pub target_of : ℕ → ℕ → Entry → Target
target_of stu address e =
    cond e.u (record { address = address; translated = false })
    (record { address = relocated e.to address (unit_exponent stu); translated = true })

abbrev pub through_found : Direction → ℕ → ℕ → Option Entry → Result Target ℕ
through_found direction stu address None = Err 13
through_found direction stu address (Some e) = check 14 (is_allowed direction e) (Ok (target_of stu address e))

-- refusals 6, 12, 13, 14 in this order; load is the payload length
unfoldable pub looking_up : Function → AccessArgs → ℕ → Result Target ℕ
looking_up f a load =
    check 6 f.enabled
    (check 12 (is_in_page a.address a.dwords)
    (check 12 (eqb load (payload_length_for a.direction a.dwords))
    (through_found a.direction f.stu a.address (found f.cache (unit_at f.stu a.address)))))

abbrev pub memory_request_packet : ℕ → Access → ℕ → Target → Packet
memory_request_packet id access dwords t =
    record {
      head = head_of id;
      body = Mem (record { access = access; dwords = dwords; address = t.address; translated = t.translated });
    }

-- a read takes a tag, which records the untranslated address
abbrev pub read_from : Function → Tag → Target → AccessArgs → List ℕ → List ℕ → Result Success ℕ
read_from f t at a load out =
    sends (with_tag f t (new_read a.address (4 * a.dwords) at.translated)) (tag t.0)
    (memory_request_packet f.id (Read t) a.dwords at) load out

abbrev pub write_to : Function → Target → ℕ → List ℕ → List ℕ → Result Success ℕ
write_to f at dwords load out = sends f done (memory_request_packet f.id Write dwords at) load out

-- refused with 11 if no tag is free
abbrev pub read_on : Function → Option Tag → Target → AccessArgs → List ℕ → List ℕ → Result Success ℕ
read_on f (Some t) at a load out = read_from f t at a load out
read_on f None at a load out = Err 11

abbrev pub sends_access : Function → Direction → Target → AccessArgs → List ℕ → List ℕ → Result Success ℕ
sends_access f ToRead at a load out = read_on f (free_tag f.tags) at a load out
sends_access f ToWrite at a load out = write_to f at a.dwords load out

abbrev pub sends_access_if : Function → AccessArgs → List ℕ → List ℕ → Result Target ℕ → Result Success ℕ
sends_access_if f a load out (Ok at) = sends_access f a.direction at a load out
sends_access_if f a load out (Err n) = Err n

-- refusals 6, 12, 13, 14, 11 (reads only), 17 in this order
unfoldable pub accessing : Function → AccessArgs → List ℕ → List ℕ → Result Success ℕ
accessing f a load out = sends_access_if f a load out (looking_up f a (length load))
