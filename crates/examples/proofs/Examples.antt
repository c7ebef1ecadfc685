-- The examples of document 01, and of the requests of document 02, proved for the definitions: one list, under one statement.
use Rattle.std.specs.Prelude.{Err, None, Ok, Option, Result, Some}
use mathlib.Core.Path.{◌≡◌, refl}
use mathlib.Core.Bool.{true, false, cond}
use mathlib.Core.List.{List, [], ◌∷◌, ◌++◌}
use Prim.Native.Nat.{ℕ, zero, suc, ◌+◌, ◌/◌, ◌%◌, ◌^◌}
use Rattle.packet.specs.declared.Attr.{Attr}
use Rattle.packet.specs.declared.Packet.{Packet}
use Rattle.packet.specs.declared.Body.TheVariants.{Tr, Inv, Ic, Prq}
use Rattle.packet.specs.declared.InvalidateRequest.{InvalidateRequest}
use Rattle.packet.specs.declared.PageRequest.{PageRequest}
use Rattle.packet.specs.Frames.{four_bytes}
use Rattle.packet.specs.Kinds.{attr_zero}
use Rattle.packet.specs.Reading.{reading}
use Rattle.packet.specs.SameButAttr.{SameButAttr}
use Rattle.packet.specs.Writing.{bytes_of, writing}
use Rattle.lister.specs.Line.{line_read, line_text}
use Rattle.rows.specs.Rows.{out_line}
use Rattle.text.specs.Digits.{all_hex, unhex, decimal, decimal_in}
use Rattle.ranges.specs.declared.Translation.{Translation}
use Rattle.ranges.specs.Size.{size_of, translation_of, coded, word_of}
use lib.Dec.{ltb}
use lib.ListN.{replicate, set, take}
use Rattle.tags.specs.declared.TagState.TheVariants.{Translate}
use Rattle.tags.specs.Tags.{tag_state}
use Rattle.translations.specs.declared.Rcb.TheVariants.{B64}
use Rattle.state.specs.declared.Function.{Function}
use Rattle.state.specs.State.{fresh}
use Rattle.state.specs.Answers.{Unrefused, done, tag}
use Rattle.call_access.specs.declared.Target.{Target}
use Rattle.call_access.specs.declared.Direction.TheVariants.{Read as ToRead}
use Rattle.call_access.specs.Access.{looking_up}
use Rattle.on_invalidate.specs.Invalidate.{invalidated_range}
use Rattle.card.specs.declared.Command.{Command}
use Rattle.card.specs.declared.Command.TheVariants.{Reset, Enable, Ask, Access, Receive, PagesOn, PageRequest as Requests}
use Rattle.card.specs.Call.{step}
use Rattle.card.proofs.Computed.{computed}
use Rattle.walk.specs.Walk.{walk_from, walked}
use Rattle.translator.specs.declared.Reply.{Reply}
use Rattle.translator.specs.declared.Reply.TheVariants.{Successful, CompleterAbort}
use Rattle.translator.specs.Translator.{Observation, translating_body, translating}

-- an example is an equation
record Example : Type 1 where
  Thing : Type 0
  left : Thing
  right : Thing

infix 80 ◌is◌
abbrev ◌is◌ : {A : Type 0} → A → A → Example
x is y = record { Thing = _; left = x; right = y }

-- all of them hold
abbrev Hold : List Example → Type 0
Hold [] = Unit {0}
Hold (e ∷ es) = (e.left ≡ e.right) × Hold es

-- a region of 2 ^ e bytes at a base, none of N, U, W and R set
abbrev translation_at_base : ℕ → Option ℕ → Translation
translation_at_base base size = record { base = base; size = size; n = false; u = false; w = false; r = false }

-- an Invalidate Request with this body, ITag 3, from 0200h to 0100h
abbrev invalidate : ℕ → ℕ → List ℕ
invalidate high low = four_bytes 0x7200_0002 ++ four_bytes 0x0200_0301 ++ four_bytes 0x0100_0000 ++ four_bytes 0 ++ four_bytes high ++ four_bytes low

abbrev invalidate_request : ℕ → InvalidateRequest
invalidate_request address = record { itag = record { 0 = 3 }; device = 0x0100; address = address; sized = true }

abbrev invalidation : ℕ → Packet
invalidation address = record { head = record { tc = 0; attr = attr_zero; sender = 0x0200 }; body = Inv (invalidate_request address) }

-- page 203000h, index 3, R and L
abbrev page : PageRequest
page = record { page = 0x203000; index = record { 0 = 3 }; last = true; write = false; read = true }

abbrev page_request : Attr → Packet
page_request attr = record { head = record { tc = 0; attr = attr; sender = 0x0100 }; body = Prq page }

abbrev relaxed_ordering : Attr
relaxed_ordering = record { ido = false; relaxed = true; nosnoop = false }

-- its bytes, with this first DWORD
abbrev page_bytes : ℕ → List ℕ
page_bytes dword0 = four_bytes dword0 ++ four_bytes 0x0100_0004 ++ four_bytes 0 ++ four_bytes 0x0020_301D

-- the last digits of a number in hex, as characters
abbrev in_hex : ℕ → ℕ → List ℕ
in_hex zero n = []
in_hex (suc k) n = cond (ltb (n / 16 ^ k % 16) 10) (48 + n / 16 ^ k % 16) (55 + n / 16 ^ k % 16) ∷ in_hex k n

abbrev line1 : List ℕ
line1 = in_hex 24 0x0000_0402_0100_05FF_0020_3000

abbrev line2 : List ℕ
line2 = in_hex 32 0x3200_0000_0100_0002_0008_0001_8000_0001

-- 1, TR, 0100, 5, with tabs between them and a line feed at the end
abbrev shown1 : List ℕ
shown1 = four_bytes 0x3109_5452 ++ four_bytes 0x0930_3130 ++ four_bytes 0x3009_350A

-- 2, IC, 0100, 80000001
abbrev shown2 : List ℕ
shown2 = four_bytes 0x3209_4943 ++ four_bytes 0x0930_3130 ++ four_bytes 0x3009_3830 ++ four_bytes 0x3030_3030 ++ 0x30 ∷ 0x31 ∷ 0x0A ∷ []

-- ---- runs of calls on a new Function, each with its bytes and a buffer of 16 bytes

abbrev buffer : List ℕ
buffer = replicate 16 0

abbrev function_after : Function → List (Command × List ℕ) → Function
function_after f [] = f
function_after f (c ∷ cs) = function_after (step f c.0 c.1 buffer).state cs

-- the answer of a call
abbrev answer : Function → Command → List ℕ → Result Unrefused ℕ
answer f c bytes = (step f c bytes buffer).answer

abbrev started : ℕ → Function
started stu =
    function_after (fresh 0 0 B64) ((Reset (record { id = 0x0100; stu = stu; rcb = 64 }), []) ∷ (Enable, []) ∷ [])

abbrev ask : ℕ → ℕ → Command
ask address units = Ask (record { address = address; units = units; nowrite = false })

-- a completion for tag 0 of Function 0100h with one translation, Byte Count 8, Lower Address 56
abbrev reply : ℕ → ℕ → List ℕ
reply high low =
    four_bytes 0x4A00_0002 ++ four_bytes 0x0008_0008 ++ four_bytes 0x0100_0038 ++ four_bytes high ++ four_bytes low

-- and with what it sends: the answer, the length, the buffer after the call
abbrev outcome : Function → Command → List ℕ → Result Unrefused ℕ × ℕ × List ℕ
outcome f c bytes = let r = step f c bytes buffer in (r.answer, r.sent, r.buffer)

-- the address that a read of one DWORD goes to, or why it is refused
abbrev reads : Function → ℕ → Result Target ℕ
reads f address = looking_up f (record { direction = ToRead; address = address; dwords = 1 }) 0

-- example 1: 3 units from 0 at STU 0, translated to 16384 bytes at 4000 0000h with R and W, then an Invalidate Request
abbrev invalidated_by_lem : ℕ → Function
invalidated_by_lem low =
    function_after (started 0) ((ask 0 3, []) ∷ (Receive, reply 0 0x4000_1803) ∷ (Receive, invalidate 0 low) ∷ [])

-- example 4: 203000h at STU 0, translated to 2 MiB at 4000 0000h with R and W
abbrev after_fill : Function
after_fill = function_after (started 0) ((ask 0x203000 1, []) ∷ (Receive, reply 0 0x400F_F803) ∷ [])

-- example 5: 2 units from 0FFF FFFF C000h at STU 2, then an Invalidate Request
abbrev after_invalidate : Function
after_invalidate =
    function_after (started 2) ((ask 0x0FFF_FFFF_C000 2, []) ∷ (Receive, invalidate 0x0000_1000 0x0000_1800) ∷ [])

-- 02 b: tables 0 and 1 of the host. Address 1 4000 0000h leads through entry 0 of table 0 to entry 5 of table 1, a page of
-- 1 GiB at 8000 0000h with R and W.
abbrev tables : List ℕ
tables = set (set (replicate 1024 0) 0 0x1003) 517 0x8000_0083

-- the request of Function 0100h for one unit there, with this low DWORD of its address field: bit 0 is No Write
abbrev request : ℕ → List ℕ
request low = four_bytes 0x2000_0402 ++ four_bytes 0x0100_00FF ++ four_bytes 0x0000_0001 ++ four_bytes low

-- what the host 0200h does with it, given a buffer of 20 bytes
abbrev host_does : List ℕ → List ℕ → Observation
host_does b entries = translating 0x0200 b entries (replicate 20 0)

-- its completion with this translation
abbrev host_reply : ℕ → ℕ → List ℕ
host_reply high low =
    four_bytes 0x4A00_0002 ++ four_bytes 0x0200_0008 ++ four_bytes 0x0100_0078 ++ four_bytes high ++ four_bytes low

abbrev host_answers : Reply → ℕ → ℕ → List ℕ → Observation
host_answers what length visited buffer =
    record { answer = Ok (record { reply = what; length = length; visited = visited }); buffer = buffer }

abbrev examples : List Example
examples =
    -- 1: the body of a request, and a translation: 8192 bytes at 0; 16384 at 0
    reading (invalidate 0 0x0800) is Ok (invalidation 0)
    ∷ size_of 0 true is Some 13
    ∷ translation_of 0x0800 is translation_at_base 0 (Some 13)
    ∷ reading (invalidate 0 0x1800) is Ok (invalidation 0x1000)
    ∷ size_of 0x1000 true is Some 14
    ∷ translation_of 0x1800 is translation_at_base 0 (Some 14)
    -- as a range at 0, and as the result of a read after the call
    ∷ invalidated_range 0 (invalidate_request 0) is record { first = 0; last = 0x1FFF }
    ∷ invalidated_range 0 (invalidate_request 0x1000) is record { first = 0; last = 0x3FFF }
    ∷ reads (invalidated_by_lem 0x0800) 0x1FFC is Err 13
    ∷ reads (invalidated_by_lem 0x0800) 0x2000 is Ok (record { address = 0x4000_2000; translated = true })
    ∷ reads (invalidated_by_lem 0x1800) 0x2000 is Err 13
    -- 2: 2 ^ 64 bytes; no size, which is 4 in a request
    ∷ reading (invalidate 0x7FFF_FFFF 0xFFFF_F800) is Ok (invalidation 0x7FFF_FFFF_FFFF_F000)
    ∷ size_of 0x7FFF_FFFF_FFFF_F000 true is Some 64
    ∷ translation_of 0x7FFF_FFFF_FFFF_F800 is translation_at_base 0 (Some 64)
    ∷ reading (invalidate 0xFFFF_FFFF 0xFFFF_F800) is Err 4
    ∷ translation_of 0xFFFF_FFFF_FFFF_F800 is translation_at_base 0 None
    -- 3: 4096 bytes at 3000h, rounded up to a unit of 8192
    ∷ invalidated_range 1 (record { itag = record { 0 = 0 }; device = 0x0100; address = 0x3000; sized = false }) is record { first = 0x2000; last = 0x3FFF }
    -- 4: one unit of a large page is cached, and no other
    ∷ reads after_fill 0x203000 is Ok (record { address = 0x4000_3000; translated = true })
    ∷ answer after_fill (Access (record { direction = ToRead; address = 0x204000; dwords = 1 })) [] is Err 13
    -- 5: the second of two units makes the request stale
    ∷ tag_state after_invalidate.tags (record { 0 = 0 }) is Translate (record { address = 0x0FFF_FFFF_C000; further = 1; stu = 2; stale = true; size = 0; whole = 0; due = 0 })
    -- 6: lines 1 and 2 of the listing
    ∷ reading (four_bytes 0x0000_0402 ++ four_bytes 0x0100_05FF ++ four_bytes 0x0020_3000) is Ok (record { head = record { tc = 0; attr = attr_zero; sender = 0x0100 }; body = Tr (record { tag = record { 0 = 5 }; dwords = 2; address = 0x203000; nowrite = false }) })
    ∷ reading (four_bytes 0x3200_0000 ++ four_bytes 0x0100_0002 ++ four_bytes 0x0008_0001 ++ four_bytes 0x8000_0001) is Ok (record { head = record { tc = 0; attr = attr_zero; sender = 0x0100 }; body = Ic (record { device = 0x0008; cc = 1; vector = 0x8000_0001 }) })
    ∷ line_text 1 line1 is shown1
    ∷ line_text 2 line2 is shown2
    -- 7: a page request, byte for byte, as the writer and as the Function sends it
    ∷ bytes_of (page_request attr_zero) [] is page_bytes 0x3000_0000
    ∷ writing (page_request attr_zero) 0 16 is Ok 16
    ∷ outcome (function_after (started 0) ((PagesOn 1, []) ∷ [])) (Requests page) [] is (Ok done, 16, page_bytes 0x3000_0000)
    -- 8: at the top of the address space one unit can be requested, and two cannot
    ∷ outcome (started 0) (ask 0xFFFF_FFFF_FFFF_F000 1) [] is (Ok (tag 0), 16, four_bytes 0x2000_0402 ++ four_bytes 0x0100_00FF ++ four_bytes 0xFFFF_FFFF ++ four_bytes 0xFFFF_F000)
    ∷ outcome (started 0) (ask 0xFFFF_FFFF_FFFF_F000 2) [] is (Err 12, 0, buffer)
    -- 02 a: the last page request of a group, with Relaxed Ordering clear and with it set
    ∷ reading (page_bytes 0x3000_0000) is Ok (page_request attr_zero)
    ∷ reading (page_bytes 0x3000_2000) is Ok (page_request relaxed_ordering)
    -- and with each of the other two bits alone
    ∷ reading (page_bytes 0x3004_0000) is Ok (page_request (record { ido = true; relaxed = false; nosnoop = false }))
    ∷ reading (page_bytes 0x3000_1000) is Ok (page_request (record { ido = false; relaxed = false; nosnoop = true }))
    -- the unnamed bits of these bytes mean nothing, and are written as zero
    ∷ reading (page_bytes 0x308B_2F00) is Ok (page_request relaxed_ordering)
    ∷ bytes_of (page_request relaxed_ordering) [] is page_bytes 0x3000_2000
    -- 02 b: the reply with a page of 1 GiB after two entries; with No Write it has R alone
    ∷ host_does (request 0x4000_0000) tables is host_answers Successful 20 2 (host_reply 0 0x9FFF_F803)
    ∷ host_does (request 0x4000_0001) tables is host_answers Successful 20 2 (host_reply 0 0x9FFF_F801)
    -- table 1 not wholly lent: status 100 after one entry; no table at all: after none
    ∷ host_does (request 0x4000_0000) (take 1023 tables) is host_answers CompleterAbort 12 1 (four_bytes 0x0A00_0000 ++ four_bytes 0x0200_8008 ++ four_bytes 0x0100_0000 ++ replicate 8 0)
    ∷ host_does (request 0x4000_0000) [] is host_answers CompleterAbort 12 0 (four_bytes 0x0A00_0000 ++ four_bytes 0x0200_8008 ++ four_bytes 0x0100_0000 ++ replicate 8 0)
    -- an address of 49 bits: the null translation, and no entry is read
    ∷ host_does (four_bytes 0x2000_0402 ++ four_bytes 0x0100_00FF ++ four_bytes 0x0001_0000 ++ four_bytes 0) [] is host_answers Successful 20 0 (host_reply 0 0)
    -- the Function that asked for two units takes the reply, and reads through both
    ∷ reads (function_after (started 0) ((ask 0x1_4000_0000 2, []) ∷ (Receive, host_reply 0 0x9FFF_F803) ∷ [])) 0x1_4000_1004 is Ok (record { address = 0x8000_1004; translated = true })
    ∷ []

-- packets that differ in Attr, in all three bits, and in nothing else: those of which `AttrDecidesNothing` speaks
pub differ_in_attr : SameButAttr (page_bytes 0x3000_0000) (page_bytes 0x3004_3000)
differ_in_attr = record { long = refl; byte0 = refl; byte1 = (refl, refl); byte2 = (refl, refl); rest = refl }

pub examples_hold : Hold examples
unfolding computed all_hex unhex decimal decimal_in line_read line_text out_line coded word_of walk_from walked translating_body translating
examples_hold = (refl, (refl, (refl, (refl, (refl, (refl, (refl, (refl, (refl, (refl, (refl, (refl, (refl, (refl, (refl, (refl, (refl, (refl, (refl, (refl, (refl, (refl, (refl, (refl, (refl, (refl, (refl, (refl, (refl, (refl, (refl, (refl, (refl, (refl, (refl, (refl, (refl, (refl, (refl, (refl, (refl, tt)))))))))))))))))))))))))))))))))))))))))
