-- The packet layer: two outcomes that the contract of an operation allows are equal.
use mathlib.Core.Path.{◌≡◌, sym, ◌∙◌}
use contract.Lifetimes.{Lfts}
use Rattle.packet.proofs.Injective.{read_result_injective, write_result_injective}
use Rattle.reader.proofs.read_packet.Reads as read_packet
use Rattle.reader.proofs.payload.Reads as payload
use Rattle.reader.proofs.part_from.Reads as part_from
use Rattle.writer.proofs.write_packet.Reads as write_packet
use Rattle.packet.proofs.number.Reads as number
use Rattle.tlp.proofs.translation_at.Reads as translation_at
use Rattle.ranges.proofs.size_of.Reads as size_of
use Rattle.ranges.proofs.translation_of.Reads as translation_of
use Rattle.ranges.proofs.unit_exponent.Reads as unit_exponent
use Rattle.ranges.proofs.unit_bytes.Reads as unit_bytes
use Rattle.ranges.proofs.region.Reads as region
use Rattle.ranges.proofs.region_number.Reads as region_number
use Rattle.ranges.proofs.rounded.Reads as rounded
use Rattle.ranges.proofs.range_from.Reads as range_from
use Rattle.ranges.proofs.units_from.Reads as units_from
use Rattle.ranges.proofs.relocate.Reads as relocate
use Rattle.ranges.proofs.overlaps.Reads as overlaps
use Rattle.ranges.proofs.coded.Reads as coded
use Rattle.ranges.proofs.word_of.Reads as word_of

pub read_packet_settled : (κs : Lfts 1) (args : _) (x y : _) (e g : _) → read_packet.Learnt κs args x e
    → read_packet.Learnt κs args y g → x ≡ y
read_packet_settled κs args x y e g p q = read_result_injective x y (p ∙ sym q)

pub payload_settled : (κs : Lfts 1) (args : _) (x y : _) (e g : _) → payload.Learnt κs args x e
    → payload.Learnt κs args y g → x.now ≡ y.now
payload_settled κs args x y e g p q = p ∙ sym q

pub part_from_settled : (κs : Lfts 1) (args : _) (x y : _) (e g : _) → part_from.Learnt κs args x e
    → part_from.Learnt κs args y g → x.now ≡ y.now
part_from_settled κs args x y e g p q = p ∙ sym q

pub write_packet_settled : (κs : Lfts 2) (args : _) (x y : _) (e g : _) → write_packet.Learnt κs args x e
    → write_packet.Learnt κs args y g → (x ≡ y) × (e.1.1.0.now ≡ g.1.1.0.now)
write_packet_settled κs args x y e g p q = (write_result_injective x y (p.0 ∙ sym q.0), p.1 ∙ sym q.1)

pub number_settled : (κs : Lfts 0) (args : _) (x y : _) (e g : _) → number.Learnt κs args x e
    → number.Learnt κs args y g → x ≡ y
number_settled κs args x y e g p q = p ∙ sym q

pub translation_at_settled : (κs : Lfts 1) (args : _) (x y : _) (e g : _) → translation_at.Learnt κs args x e
    → translation_at.Learnt κs args y g → x ≡ y
translation_at_settled κs args x y e g p q = p ∙ sym q

pub size_of_settled : (κs : Lfts 0) (args : _) (x y : _) (e g : _) → size_of.Learnt κs args x e
    → size_of.Learnt κs args y g → x ≡ y
size_of_settled κs args x y e g p q = p ∙ sym q

pub translation_of_settled : (κs : Lfts 0) (args : _) (x y : _) (e g : _) → translation_of.Learnt κs args x e
    → translation_of.Learnt κs args y g → x ≡ y
translation_of_settled κs args x y e g p q = p ∙ sym q

pub unit_exponent_settled : (κs : Lfts 0) (args : _) (x y : _) (e g : _) → unit_exponent.Learnt κs args x e
    → unit_exponent.Learnt κs args y g → x ≡ y
unit_exponent_settled κs args x y e g p q = p ∙ sym q

pub unit_bytes_settled : (κs : Lfts 0) (args : _) (x y : _) (e g : _) → unit_bytes.Learnt κs args x e
    → unit_bytes.Learnt κs args y g → x ≡ y
unit_bytes_settled κs args x y e g p q = p.0 ∙ sym q.0

pub region_settled : (κs : Lfts 0) (args : _) (x y : _) (e g : _) → region.Learnt κs args x e
    → region.Learnt κs args y g → x ≡ y
region_settled κs args x y e g p q = p ∙ sym q

pub region_number_settled : (κs : Lfts 0) (args : _) (x y : _) (e g : _) → region_number.Learnt κs args x e
    → region_number.Learnt κs args y g → x ≡ y
region_number_settled κs args x y e g p q = p ∙ sym q

pub rounded_settled : (κs : Lfts 0) (args : _) (x y : _) (e g : _) → rounded.Learnt κs args x e
    → rounded.Learnt κs args y g → x ≡ y
rounded_settled κs args x y e g p q = p ∙ sym q

pub range_from_settled : (κs : Lfts 0) (args : _) (x y : _) (e g : _) → range_from.Learnt κs args x e
    → range_from.Learnt κs args y g → x ≡ y
range_from_settled κs args x y e g p q = p ∙ sym q

pub units_from_settled : (κs : Lfts 0) (args : _) (x y : _) (e g : _) → units_from.Learnt κs args x e
    → units_from.Learnt κs args y g → x ≡ y
units_from_settled κs args x y e g p q = p ∙ sym q

pub relocate_settled : (κs : Lfts 0) (args : _) (x y : _) (e g : _) → relocate.Learnt κs args x e
    → relocate.Learnt κs args y g → x ≡ y
relocate_settled κs args x y e g p q = p ∙ sym q

pub overlaps_settled : (κs : Lfts 0) (args : _) (x y : _) (e g : _) → overlaps.Learnt κs args x e
    → overlaps.Learnt κs args y g → x ≡ y
overlaps_settled κs args x y e g p q = p ∙ sym q

pub coded_settled : (κs : Lfts 0) (args : _) (x y : _) (e g : _) → coded.Learnt κs args x e
    → coded.Learnt κs args y g → x ≡ y
coded_settled κs args x y e g p q = p.0 ∙ sym q.0

pub word_of_settled : (κs : Lfts 0) (args : _) (x y : _) (e g : _) → word_of.Learnt κs args x e
    → word_of.Learnt κs args y g → x ≡ y
word_of_settled κs args x y e g p q = p ∙ sym q
