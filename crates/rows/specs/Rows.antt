-- The output line of a packet or of a refusal: number, kind, sender and label, separated by tabs. 01, "Listing program".
use Rattle.std.specs.Prelude.{ℕ, cond, List, [], ◌∷◌, ◌++◌, ltb, length, drop, Err, Ok, Result}
use Rattle.packet.specs.declared.Packet.{Packet}
use Rattle.packet.specs.declared.Access.{Access}
use Rattle.packet.specs.declared.Access.TheVariants.{Read, Write}
use Rattle.packet.specs.declared.Body.{Body}
use Rattle.packet.specs.declared.Body.TheVariants.{Tr, Mem, Cpl, Inv, Ic, Prq, Prs}
use Rattle.text.specs.Digits.{hex4, hex8, decimal}

-- the letters of a kind: TR, MEM, ...
abbrev pub kind_text : Body → List ℕ
kind_text (Tr t) = 84 ∷ 82 ∷ []
kind_text (Mem m) = 77 ∷ 69 ∷ 77 ∷ []
kind_text (Cpl c) = 67 ∷ 80 ∷ 76 ∷ []
kind_text (Inv i) = 73 ∷ 78 ∷ 86 ∷ []
kind_text (Ic i) = 73 ∷ 67 ∷ []
kind_text (Prq q) = 80 ∷ 82 ∷ 81 ∷ []
kind_text (Prs s) = 80 ∷ 82 ∷ 83 ∷ []

-- a MEM write has no label, and prints "-"
abbrev pub access_text : Access → List ℕ
access_text (Read tag) = decimal tag.0
access_text Write = 45 ∷ []

-- the label: a Tag, an ITag and a PRG index in decimal, the vector of an IC in hex
abbrev pub label_text : Body → List ℕ
label_text (Tr t) = decimal t.tag.0
label_text (Mem m) = access_text m.access
label_text (Cpl c) = decimal c.tag.0
label_text (Inv i) = decimal i.itag.0
label_text (Ic i) = hex8 i.vector
label_text (Prq q) = decimal q.index.0
label_text (Prs s) = decimal s.index.0

-- kind, sender and label; or BAD, the number and "-"
abbrev pub answer_text : Result Packet ℕ → List ℕ
answer_text (Ok p) = kind_text p.body ++ 9 ∷ hex4 p.head.sender ++ 9 ∷ label_text p.body
answer_text (Err n) = 66 ∷ 65 ∷ 68 ∷ 9 ∷ decimal n ++ 9 ∷ 45 ∷ []

-- the output line of line k, with this content
unfoldable pub out_line : ℕ → Result Packet ℕ → List ℕ
out_line k a = decimal k ++ 9 ∷ answer_text a ++ 10 ∷ []

-- the length of a text, and the text at the start of a buffer
abbrev pub at_start : List ℕ → List ℕ → ℕ × List ℕ
at_start s out = (length s, s ++ drop (length s) out)

-- the result of a call and the buffer after it; nothing is written without room for 64 bytes,
-- which is more than any line needs
unfoldable pub row_in : List ℕ → List ℕ → ℕ × List ℕ
row_in s out = cond (ltb (length out) 64) (0, out) (at_start s out)
