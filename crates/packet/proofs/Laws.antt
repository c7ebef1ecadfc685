-- Laws of results and of forms: a successful result has passed every test.
use Rattle.std.specs.Prelude.{Err, Ok, Result}
use mathlib.Core.Path.{◌≡◌, refl}
use mathlib.Core.Bool.{Bool, true, false, cond}
use Prim.Native.Nat.{ℕ, ◌+◌, ◌<◌, ◌≤◌}
use lib.Dec.{ltb, eqb}
use borrow.Author.Tests.{ltb-true, ltb-false, eqb-true}
use Rattle.lemmas.proofs.Cases.{and_both, impossible}
use Rattle.packet.specs.declared.Packet.{Packet}
use Rattle.packet.specs.declared.Form.{Form}
use Rattle.packet.specs.declared.Form.TheVariants.{Mrd32, Mrd64, Mwr32, Mwr64, CplNoData, CplData, InvReq, InvCpl, PageReq, PrgResp}
use Rattle.packet.specs.Forms.{payload_offset}
use Rattle.packet.specs.Kinds.{fields_in_range, body_in_range, allowed, payload_length, form_of}
use Rattle.packet.specs.Writing.{writing}

module _ {A : Type 0} where
  -- a check that was passed holds
  pub check_passed : (t : Bool) (n : ℕ) (next : Result A ℕ) {a : A} → cond t next (Err n) ≡ Ok a
      → (t ≡ true) × (next ≡ Ok a)
  check_passed true n next e = (refl, e)
  check_passed false n next e = impossible cc

  -- a refused condition does not hold
  pub refuse_passed : (t : Bool) (n : ℕ) (next : Result A ℕ) {a : A} → cond t (Err n) next ≡ Ok a
      → (t ≡ false) × (next ≡ Ok a)
  refuse_passed false n next e = (refl, e)
  refuse_passed true n next e = impossible cc

  pub ok_injective : {a b : A} → ◌≡◌ {A = Result A ℕ} (Ok a) (Ok b) → a ≡ b
  ok_injective e = cc

-- What writing accepts: every field fits its bits, the payload has the right length, no value is
-- forbidden, and there is room.
pub record Accepted (p : Packet) (load room n : ℕ) : Type 0 where
  pub tc : p.head.tc < 8
  pub body : body_in_range p.body ≡ true
  pub fills : load ≡ payload_length p.body
  pub allows : allowed p ≡ true
  pub long : payload_offset (form_of p.body) + load ≡ n
  pub fits : n ≤ room

pub accepted : (p : Packet) (load room n : ℕ) → writing p load room ≡ Ok n → Accepted p load room n
unfolding writing
accepted p load room n e =
    let size : ℕ = payload_offset (form_of p.body) + load in
    let a = check_passed (fields_in_range p) 12 _ e in
    let b = check_passed (eqb load (payload_length p.body)) 12 _ a.1 in
    let c = check_passed (allowed p) 4 _ b.1 in
    let d = refuse_passed (ltb room size) 17 (Ok size) c.1 in
    let w = and_both (ltb p.head.tc 8) (body_in_range p.body) a.0 in
    let same : size ≡ n = ok_injective d.1 in
    record {
      tc = ltb-true p.head.tc 8 w.0;
      body = w.1;
      fills = eqb-true load (payload_length p.body) b.0;
      allows = c.0;
      long = same;
      fits = rw (← same) (ltb-false room size d.0);
    }

-- the fields take 12, 16 or 24 bytes
pub by_fixed : (P : ℕ → Type 0) → P 12 → P 16 → P 24 → (m : Form) → P (payload_offset m)
by_fixed P a b c Mrd32 = a
by_fixed P a b c Mrd64 = b
by_fixed P a b c Mwr32 = a
by_fixed P a b c Mwr64 = b
by_fixed P a b c CplNoData = a
by_fixed P a b c CplData = a
by_fixed P a b c InvReq = c
by_fixed P a b c InvCpl = b
by_fixed P a b c PageReq = b
by_fixed P a b c PrgResp = b
