-- What is known of an access that has a target.
use Rattle.std.specs.Prelude.{None, Ok, Option, Some}
use mathlib.Core.Path.{◌≡◌, sym, ◌∙◌}
use mathlib.Core.List.{[], ◌∷◌}
use Prim.Native.Nat.{ℕ, ◌%◌, ◌≤◌}
use native.Mathlib.Omega.{arith}
use lib.Dec.{leb, eqb}
use borrow.Author.Tests.{leb-true, eqb-true}
use Rattle.lemmas.proofs.Cases.{by_cases, and_both, impossible}
use Rattle.ranges.specs.Range.{unit_exponent}
use Rattle.ranges.proofs.Units.{relocated_low}
use Rattle.packet.proofs.Laws.{check_passed, ok_injective}
use Rattle.packet.proofs.Among.{Among, among}
use Rattle.atc.specs.declared.Entry.{Entry}
use Rattle.atc.specs.Cache.{found}
use Rattle.state.specs.declared.Function.{Function}
use Rattle.call_access.specs.declared.Direction.{Direction}
use Rattle.call_access.specs.declared.AccessArgs.{AccessArgs}
use Rattle.call_access.specs.declared.Target.{Target}
use Rattle.call_access.specs.Access.{is_in_page, payload_length_for, unit_at, is_allowed, target_of, through_found, looking_up}

-- 1 to 32 DWORDs, the right payload length, and a DWORD-aligned target
pub record Reached (direction : Direction) (dwords load : ℕ) (at : Target) : Type 0 where
  pub some : 1 ≤ dwords
  pub few : dwords ≤ 32
  pub fills : load ≡ payload_length_for direction dwords
  pub dword : at.address % 4 ≡ 0

target_dword : (stu address : ℕ) (e : Entry) → address % 4 ≡ 0 → (target_of stu address e).address % 4 ≡ 0
target_dword stu address e h = by_cases e.u (λ u. rw u h) (λ u. rw u (relocated_low e.to address (unit_exponent stu) 2 (omega arith) (omega arith) ∙ h))

through_found_dword : (direction : Direction) (stu address : ℕ) (entry : Option Entry) (at : Target) → address % 4 ≡ 0
    → through_found direction stu address entry ≡ Ok at → at.address % 4 ≡ 0
through_found_dword direction stu address None at h e = impossible cc
through_found_dword direction stu address (Some x) at h e = rw (ok_injective (check_passed (is_allowed direction x) 14 (Ok (target_of stu address x)) e).1) at (target_dword stu address x h)

pub reached : (f : Function) (a : AccessArgs) (load : ℕ) (at : Target) → looking_up f a load ≡ Ok at
    → Reached a.direction a.dwords load at
unfolding looking_up
reached f a load at e =
    let on = check_passed f.enabled 6 _ e in
    let page = check_passed (is_in_page a.address a.dwords) 12 _ on.1 in
    let load_is = check_passed (eqb load (payload_length_for a.direction a.dwords)) 12 _ page.1 in
    let some = and_both (leb 1 a.dwords) _ page.0 in
    let few = and_both (leb a.dwords 32) _ some.1 in
    let dword = and_both (eqb (a.address % 4) 0) _ few.1 in
    record {
      some = leb-true 1 a.dwords some.0;
      few = leb-true a.dwords 32 few.0;
      fills = eqb-true load (payload_length_for a.direction a.dwords) load_is.0;
      dword = through_found_dword a.direction f.stu a.address (found f.cache (unit_at f.stu a.address)) at (eqb-true (a.address % 4) 0 dword.0) load_is.1;
    }

pub few_dwords : (f : Function) (a : AccessArgs) (load : ℕ) (at : Target) → Ok at ≡ looking_up f a load → a.dwords ≤ 32
few_dwords f a load at e = (reached f a load at (sym e)).few

-- ---- the numbers of a look-up

entering_numbers : (direction : Direction) (stu address : ℕ) (entry : Option Entry)
    → Among (6 ∷ 12 ∷ 13 ∷ 14 ∷ []) (through_found direction stu address entry)
entering_numbers direction stu address None = search among
entering_numbers direction stu address (Some e) = search among

pub looking_up_numbers : (f : Function) (a : AccessArgs) (load : ℕ) → Among (6 ∷ 12 ∷ 13 ∷ 14 ∷ []) (looking_up f a load)
unfolding looking_up
looking_up_numbers f a load = search (among, entering_numbers)
