-- An accepted completion: the new state of its tag, and what it brings into the cache.
use Rattle.std.specs.Prelude.{Option, None, Some}
use mathlib.Core.Path.{◌≡◌, refl, sym, ap, ◌∙◌}
use mathlib.Core.Logic.{◌⊎◌, inl}
use mathlib.Core.Bool.{Bool, true, cond, ◌&&◌, not-not}
use mathlib.Core.List.{List}
use Prim.Native.Nat.{ℕ, ◌+◌, ◌-◌, ◌*◌, ◌/◌, ◌<◌, ◌^◌}
use native.Mathlib.Omega.{arith}
use lib.Dec.{eqb, lit≤}
use lib.ListN.{length}
use borrow.Author.Tests.{eqb-true, le-leb, lt-ltb, eq-eqb}
use Rattle.lemmas.proofs.Cases.{by_cases}
use Rattle.ranges.specs.declared.Range.{Range}
use Rattle.ranges.specs.Range.{region_of, unit_exponent, unit_bytes, relocated, is_within}
use Rattle.ranges.proofs.Units.{relocated_lt, units_from_first, units_from_holds}
use Rattle.packet.specs.declared.ITag.{ITag}
use Rattle.packet.specs.declared.Tag.{Tag}
use Rattle.tlp.specs.Bytes.{Bytes}
use Rattle.tlp.specs.Translations.{translation_at}
use Rattle.atc.specs.declared.Entry.{Entry}
use Rattle.atc.specs.declared.Cache.{Cache}
use Rattle.tags.specs.declared.TagState.{TagState}
use Rattle.tags.specs.declared.PendingTranslation.{PendingTranslation}
use Rattle.tags.specs.Itags.{is_in}
use Rattle.tags.specs.Tags.{tag_state, is_tag, translation_range, delayed_by}
use Rattle.tags.proofs.Laws.{translation_range_units}
use Rattle.translations.specs.Fits.{exponent_or0, common_size, received_count, translations_fit}
use Rattle.translations.specs.Fills.{region_index}
use Rattle.translations.proofs.Laws.{Brought}
use Rattle.state.specs.declared.Function.{Function}
use Rattle.lemmas.proofs.Bools.{no_tf, no_some, beq_same}
use Rattle.demand3.specs.Seen.{CPL}
use Rattle.demand3.specs.History.{is_open, leaves}
use Rattle.demand3.proofs.Laws.{Step, fills, HeldIn}
use Rattle.demands.specs.Observed.{Cached, Reply, terms, Noted, itag, is_given, is_replied, same_entry, held_in}
use Rattle.demands.proofs.Views.{tag, asked_by, pending_of, live_of, view, Proper}
use Rattle.demands.proofs.Tags.{left, at_own, at_other}
use Rattle.tlp.proofs.Qwords.{base_lt}
use Rattle.translations.proofs.Parts.{one_size, came_by}

-- ---- the entries of a reply are those that its bytes grant

pub same_self : (x : Entry) → same_entry x x ≡ true
same_self x = rw (beq_same x.r, beq_same x.w, beq_same x.n, beq_same x.u, eq-eqb x.unit x.unit refl, eq-eqb x.to x.to refl)

module _ (q : PendingTranslation) (load : List ℕ) (fit : translations_fit q load ≡ true) (x : Entry) (b : Brought q load x) where
  abbrev stu : ℕ
  stu = q.stu

  in_range : is_within (region_of x.unit (unit_exponent stu)) (translation_range q) ≡ true
  in_range =
      let at : x.unit ≡ (region_of q.address (unit_exponent stu)).first + b.unit * unit_bytes stu = b.at ∙ ap (λ (n : ℕ). n + b.unit * unit_bytes stu) (ap (λ (r : Range). r.first) (translation_range_units q) ∙ units_from_first q.address q.further stu) in
      rw (translation_range_units q, at) (units_from_holds q.address q.further stu b.unit b.among (rw (at, translation_range_units q) at b.inside.1))

  granted : is_given (translation_range q).first (received_count q) load x ≡ true
  granted =
      let size = one_size q load fit (omega (arith, b.carried)) in
      let here : received_count q + b.word ≡ region_index (translation_range q).first (exponent_or0 (common_size q load)) x.unit = b.over in
      let less : region_index (translation_range q).first (exponent_or0 (common_size q load)) x.unit - received_count q ≡ b.word = omega (arith, here) in
      rw (size, less, le-leb (received_count q) (region_index (translation_range q).first (exponent_or0 (common_size q load)) x.unit) (omega (arith, here)), lt-ltb b.word (length load / 8) b.carried, b.grants)
      (ap (λ (y : Entry). same_entry x y) (sym b.given) ∙ same_self x)

  pub brought_replied : (count : ℕ)
      → is_replied (asked_by q) (q.whole - q.due) (record { count = count; load = load }) (record { used = true; stu = stu; entry = x }) ≡ true
  brought_replied count = rw (eq-eqb stu stu refl, in_range, ← came_by q) granted

-- and the translated address fits 64 bits
pub brought_to : (q : PendingTranslation) (load : List ℕ) (x : Entry) → Bytes load → Brought q load x → x.to < 2 ^ 64
brought_to q load x h b =
    let t = translation_at load b.word in
    let to : x.to ≡ cond t.u 0 (relocated t.base x.unit (exponent_or0 (common_size q load))) = ap (λ (y : Entry). y.to) b.given in
    rw to (by_cases t.u (λ u. rw u (lit≤ tt)) (λ u. rw u (relocated_lt t.base x.unit _ (base_lt load h b.word))))

-- ---- the tag of a completion

module _ (me : Noted) (f : Function) (o : Proper me f) (t : Tag) (own : is_tag t ≡ true) (b : TagState) (is : tag_state f.tags t ≡ b) where
  was : (u : Tag) → eqb u.0 t.0 ≡ true → tag_state f.tags u ≡ b
  was u e = let same : u ≡ t = ap (λ (k : ℕ). record { 0 = k }) (eqb-true u.0 t.0 e) in rw same is

  -- what it does to E and the cache, and the new state of the tag
  module _ (enabled : Bool) (cache : Cache) (after : TagState) where
    pub left_step : (n : ℕ) (d : Option Reply) → pending_of after ≡ leaves d (pending_of b)
        → (live_of after ≡ true → live_of b ≡ true)
        → ((i : ITag) → is_in (delayed_by after) i ≡ (is_open (leaves {T = terms} d (pending_of b)) && is_in (delayed_by b) i))
        → ((j : ℕ) (e : Cached) → held_in (left f t enabled cache after) j ≡ Some e → HeldIn (view f) e ⊎ (fills (view f) (Some (CPL t.0 n d)) e ≡ true))
        → Step 32 (view f) (view (left f t enabled cache after)) (record { took = Some (CPL t.0 n d); sent = None })
    left_step n d opened lived noted entries =
        record {
          opens = λ u. by_cases (eqb u t.0)
              (λ e. ap pending_of (at_own me f o t own after (tag u) e) ∙ opened ∙ sym (rw e (ap (λ (x : TagState). leaves d (pending_of x)) (was (tag u) e))))
              (λ e. ap pending_of (at_other me f o t own after (tag u) e) ∙ sym (rw e refl));
          unused = λ u e. no_tf (sym e);
          live = λ u l. inl (by_cases (eqb u t.0) (λ e. ap live_of (was (tag u) e) ∙ lived (sym (ap live_of (at_own me f o t own after (tag u) e)) ∙ l)) (λ e. sym (ap live_of (at_other me f o t own after (tag u) e)) ∙ l));
          entries = entries;
          through = λ b k e. no_some e;
          direct = λ b k e. no_some e;
          waiting = λ i. refl;
          waits_for = λ i u w. by_cases (eqb u t.0)
              (λ e. ap (λ (x : TagState). is_in (delayed_by x) (itag i.number)) (at_own me f o t own after (tag u) e) ∙ noted (itag i.number) ∙ sym (rw (e, was (tag u) e) (ap (λ (x : Bool). x && is_in (delayed_by b) (itag i.number)) (not-not (is_open (leaves {T = terms} d (pending_of b)))))))
              (λ e. ap (λ (x : TagState). is_in (delayed_by x) (itag i.number)) (at_other me f o t own after (tag u) e) ∙ sym (rw e refl));
          carried = λ i. refl;
          first = λ i a p. no_some p;
          lasts = λ g e. e;
          not_yet = λ i a p. no_some p;
          dropped = λ i a p. no_some p;
          stale = λ i a p. no_some p;
        }
