-- A tag taken, freed, or with fewer bytes due, whatever else the call does to E and the cache.
use mathlib.Core.Path.{◌≡◌, refl, sym, ap, ◌∙◌}
use mathlib.Core.Bool.{Bool, true, false, cond}
use Prim.Native.Nat.{ℕ, ◌<◌, ◌^◌}
use lib.Dec.{eqb}
use Rattle.lemmas.proofs.Cases.{by_cases}
use Rattle.packet.specs.declared.ITag.{ITag}
use Rattle.packet.specs.declared.Tag.{Tag}
use Rattle.atc.specs.declared.Cache.{Cache}
use Rattle.atc.specs.Cache.{entry_at, SoundCache}
use Rattle.tags.specs.declared.TagState.{TagState}
use Rattle.tags.specs.declared.TagState.TheVariants.{Translate}
use Rattle.tags.specs.declared.PendingTranslation.{PendingTranslation}
use Rattle.tags.specs.Itags.{is_in}
use Rattle.tags.specs.Tags.{tag_state, set_tag, is_tag, delayed_by}
use Rattle.tags.proofs.Laws.{set_tag_long, tag_state_set_tag}
use Rattle.state.specs.declared.Function.{Function}
use Rattle.state.specs.State.{remade}
use Rattle.demands.specs.Observed.{Noted}
use Rattle.demands.proofs.Views.{Proper}
use Rattle.atc.specs.declared.Entry.{Entry}
use Rattle.std.specs.Prelude.{Some}

abbrev pub left : Function → Tag → Bool → Cache → TagState → Function
left f t enabled cache after = remade f enabled f.agent f.waiting cache (set_tag f.tags t after) f.pages

module _ (me : Noted) (f : Function) (o : Proper me f) (t : Tag) (own : is_tag t ≡ true) (after : TagState) where
  at_tag : (u : Tag) → tag_state (set_tag f.tags t after) u ≡ cond (eqb u.0 t.0) after (tag_state f.tags u)
  at_tag u = tag_state_set_tag f.tags t after u o.tags own

  pub at_own : (u : Tag) → eqb u.0 t.0 ≡ true → tag_state (set_tag f.tags t after) u ≡ after
  at_own u e = at_tag u ∙ rw e refl

  pub at_other : (u : Tag) → eqb u.0 t.0 ≡ false → tag_state (set_tag f.tags t after) u ≡ tag_state f.tags u
  at_other u e = at_tag u ∙ rw e refl

  pub left_ok : (enabled : Bool) (cache : Cache) → SoundCache cache → ((j : ℕ) (e : Entry) → entry_at cache j ≡ Some e → e.to < 2 ^ 64)
      → ((q : PendingTranslation) → after ≡ Translate q → (q.stu ≡ f.stu) × (q.due ≡ 0 → q.whole ≡ 0))
      → ((i : ITag) → is_in (delayed_by after) i ≡ true → is_in f.waiting i ≡ true)
      → Proper me (left f t enabled cache after)
  left_ok enabled cache sound reached begins notes =
      record {
        unit = o.unit;
        own = o.own;
        id = o.id;
        agent = o.agent;
        cache = sound;
        reached = reached;
        tags = set_tag_long f.tags t after ∙ o.tags;
        begun = λ u q h. by_cases (eqb u.0 t.0) (λ e. begins q (sym (at_own u e) ∙ h)) (λ e. o.begun u q (sym (at_other u e) ∙ h));
        vector = o.vector;
        noted = λ u i h. by_cases (eqb u.0 t.0) (λ e. notes i (sym (ap (λ (x : TagState). is_in (delayed_by x) i) (at_own u e)) ∙ h)) (λ e. o.noted u i (sym (ap (λ (x : TagState). is_in (delayed_by x) i) (at_other u e)) ∙ h));
        known = o.known;
      }
