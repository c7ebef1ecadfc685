-- Which ITags are ready, and which a drain leaves waiting.
use mathlib.Core.Path.{◌≡◌, sym, ◌∙◌}
use mathlib.Core.Bool.{true, not, ◌&&◌}
use mathlib.Core.List.{List, []}
use mathlib.Core.Logic.{◌↔◌}
use lib.Dec.{eqb}
use Prim.Native.Nat.{ℕ}
use lib.ListN.{length}
use borrow.Author.Tests.{eqb-true, eqb-false, not-true}
use Rattle.lemmas.proofs.Cases.{by_cases, and_true, and_both, never_both, is_false}
use Rattle.packet.specs.declared.Tag.{Tag}
use Rattle.packet.specs.declared.ITag.{ITag}
use Rattle.tags.specs.Itags.{is_in}
use Rattle.tags.specs.declared.TagState.TheVariants.{Free}
use Rattle.tags.specs.Tags.{set_tag, delayed_itags}
use Rattle.tags.proofs.Laws.{in_none, in_without, Delaying, delayed_exactly, set_tag_long, freed_exactly}
use Rattle.state.specs.declared.Function.{Function}
use Rattle.state.specs.State.{with_tag}
use Rattle.state.specs.Answers.{carries}
use Rattle.state.proofs.Laws.{Does, does_case, does_nothing, does_send}
use Rattle.call_send.specs.Drain.{ready_of, sends_vector, draining}

module _ (f : Function) (i : ITag) where
  ready_in : is_in (ready_of f) i ≡ (is_in f.waiting i && not (is_in (delayed_itags f.tags) i))
  ready_in = in_without f.waiting (delayed_itags f.tags) i

  -- an ITag is ready if and only if it waits and no outstanding read delays it
  pub ready_exactly : length f.tags ≡ 32
      → (is_in (ready_of f) i ≡ true) ↔ ((is_in f.waiting i ≡ true) × (Delaying f.tags i → ⊥))
  ready_exactly all = (there, λ p. ready_in ∙ rw (p.0, is_false (is_in (delayed_itags f.tags) i) (λ e. p.1 ((delayed_exactly f.tags i all).0 e))))
    where
      there : is_in (ready_of f) i ≡ true → (is_in f.waiting i ≡ true) × (Delaying f.tags i → ⊥)
      there e =
          let both = and_both (is_in f.waiting i) _ (sym ready_in ∙ e) in
          (both.0, λ h. never_both _ ((delayed_exactly f.tags i all).1 h) (not-true (is_in (delayed_itags f.tags) i) both.1))

  -- after a drain an ITag waits if and only if it waited and was not ready
  pub drained_waits : (out : List ℕ)
      → Does (λ d. is_in d.state.waiting i ≡ (is_in f.waiting i && not (is_in (ready_of f) i))) (draining f out)
  unfolding sends_vector
  drained_waits out =
      does_case _ (eqb (ready_of f) 0) _ _
      (λ z. does_nothing _ f (carries 0) (rw (eqb-true (ready_of f) 0 z, in_none i, and_true (is_in f.waiting i))))
      (λ z. does_send _ _ _ _ [] out (λ n. in_without f.waiting (ready_of f) i))

-- once a tag is freed, an ITag is ready if and only if it waits and no other read delays it
pub freed_ready : (f : Function) (i : ITag) (t : Tag) → length f.tags ≡ 32
    → (is_in (ready_of (with_tag f t Free)) i ≡ true)
    ↔ ((is_in f.waiting i ≡ true) × ((h : Delaying f.tags i) → h.tag.0 ≡ t.0))
freed_ready f i t all =
    let ready = ready_exactly (with_tag f t Free) i (set_tag_long f.tags t Free ∙ all) in
    (λ e. ((ready.0 e).0, λ h. only h (ready.0 e).1), λ p. ready.1 (p.0, λ h. let o = (freed_exactly f.tags t i all).0 h in o.1 (p.1 o.0)))
  where
    only : (h : Delaying f.tags i) → (Delaying (set_tag f.tags t Free) i → ⊥) → h.tag.0 ≡ t.0
    only h n =
        by_cases (eqb h.tag.0 t.0)
        (λ e. eqb-true h.tag.0 t.0 e)
        (λ e. absurd (n ((freed_exactly f.tags t i all).1 (h, eqb-false h.tag.0 t.0 e))))
