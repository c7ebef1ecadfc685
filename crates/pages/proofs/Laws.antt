-- Laws of the page request interface.
use Rattle.std.proofs.Common.{◌≡◌, ℕ, ◌+◌, ◌^◌, ◌<◌, ◌≤◌, Bool, true, false, List, length, set, refl, ◌∙◌, le_refl, arith, length-set, get_or-set_other, get_or-set_same, ltb-true, leb-false, leb-true}
use Rattle.lemmas.proofs.Cases.{by_cases, either_case}
use Rattle.std.proofs.lemmas.List.Sums.{sum_by-set}
use Rattle.packet.specs.declared.PrgIndex.{PrgIndex}
use Rattle.pages.specs.declared.Group.{Group}
use Rattle.pages.specs.Pages.{idle, closed_all, is_index, group_at, is_waiting, requests_of, used_credits, is_spent, one_more_request, request_added, closed}

-- if all groups are closed, no credit is in use
pub none_used_credits : used_credits closed_all ≡ 0
unfolding used_credits
none_used_credits = refl

-- there are 32 groups
pub none_long : length closed_all ≡ 32
none_long = refl

-- if a credit is free, fewer are in use than allocated,
pub free_lt : (groups : List Group) (allocation : ℕ) → is_spent groups allocation ≡ false
    → used_credits groups < allocation
unfolding is_spent
free_lt groups allocation = leb-false allocation (used_credits groups)

-- and otherwise at least as many
pub spent_le : (groups : List Group) (allocation : ℕ) → is_spent groups allocation ≡ true
    → allocation ≤ used_credits groups
unfolding is_spent
spent_le groups allocation = leb-true allocation (used_credits groups)

module _ (groups : List Group) (all : length groups ≡ 32) (k : PrgIndex) where
  -- ---- closing a group

  -- there are still 32 groups,
  pub close_long : length (closed groups k) ≡ 32
  unfolding closed
  close_long = either_case (λ (l : List Group). length l ≡ 32) (is_index k) _ groups (λ t. length-set groups k.0 idle ∙ all) (λ t. all)

  -- no other group changes,
  pub close_other : (j : PrgIndex) → (j.0 ≡ k.0 → ⊥) → group_at (closed groups k) j ≡ group_at groups j
  unfolding closed
  close_other j f = either_case (λ (l : List Group). group_at l j ≡ group_at groups j) (is_index k) _ groups (λ t. get_or-set_other groups k.0 j.0 idle idle f) (λ t. refl)

  -- and no credit is used
  pub close_le : used_credits (closed groups k) ≤ used_credits groups
  unfolding used_credits closed
  close_le = either_case (λ (l : List Group). used_credits l ≤ used_credits groups) (is_index k) _ groups (λ t. omega (arith, set_used t)) (λ t. le_refl (used_credits groups))
    where
      set_used : is_index k ≡ true
          → used_credits (set groups k.0 idle) + (group_at groups k).requests ≡ used_credits groups
      set_used t = omega (arith, sum_by-set requests_of groups k.0 idle idle (rw all (ltb-true k.0 32 t)))

  -- ---- adding a request to a group

  module _ (last : Bool) where
    -- there are still 32 groups,
    pub added_long : length (request_added groups k last) ≡ 32
    unfolding request_added
    added_long = either_case (λ (l : List Group). length l ≡ 32) (is_index k) _ groups (λ t. length-set groups k.0 (one_more_request (group_at groups k) last) ∙ all) (λ t. all)

    -- and no other group changes
    pub added_other : (j : PrgIndex) → (j.0 ≡ k.0 → ⊥) → group_at (request_added groups k last) j ≡ group_at groups j
    unfolding request_added
    added_other j f = either_case (λ (l : List Group). group_at l j ≡ group_at groups j) (is_index k) _ groups (λ t. get_or-set_other groups k.0 j.0 (one_more_request (group_at groups k) last) idle f) (λ t. refl)

-- the group with an index
module _ (groups : List Group) (all : length groups ≡ 32) (k : PrgIndex) (own : is_index k ≡ true) where
  within : k.0 < length groups
  within = rw all (ltb-true k.0 32 own)

  -- has no requests once it is closed
  pub close_group : group_at (closed groups k) k ≡ idle
  unfolding closed
  close_group = rw own (get_or-set_same groups k.0 idle idle within)

  -- and does not wait,
  pub close_waits : is_waiting (closed groups k) k ≡ false
  unfolding is_waiting
  close_waits = rw (own, close_group)

  -- and the credits of its requests return, no more and no fewer
  pub close_used : used_credits (closed groups k) + (group_at groups k).requests ≡ used_credits groups
  unfolding used_credits closed
  close_used = rw own (omega (arith, sum_by-set requests_of groups k.0 idle idle within))

  module _ (last : Bool) where
    -- has one more request once a request is added,
    pub added_group : group_at (request_added groups k last) k ≡ one_more_request (group_at groups k) last
    unfolding request_added
    added_group = rw own (get_or-set_same groups k.0 (one_more_request (group_at groups k) last) idle within)

    -- and waits if that was the last;
    pub added_waits : is_waiting (request_added groups k last) k ≡ last
    unfolding is_waiting
    added_waits = rw (own, added_group)

    module _ (allocation : ℕ) (small : allocation < 2 ^ 16) (some : is_spent groups allocation ≡ false) where
      -- adding a request uses one credit, if one was free,
      pub added_used : used_credits (request_added groups k last) ≡ used_credits groups + 1
      unfolding used_credits request_added
      added_used = rw own (omega (arith, close_used, free_lt groups allocation some, sum_by-set requests_of groups k.0 (one_more_request (group_at groups k) last) idle within))

-- so that never more are in use than allocated
pub added_fits : (groups : List Group) (all : length groups ≡ 32) (k : PrgIndex) (last : Bool) (allocation : ℕ)
    → allocation < 2 ^ 16 → is_spent groups allocation ≡ false → used_credits (request_added groups k last) ≤ allocation
unfolding request_added
added_fits groups all k last allocation small some =
    by_cases (is_index k)
    (λ own. omega (arith, added_used groups all k own last allocation small some, free_lt groups allocation some))
    (λ other. rw other (omega (arith, free_lt groups allocation some)))
