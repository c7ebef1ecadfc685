use Rattle.std.proofs.Common.{◌≤◌, ◌^◌, length, arith, rules}
use Rattle.std.proofs.lemmas.Iterator.{YieldsList-from_slice}
use Rattle.std.proofs.lemmas.Iterator.Adapters.{fits_from_length, at_most_from_yields_List}
use Rattle.pages.proofs.Pages.used_credits.Goals as goal

pub sum-requires-clause-fits : goal.sum-requires-clause-fits
sum-requires-clause-fits c =
    let few : length c.args.self.now.groups ≤ 32 = search rules in
    fits_from_length _ _ 32 (2 ^ 32) (at_most_from_yields_List (YieldsList-from_slice c.args.self.now.groups cc) few) c.map.ensures.closure (omega arith) (λ x r q k. search rules)
