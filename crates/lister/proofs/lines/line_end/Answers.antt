use mathlib.Core.Path.{sym, ◌∙◌}
use Rattle.std.proofs.lemmas.List.{take_rest}
use Rattle.lister.proofs.Feeds.{feed_found, feed_none}
use Rattle.lister.proofs.lines.line_end.Goals as goal

pub returns-in_err-n : goal.returns-in_err-n
returns-in_err-n c =
    let found = rw take_rest at c.line_feed.ensures in
    rw c.from_residual.ensures (feed_none c.args.cs.now c.args.from c.requires.0 c.requires.1 (sym found ∙ c.in_err-n.was {u = tt}))

pub returns : goal.returns
returns c =
    let found = rw take_rest at c.line_feed.ensures in
    feed_found c.args.cs.now c.args.from c.requires.0 c.requires.1 c.in_ok-n.n (sym found ∙ c.in_ok-n.was)
