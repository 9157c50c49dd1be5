use Rattle.std.proofs.Common.{arith}
use Rattle.reports.proofs.Feeds.{feed_found}
use Rattle.reports.proofs.excerpts.line_end.Goals as goal

pub returns : goal.returns
returns c =
    let found = feed_found c.args.bytes.now c.args.start c.first_feed.result c.requires c.first_feed.ensures in
    grind (arith, found)
