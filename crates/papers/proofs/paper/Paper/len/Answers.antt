use Rattle.std.proofs.Common.{sym, ◌∙◌}
use Rattle.std.proofs.lemmas.List.FromFn.{length-map-range_with_len}
use Rattle.papers.proofs.paper.Paper.len.Goals as goal

pub returns : goal.returns
returns c = c.from.ensures ∙ sym (length-map-range_with_len _ 0 _)
