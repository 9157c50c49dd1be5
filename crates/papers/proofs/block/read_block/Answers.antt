use Rattle.std.proofs.Common.{◌≡◌, refl, subst, rules}
use Rattle.papers.proofs.Laws.{block_lawful}
use Rattle.papers.proofs.Sound.{block_from_passes}
use Rattle.papers.proofs.block.read_block.Goals as goal
use Rattle.papers.specs.Form.{HasDueKind, NotPadded, Padded}

pub returns-then-not-is_padded : goal.returns-then-not-is_padded
returns-then-not-is_padded c =
    let same : c.in_ok-bytes.bytes.now ≡ c.args.bytes.now = search rules in
    let kind : HasDueKind c.in_ok-bytes.bytes.now c.args.kind c.in_ok-kind.kind = search rules in
    block_lawful _ _ _ _ _ (refl, search rules, search rules, search rules, search rules, search rules, subst NotPadded same c.if-not-is_padded.ensures)

pub returns : goal.returns
returns c =
    let same : c.in_ok-bytes.bytes.now ≡ c.args.bytes.now = search rules in
    let kind : HasDueKind c.in_ok-bytes.bytes.now c.args.kind c.in_ok-kind.kind = search rules in
    block_lawful _ _ _ _ _ (block_from_passes _ _ _ _ (record { size = search rules; checked = search rules; at = search rules; kind_fits = search rules; count_fits = search rules; padded = subst Padded same c.if-not-is_padded.ensures }) _ (search rules) (search rules))
