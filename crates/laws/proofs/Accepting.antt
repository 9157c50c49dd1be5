-- Bytes are accepted exactly where they are a paper that keeps the rule of its kind. Assumes nothing.
use Rattle.std.proofs.Common.{◌≡◌, ℕ, ◌≤◌, ◌↔◌, List, length, Ok, Err, Result, sym, refl, ap, ◌∙◌}
use Rattle.papers.specs.First.{answered}
use Rattle.papers.specs.Form.{IsPaper}
use Rattle.papers.specs.Paper.{Contents, contents_of}
use Rattle.papers.specs.declared.fault.PaperFault.{PaperFault}
use Rattle.papers.specs.declared.kind.Kind.{Kind}
use Rattle.papers.proofs.Forms.{reads_exactly}
use Rattle.papers.proofs.Lengths.{some_numbers}
use Rattle.papers.proofs.Order.{answer_of, passed}
use Rattle.transducers.specs.Meaning.{Meaning, Valid}
use Rattle.laws.specs.Accepted.{Accepted}
use Rattle.rules.specs.Filing.{judged, judged_contents, rule, shows}
use Rattle.rules.specs.declared.width.Claim.{Claim}
use Rattle.laws.proofs.RuleFaults.{rule_says}

-- a paper holds 1 to 8,064 numbers
pub paper_sizes : (bs : List ℕ) (k : Kind) (xs : List ℕ) → IsPaper bs k xs → (1 ≤ length xs) × (length xs ≤ 8064)
paper_sizes bs k xs is = some_numbers bs (record { kind = k; numbers = xs }) ((reads_exactly bs k xs).1 is)

-- bytes that are a paper are judged by the rule of its kind
pub judged_paper : (m : Meaning) (bs : List ℕ) (k : Kind) (xs : List ℕ) → IsPaper bs k xs → judged m bs ≡ answered (rule m k xs) (shows k xs)
judged_paper m bs k xs is = ap (judged_contents m) ((reads_exactly bs k xs).1 is)

module _ (m : Meaning) (v : Valid m) (bs : List ℕ) (a : Claim) where
  accepted_from : (r : Result Contents PaperFault) → contents_of bs ≡ r → judged_contents m r ≡ Ok a → Accepted m bs a
  accepted_from (Ok c) is told =
      let paper = (reads_exactly bs c.kind c.numbers).0 is in
      let says = rule_says m v c.kind c.numbers (paper_sizes bs c.kind c.numbers paper) in
      (c.kind, c.numbers, paper, says.passes.0 (passed _ _ a (sym told)), answer_of _ _ a (sym told))
  accepted_from (Err f) is told = absurd (cc)

  judged_from : Accepted m bs a → judged m bs ≡ Ok a
  judged_from p =
      let k = p.0 in
      let xs = p.1 in
      let pass = (rule_says m v k xs (paper_sizes bs k xs p.2)).passes.1 p.3 in
      judged_paper m bs k xs p.2 ∙ ap (λ r. answered r (shows k xs)) pass ∙ ap Ok (sym p.4)

  pub accepted_exactly : (judged m bs ≡ Ok a) ↔ Accepted m bs a
  accepted_exactly = (accepted_from (contents_of bs) refl, judged_from)
