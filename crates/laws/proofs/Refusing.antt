-- Bytes are turned down with a fault exactly where its law holds; so the answer and the law of filing are the same. Assumes nothing.
use Rattle.std.proofs.Common.{◌≡◌, ℕ, ◌↔◌, List, Ok, Err, Result, sym, refl, ap, ◌∙◌, inl, inr}
use Rattle.papers.specs.First.{answered}
use Rattle.papers.specs.Form.{PaperFaultLaw}
use Rattle.papers.specs.Paper.{Contents, contents_of}
use Rattle.papers.specs.declared.fault.PaperFault.{PaperFault}
use Rattle.papers.proofs.FaultLaws.{paper_fault_exactly}
use Rattle.papers.proofs.Forms.{reads_exactly}
use Rattle.papers.proofs.Order.{refused}
use Rattle.transducers.specs.Meaning.{Meaning, Valid}
use Rattle.laws.specs.Accepted.{Refused, FilingLaw}
use Rattle.rules.specs.Filing.{judged, judged_contents, shows}
use Rattle.rules.specs.declared.fault.DocketFault.{DocketFault}
use Rattle.rules.specs.declared.width.Claim.{Claim}
use Rattle.laws.proofs.Accepting.{accepted_exactly, judged_paper, paper_sizes}
use Rattle.laws.proofs.RuleFaults.{rule_says}

-- bytes that are no paper are turned down as such
unread : (bs : List ℕ) (g : PaperFault) → (contents_of bs ≡ Err g) ↔ PaperFaultLaw bs g
unread bs g =
    let law = paper_fault_exactly bs g in
    (λ e. law.0 (refused _ _ g (sym e)), λ at. rw (law.1 at))

module _ (m : Meaning) (v : Valid m) where
  module _ (bs : List ℕ) (f : DocketFault) where
    refused_from : (r : Result Contents PaperFault) → contents_of bs ≡ r → judged_contents m r ≡ Err f → Refused m bs f
    refused_from (Ok c) is told =
        let paper = (reads_exactly bs c.kind c.numbers).0 is in
        let says = rule_says m v c.kind c.numbers (paper_sizes bs c.kind c.numbers paper) in
        inr (c.kind, c.numbers, paper, (says.fails f).0 (refused _ _ f (sym told)))
    refused_from (Err g) is told = inl (g, cc, (unread bs g).0 is)

    judged_from : Refused m bs f → judged m bs ≡ Err f
    judged_from (inl p) = ap (judged_contents m) ((unread bs p.0).1 p.2) ∙ ap Err (sym p.1)
    judged_from (inr p) =
        let k = p.0 in
        let xs = p.1 in
        let fails = ((rule_says m v k xs (paper_sizes bs k xs p.2)).fails f).1 p.3 in
        judged_paper m bs k xs p.2 ∙ ap (λ r. answered r (shows k xs)) fails

    pub refused_exactly : (judged m bs ≡ Err f) ↔ Refused m bs f
    refused_exactly = (refused_from (contents_of bs) refl, judged_from)

  pub refused_law : (bs : List ℕ) (f : DocketFault) → judged m bs ≡ Err f → Refused m bs f
  refused_law bs f = (refused_exactly bs f).0

  pub filing_law_exactly : (bs : List ℕ) (r : Result Claim DocketFault) → (judged m bs ≡ r) ↔ FilingLaw m bs r
  filing_law_exactly bs (Ok a) = accepted_exactly m v bs a
  filing_law_exactly bs (Err f) = refused_exactly bs f

  -- what is answered keeps the law
  pub filing_keeps_law : (bs : List ℕ) → FilingLaw m bs (judged m bs)
  filing_keeps_law bs = (filing_law_exactly bs (judged m bs)).0 refl
