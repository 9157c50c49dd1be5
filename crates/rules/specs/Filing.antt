-- What filing a paper does. Assumes nothing.
use Rattle.std.specs.Prelude.{ℕ, List, length, Ok, Err, Result}
use Rattle.papers.specs.First.{Verdict, answered}
use Rattle.papers.specs.Paper.{Contents, contents_of}
use Rattle.papers.specs.declared.fault.PaperFault.{PaperFault}
use Rattle.papers.specs.declared.kind.Kind.{Kind}
use Rattle.papers.specs.declared.kind.Kind.TheVariants.{Strip, Ring, Ranking, Torus}
use Rattle.transducers.specs.Meaning.{Meaning}
use Rattle.rules.specs.Ranks.{ranking, height}
use Rattle.rules.specs.Rows.{strip, ring}
use Rattle.rules.specs.Torus.{torus}
use Rattle.rules.specs.Widths.{moved}
use Rattle.rules.specs.declared.fault.DocketFault.{DocketFault}
use Rattle.rules.specs.declared.fault.DocketFault.TheVariants.{Paper}
use Rattle.rules.specs.declared.width.Claim.{Claim}
use Rattle.rules.specs.declared.width.Claim.TheVariants.{Reaches, Limits}
use Rattle.rules.specs.declared.width.Ends.{Ends}
use Rattle.rules.specs.declared.width.Width.TheVariants.{Number, Endless}

-- the rule of each kind
abbrev pub rule : Meaning → Kind → List ℕ → Verdict DocketFault
rule m Strip xs = strip m xs
rule m Ring xs = ring m xs
rule m Ranking xs = ranking m xs
rule m Torus xs = torus m xs

-- what a paper of each kind shows, if its rule is kept
abbrev pub shows : Kind → List ℕ → Claim
shows Strip xs = Reaches (Number (length xs))
shows Ring xs = Reaches Endless
shows Ranking xs = Limits (Number (height xs))
shows Torus xs = Reaches Endless

-- what the contents show of a transducer, or the first fault
abbrev pub weighed : Meaning → Contents → Result Claim DocketFault
weighed m c = answered (rule m c.kind c.numbers) (shows c.kind c.numbers)

-- a fault of the paper reader is carried whole
abbrev pub judged_contents : Meaning → Result Contents PaperFault → Result Claim DocketFault
judged_contents m (Ok c) = weighed m c
judged_contents m (Err f) = Err (Paper f)

-- what bytes filed as a paper show of a transducer, or their first fault
abbrev pub judged : Meaning → List ℕ → Result Claim DocketFault
judged m bs = judged_contents m (contents_of bs)

-- an accepted paper moves the ends; one turned down leaves both
abbrev pub ends_after : Ends → Result Claim DocketFault → Ends
ends_after e (Ok c) = moved e c
ends_after e (Err f) = e

-- what filing answers: the ends after it, or the fault
abbrev pub filing_answer : Ends → Result Claim DocketFault → Result Ends DocketFault
filing_answer e (Ok c) = Ok (moved e c)
filing_answer e (Err f) = Err f
