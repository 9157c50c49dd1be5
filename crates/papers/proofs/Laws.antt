-- What a reader answers and what its law says are the same. Assumes nothing.
use Rattle.std.proofs.Common.{◌≡◌, ℕ, Bool, ◌↔◌, List, Ok, Err, Result, IsErrAnd, sym}
use Rattle.std.proofs.lemmas.Result.{err_from_is_err_and}
use Rattle.papers.proofs.FaultLaws.{block_fault_exactly, paper_fault_exactly}
use Rattle.papers.proofs.Forms.{reads_exactly}
use Rattle.papers.proofs.Order.{refused}
use Rattle.papers.proofs.Sound.{block_reads_exactly}
use Rattle.papers.specs.Block.{block_of}
use Rattle.papers.specs.First.{Verdict, answered}
use Rattle.papers.specs.Form.{BlockLaw, PaperFaultLaw, ReadingLaw}
use Rattle.papers.specs.Paper.{contents_of, held, reading}
use Rattle.papers.specs.declared.block.Block.{Block}
use Rattle.papers.specs.declared.fault.BlockFault.{BlockFault}
use Rattle.papers.specs.declared.fault.PaperFault.{PaperFault}
use Rattle.papers.specs.declared.paper.Paper.{Paper}

refuses : {F X : Type 0} (v : Verdict F) (x : X) (f : F) → v ≡ Err f → Err f ≡ answered v x
refuses v x f e = rw e

pub block_law_exactly : (bs : List ℕ) (place due : ℕ) (last : Bool) (r : Result Block BlockFault) → (r ≡ block_of bs place due last) ↔ BlockLaw bs place due last r
block_law_exactly bs place due last (Ok b) =
    let reads = block_reads_exactly bs place due last b in
    (λ e. reads.0 (sym e), λ law. sym (reads.1 law))
block_law_exactly bs place due last (Err f) =
    let faults = block_fault_exactly bs place due last f in
    (λ e. faults.0 (refused _ _ f e), λ law. refuses _ _ f (faults.1 law))

pub reading_law_exactly : (bs : List ℕ) (r : Result Paper PaperFault) → (reading r ≡ contents_of bs) ↔ ReadingLaw bs r
reading_law_exactly bs (Ok p) =
    let reads = reads_exactly bs (held p).kind (held p).numbers in
    (λ e. reads.0 (sym e), λ law. sym (reads.1 law))
reading_law_exactly bs (Err f) =
    let faults = paper_fault_exactly bs f in
    (λ e. faults.0 (refused _ _ f e), λ law. refuses _ _ f (faults.1 law))

-- what lawful answers are
pub block_lawful : (bs : List ℕ) (place due : ℕ) (last : Bool) (r : Result Block BlockFault) → BlockLaw bs place due last r → record { answer : r ≡ block_of bs place due last; law : BlockLaw bs place due last r }
block_lawful bs place due last r law = record { answer = (block_law_exactly bs place due last r).1 law; law = law }

pub paper_lawful : (bs : List ℕ) (r : Result Paper PaperFault) → ReadingLaw bs r → record { answer : reading r ≡ contents_of bs; law : ReadingLaw bs r }
paper_lawful bs r law = record { answer = (reading_law_exactly bs r).1 law; law = law }

pub paper_refused : (bs : List ℕ) (r : Result Paper PaperFault) (f : PaperFault) → IsErrAnd r (λ e. e ≡ f) → PaperFaultLaw bs f → record { answer : reading r ≡ contents_of bs; law : ReadingLaw bs r }
paper_refused bs r f by law =
    let p = err_from_is_err_and r by in
    paper_lawful bs r (rw (p.1, p.2) law)
