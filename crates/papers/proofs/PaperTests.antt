-- What the tests of a paper say of its blocks, in plain facts. Assumes nothing.
use Rattle.std.proofs.Common.{◌≡◌, ℕ, ◌+◌, ◌%◌, ◌<◌, eqb, ◌↔◌, List, length, Ok, Err, Decides, refl, arith}
use Rattle.std.proofs.lemmas.Bool.Decides.{Decides-eqb, Decides-and, Decides-like}
use Rattle.papers.proofs.BlockTests.{Passes, passes_exactly, then_passes, must_passes, decides_leb}
use Rattle.papers.proofs.FirstLaws.{first_passes}
use Rattle.papers.specs.First.{Verdict}
use Rattle.papers.specs.Form.{WholeBlocks}
use Rattle.papers.specs.Paper.{blocks, block_at, due_kind, of_block, block_passes, whole_blocks, paper_verdict}
use Rattle.papers.specs.declared.fault.BlockFault.{BlockFault}

pub of_block_passes : (v : Verdict BlockFault) → (of_block v ≡ Ok tt) ↔ (v ≡ Ok tt)
of_block_passes (Ok u) = (λ e. refl, λ e. refl)
of_block_passes (Err f) =
    (λ e. absurd (cc), λ e. absurd (cc))

pub decides_whole : (bs : List ℕ) → Decides (whole_blocks bs) (WholeBlocks bs)
decides_whole bs =
    Decides-like _ (λ p. record { whole = omega arith; some = p.1.0; most = p.1.1 }) (λ p. (omega arith, (p.some, p.most)))
    (Decides-and _ _ (Decides-eqb (length bs % 512) 0) (Decides-and _ _ (decides_leb 1 (blocks bs)) (decides_leb (blocks bs) 64)))

-- block b of the paper passes its tests
abbrev pub PassesAt : List ℕ → ℕ → Type 0
PassesAt bs b = Passes (block_at bs b) b (due_kind bs b) (eqb (b + 1) (blocks bs))

pub block_exactly : (bs : List ℕ) (b : ℕ) → (block_passes bs b ≡ Ok tt) ↔ PassesAt bs b
block_exactly bs b =
    let outer = of_block_passes _ in
    let inner = passes_exactly (block_at bs b) b (due_kind bs b) (eqb (b + 1) (blocks bs)) in
    (λ e. inner.0 (outer.0 e), λ p. outer.1 (inner.1 p))

pub paper_exactly : (bs : List ℕ) → (paper_verdict bs ≡ Ok tt) ↔ (WholeBlocks bs × ((b : ℕ) → b < blocks bs → PassesAt bs b))
paper_exactly bs =
    let each = first_passes (block_passes bs) (blocks bs) in
    then_passes _ _ (must_passes _ _ (decides_whole bs))
    (λ e b h. (block_exactly bs b).0 (each.0 e b h), λ p. each.1 (λ b h. (block_exactly bs b).1 (p b h)))
