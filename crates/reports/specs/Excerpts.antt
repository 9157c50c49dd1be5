-- What a refusal blames, and which part of a text or of a paper that is, from which byte to which. Assumes nothing.
use Rattle.std.specs.Prelude.{◌≡◌, ℕ, zero, suc, ◌+◌, ◌-◌, ◌*◌, ◌/◌, ◌%◌, ◌<◌, ◌≤◌, cond, ◌≢◌, ◌⊎◌, List, length, ◌==◌, slice_index, slice_range}
use Rattle.std.specs.Borrow.{Bor}
use Rattle.rules.specs.declared.fault.DocketFault.{DocketFault}
use Rattle.rules.specs.declared.fault.DocketFault.TheVariants as docket
use Rattle.papers.specs.declared.fault.BlockFault.{BlockFault}
use Rattle.papers.specs.declared.fault.BlockFault.TheVariants as block
use Rattle.papers.specs.declared.fault.PaperFault.TheVariants as paper
use Rattle.setgrammar.specs.declared.fault.TextFault.{TextFault}
use Rattle.setgrammar.specs.declared.fault.TextFault.TheVariants as text
use Rattle.reports.specs.declared.excerpts.Blame.{Blame}
use Rattle.reports.specs.declared.excerpts.Blame.TheVariants.{Line, Block, Number, Nothing}
use Rattle.reports.specs.declared.excerpts.Refusal.{Refusal}
use Rattle.reports.specs.declared.excerpts.Refusal.TheVariants.{Set, Paper}

-- what a fault blames, if any part
abbrev pub text_blame : TextFault → Blame
text_blame (text.Start at) = Line at.line
text_blame (text.Byte at) = Line at.line
text_blame (text.Range at) = Line at.line
text_blame (text.Turn at) = Line at.line
text_blame (text.Full at) = Line at.line
text_blame (text.Ends at) = Line at.line
text_blame text.Long = Nothing

abbrev pub block_blame : BlockFault → Blame
block_blame block.Length = Nothing
block_blame (block.Check b) = Block b
block_blame (block.Place b) = Block b
block_blame (block.Kind b) = Block b
block_blame (block.Count b) = Block b
block_blame (block.Padding b) = Block b

abbrev pub paper_blame : DocketFault → Blame
paper_blame (docket.Paper paper.Length) = Nothing
paper_blame (docket.Paper (paper.Block fault)) = block_blame fault
paper_blame docket.Shape = Nothing
paper_blame (docket.HighRank p) = Number p
paper_blame (docket.NoEdge p) = Number p
paper_blame (docket.Apart p) = Number p
paper_blame (docket.Open p) = Number p
paper_blame (docket.ApartAbove p) = Number p
paper_blame docket.RankCount = Nothing
paper_blame (docket.NoFall slot) = Nothing

-- what a refusal blames
abbrev pub blame_of : Refusal → Blame
blame_of (Set fault) = text_blame fault
blame_of (Paper fault) = paper_blame fault

-- a slice: the memory that it stands in, its place there, and its bytes
abbrev pub Slice : Type 0
Slice = Bor (List ℕ)

-- r is bytes s to e - 1 of the slice w, and stands where they do
pub record IsPart (w : Slice) (s e : ℕ) (r : Slice) : Type 0 where
  pub memory : r.ref_ptr.0 ≡ w.ref_ptr.0
  pub place : r.ref_ptr.1 ≡ w.ref_ptr.1 + s
  pub bytes : r.now ≡ slice_range w.now s e

-- r is empty, at the start of the slice w
abbrev pub IsFront : Slice → Slice → Type 0
IsFront w r = IsPart w 0 0 r

-- r is so many bytes of w from byte s on, or the empty front where they are not all there
abbrev pub IsCut : Slice → ℕ → ℕ → Slice → Type 0
IsCut w s size r =
    ((s + size ≤ length w.now) × IsPart w s (s + size) r) ⊎ ((length w.now < s + size) × IsFront w r)

-- how many line feeds are among the first n bytes
unfoldable pub feeds : List ℕ → ℕ → ℕ
feeds bs zero = 0
feeds bs (suc n) = feeds bs n + cond (slice_index bs n == 10) 1 0

-- a line, counted from 1, starts at byte s: the first at 0, any other after a line feed
pub record LineStart (bs : List ℕ) (line s : ℕ) : Type 0 where
  pub within : s ≤ length bs
  pub count : feeds bs s + 1 ≡ line
  pub fresh : (s ≡ 0) ⊎ (slice_index bs (s - 1) ≡ 10)

-- the line that starts at byte s ends before byte e: its line feed, or the end of the bytes
pub record LineEnd (bs : List ℕ) (s e : ℕ) : Type 0 where
  pub from : s ≤ e
  pub within : e ≤ length bs
  pub plain : (k : ℕ) → s ≤ k → k < e → slice_index bs k ≢ 10
  pub stop : (e ≡ length bs) ⊎ (slice_index bs e ≡ 10)

-- the line is bytes s to e - 1, without its line feed
pub record LineAt (bs : List ℕ) (line s e : ℕ) : Type 0 where
  pub start : LineStart bs line s
  pub end : LineEnd bs s e

-- the bytes have no such line
abbrev pub NoLine : List ℕ → ℕ → Type 0
NoLine bs line = (line ≡ 0) ⊎ (feeds bs (length bs) + 1 < line)

-- r is the part of the text or of the paper that is blamed, or else empty, at the paper's start.
-- A block is 512 bytes: 4, then 126 numbers of 4 bytes, then 4.
abbrev pub IsBlamed : Slice → Slice → Blame → Slice → Type 0
IsBlamed text paper (Line n) r =
    ((s : ℕ) × (e : ℕ) × LineAt text.now n s e × IsPart text s e r) ⊎ (NoLine text.now n × IsFront paper r)
IsBlamed text paper (Block b) r = IsCut paper (512 * b) 512 r
IsBlamed text paper (Number p) r = IsCut paper (512 * (p / 126) + 4 + 4 * (p % 126)) 4 r
IsBlamed text paper Nothing r = IsFront paper r

-- r is what the refusal blames
abbrev pub Excerpted : Slice → Slice → Refusal → Slice → Type 0
Excerpted text paper refusal r = IsBlamed text paper (blame_of refusal) r

-- the same bytes at one place
pub record SamePart (q r : Slice) : Type 0 where
  pub memory : q.ref_ptr.0 ≡ r.ref_ptr.0
  pub place : q.ref_ptr.1 ≡ r.ref_ptr.1
  pub bytes : q.now ≡ r.now

-- nothing but r is what the refusal blames: no part that is longer or shorter, or starts elsewhere
abbrev pub OnlyExcerpt : Slice → Slice → Refusal → Slice → Type 0
OnlyExcerpt text paper refusal r = (q : Slice) → Excerpted text paper refusal q → SamePart q r
