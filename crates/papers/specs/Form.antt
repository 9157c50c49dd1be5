-- The form of a block and of a paper, as relations between bytes and what they say, and what each fault says. Assumes nothing.
use Rattle.std.specs.Prelude.{◌≡◌, ℕ, ◌+◌, ◌-◌, ◌*◌, ◌<◌, ◌≤◌, Bool, true, false, ◌≢◌, ◌⊎◌, List, length, take, drop, Ok, Err, Result, ◌==◌, slice_index, slice_index_or}
use Rattle.papers.specs.Block.{kind_byte, count_byte, block_number}
use Rattle.papers.specs.Bytes.{half, word, weighted}
pub use Rattle.papers.specs.Kind.{kind_number}
use Rattle.papers.specs.Paper.{blocks, block_at, due_kind, held}
use Rattle.papers.specs.declared.block.Block.{Block}
use Rattle.papers.specs.declared.fault.BlockFault.{BlockFault}
use Rattle.papers.specs.declared.fault.BlockFault.TheVariants as block
use Rattle.papers.specs.declared.fault.PaperFault.{PaperFault}
use Rattle.papers.specs.declared.fault.PaperFault.TheVariants as paper
use Rattle.papers.specs.declared.kind.Kind.{Kind}
use Rattle.papers.specs.declared.paper.Paper.{Paper}

-- the bytes are the block at this place, of this kind, with these numbers
pub record IsBlock (bs : List ℕ) (place : ℕ) (kind : Kind) (xs : List ℕ) : Type 0 where
  pub size : length bs ≡ 512
  pub at : half bs 0 ≡ place
  pub marked : kind_byte bs ≡ kind_number kind
  pub counted : count_byte bs ≡ length xs
  pub some : 1 ≤ length xs
  pub most : length xs ≤ 126
  -- past the count every number is 0
  pub each : (i : ℕ) → i < 126 → block_number bs i ≡ slice_index xs i
  pub checked : word bs 508 ≡ weighted bs 508

-- the numbers that stand in block b
abbrev pub part : List ℕ → ℕ → List ℕ
part xs b = take 126 (drop (126 * b) xs)

-- the bytes are 1 to 64 whole blocks
pub record WholeBlocks (bs : List ℕ) : Type 0 where
  pub whole : length bs ≡ 512 * blocks bs
  pub some : 1 ≤ blocks bs
  pub most : blocks bs ≤ 64

-- the bytes are 1 to 64 whole blocks: a first one, and the others
pub record AreBlocks (bs start : List ℕ) (others : List (List ℕ)) : Type 0 where
  pub whole : WholeBlocks bs
  pub first : start ≡ block_at bs 0
  pub each : (b : ℕ) (d : List ℕ) → b < length others → slice_index_or others b d ≡ block_at bs (b + 1)
  pub many : length others + 1 ≡ blocks bs

-- the bytes are the paper of this kind with these numbers
pub record IsPaper (bs : List ℕ) (kind : Kind) (xs : List ℕ) : Type 0 where
  pub whole : WholeBlocks bs
  pub each : (b : ℕ) → b < blocks bs → IsBlock (block_at bs b) b kind (part xs b)
  -- the numbers reach into the last block, and not past it
  pub reach : 126 * (blocks bs - 1) < length xs
  pub within : length xs ≤ 126 * blocks bs

-- a kind byte that fits its due kind (0: any)
abbrev pub KindFits : ℕ → ℕ → Type 0
KindFits due k = (1 ≤ k) × (k ≤ 4) × ((due ≡ 0) ⊎ (k ≡ due))

-- the kind byte stands for this kind, and fits its due kind
pub record HasDueKind (bs : List ℕ) (due : ℕ) (kind : Kind) : Type 0 where
  pub marked : kind_number kind ≡ kind_byte bs
  pub fits : KindFits due (kind_byte bs)

-- a count that fits: 1 to 126 in the last block, else 126
abbrev pub CountFits : Bool → ℕ → Type 0
CountFits true n = (1 ≤ n) × (n ≤ 126)
CountFits false n = n ≡ 126

-- each number past the count is 0, or one is not
abbrev pub Padded : List ℕ → Type 0
Padded bs = (i : ℕ) → i < 126 → count_byte bs ≤ i → block_number bs i ≡ 0

abbrev pub NotPadded : List ℕ → Type 0
NotPadded bs = (i : ℕ) × (i < 126) × (count_byte bs ≤ i) × (block_number bs i ≢ 0)

-- a block with its due kind (0: any), as the last of its paper or not
pub record IsDueBlock (bs : List ℕ) (place due : ℕ) (last : Bool) (kind : Kind) (xs : List ℕ) : Type 0 where
  pub block : IsBlock bs place kind xs
  pub kind_due : (due ≡ 0) ⊎ (kind_number kind ≡ due)
  pub count_due : CountFits last (length xs)

-- the law of a block's fault: what it names is so, and nothing is that an earlier fault names
abbrev pub BlockFaultLaw : List ℕ → ℕ → ℕ → Bool → BlockFault → Type 0
BlockFaultLaw bs place due last block.Length = length bs ≢ 512
BlockFaultLaw bs place due last (block.Check at) =
    (at ≡ place) × (length bs ≡ 512) × (word bs 508 ≢ weighted bs 508)
BlockFaultLaw bs place due last (block.Place at) =
    (at ≡ place) × (length bs ≡ 512) × (word bs 508 ≡ weighted bs 508) × (half bs 0 ≢ place)
BlockFaultLaw bs place due last (block.Kind at) =
    (at ≡ place) × (length bs ≡ 512) × (word bs 508 ≡ weighted bs 508) × (half bs 0 ≡ place) × (KindFits due (kind_byte bs) → ⊥)
BlockFaultLaw bs place due last (block.Count at) =
    (at ≡ place) × (length bs ≡ 512) × (word bs 508 ≡ weighted bs 508) × (half bs 0 ≡ place) × KindFits due (kind_byte bs) × (CountFits last (count_byte bs) → ⊥)
BlockFaultLaw bs place due last (block.Padding at) =
    (at ≡ place) × (length bs ≡ 512) × (word bs 508 ≡ weighted bs 508) × (half bs 0 ≡ place) × KindFits due (kind_byte bs) × CountFits last (count_byte bs) × NotPadded bs

-- what the block reader's answer says of the bytes
abbrev pub BlockLaw : List ℕ → ℕ → ℕ → Bool → Result Block BlockFault → Type 0
BlockLaw bs place due last (Ok b) = (xs : List ℕ) × IsDueBlock bs place due last b.kind xs × (b.count ≡ length xs)
BlockLaw bs place due last (Err f) = BlockFaultLaw bs place due last f

-- block b of a paper is sound, or has this fault
abbrev pub SoundAt : List ℕ → ℕ → Type 0
SoundAt bs b = (kind : Kind) × (xs : List ℕ) × IsDueBlock (block_at bs b) b (due_kind bs b) (b + 1 == blocks bs) kind xs

abbrev pub FaultAt : List ℕ → ℕ → BlockFault → Type 0
FaultAt bs b f = BlockFaultLaw (block_at bs b) b (due_kind bs b) (b + 1 == blocks bs) f

-- the law of a paper's fault: the first block that is not sound has it
abbrev pub PaperFaultLaw : List ℕ → PaperFault → Type 0
PaperFaultLaw bs paper.Length = WholeBlocks bs → ⊥
PaperFaultLaw bs (paper.Block f) =
    WholeBlocks bs × ((b : ℕ) × (b < blocks bs) × FaultAt bs b f × ((j : ℕ) → j < b → SoundAt bs j))

-- what the paper reader's answer says of the bytes
abbrev pub ReadingLaw : List ℕ → Result Paper PaperFault → Type 0
ReadingLaw bs (Ok p) = IsPaper bs (held p).kind (held p).numbers
ReadingLaw bs (Err f) = PaperFaultLaw bs f
