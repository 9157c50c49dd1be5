-- The fields of a block as they stand in its paper: its bytes, its words, its part of the numbers. Assumes nothing.
use Rattle.std.proofs.Common.{◌≡◌, ℕ, ◌+◌, ◌-◌, ◌*◌, ◌<◌, ◌≤◌, min, List, length, get_or, drop, refl, ap, ◌∙◌, arith, lit<, length-drop, length-take, get_or-drop, get_or-take}
use Rattle.std.proofs.lemmas.Bool.Decides.{nat_tests}
use Rattle.papers.specs.Block.{block_number, kind_of, kind_byte}
use Rattle.papers.specs.Bytes.{word}
use Rattle.papers.specs.Form.{kind_number, part}
use Rattle.papers.specs.Paper.{block_at}
use Rattle.papers.specs.declared.kind.Kind.{Kind}
use Rattle.papers.specs.declared.kind.Kind.TheVariants.{Strip, Ring, Ranking, Torus}

-- the bytes of a block are those of the paper, from the block's start on
pub byte_at : (bs : List ℕ) (b i at : ℕ) → i < 512 → 512 * b + i ≡ at → get_or (block_at bs b) i 0 ≡ get_or bs at 0
byte_at bs b i at h e =
    get_or-take 512 (drop (512 * b) bs) i 0 h ∙ get_or-drop (512 * b) bs i 0 ∙ ap (λ j. get_or bs j 0) e

pub number_in : (bs : List ℕ) (b i : ℕ) → i < 126 → block_number (block_at bs b) i ≡ word bs (512 * b + 4 + 4 * i)
number_in bs b i h =
    let b0 = byte_at bs b (4 + 4 * i) (512 * b + 4 + 4 * i) (omega arith) (omega arith) in
    let b1 = byte_at bs b (4 + 4 * i + 1) (512 * b + 4 + 4 * i + 1) (omega arith) (omega arith) in
    let b2 = byte_at bs b (4 + 4 * i + 2) (512 * b + 4 + 4 * i + 2) (omega arith) (omega arith) in
    let b3 = byte_at bs b (4 + 4 * i + 3) (512 * b + 4 + 4 * i + 3) (omega arith) (omega arith) in
    cc

-- the kind byte of block 0 is the paper's
pub kind_of_first : (bs : List ℕ) → kind_byte (block_at bs 0) ≡ kind_byte bs
kind_of_first bs = byte_at bs 0 2 2 (lit< tt) refl

pub kind_again : (kind : Kind) → kind_of (kind_number kind) ≡ kind
kind_again Strip = refl
kind_again Ring = refl
kind_again Ranking = refl
kind_again Torus = refl

pub number_of_kind : (k : ℕ) → 1 ≤ k → k ≤ 4 → kind_number (kind_of k) ≡ k
number_of_kind k some most = grind (arith, nat_tests)

pub kind_small : (kind : Kind) → (1 ≤ kind_number kind) × (kind_number kind ≤ 4)
kind_small Strip = (omega arith, omega arith)
kind_small Ring = (omega arith, omega arith)
kind_small Ranking = (omega arith, omega arith)
kind_small Torus = (omega arith, omega arith)

-- how many numbers stand in block b
pub length_part : (xs : List ℕ) (b : ℕ) → length (part xs b) ≡ min 126 (length xs - 126 * b)
length_part xs b = simp (length-take, length-drop)

pub get_d_part : (xs : List ℕ) (b i : ℕ) → i < 126 → get_or (part xs b) i 0 ≡ get_or xs (126 * b + i) 0
get_d_part xs b i h = get_or-take 126 (drop (126 * b) xs) i 0 h ∙ get_or-drop (126 * b) xs i 0
