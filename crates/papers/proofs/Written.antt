-- Every kind and every 1 to 8064 numbers of 32 bits are the contents of some bytes. Assumes nothing.
use Rattle.std.proofs.Common.{◌≡◌, ℕ, zero, suc, ◌+◌, ◌-◌, ◌*◌, ◌/◌, ◌%◌, ◌^◌, ◌<◌, ◌≤◌, List, [], ◌∷◌, ◌++◌, length, get_or, take, drop, replicate, Ok, sym, refl, ap, ◌∙◌, subst, inl, inr, arith, length-append}
use lib.ListN.{length-replicate}
use Rattle.std.proofs.lemmas.Nat.{mul-le}
use Rattle.std.proofs.ByRecursion.{All-append, All-get_or}
use Rattle.std.proofs.lemmas.List.{take_at, drop_at, drop-drop, get_or_past, get_or_append_left, get_or-append-add}
use Rattle.std.proofs.lemmas.Bool.{cases_lt}
use Rattle.std.specs.List.{range_with_len, flat_map}
use Rattle.papers.proofs.Fields.{kind_small, length_part, get_d_part}
use Rattle.papers.proofs.Forms.{paper_reads}
use Rattle.papers.specs.Block.{block_number}
use Rattle.papers.specs.Bytes.{Bytes, word, weighted}
use Rattle.papers.specs.Form.{IsBlock, IsPaper, kind_number, part}
use Rattle.papers.specs.Paper.{block_at, contents_of}
use Rattle.papers.specs.declared.kind.Kind.{Kind}

-- a number in front of bytes, least byte first
abbrev then_word : ℕ → List ℕ → List ℕ
then_word x bs = x % 256 ∷ x / 256 % 256 ∷ x / 256 / 256 % 256 ∷ x / 256 / 256 / 256 % 256 ∷ bs

word_again : (x : ℕ) (bs : List ℕ) → x < 2 ^ 32 → word (then_word x bs) 0 ≡ x
word_again x bs h = omega arith

unfoldable words : List ℕ → List ℕ
words [] = []
words (x ∷ xs) = then_word x (words xs)

length_words : (xs : List ℕ) → length (words xs) ≡ 4 * length xs
unfolding words
length_words [] = refl
length_words (x ∷ xs) = omega (arith, length_words xs)

-- past the first four bytes
get_or_on : (a b c d : ℕ) (bs : List ℕ) (at n : ℕ) → at ≡ 4 + n → get_or (a ∷ b ∷ c ∷ d ∷ bs) at 0 ≡ get_or bs n 0
get_or_on a b c d bs at n e = let same : at ≡ suc (suc (suc (suc n))) = omega arith in rw same

word_on : (a b c d : ℕ) (bs : List ℕ) (at n : ℕ) → at ≡ 4 + n → word (a ∷ b ∷ c ∷ d ∷ bs) at ≡ word bs n
word_on a b c d bs at n e =
    let b0 = get_or_on a b c d bs at n e in
    let b1 = get_or_on a b c d bs (at + 1) (n + 1) (omega arith) in
    let b2 = get_or_on a b c d bs (at + 2) (n + 2) (omega arith) in
    let b3 = get_or_on a b c d bs (at + 3) (n + 3) (omega arith) in
    cc

word_words : (xs : List ℕ) (i : ℕ) → i < length xs → get_or xs i 0 < 2 ^ 32 → word (words xs) (4 * i) ≡ get_or xs i 0
unfolding words
word_words [] i h small = absurd (omega arith)
word_words (x ∷ xs) zero h small = word_again x (words xs) small
word_words (x ∷ xs) (suc i) h small =
    word_on _ _ _ _ (words xs) (4 * suc i) (4 * i) (omega arith) ∙ word_words xs i (omega arith) small

bytes_words : (xs : List ℕ) → Bytes (words xs)
unfolding words
bytes_words [] = tt
bytes_words (x ∷ xs) = (omega arith, (omega arith, (omega arith, (omega arith, bytes_words xs))))

-- a word in one of two joined lists
module _ (front bs : List ℕ) (at : ℕ) where
  word_front : at + 3 < length front → word (front ++ bs) at ≡ word front at
  word_front h =
      let b0 = get_or_append_left front bs 0 at (omega arith) in
      let b1 = get_or_append_left front bs 0 (at + 1) (omega arith) in
      let b2 = get_or_append_left front bs 0 (at + 2) (omega arith) in
      let b3 = get_or_append_left front bs 0 (at + 3) h in
      cc

  get_or_behind : (i k : ℕ) → length front ≡ at → i ≡ at + k → get_or (front ++ bs) i 0 ≡ get_or bs k 0
  get_or_behind i k size e =
      let same : i ≡ length front + k = omega arith in
      ap (λ j. get_or (front ++ bs) j 0) same ∙ get_or-append-add front bs k 0

  word_behind : length front ≡ at → word (front ++ bs) at ≡ word bs 0
  word_behind size =
      let b0 = get_or_behind at 0 size (omega arith) in
      let b1 = get_or_behind (at + 1) 1 size refl in
      let b2 = get_or_behind (at + 2) 2 size refl in
      let b3 = get_or_behind (at + 3) 3 size refl in
      cc

-- the check of the first bytes
weighted_front : (front bs : List ℕ) (n : ℕ) → n ≤ length front → weighted (front ++ bs) n ≡ weighted front n
unfolding weighted
weighted_front front bs zero h = refl
weighted_front front bs (suc n) h =
    let before = weighted_front front bs n (omega arith) in
    let here = get_or_append_left front bs 0 n h in
    cc

weighted_small : (bs : List ℕ) (n : ℕ) → Bytes bs → n ≤ length bs → n ≤ 508 → weighted bs n ≤ 129540 * n
unfolding weighted
weighted_small bs zero bytes h few = omega arith
weighted_small bs (suc n) bytes h few =
    let before = weighted_small bs n bytes (omega arith) (omega arith) in
    let here = All-get_or (λ b. b < 256) bs n 0 h bytes in
    omega (arith, mul-le (n + 1) (get_or bs n 0) 508 255 (omega arith) (omega arith))

-- 508 bytes with their check
abbrev with_check : List ℕ → List ℕ
with_check body = body ++ then_word (weighted body 508) []

module _ (body : List ℕ) (bytes : Bytes body) (size : length body ≡ 508) where
  check_size : length (with_check body) ≡ 512
  check_size = omega (arith, length-append body (then_word (weighted body 508) []))

  check_bytes : Bytes (with_check body)
  check_bytes = All-append (λ b. b < 256) body _ bytes (omega arith, (omega arith, (omega arith, (omega arith, tt))))

  check_agrees : word (with_check body) 508 ≡ weighted (with_check body) 508
  check_agrees =
      let sum : weighted body 508 < 2 ^ 32 = omega (arith, weighted_small body 508 bytes (omega arith) (omega arith)) in
      word_behind body _ 508 size ∙ word_again (weighted body 508) [] sum ∙ sym (weighted_front body _ 508 (omega arith))

-- numbers with zeros behind them, 126 in all
abbrev zeros : ℕ → List ℕ
zeros n = replicate n 0

abbrev filled : List ℕ → List ℕ
filled xs = xs ++ zeros (126 - length xs)

length_filled : (xs : List ℕ) → length xs ≤ 126 → length (filled xs) ≡ 126
length_filled xs h =
    let n : ℕ = 126 - length xs in
    omega (arith, length-append xs (zeros n), length-replicate {A = ℕ} n 0)

get_or_zeros : (n i : ℕ) → get_or (zeros n) i 0 ≡ 0
get_or_zeros zero i = refl
get_or_zeros (suc n) zero = refl
get_or_zeros (suc n) (suc i) = get_or_zeros n i

get_or_filled : (xs : List ℕ) (n i : ℕ) → get_or (xs ++ zeros n) i 0 ≡ get_or xs i 0
get_or_filled [] n i = get_or_zeros n i
get_or_filled (x ∷ xs) n zero = refl
get_or_filled (x ∷ xs) n (suc i) = get_or_filled xs n i

-- each number of the list is below 2 ^ 32
abbrev Small : List ℕ → Type 0
Small xs = (i : ℕ) → i < length xs → get_or xs i 0 < 2 ^ 32

small_past : (xs : List ℕ) → Small xs → (i : ℕ) → get_or xs i 0 < 2 ^ 32
small_past xs small i =
    elim (cases_lt i (length xs)) [
      | inl inside ↦ small i inside
      | inr past ↦ omega (arith, get_or_past xs i 0 past)
    ]

-- a block as it is written, without and with its check
abbrev block_body : ℕ → Kind → List ℕ → List ℕ
block_body place kind xs = place % 256 ∷ place / 256 % 256 ∷ kind_number kind ∷ length xs ∷ words (filled xs)

unfoldable block_bytes : ℕ → Kind → List ℕ → List ℕ
block_bytes place kind xs = with_check (block_body place kind xs)

module _ (place : ℕ) (kind : Kind) (xs : List ℕ) (most : length xs ≤ 126) where
  body_size : length (block_body place kind xs) ≡ 508
  body_size = omega (arith, length_words (filled xs), length_filled xs most)

  body_bytes : Bytes (block_body place kind xs)
  body_bytes = (omega arith, (omega arith, (omega (arith, (kind_small kind).1), (omega arith, bytes_words (filled xs)))))

  block_size : length (block_bytes place kind xs) ≡ 512
  unfolding block_bytes
  block_size = check_size (block_body place kind xs) body_bytes body_size

  bytes_block : Bytes (block_bytes place kind xs)
  unfolding block_bytes
  bytes_block = check_bytes (block_body place kind xs) body_bytes body_size

  block_number_is : Small xs → (i : ℕ) → i < 126 → block_number (block_bytes place kind xs) i ≡ get_or xs i 0
  unfolding block_bytes
  block_number_is small i h =
      let all = length_filled xs most in
      let same = get_or_filled xs (126 - length xs) i in
      let below : get_or (filled xs) i 0 < 2 ^ 32 = omega (arith, same, small_past xs small i) in
      word_on _ _ _ _ _ (4 + 4 * i) (4 * i) refl
      ∙ word_front (words (filled xs)) _ (4 * i) (omega (arith, length_words (filled xs)))
      ∙ word_words (filled xs) i (omega arith) below
      ∙ same

  block_written : 1 ≤ length xs → place < 65536 → Small xs → IsBlock (block_bytes place kind xs) place kind xs
  unfolding block_bytes
  block_written some near small =
      record { size = block_size; at = omega arith; marked = refl; counted = refl; some = some; most = most; each = block_number_is small; checked = check_agrees (block_body place kind xs) body_bytes body_size }

-- blocks of 512 bytes, joined
drop_block : (front rest : List ℕ) (b : ℕ) → length front ≡ 512 → drop (512 * suc b) (front ++ rest) ≡ drop (512 * b) rest
drop_block front rest b size =
    let skip : 512 * suc b ≡ 512 + 512 * b = omega arith in
    ap (λ k. drop k (front ++ rest)) skip ∙ sym (drop-drop (512 * b) 512 (front ++ rest)) ∙ ap (drop (512 * b)) (drop_at front rest 512 size)

module _ (f : ℕ → List ℕ) (size : (i : ℕ) → length (f i) ≡ 512) where
  joined_size : (a n : ℕ) → length (flat_map f (range_with_len a n)) ≡ 512 * n
  joined_size a zero = refl
  joined_size a (suc n) = omega (arith, length-append (f a) (flat_map f (range_with_len (a + 1) n)), size a, joined_size (a + 1) n)

  joined_at : (a n b at : ℕ) → b < n → a + b ≡ at → block_at (flat_map f (range_with_len a n)) b ≡ f at
  joined_at a zero b at h e = absurd (omega arith)
  joined_at a (suc n) zero at h e =
      let here : a ≡ at = omega arith in
      take_at (f a) (flat_map f (range_with_len (a + 1) n)) 512 (size a) ∙ ap f here
  joined_at a (suc n) (suc b) at h e =
      ap (take 512) (drop_block (f a) (flat_map f (range_with_len (a + 1) n)) b (size a)) ∙ joined_at (a + 1) n b at (omega arith) (omega arith)

  joined_bytes : ((i : ℕ) → Bytes (f i)) → (a n : ℕ) → Bytes (flat_map f (range_with_len a n))
  joined_bytes bytes a zero = tt
  joined_bytes bytes a (suc n) = All-append (λ b. b < 256) (f a) _ (bytes a) (joined_bytes bytes (a + 1) n)

part_most : (xs : List ℕ) (b : ℕ) → length (part xs b) ≤ 126
part_most xs b = omega (arith, length_part xs b)

part_small : (xs : List ℕ) (b : ℕ) → Small xs → Small (part xs b)
part_small xs b small i h =
    let size = length_part xs b in
    omega (arith, get_d_part xs b i (omega arith), small (126 * b + i) (omega arith))

-- block b of a paper as it is written, how many there are, and all of them
abbrev nth_block : Kind → List ℕ → ℕ → List ℕ
nth_block kind xs b = block_bytes b kind (part xs b)

abbrev block_count : List ℕ → ℕ
block_count xs = (length xs + 125) / 126

abbrev paper_bytes : Kind → List ℕ → List ℕ
paper_bytes kind xs = flat_map (nth_block kind xs) (range_with_len 0 (block_count xs))

module _ (kind : Kind) (xs : List ℕ) where
  nth_size : (b : ℕ) → length (nth_block kind xs b) ≡ 512
  nth_size b = block_size b kind (part xs b) (part_most xs b)

  paper_size : length (paper_bytes kind xs) ≡ 512 * block_count xs
  paper_size = joined_size (nth_block kind xs) nth_size 0 (block_count xs)

  bytes_paper : Bytes (paper_bytes kind xs)
  bytes_paper = joined_bytes (nth_block kind xs) nth_size (λ b. bytes_block b kind (part xs b) (part_most xs b)) 0 (block_count xs)

  nth_written : length xs ≤ 8064 → Small xs → (b : ℕ) → b < block_count xs → IsBlock (block_at (paper_bytes kind xs) b) b kind (part xs b)
  nth_written most small b h =
      let size = length_part xs b in
      subst (λ bs. IsBlock bs b kind (part xs b)) (sym (joined_at (nth_block kind xs) nth_size 0 (block_count xs) b b h (omega arith)))
      (block_written b kind (part xs b) (part_most xs b) (omega arith) (omega arith) (part_small xs b small))

  paper_written : 1 ≤ length xs → length xs ≤ 8064 → Small xs → IsPaper (paper_bytes kind xs) kind xs
  paper_written some most small =
      let size = paper_size in
      record {
        whole = record { whole = omega arith; some = omega arith; most = omega arith };
        each = λ b h. nth_written most small b (omega arith);
        reach = omega arith;
        within = omega arith;
      }

pub written : (kind : Kind) (xs : List ℕ) → 1 ≤ length xs → length xs ≤ 8064 → ((i : ℕ) → i < length xs → get_or xs i 0 < 2 ^ 32) → (bs : List ℕ) × Bytes bs × (contents_of bs ≡ Ok (record { kind = kind; numbers = xs }))
written kind xs some most small =
    (paper_bytes kind xs, bytes_paper kind xs, paper_reads _ kind xs (paper_written kind xs some most small))
