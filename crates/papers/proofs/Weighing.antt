-- A block's check, byte by byte. Assumes nothing.
use Rattle.std.proofs.Common.{◌≡◌, ℕ, ◌+◌, ◌-◌, ◌*◌, ◌<◌, ◌≤◌, ◌⊎◌, List, ◌∷◌, length, get_or, take, sym, refl, ap, ◌∙◌, add-one, arith, get_or-take}
use Rattle.std.proofs.lemmas.Nat.{mul-le}
use Rattle.papers.specs.Bytes.{weighted}
use Rattle.papers.proofs.Numbering.{Numbered, none_passed, inside, here, more_passed, all_passed}

-- the bytes in front of this weight are in the sum, and those from it on are left
pub record Weighed (bs : List ℕ) (weight sum : ℕ) (left : List ℕ) : Type 0 where
  pub bytes : Numbered (take 508 bs) weight left
  pub summed : sum ≡ weighted bs bytes.passed
  pub small : sum ≤ 129540 * bytes.passed

pub none_weighed : (bs : List ℕ) → Weighed bs 1 0 (take 508 bs)
unfolding weighted
none_weighed bs = record { bytes = none_passed (take 508 bs); summed = refl; small = omega arith }

weighted_more : (bs : List ℕ) (n b s : ℕ) → s ≡ weighted bs n → b ≡ get_or bs n 0 → s + (n + 1) * b ≡ weighted bs (n + 1)
unfolding weighted
weighted_more bs n b s sum here = rw (sum, here) (sym (ap (weighted bs) (add-one n)))

module _ {bs : List ℕ} (long : length (take 508 bs) ≡ 508) {weight sum : ℕ} {left : List ℕ} (so : Weighed bs weight sum left) where
  module _ {byte : ℕ} {more : List ℕ} (fits : byte < 256) (at : left ≡ byte ∷ more) where
    -- one byte adds at most 508 × 255
    pub term_small : weight * byte ≤ 508 * 255
    term_small = mul-le weight byte 508 255 (omega (arith, so.bytes.next, inside so.bytes at, long)) (omega arith)

    pub sum_small : sum + weight * byte < 4294967296
    sum_small = omega (arith, term_small, so.small, so.bytes.within, long)

    pub more_weighed : Weighed bs (weight + 1) (sum + weight * byte) more
    more_weighed =
        let is : byte ≡ get_or bs so.bytes.passed 0 = here so.bytes at 0 ∙ get_or-take 508 bs so.bytes.passed 0 (omega (arith, inside so.bytes at, long)) in
        record {
          bytes = more_passed so.bytes at;
          summed = ap (λ n. sum + n * byte) so.bytes.next ∙ weighted_more bs so.bytes.passed byte sum so.summed is;
          small = omega (arith, term_small, so.small);
        }

  pub all_weighed : (4294967295 - weight ≡ 0) ⊎ (length left ≡ 0) → sum ≡ weighted bs 508
  all_weighed end = so.summed ∙ ap (weighted bs) (all_passed so.bytes 4294967295 (omega (arith, long)) end ∙ long)
