-- No row of the catalogue has a common factor: one test, computed over the whole table. Assumes nothing.
use Rattle.std.proofs.Common.{◌≡◌, ℕ, zero, suc, ◌-◌, ◌*◌, ◌%◌, ◌<◌, ◌≤◌, Bool, true, not, ◌&&◌, eqb, leb, List, [], ◌∷◌, length, get_or, refl, mul-zero, zero-mul, arith}
use Rattle.std.proofs.lemmas.Nat.{mul-le}
use Rattle.std.proofs.lemmas.Bool.{and_parts}
use Rattle.bottoms.specs.Catalogue.{is_row, multiplier, table, table_row}
use Rattle.bottoms.specs.Multiplying.{Coprime}
use Rattle.bottoms.specs.Multipliers.{Small}
use Rattle.bottoms.specs.declared.multiplier.Multiplier.{Multiplier}

abbrev divides_both : ℕ → ℕ → ℕ → Bool
divides_both k p d = eqb (p % k) 0 && eqb (d % k) 0

-- within the limits of a row
abbrev small : Multiplier → Bool
small r = leb 1 r.p && (leb r.p 4 && (leb 1 r.d && (leb r.d 4 && (leb r.low r.high && leb r.high 4))))

-- and 2, 3 and 4 are no common factors
abbrev lowest : Multiplier → Bool
lowest r = small r && (not (divides_both 2 r.p r.d) && (not (divides_both 3 r.p r.d) && not (divides_both 4 r.p r.d)))

abbrev all_lowest : List Multiplier → Bool
all_lowest [] = true
all_lowest (r ∷ rs) = lowest r && all_lowest rs

at_each :
    (rs : List Multiplier) (i : ℕ) (d : Multiplier) → all_lowest rs ≡ true → i < length rs →
    lowest (get_or rs i d) ≡ true
at_each [] i d all within = absurd (omega arith)
at_each (r ∷ rs) zero d all within = (and_parts (lowest r) _ all).0
at_each (r ∷ rs) (suc i) d all within = at_each rs i d (and_parts (lowest r) _ all).1 (omega arith)

-- a factor of both is none of those that the test rules out
not_common : (k p d : ℕ) → p % k ≡ 0 → d % k ≡ 0 → not (divides_both k p d) ≡ true → ⊥
not_common k p d low high test = grind arith

-- what the test says of a row
record Lowest (r : Multiplier) : Type 0 where
  limits : Small r
  no_two : not (divides_both 2 r.p r.d) ≡ true
  no_three : not (divides_both 3 r.p r.d) ≡ true
  no_four : not (divides_both 4 r.p r.d) ≡ true

small_parts : (r : Multiplier) → small r ≡ true → Small r
small_parts r test = record {
  some_p = grind arith;
  few_p = grind arith;
  some_d = grind arith;
  few_d = grind arith;
  in_order = grind arith;
  few_letters = grind arith;
}

lowest_parts : (r : Multiplier) → lowest r ≡ true → Lowest r
lowest_parts r test = record {
  limits = small_parts r (grind arith);
  no_two = grind arith;
  no_three = grind arith;
  no_four = grind arith;
}

too_large : (k p a : ℕ) → 5 ≤ k → 1 ≤ p → p ≤ 4 → p ≡ k * a → ⊥
too_large k p zero large some few is = omega (arith, is, mul-zero k)
too_large k p (suc a) large some few is = omega (arith, is, mul-le 5 1 k (suc a) large (omega arith))

coprime_by : (r : Multiplier) → Lowest r → Coprime r.p r.d
coprime_by r l zero a b p-is d-is = absurd (omega (arith, l.limits.some_p, p-is, zero-mul a))
coprime_by r l (suc zero) a b p-is d-is = refl
coprime_by r l (suc (suc zero)) a b p-is d-is =
    absurd (not_common 2 r.p r.d (omega (arith, p-is)) (omega (arith, d-is)) l.no_two)
coprime_by r l (suc (suc (suc zero))) a b p-is d-is =
    absurd (not_common 3 r.p r.d (omega (arith, p-is)) (omega (arith, d-is)) l.no_three)
coprime_by r l (suc (suc (suc (suc zero)))) a b p-is d-is =
    absurd (not_common 4 r.p r.d (omega (arith, p-is)) (omega (arith, d-is)) l.no_four)
coprime_by r l (suc (suc (suc (suc (suc k))))) a b p-is d-is =
    absurd (too_large (suc (suc (suc (suc (suc k))))) r.p a (omega arith) l.limits.some_p l.limits.few_p p-is)

rows_lowest : (k : ℕ) → is_row k ≡ true → Lowest (table_row k)
rows_lowest k row =
    lowest_parts _ (at_each table (k - 1) (multiplier 0 0 0 0) refl (grind arith))

-- no row's numerator and denominator have a common factor
pub rows_coprime : (k : ℕ) → is_row k ≡ true → Coprime (table_row k).p (table_row k).d
rows_coprime k row = coprime_by (table_row k) (rows_lowest k row)

pub rows_small : (k : ℕ) → is_row k ≡ true → Small (table_row k)
rows_small k row = (rows_lowest k row).limits
