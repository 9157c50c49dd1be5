-- The decimal digits of a number of at most three. Assumes nothing.
use Rattle.std.proofs.Common.{◌≡◌, ℕ, ◌+◌, ◌*◌, ◌/◌, ◌%◌, ◌≤◌, [], ◌∷◌, ◌++◌, decimal, ap, ◌∙◌, inl, inr, arith}
use Rattle.std.proofs.lemmas.Fmt.{decimal_digit, decimal_step}
use Rattle.std.proofs.lemmas.Bool.{cases_lt}

pub decimal_one : (a : ℕ) → a ≤ 9 → decimal a ≡ (48 + a) ∷ []
decimal_one a h = decimal_digit a (omega arith)

-- a number and one more digit
pub decimal_more : (n d : ℕ) → 1 ≤ n → n ≤ 99 → d ≤ 9 → decimal (10 * n + d) ≡ decimal n ++ (48 + d) ∷ []
decimal_more n d some few digit =
    let q : (10 * n + d) / 10 ≡ n = omega arith in
    let r : (10 * n + d) % 10 ≡ d = omega arith in
    let e = decimal_step (10 * n + d) (omega arith) (omega arith) in
    rw (q, r) at e

pub decimal_two : (a b : ℕ) → 1 ≤ a → a ≤ 9 → b ≤ 9 → decimal (10 * a + b) ≡ (48 + a) ∷ (48 + b) ∷ []
decimal_two a b some h k = decimal_more a b some (omega arith) k ∙ rw (decimal_one a h)

pub decimal_three : (a b c : ℕ) → 1 ≤ a → a ≤ 9 → b ≤ 9 → c ≤ 9
    → decimal (10 * (10 * a + b) + c) ≡ (48 + a) ∷ (48 + b) ∷ (48 + c) ∷ []
decimal_three a b c some h k l = decimal_more (10 * a + b) c (omega arith) (omega arith) l ∙ rw (decimal_two a b some h k)

-- the digits of a number below 1,000
pub data Shape : ℕ → Type 0 where
  one : {n : ℕ} → n ≤ 9 → decimal n ≡ (48 + n) ∷ [] → Shape n
  two : {n : ℕ} (a b : ℕ) → n ≡ 10 * a + b → 1 ≤ a → a ≤ 9 → b ≤ 9 → decimal n ≡ (48 + a) ∷ (48 + b) ∷ [] → Shape n
  three : {n : ℕ} (a b c : ℕ) → n ≡ 10 * (10 * a + b) + c → 1 ≤ a → a ≤ 9 → b ≤ 9 → c ≤ 9
      → decimal n ≡ (48 + a) ∷ (48 + b) ∷ (48 + c) ∷ [] → Shape n

pub shape : (n : ℕ) → n ≤ 999 → Shape n
shape n h =
    elim (cases_lt n 10) [
      | inl lt ↦ one (omega arith) (decimal_digit n lt)
      | inr ge ↦
          elim (cases_lt n 100) [
            | inl lt ↦
                let is : n ≡ 10 * (n / 10) + n % 10 = omega arith in
                two (n / 10) (n % 10) is (omega arith) (omega arith) (omega arith)
                (ap decimal is ∙ decimal_two (n / 10) (n % 10) (omega arith) (omega arith) (omega arith))
            | inr more ↦
                let is : n ≡ 10 * (10 * (n / 100) + n / 10 % 10) + n % 10 = omega arith in
                three (n / 100) (n / 10 % 10) (n % 10) is (omega arith) (omega arith) (omega arith) (omega arith)
                (ap decimal is ∙ decimal_three (n / 100) (n / 10 % 10) (n % 10) (omega arith) (omega arith) (omega arith) (omega arith))
          ]
    ]
