-- Searches among the numbers below a bound: for one of a kind, for the greatest of a kind, for where a function is greatest, and for two at which it is the same. Assumes nothing.
use Rattle.std.proofs.Common.{◌≡◌, ℕ, zero, suc, ◌<◌, ◌≤◌, cond, eqb, ◌⊎◌, inl, inr, arith, below_more}
use Rattle.std.proofs.lemmas.Bool.{cases_eq, cases_lt}
use Rattle.std.proofs.lemmas.Bool.Decides.{nat_tests}

-- it holds, or it does not
abbrev pub Known : Type 0 → Type 0
Known P = P ⊎ (P → ⊥)

module _ (P : ℕ → Type 0) where
  pub below_suc : (n : ℕ) → ((k : ℕ) → k < n → P k) → P n → (k : ℕ) → k < suc n → P k
  below_suc n below here k lt = below_more P n below here k (omega arith)

  -- one below n of which P holds
  abbrev pub Found : ℕ → Type 0
  Found n = (k : ℕ) × (k < n) × P k

  -- none below n
  abbrev pub Missing : ℕ → Type 0
  Missing n = (k : ℕ) → k < n → P k → ⊥

  -- the greatest below n
  abbrev pub Greatest : ℕ → Type 0
  Greatest n = (g : ℕ) × (g < n) × P g × ((k : ℕ) → k < n → P k → k ≤ g)

module _ (P : ℕ → Type 0) (known : (k : ℕ) → Known (P k)) where
  find_more : (n : ℕ) → Found P n ⊎ Missing P n → Known (P n) → Found P (suc n) ⊎ Missing P (suc n)
  find_more n (inl r) here = inl (r.0, omega arith, r.2)
  find_more n (inr none) (inl holds) = inl (n, omega arith, holds)
  find_more n (inr none) (inr not) = inr (below_suc (λ k. P k → ⊥) n none not)

  pub find : (n : ℕ) → Found P n ⊎ Missing P n
  find zero = inr (λ k lt holds. omega arith)
  find (suc n) = find_more n (find n) (known n)

  greatest_more : (n : ℕ) → Greatest P n → Known (P n) → Greatest P (suc n)
  greatest_more n r (inl holds) = (n, omega arith, holds, λ k lt at. omega arith)
  greatest_more n r (inr not) = (r.0, omega arith, r.2, below_suc (λ k. P k → k ≤ r.0) n r.3 (λ at. absurd (not at)))

  pub greatest : P 0 → (n : ℕ) → Greatest P (suc n)
  greatest start zero = (0, omega arith, start, λ k lt at. omega arith)
  greatest start (suc n) = greatest_more (suc n) (greatest start n) (known (suc n))

-- where a function is greatest below n
abbrev pub Peak : (ℕ → ℕ) → ℕ → Type 0
Peak f n = (q : ℕ) × (q < n) × ((k : ℕ) → k < n → f k ≤ f q)

peak_more : (f : ℕ → ℕ) (n : ℕ) → Peak f n → Peak f (suc n)
peak_more f n r =
    elim (cases_lt (f r.0) (f n)) [
      | inl higher ↦ (n, omega arith, below_suc (λ k. f k ≤ f n) n (λ k lt. omega (arith, r.2 k lt)) (omega arith))
      | inr low ↦ (r.0, omega arith, below_suc (λ k. f k ≤ f r.0) n r.2 low)
    ]

pub peak : (f : ℕ → ℕ) (n : ℕ) → 1 ≤ n → Peak f n
peak f zero some = absurd (omega arith)
peak f (suc zero) some = (0, omega arith, below_suc (λ k. f k ≤ f 0) 0 (λ k lt. absurd (omega arith)) (omega arith))
peak f (suc (suc n)) some = peak_more f (suc n) (peak f (suc n) (omega arith))

-- two numbers up to n at which a function is the same
abbrev pub Repeat : (ℕ → ℕ) → ℕ → Type 0
Repeat f n = (a : ℕ) × (b : ℕ) × (a < b) × (b ≤ n) × (f a ≡ f b)

-- a function with one value put in place of another
abbrev swapped : (ℕ → ℕ) → ℕ → ℕ → ℕ → ℕ
swapped f old new k = cond (eqb (f k) old) new (f k)

swapped_low : (f : ℕ → ℕ) (n new k : ℕ) → f k < suc n → new < suc n → (f k ≡ new → ⊥) → swapped f n new k < n
swapped_low f n new k low new-low apart = grind (arith, nat_tests)

swapped_same : (f : ℕ → ℕ) (n new a b : ℕ) → (f a ≡ new → ⊥) → (f b ≡ new → ⊥) → swapped f n new a ≡ swapped f n new b → f a ≡ f b
swapped_same f n new a b not_a not-b same = grind (arith, nat_tests)

-- more numbers than values: two have the same
pub pigeonhole : (n : ℕ) (f : ℕ → ℕ) → ((k : ℕ) → k ≤ n → f k < n) → Repeat f n
pigeonhole zero f low = absurd (omega (arith, low 0 (omega arith)))
pigeonhole (suc n) f low =
    elim (find (λ k. f k ≡ f (suc n)) (λ k. cases_eq (f k) (f (suc n))) (suc n)) [
      | inl r ↦ (r.0, suc n, omega arith, omega arith, r.2)
      | inr none ↦
          let r = pigeonhole n (swapped f n (f (suc n))) (λ k few. swapped_low f n (f (suc n)) k (low k (omega arith)) (low (suc n) (omega arith)) (none k (omega arith))) in
          (r.0, r.1, omega arith, omega arith, swapped_same f n (f (suc n)) r.0 r.1 (none r.0 (omega arith)) (none r.1 (omega arith)) r.4)
    ]
