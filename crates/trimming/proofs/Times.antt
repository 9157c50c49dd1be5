-- How many times a list has a number, and sums over its numbers. Assumes nothing.
use Rattle.std.proofs.Common.{◌≡◌, ℕ, ◌+◌, ◌<◌, ◌≤◌, cond, ◌&&◌, eqb, List, [], ◌∷◌, ◌++◌, length, get_or, set, refl, sym, ap, ◌∙◌, inl, inr, arith}
use Rattle.std.specs.Prelude.{sum_by}
use Rattle.std.proofs.Math.Bool.{and_comm}
use Rattle.std.proofs.lemmas.Bool.{cases_eq, cases_lt, eq-eqb, ne_eqb}
use Rattle.std.proofs.lemmas.List.{get_or_past, get_or-set_same, get_or-set_other}
use Rattle.std.proofs.lemmas.List.Sums.{sum_by-cons, sum_by_push}
use Rattle.trimming.specs.Linking.{times_in}

-- a number that is not past another is below it
pub not_past : (i n : ℕ) → (n ≤ i → ⊥) → i < n
not_past i n not = elim (cases_lt i n) [ inl lt ↦ lt | inr past ↦ absurd (not past) ]

-- one if two numbers are the same
abbrev pub one_at : ℕ → ℕ → ℕ
one_at x q = cond (eqb x q) 1 0

pub one_same : (x q : ℕ) → x ≡ q → one_at x q ≡ 1
one_same x q same = ap (λ b. cond b 1 0) (eq-eqb x q same)

pub one_other : (x q : ℕ) → (x ≡ q → ⊥) → one_at x q ≡ 0
one_other x q other = ap (λ b. cond b 1 0) (ne_eqb x q other)

pub one_comm : (x q : ℕ) → one_at x q ≡ one_at q x
one_comm x q =
    elim (cases_eq x q) [
      | inl same ↦ one_same x q same ∙ sym (one_same q x (sym same))
      | inr other ↦ one_other x q other ∙ sym (one_other q x (λ same. other (sym same)))
    ]

-- one if both pairs are the same
abbrev pub both_at : ℕ → ℕ → ℕ → ℕ → ℕ
both_at f p t q = cond (eqb f p && eqb t q) 1 0

pub both_here : (f p t q : ℕ) → f ≡ p → both_at f p t q ≡ one_at t q
both_here f p t q here = ap (λ b. cond (b && eqb t q) 1 0) (eq-eqb f p here)

pub both_past : (f p t q : ℕ) → (f ≡ p → ⊥) → both_at f p t q ≡ 0
both_past f p t q past = ap (λ b. cond (b && eqb t q) 1 0) (ne_eqb f p past)

pub both_comm : (f p t q : ℕ) → both_at f p t q ≡ both_at t q f p
both_comm f p t q = ap (λ b. cond b 1 0) (and_comm (eqb f p) (eqb t q))

pub times-cons : (x : ℕ) (xs : List ℕ) (q : ℕ) → times_in (x ∷ xs) q ≡ one_at x q + times_in xs q
times-cons x xs q = sum_by-cons (λ y. one_at y q) x xs

pub times_push : (xs : List ℕ) (x q : ℕ) → times_in (xs ++ x ∷ []) q ≡ times_in xs q + one_at x q
times_push xs x q = sum_by_push (λ y. one_at y q) xs x

-- a count that is not 0 is in the list
pub count_inside : (counts : List ℕ) (q : ℕ) → 1 ≤ get_or counts q 0 → q < length counts
count_inside counts q some = not_past q (length counts) (λ past. omega (arith, get_or_past counts q 0 past))

-- one is taken from the count at x, which is then v
pub count_less : (counts : List ℕ) (x v : ℕ) → v + 1 ≡ get_or counts x 0 → (q : ℕ) → get_or (set counts x v) q 0 + one_at x q ≡ get_or counts q 0
count_less counts x v less q =
    elim (cases_eq q x) [
      | inl same ↦
          let now : get_or (set counts x v) q 0 ≡ v = rw same (get_or-set_same counts x v 0 (count_inside counts x (omega arith))) in
          let was : get_or counts q 0 ≡ get_or counts x 0 = rw same refl in
          omega (arith, one_same x q (sym same))
      | inr other ↦ omega (arith, get_or-set_other counts x q v 0 other, one_other x q (λ same. other (sym same)))
    ]

-- the sum of two
pub sum_plus : {X : Type 0} (f g h : X → ℕ) → ((x : X) → f x ≡ g x + h x) → (xs : List X) → sum_by f xs ≡ sum_by g xs + sum_by h xs
sum_plus f g h both [] = refl
sum_plus f g h both (x ∷ xs) = omega (arith, both x, sum_plus f g h both xs, sum_by-cons f x xs, sum_by-cons g x xs, sum_by-cons h x xs)

-- a sum of ones
pub sum_ones : (f : ℕ → ℕ) (xs : List ℕ) → ((x : ℕ) → 1 ≤ times_in xs x → f x ≡ 1) → length xs ≡ sum_by f xs
sum_ones f [] one = refl
sum_ones f (x ∷ xs) one =
    let here : f x ≡ 1 = one x (omega (arith, times-cons x xs x, one_same x x refl)) in
    omega (arith, sum_by-cons f x xs, sum_ones f xs (λ y has. one y (omega (arith, times-cons x xs y))))

-- a term is within the sum, and some term of a sum is not 0
pub sum_has : (f : ℕ → ℕ) (xs : List ℕ) (q : ℕ) → 1 ≤ times_in xs q → f q ≤ sum_by f xs
sum_has f [] q has = absurd (omega arith)
sum_has f (x ∷ xs) q has =
    elim (cases_eq x q) [
      | inl same ↦ let here : f x ≡ f q = ap f same in omega (arith, sum_by-cons f x xs)
      | inr other ↦ omega (arith, sum_by-cons f x xs, sum_has f xs q (omega (arith, times-cons x xs q, one_other x q other)))
    ]

pub sum_some : (f : ℕ → ℕ) (xs : List ℕ) → 1 ≤ sum_by f xs → (x : ℕ) × (1 ≤ times_in xs x) × (1 ≤ f x)
sum_some f [] some = absurd (omega arith)
sum_some f (x ∷ xs) some =
    elim (cases_lt 0 (f x)) [
      | inl here ↦ (x, omega (arith, times-cons x xs x, one_same x x refl), here)
      | inr none ↦
          let later = sum_some f xs (omega (arith, sum_by-cons f x xs)) in
          (later.0, omega (arith, later.1, times-cons x xs later.0), later.2)
    ]
