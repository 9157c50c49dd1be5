-- What the first fault among numbered tests says of each test. Assumes nothing.
use Rattle.std.proofs.Common.{◌≡◌, ℕ, zero, suc, ◌<◌, ◌⊎◌, ◌↔◌, Ok, Err, refl, inl, inr, arith}
use Rattle.std.proofs.lemmas.Bool.{cases_lt}
use Rattle.papers.proofs.Order.{first_found}
use Rattle.papers.specs.First.{Verdict, ◌then◌, first}

-- two tests in turn
pub both_pass : {F : Type 0} (v w : Verdict F) → v then w ≡ Ok tt → (v ≡ Ok tt) × (w ≡ Ok tt)
both_pass (Ok u) w e = (refl, e)
both_pass (Err f) w e = absurd (cc)

pub pass_both : {F : Type 0} (v w : Verdict F) → v ≡ Ok tt → w ≡ Ok tt → v then w ≡ Ok tt
pass_both v w p q = rw p q

pub one_fails : {F : Type 0} (v w : Verdict F) (f : F) → v then w ≡ Err f → (v ≡ Err f) ⊎ ((v ≡ Ok tt) × (w ≡ Err f))
one_fails (Ok u) w f e = inr (refl, e)
one_fails (Err g) w f e = inl e

pub passed_not_failed : {F : Type 0} (v : Verdict F) (f : F) → v ≡ Ok tt → v ≡ Err f → ⊥
passed_not_failed v f p q = cc

module _ {F : Type 0} (test : ℕ → Verdict F) where
  all_from_first : (n : ℕ) → first test n ≡ Ok tt → (i : ℕ) → i < n → test i ≡ Ok tt
  unfolding first
  all_from_first zero e i within = absurd (omega arith)
  all_from_first (suc n) e i within =
      let both = both_pass (first test n) (test n) e in
      elim (cases_lt i n) [
        | inl lt ↦ all_from_first n both.0 i lt
        | inr ge ↦ let same : i ≡ n = omega arith in rw same both.1
      ]

  first_from_all : (n : ℕ) → ((i : ℕ) → i < n → test i ≡ Ok tt) → first test n ≡ Ok tt
  unfolding first
  first_from_all zero each = refl
  first_from_all (suc n) each =
      pass_both (first test n) (test n) (first_from_all n (λ i within. each i (omega arith))) (each n (omega arith))

  -- all pass where each does
  pub first_passes : (n : ℕ) → (first test n ≡ Ok tt) ↔ ((i : ℕ) → i < n → test i ≡ Ok tt)
  first_passes n = (all_from_first n, first_from_all n)

  found_in_first : (n : ℕ) (f : F) → first test n ≡ Err f → (i : ℕ) × (i < n) × (test i ≡ Err f) × ((j : ℕ) → j < i → test j ≡ Ok tt)
  unfolding first
  found_in_first zero f e = absurd (cc)
  found_in_first (suc n) f e =
      elim (one_fails (first test n) (test n) f e) [
        | inl before ↦ let p = found_in_first n f before in (p.0, omega (arith, p.1), p.2, p.3)
        | inr here ↦ (n, omega arith, here.1, all_from_first n here.0)
      ]

  -- the fault is that of the first test that fails
  pub first_law : (n : ℕ) (f : F) → (first test n ≡ Err f) ↔ ((i : ℕ) × (i < n) × (test i ≡ Err f) × ((j : ℕ) → j < i → test j ≡ Ok tt))
  first_law n f =
      (found_in_first n f, λ p. first_found test n p.0 f p.1 (first_from_all p.0 p.3) p.2)
