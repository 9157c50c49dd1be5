-- The first fault among numbered tests: the steps of a loop that makes them in turn. Assumes nothing.
use Rattle.std.proofs.Common.{◌≡◌, ℕ, zero, suc, ◌+◌, ◌<◌, IsErrAnd, Ok, Err, Result, sym, refl, subst, inl, inr, add-one, arith}
use Rattle.std.proofs.lemmas.Result.{err_from_is_err_and}
use Rattle.std.proofs.lemmas.Bool.{cases_lt}
use Rattle.papers.specs.First.{Verdict, ◌then◌, first, answered}

module _ {F : Type 0} (test : ℕ → Verdict F) where
  pub first_none : Ok tt ≡ first test 0
  unfolding first
  first_none = refl

  pub first_more : (i : ℕ) → first test i ≡ Ok tt → test i ≡ Ok tt → first test (i + 1) ≡ Ok tt
  unfolding first
  first_more i before here = rw (add-one, before) here

  pub first_found : (n i : ℕ) (f : F) → i < n → first test i ≡ Ok tt → test i ≡ Err f → first test n ≡ Err f
  unfolding first
  first_found zero i f within before here = absurd (omega arith)
  first_found (suc n) i f within before here =
      elim (cases_lt i n) [
        | inl lt ↦ rw (first_found n i f lt before here)
        | inr ge ↦
            let same : i ≡ n = omega arith in
            subst (λ k. first test k then test k ≡ Err f) same (rw before here)
      ]

  -- the loop's exit by `?`
  pub first_exit : (n i : ℕ) (r : Verdict F) (f : F) → IsErrAnd r (λ e. e ≡ f) → i < n → first test i ≡ Ok tt → Err f ≡ test i → r ≡ first test n
  first_exit n i r f by within before here =
      let p = err_from_is_err_and r by in
      rw (p.1, p.2) (sym (first_found n i f within before (sym here)))

-- what the answer says of the tests
pub passed : {F X : Type 0} (v : Verdict F) (x y : X) → Ok y ≡ answered v x → v ≡ Ok tt
passed (Ok u) x y e = refl
passed (Err f) x y e = cc

pub refused : {F X : Type 0} (v : Verdict F) (x : X) (f : F) → Err f ≡ answered v x → v ≡ Err f
refused (Ok u) x f e = cc
refused (Err g) x f e = cc

pub answer_of : {F X : Type 0} (v : Verdict F) (x y : X) → Ok y ≡ answered v x → y ≡ x
answer_of (Ok u) x y e = cc
answer_of (Err f) x y e = cc

-- the exit by `?` of a function that answers a value
pub answered_exit : {F X : Type 0} (v : Verdict F) (x : X) (r : Result X F) (f : F) → IsErrAnd r (λ e. e ≡ f) → v ≡ Err f → r ≡ answered v x
answered_exit v x r f by is = let p = err_from_is_err_and r by in rw (p.1, p.2, is)

pub first_exit_answered : {F X : Type 0} (test : ℕ → Verdict F) (x : X) (n i : ℕ) (r : Result X F) (f : F) → IsErrAnd r (λ e. e ≡ f) → i < n → first test i ≡ Ok tt → test i ≡ Err f → r ≡ answered (first test n) x
first_exit_answered test x n i r f by within before here = answered_exit _ x r f by (first_found test n i f within before here)
