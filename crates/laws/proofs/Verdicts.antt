-- What a verdict passes and which faults it answers, for one test and for tests in turn. Assumes nothing.
use Rattle.std.proofs.Common.{◌≡◌, ℕ, ◌<◌, Bool, true, false, ◌⊎◌, ◌↔◌, Ok, Err, Decides, refl, inl, inr, arith}
use Rattle.std.proofs.lemmas.Bool.Decides.{not_from_Decides}
use Rattle.papers.specs.First.{Verdict, must, ◌then◌, first}
use Rattle.papers.proofs.FirstLaws.{both_pass, first_law, first_passes, one_fails, pass_both, passed_not_failed}
use Rattle.laws.specs.Accepted.{FirstFault}
use Rattle.rules.specs.declared.fault.DocketFault.{DocketFault}
use Rattle.laws.proofs.RowLaws.{must_true, true_must}

-- it passes exactly where Fine holds, and answers a fault exactly where Fault holds of it
pub record Says (v : Verdict DocketFault) (Fine : Type 0) (Fault : DocketFault → Type 0) : Type 0 where
  pub passes : (v ≡ Ok tt) ↔ Fine
  pub fails : (f : DocketFault) → (v ≡ Err f) ↔ Fault f

exchanged : {A B C : Type 0} → A ↔ B → B ↔ C → A ↔ C
exchanged p q = (λ a. q.0 (p.0 a), λ c. p.1 (q.1 c))

-- the same in other words
pub says_as : {P Q : Type 0} {L M : DocketFault → Type 0} {v : Verdict DocketFault} → Says v P L → P ↔ Q → ((f : DocketFault) → L f ↔ M f) → Says v Q M
says_as s fine fault = record { passes = exchanged s.passes fine; fails = λ f. exchanged (s.fails f) (fault f) }

-- one that has passed, and one that has failed
pub pass_says : {P : Type 0} {L : DocketFault → Type 0} → P → ((f : DocketFault) → L f → ⊥) → Says (Ok tt) P L
pass_says p none = record {
  passes = (λ _. p, λ _. refl);
  fails = λ f. (λ e. absurd (passed_not_failed (Ok tt) f refl e), λ at. absurd (none f at));
}

pub fail_says : {P : Type 0} {L : DocketFault → Type 0} (f : DocketFault) → (P → ⊥) → ((g : DocketFault) → (g ≡ f) ↔ L g) → Says (Err f) P L
fail_says f bad fault = record {
  passes = (λ e. absurd (passed_not_failed (Err f) f e refl), λ p. absurd (bad p));
  fails = λ g. exchanged (λ e. cc, λ e. cc) (fault g);
}

-- one test
pub must_says : {P N : Type 0} (b : Bool) (f : DocketFault) → (b ≡ true → P) → (b ≡ false → N) → (P → N → ⊥) → Says (must b f) P (λ g. N × (g ≡ f))
must_says true f good bad apart = pass_says (good refl) (λ g at. apart (good refl) at.0)
must_says false f good bad apart = fail_says f (λ p. apart p (bad refl)) (λ g. (λ e. (bad refl, e), λ at. at.1))

pub decided_says : {P : Type 0} (b : Bool) (f : DocketFault) → Decides b P → Says (must b f) P (λ g. (P → ⊥) × (g ≡ f))
decided_says b f d = must_says b f d.0 (not_from_Decides b d) (λ p bad. bad p)

-- two in turn: a fault of the first, or one of the second where the first passes
module _ {P Q : Type 0} {L M : DocketFault → Type 0} {v w : Verdict DocketFault} (one : Says v P L) (two : P → Says w Q M) where
  pub then_says : Says (v then w) (P × Q) (λ f. L f ⊎ (P × M f))
  then_says = record {
    passes = (
      λ e. let both = both_pass v w e in let p = one.passes.0 both.0 in (p, (two p).passes.0 both.1),
      λ p. pass_both v w (one.passes.1 p.0) ((two p.0).passes.1 p.1),
    );
    fails = λ f. (
      λ e. elim (one_fails v w f e) [
        | inl here ↦ inl ((one.fails f).0 here)
        | inr next ↦ let p = one.passes.0 next.0 in inr (p, ((two p).fails f).0 next.1)
      ],
      λ at. elim at [
        | inl here ↦ rw ((one.fails f).1 here)
        | inr next ↦ rw (one.passes.1 next.0) (((two next.0).fails f).1 next.1)
      ],
    );
  }

-- a last test, where it is known what all pass for
module _ {P R : Type 0} {L : DocketFault → Type 0} {v : Verdict DocketFault} (one : Says v P L) (b : Bool) (o : DocketFault) (all : (v then must b o ≡ Ok tt) ↔ R) where
  decides_last : P → Decides b R
  decides_last p = (
    λ e. all.0 (pass_both v (must b o) (one.passes.1 p) (true_must b o e)),
    λ r. must_true b o (both_pass v (must b o) (all.1 r)).1,
  )

  pub last_says : Says (v then must b o) R (λ f. L f ⊎ (P × ((R → ⊥) × (f ≡ o))))
  last_says = record { passes = all; fails = (then_says one (λ p. decided_says b o (decides_last p))).fails }

-- n in turn: the first that fails
module _ {Fine : ℕ → Type 0} {Fault : ℕ → DocketFault → Type 0} {test : ℕ → Verdict DocketFault} (n : ℕ) (each : (i : ℕ) → i < n → Says (test i) (Fine i) (Fault i)) where
  pub first_says : Says (first test n) ((i : ℕ) → i < n → Fine i) (FirstFault Fine Fault n)
  first_says = record {
    passes = exchanged (first_passes test n) (
      λ pass i within. (each i within).passes.0 (pass i within),
      λ fine i within. (each i within).passes.1 (fine i within),
    );
    fails = λ f. exchanged (first_law test n f) (
      λ p. (p.0, p.1, ((each p.0 p.1).fails f).0 p.2, λ j before. (each j (omega (arith, p.1))).passes.0 (p.3 j before)),
      λ p. (p.0, p.1, ((each p.0 p.1).fails f).1 p.2, λ j before. (each j (omega (arith, p.1))).passes.1 (p.3 j before)),
    );
  }
