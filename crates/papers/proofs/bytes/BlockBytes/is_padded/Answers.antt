use Rattle.std.proofs.Common.{◌≡◌, ℕ, ◌+◌, ◌-◌, ◌<◌, ◌≤◌, Bool, true, false, length, refl, subst, arith, rules, tests}
use Rattle.std.proofs.lemmas.Iterator.{cases_from_all, YieldsList-from_range}
use Rattle.std.proofs.lemmas.List.FromFn.{length-range_with_len, get_or-range_with_len}
use Rattle.std.specs.Bool.{MatchBool}
use Rattle.std.specs.List.{range_with_len, AllWithin, HoldsAt}
use Rattle.papers.specs.Block.{block_number}
use Rattle.papers.proofs.bytes.BlockBytes.is_padded.Goals as goal

-- what `all` answers over the numbers from a up to n
all_from : (P : ℕ → Type 0) (a n : ℕ) (r : Bool)
    → MatchBool r (AllWithin P (range_with_len a (n - a)) 0 (length (range_with_len a (n - a)))) ((k : ℕ) × (k < length (range_with_len a (n - a))) × HoldsAt (λ i. P i → ⊥) (range_with_len a (n - a)) k)
    → MatchBool r ((i : ℕ) → i < n → a ≤ i → P i) ((i : ℕ) × (i < n) × (a ≤ i) × (P i → ⊥))
all_from P a n true all = λ i within past.
    let at : a + (i - a) ≡ i = omega arith in
    let inside : i - a < n - a = omega arith in
    let here : i - a < length (range_with_len a (n - a)) = rw length-range_with_len inside in
    subst P at (subst P (get_or-range_with_len a (n - a) (i - a) 0 inside) (all (i - a) 0 (omega arith) here))
all_from P a n false some =
    let inside : some.0 < n - a = rw length-range_with_len at some.1 in
    (a + some.0, omega arith, omega arith, subst (λ i. P i → ⊥) (get_or-range_with_len a (n - a) some.0 0 inside) (some.2 0))

pub returns : goal.returns
returns c =
    let P : ℕ → Type 0 = λ i. block_number c.args.self.now.bytes.now i ≡ 0 in
    all_from P _ _ _
    (cases_from_all _ _ _ P (λ i. P i → ⊥) c.all.ensures.ran (YieldsList-from_range _ 126 _ c.padding.ensures refl)
    (λ x q k. search (rules, tests)) (λ x q k. search (rules, tests)))
