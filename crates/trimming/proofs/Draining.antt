-- The steps of a drain. Assumes nothing.
use Rattle.std.proofs.Common.{◌≡◌, ℕ, zero, suc, ◌+◌, ◌<◌, ◌≤◌, Bool, true, false, cond, eqb, ltb, List, [], ◌∷◌, ◌++◌, length, get_or, map, set, sum, take, refl, sym, ap, ◌∙◌, subst, inl, inr, arith}
use Rattle.std.specs.Prelude.{sum_by}
use mathlib.Core.Path.{fun_ext}
use Rattle.std.proofs.lemmas.Bool.{cases_eq, cases_lt, le-ltb, lt-ltb, ltb-true}
use Rattle.std.proofs.lemmas.List.{get_or_past, get_or-map, get_or-set_other, length-map}
use Rattle.std.proofs.lemmas.List.Sums.{count_by-le-length, sum_by-set, sum_by_more, sum_by_more_le}
use Rattle.trimming.specs.Draining.{AreDeadEnds, Lasting, Left, standing}
use Rattle.trimming.specs.Graphs.{intos, outs}
use Rattle.trimming.specs.Linking.{at, links, times_in}
use Rattle.trimming.specs.Trimming.{States, listed}
use Rattle.trimming.specs.declared.graph.Graph.{Graph}
use Rattle.trimming.proofs.Times.{count_inside, count_less, not_past, one_at, one_comm, one_same, one_other, sum_has, sum_ones, sum_plus, sum_some, times_push}

-- a drain under way: a state's count is of its links to states that stand, and each set that lasts stands
pub record Draining (ls : List (List ℕ)) (counts going : List ℕ) : Type 0 where
  pub size : length counts ≡ length ls
  pub inside : (q : ℕ) → 1 ≤ standing counts going q → q < length ls
  pub once : (q : ℕ) → standing counts going q ≤ 1
  pub counted : (q : ℕ) → get_or counts q 0 ≡ sum_by (standing counts going) (at ls q)
  pub keeps_lasting : (S : States) → Lasting ls S → (q : ℕ) → S q ≡ true → 1 ≤ standing counts going q

-- one if a count is not 0
abbrev one_if_some : ℕ → ℕ
one_if_some n = cond (ltb 0 n) 1 0

one_some : (n : ℕ) → 1 ≤ n → one_if_some n ≡ 1
one_some n some = ap (λ b. cond b 1 0) (lt-ltb 0 n some)

one_none : (n : ℕ) → n ≡ 0 → one_if_some n ≡ 0
one_none n none = ap (λ b. cond b 1 0) (le-ltb 0 n (omega arith))

some_one : (n : ℕ) → 1 ≤ one_if_some n → 1 ≤ n
some_one n one = not_past 0 n (λ none. omega (arith, one_none n (omega arith)))

pub some_of : (n : ℕ) → (n ≡ 0 → ⊥) → 1 ≤ n
some_of n other = not_past 0 n (λ none. other (omega arith))

-- how long the list of a state is
length-at : (ls : List (List ℕ)) (q : ℕ) → get_or (map length ls) q 0 ≡ length (at ls q)
length-at [] q = refl
length-at (l ∷ ls) zero = refl
length-at (l ∷ ls) (suc q) = length-at ls q

pub times_within : (xs : List ℕ) (q : ℕ) → times_in xs q ≤ length xs
times_within xs q = count_by-le-length (λ x. eqb x q) xs

-- a state that is popped stood once more
pub standing_pop : (counts going : List ℕ) (t q : ℕ) → standing counts (going ++ t ∷ []) q ≡ standing counts going q + one_at t q
standing_pop counts going t q = omega (arith, times_push going t q)

-- one link is taken from state x, which then has v
module _ (counts : List ℕ) (x v : ℕ) (less : v + 1 ≡ get_or counts x 0) where
  pub count_falls : sum (set counts x v) + 1 ≡ sum counts
  count_falls =
      let sums : sum (set counts x v) + get_or counts x 0 ≡ sum counts + v = sum_by-set (λ n. n) counts x v 0 (count_inside counts x (omega arith)) in
      omega arith

  pub standing_last : get_or (set counts x v) x 0 ≡ 0 → (going : List ℕ) (q : ℕ) → standing (set counts x v) (going ++ x ∷ []) q ≡ standing counts going q
  standing_last last going q =
      elim (cases_eq q x) [
        | inl same ↦
            let was : get_or counts q 0 ≡ get_or counts x 0 = rw same refl in
            let now : get_or (set counts x v) q 0 ≡ 0 = rw same last in
            omega (arith, times_push going x q, one_same x q (sym same), one_none (get_or (set counts x v) q 0) now, one_some (get_or counts q 0) (omega arith))
        | inr other ↦ omega (arith, times_push going x q, one_other x q (λ e. other (sym e)), ap one_if_some (get_or-set_other counts x q v 0 other))
      ]

  pub standing_stays : (get_or (set counts x v) x 0 ≡ 0 → ⊥) → (going : List ℕ) (q : ℕ) → standing (set counts x v) going q ≡ standing counts going q
  standing_stays more going q =
      elim (cases_eq q x) [
        | inl same ↦
            let was : get_or counts q 0 ≡ get_or counts x 0 = rw same refl in
            let now : get_or (set counts x v) q 0 ≡ get_or (set counts x v) x 0 = rw same refl in
            omega (arith, one_some (get_or (set counts x v) q 0) (omega (arith, some_of (get_or (set counts x v) x 0) more)), one_some (get_or counts q 0) (omega arith))
        | inr other ↦ ap (λ n. one_if_some n + times_in going q) (get_or-set_other counts x q v 0 other)
      ]

-- links have been taken from the first i states of a list
module _ (states counts now : List ℕ) (i : ℕ) (below : i < length states) (taken : (q : ℕ) → get_or now q 0 + times_in (take i states) q ≡ get_or counts q 0) where
  pub taken_some : ((q : ℕ) → times_in states q ≤ get_or counts q 0) → 1 ≤ get_or now (get_or states i 0) 0
  taken_some enough =
      let x = get_or states i 0 in
      omega (arith, enough x, taken x, sum_by_more_le (λ y. one_at y x) states i 0 below, one_same x x refl)

  pub taken_more : (v : ℕ) → v + 1 ≡ get_or now (get_or states i 0) 0 → (q : ℕ) → get_or (set now (get_or states i 0) v) q 0 + times_in (take (i + 1) states) q ≡ get_or counts q 0
  taken_more v less q = omega (arith, taken q, count_less now (get_or states i 0) v less q, sum_by_more (λ y. one_at y q) states i 0 below)

-- the first n states have been looked at for dead ends
pub record Seen (out into : List (List ℕ)) (n : ℕ) (going : List ℕ) : Type 0 where
  pub below : (q : ℕ) → 1 ≤ times_in going q → q < n
  pub once : (q : ℕ) → times_in going q ≤ 1
  pub left_by_none : (q : ℕ) → 1 ≤ times_in going q → length (at out q) ≡ 0
  pub led_to : (q : ℕ) → 1 ≤ times_in going q → 1 ≤ length (at into q)
  pub each : (q : ℕ) → q < n → length (at out q) ≡ 0 → 1 ≤ length (at into q) → 1 ≤ times_in going q

module _ (out into : List (List ℕ)) where
  pub seen_none : Seen out into 0 []
  seen_none = record {
    below = λ q has. absurd (omega arith);
    once = λ q. omega arith;
    left_by_none = λ q has. absurd (omega arith);
    led_to = λ q has. absurd (omega arith);
    each = λ q lt. absurd (omega arith);
  }

  module _ (n : ℕ) (going : List ℕ) (old : Seen out into n going) where
    pub seen_pass : (length (at out n) ≡ 0 → 1 ≤ length (at into n) → ⊥) → Seen out into (n + 1) going
    seen_pass other = record {
      below = λ q has. omega (arith, old.below q has);
      once = old.once;
      left_by_none = old.left_by_none;
      led_to = old.led_to;
      each = λ q lt none some.
          elim (cases_eq q n) [
            | inl same ↦ absurd (other (rw same at none) (rw same at some))
            | inr more ↦ old.each q (omega (arith, more)) none some
          ];
    }

    pub seen_push : length (at out n) ≡ 0 → 1 ≤ length (at into n) → Seen out into (n + 1) (going ++ n ∷ [])
    seen_push none some = record {
      below = λ q has.
          elim (cases_eq q n) [
            | inl same ↦ omega arith
            | inr other ↦ omega (arith, old.below q (omega (arith, times_push going n q, one_other n q (λ same. other (sym same)))))
          ];
      once = λ q.
          elim (cases_eq q n) [
            | inl same ↦
                let new : times_in going q < 1 = not_past (times_in going q) 1 (λ has. omega (arith, old.below q has)) in
                omega (arith, times_push going n q, one_same n q (sym same))
            | inr other ↦ omega (arith, old.once q, times_push going n q, one_other n q (λ same. other (sym same)))
          ];
      left_by_none = λ q has.
          elim (cases_eq q n) [
            | inl same ↦ rw same none
            | inr other ↦ old.left_by_none q (omega (arith, times_push going n q, one_other n q (λ same. other (sym same))))
          ];
      led_to = λ q has.
          elim (cases_eq q n) [
            | inl same ↦ rw same some
            | inr other ↦ old.led_to q (omega (arith, times_push going n q, one_other n q (λ same. other (sym same))))
          ];
      each = λ q lt unlinked linked.
          elim (cases_eq q n) [
            | inl same ↦ omega (arith, times_push going n q, one_same n q (sym same))
            | inr other ↦ omega (arith, times_push going n q, old.each q (omega (arith, other)) unlinked linked)
          ];
    }

    pub seen_all : n ≡ length out → n ≡ length into → AreDeadEnds out into going
    seen_all outs_end intos_end = record {
      inside = λ q has. omega (arith, old.below q has);
      once = old.once;
      left_by_none = old.left_by_none;
      led_to = old.led_to;
      each = λ q none some.
          old.each q (not_past q n (λ past. let past_all : length (at into q) ≡ 0 = ap (length {A = ℕ}) (get_or_past into q [] (omega arith)) in omega arith)) none some;
    }

module _ (g : Graph) where
  -- a drain begins
  module _ (counts going : List ℕ) (made : counts ≡ map length (outs g)) (ends : AreDeadEnds (outs g) (intos g) going) where
    count_is : (q : ℕ) → get_or counts q 0 ≡ length (at (outs g) q)
    count_is q = rw made (length-at (outs g) q)

    stands_once : (q : ℕ) → standing counts going q ≤ 1
    stands_once q =
        elim (cases_lt 0 (get_or counts q 0)) [
          | inl some ↦
              let unlisted : times_in going q < 1 = not_past (times_in going q) 1 (λ has. omega (arith, ends.left_by_none q has, count_is q)) in
              omega (arith, one_some (get_or counts q 0) some)
          | inr none ↦ omega (arith, one_none (get_or counts q 0) (omega arith), ends.once q)
        ]

    stands_inside : (q : ℕ) → 1 ≤ standing counts going q → q < length (outs g)
    stands_inside q stands =
        not_past q (length (outs g)) (λ past.
        let none : get_or counts q 0 ≡ 0 = count_is q ∙ ap (length {A = ℕ}) (get_or_past (outs g) q [] past) in
        omega (arith, ends.inside q (omega (arith, one_none (get_or counts q 0) none))))

    -- a state with a link, and one that a link leads to
    stands_from : (p q : ℕ) → 1 ≤ links (outs g) p q → 1 ≤ standing counts going p
    stands_from p q some = omega (arith, one_some (get_or counts p 0) (omega (arith, count_is p, times_within (at (outs g) p) q)))

    stands_to : (p q : ℕ) → 1 ≤ links (outs g) p q → 1 ≤ standing counts going q
    stands_to p q some =
        elim (cases_lt 0 (get_or counts q 0)) [
          | inl linked ↦ omega (arith, one_some (get_or counts q 0) linked)
          | inr none ↦ omega (arith, ends.each q (omega (arith, count_is q)) (omega (arith, g.reverse p q, times_within (at (intos g) q) p)))
        ]

    pub draining_starts : Draining (outs g) counts going
    draining_starts = record {
      size = ap length made ∙ length-map (outs g) (length {A = ℕ});
      inside = stands_inside;
      once = stands_once;
      counted = λ q. count_is q ∙ sum_ones (standing counts going) (at (outs g) q) (λ x has. omega (arith, stands_once x, stands_to q x has));
      keeps_lasting = λ S lasting q is. let to = lasting q is in stands_from q to.0 to.1;
    }

  -- a state goes
  module _ (counts going : List ℕ) (t : ℕ) (old : Draining (outs g) counts (going ++ t ∷ [])) where
    pub goes_inside : t < length (intos g)
    goes_inside = omega (arith, old.inside t (omega (arith, standing_pop counts going t t, one_same t t refl)), g.same_size)

    -- the links into it count still
    still_counted : (q : ℕ) → get_or counts q 0 ≡ sum_by (standing counts going) (at (outs g) q) + links (intos g) t q
    still_counted q =
        old.counted q
        ∙ sum_plus (standing counts (going ++ t ∷ [])) (standing counts going) (λ x. one_at x t) (λ x. omega (arith, standing_pop counts going t x, one_comm t x)) (at (outs g) q)
        ∙ ap (λ n. sum_by (standing counts going) (at (outs g) q) + n) (g.reverse q t)

    pub goes_counted : (q : ℕ) → links (intos g) t q ≤ get_or counts q 0
    goes_counted q = omega (arith, still_counted q)

    -- no set that lasts has it
    unlasting : (S : States) → Lasting (outs g) S → S t ≡ true → ⊥
    unlasting S lasting is =
        let to = lasting t is in
        let stands = old.keeps_lasting S lasting to.0 to.2 in
        let some = sum_has (standing counts (going ++ t ∷ [])) (at (outs g) t) to.0 to.1 in
        let links_left : 1 ≤ get_or counts t 0 = omega (arith, old.counted t) in
        omega (arith, old.once t, standing_pop counts going t t, one_same t t refl, one_some (get_or counts t 0) links_left)

    -- the links into it are taken out
    pub draining_goes : (counts' going' : List ℕ) → length counts' ≡ length counts → ((q : ℕ) → get_or counts' q 0 + links (intos g) t q ≡ get_or counts q 0) → ((q : ℕ) → standing counts' going' q ≡ standing counts going q) → Draining (outs g) counts' going'
    draining_goes counts' going' long taken same = record {
      size = long ∙ old.size;
      inside = λ q stands. old.inside q (omega (arith, same q, standing_pop counts going t q));
      once = λ q. omega (arith, old.once q, same q, standing_pop counts going t q);
      counted = λ q.
          let sums : sum_by (standing counts' going') (at (outs g) q) ≡ sum_by (standing counts going) (at (outs g) q) = ap (λ f. sum_by f (at (outs g) q)) (fun_ext same) in
          omega (arith, still_counted q, taken q);
      keeps_lasting = λ S lasting q is.
          let apart = one_other t q (λ here. unlasting S lasting (subst (λ x. S x ≡ true) (sym here) is)) in
          omega (arith, old.keeps_lasting S lasting q is, standing_pop counts going t q, same q);
    }

-- the states that have links
abbrev pub linked : List ℕ → List Bool
linked counts = map (λ n. ltb 0 n) counts

linked_is : (counts : List ℕ) (q : ℕ) → listed (linked counts) q ≡ ltb 0 (get_or counts q 0)
linked_is counts q =
    elim (cases_lt q (length counts)) [
      | inl lt ↦ get_or-map (λ n. ltb 0 n) counts q 0 false lt
      | inr ge ↦ get_or_past (linked counts) q false (omega (arith, length-map counts (λ n. ltb 0 n))) ∙ sym (ap (ltb 0) (get_or_past counts q 0 ge))
    ]

-- a drain ends
pub draining_ends : (ls : List (List ℕ)) (counts : List ℕ) → Draining ls counts [] → Left ls (listed (linked counts))
draining_ends ls counts end = record { lasts = lasts; largest = largest }
  where
    lasts : Lasting ls (listed (linked counts))
    lasts q is =
        let some : 1 ≤ get_or counts q 0 = ltb-true 0 _ (sym (linked_is counts q) ∙ is) in
        let to = sum_some (standing counts []) (at ls q) (omega (arith, end.counted q)) in
        (to.0, to.1, linked_is counts to.0 ∙ lt-ltb 0 _ (some_one (get_or counts to.0 0) (omega (arith, to.2))))

    largest : (S : States) → Lasting ls S → (q : ℕ) → S q ≡ true → listed (linked counts) q ≡ true
    largest S lasting q is = linked_is counts q ∙ lt-ltb 0 _ (some_one (get_or counts q 0) (omega (arith, end.keeps_lasting S lasting q is)))
