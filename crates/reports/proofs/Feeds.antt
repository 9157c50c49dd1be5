-- Line feeds counted byte by byte, and where lines start and end. Assumes nothing.
use Rattle.std.proofs.Common.{Option, Some, None, drop, sym, ◌==◌, MatchOption, ◌≡◌, ℕ, zero, suc, ◌+◌, ◌-◌, ◌<◌, ◌≤◌, ◌≢◌, List, length, get_or, refl, inl, inr, add-one, arith}
use Rattle.std.proofs.lemmas.Bool.{eq-eqb, ne_eqb, cases_lt, cases_order}
use Rattle.std.specs.List.{position, position_or_len, slice_range}
use Rattle.std.proofs.lemmas.Grind.{common_steps}
use Rattle.std.proofs.lemmas.List.{take_rest}
use Rattle.std.proofs.lemmas.List.Quantifiers.{position-Some}
use Rattle.std.proofs.lemmas.List.Sums.{fails_before_first}
use Rattle.reports.specs.Excerpts.{feeds, LineStart, LineEnd, NoLine}

module _ (bs : List ℕ) where
  pub feeds_none : feeds bs 0 ≡ 0
  unfolding feeds
  feeds_none = refl

  pub feeds_feed : (n : ℕ) → get_or bs n 0 ≡ 10 → feeds bs (n + 1) ≡ feeds bs n + 1
  unfolding feeds
  feeds_feed n feed = rw (add-one n, eq-eqb (get_or bs n 0) 10 feed)

  pub feeds_plain : (n : ℕ) → get_or bs n 0 ≢ 10 → feeds bs (n + 1) ≡ feeds bs n
  unfolding feeds
  feeds_plain n plain = rw (add-one n, ne_eqb (get_or bs n 0) 10 plain) (omega arith)

  -- what looking for a line feed from a byte on found: none before the first, and then it or the end
  pub feed_found :
      (s : ℕ) (r : Option ℕ) → s ≤ length bs → r ≡ position (λ b. b == 10) (slice_range bs s (length bs)) →
      MatchOption r (LineEnd bs s (length bs)) (λ n. (s + n < length bs) × LineEnd bs s (s + n))
  feed_found s r within is = found r (rw (take_rest bs s) at is)
    where
      plain_until : (k : ℕ) → s ≤ k → k < s + position_or_len (λ b. b == 10) (drop s bs) → get_or bs k 0 ≢ 10
      plain_until k from below feed =
          let other = fails_before_first (λ b. b == 10) (drop s bs) (k - s) 0 (omega arith) in
          grind (arith, common_steps, other, feed)

      found :
          (r : Option ℕ) → r ≡ position (λ b. b == 10) (drop s bs) →
          MatchOption r (LineEnd bs s (length bs)) (λ n. (s + n < length bs) × LineEnd bs s (s + n))
      found None is = record {
        from = within;
        within = omega arith;
        plain = λ k from below. plain_until k from (grind (arith, common_steps, is));
        stop = inl refl;
      }
      found (Some n) is =
          let first = position-Some (λ b. b == 10) (drop s bs) n 0 (sym is) in (
            grind (arith, common_steps, first.0),
            record {
              from = omega arith;
              within = grind (arith, common_steps, first.0);
              plain = λ k from below. grind (arith, common_steps, first.2 (k - s));
              stop = inr (grind (arith, common_steps, first.1));
            },
          )

  feeds_rise : (m n : ℕ) → m ≤ n → feeds bs m ≤ feeds bs n
  unfolding feeds
  feeds_rise m zero h = let same : m ≡ 0 = omega arith in rw same (omega arith)
  feeds_rise m (suc n) h =
      elim (cases_lt n m) [
        | inl past ↦ let same : m ≡ suc n = omega arith in rw same (omega arith)
        | inr below ↦ omega (arith, feeds_rise m n below)
      ]

  -- none along bytes that are no line feeds
  feeds_along :
      (s e : ℕ) → s ≤ e → ((k : ℕ) → s ≤ k → k < e → get_or bs k 0 ≢ 10) → feeds bs e ≡ feeds bs s
  feeds_along s zero h plain = let same : s ≡ 0 = omega arith in rw same refl
  feeds_along s (suc e) h plain =
      elim (cases_lt e s) [
        | inl past ↦ let same : s ≡ suc e = omega arith in rw same refl
        | inr within ↦
            let here = plain e within (omega arith) in
            let step : feeds bs (suc e) ≡ feeds bs e = rw (← add-one e) (feeds_plain e here) in
            omega (arith, step, feeds_along s e within (λ k from below. plain k from (omega arith)))
      ]

  -- the first line starts at the front
  pub first_line : LineStart bs 1 0
  first_line = record { within = omega arith; count = omega (arith, feeds_none); fresh = inl refl }

  -- any other starts after the line feed of the line before it
  pub line_after :
      (line s n : ℕ) → LineStart bs line s → Some n ≡ position (λ b. b == 10) (slice_range bs s (length bs)) →
      LineStart bs (line + 1) (s + (n + 1))
  line_after line s n start is =
      let found = feed_found s (Some n) start.within is in
      let feed : get_or bs (s + n) 0 ≡ 10 = grind (arith, found) in
      let along = feeds_along s (s + n) (omega arith) found.1.plain in
      let before : s + (n + 1) - 1 ≡ s + n = omega arith in
      let after : s + n + 1 ≡ s + (n + 1) = omega arith in
      record {
        within = omega (arith, found.0);
        count = omega (arith, rw after at (feeds_feed (s + n) feed), along, start.count);
        fresh = inr (rw before feed);
      }

  -- and where none follows it, the line is the last
  pub last_line :
      (line s : ℕ) → LineStart bs line s → None ≡ position (λ b. b == 10) (slice_range bs s (length bs)) →
      feeds bs (length bs) + 1 ≡ line
  last_line line s start is =
      let end = feed_found s None start.within is in
      omega (arith, feeds_along s (length bs) start.within end.plain, start.count)

  -- a line starts at one byte
  no_earlier_start : (line s t : ℕ) → LineStart bs line s → LineStart bs line t → s < t → ⊥
  no_earlier_start line s t a b earlier =
      elim b.fresh [
        | inl front ↦ omega arith
        | inr feed ↦
            let same : t - 1 + 1 ≡ t = omega arith in
            omega (arith, rw same at (feeds_feed (t - 1) feed), feeds_rise s (t - 1) (omega arith))
      ]

  pub one_start : (line s t : ℕ) → LineStart bs line s → LineStart bs line t → s ≡ t
  one_start line s t a b =
      elim (cases_order s t) [
        | inl same ↦ same
        | inr (inl lt) ↦ absurd (no_earlier_start line s t a b lt)
        | inr (inr gt) ↦ absurd (no_earlier_start line t s b a gt)
      ]

  -- and ends before one byte
  no_earlier_end : (s t e f : ℕ) → s ≡ t → LineEnd bs s e → LineEnd bs t f → e < f → ⊥
  no_earlier_end s t e f same a b earlier =
      elim a.stop [ inl end ↦ omega arith | inr feed ↦ b.plain e (omega arith) earlier feed ]

  pub one_end : (s t e f : ℕ) → s ≡ t → LineEnd bs s e → LineEnd bs t f → e ≡ f
  one_end s t e f same a b =
      elim (cases_order e f) [
        | inl end ↦ end
        | inr (inl lt) ↦ absurd (no_earlier_end s t e f same a b lt)
        | inr (inr gt) ↦ absurd (no_earlier_end t s f e (omega arith) b a gt)
      ]

  pub line_or_none : (line s : ℕ) → LineStart bs line s → NoLine bs line → ⊥
  line_or_none line s a (inl zeroth) = omega arith
  line_or_none line s a (inr past) = omega (arith, feeds_rise s (length bs) a.within)
