-- The promise, from soundness and the either_or. Assumes nothing.
use Rattle.std.proofs.Common.{◌≡◌, ℕ, zero, suc, ◌+◌, ◌^◌, ◌<◌, ◌≤◌, min, max, ◌↔◌, List, [], ◌∷◌, map, length, get_or, Ok, Err, Result, sym, refl, ap, ◌∙◌, subst, inl, inr, arith}
use Rattle.std.proofs.lemmas.List.FromFn.{get_or-map-range_with_len, length-map-range_with_len}
use Rattle.std.proofs.lemmas.Bool.{cases_lt}
use Rattle.std.specs.List.{range_with_len}
use Rattle.papers.specs.Bytes.{Bytes}
use Rattle.papers.specs.First.{answered}
use Rattle.papers.specs.Paper.{Contents, contents_of}
use Rattle.papers.specs.declared.kind.Kind.{Kind}
use Rattle.papers.specs.declared.kind.Kind.TheVariants.{Strip as OfStrip, Ring as OfRing, Ranking as OfRanking, Torus as OfTorus}
use Rattle.papers.proofs.Lengths.{some_numbers}
use Rattle.papers.proofs.Order.{passed}
use Rattle.papers.proofs.Written.{written}
use Rattle.transducers.specs.Meaning.{Meaning, Valid, from, to}
use Rattle.transducers.specs.Stacking.{Copies}
use Rattle.rules.specs.Filing.{ends_after, judged, judged_contents, rule, shows}
use Rattle.laws.specs.Promise.{Call, Holds, KeepsCeiling, NothingMoves, Promise, ReachesFloor, TakesTorus, after_call, after_calls, reached}
use Rattle.laws.specs.Promise.Call.{files, asks_ends, asks_tally}
use Rattle.rules.specs.Ranks.{height, highest}
use Rattle.laws.specs.Walking.{HasStrip, RankingOn, Ring, Walk}
use Rattle.rules.specs.Widths.{fresh_ends, moved, narrower, wider}
use Rattle.rules.specs.declared.fault.DocketFault.{DocketFault}
use Rattle.rules.specs.declared.width.Claim.{Claim}
use Rattle.rules.specs.declared.width.Claim.TheVariants.{Reaches, Limits}
use Rattle.rules.specs.declared.width.Ends.{Ends}
use Rattle.rules.specs.declared.width.Width.{Width}
use Rattle.rules.specs.declared.width.Width.TheVariants.{Number, Endless}
use Rattle.laws.proofs.Bands.{torus_ring}
use Rattle.laws.proofs.EitherOr.{either_or}
use Rattle.laws.proofs.Kept.{Sound, judged_sound, ranking_limits, ring_reaches}
use Rattle.laws.proofs.Paths.{ring_strips, walk_slot}
use Rattle.laws.proofs.Ranked.{Ranked}
use Rattle.laws.proofs.RuleLaws.{ranking_law, ring_law, strip_law}
use Rattle.laws.proofs.TorusLaws.{torus_law}

-- ends that say what is so
pub record Upheld (m : Meaning) (e : Ends) : Type 0 where
  pub floor_reached : ReachesFloor m e.floor
  pub ceiling_kept : KeepsCeiling m e.ceiling

-- the wider of two reached widths is reached, and the narrower of two limits is kept
reaches_wider : (m : Meaning) (a b : Width) → ReachesFloor m a → ReachesFloor m b → ReachesFloor m (wider a b)
reaches_wider m (Number a) (Number b) p q =
    elim (cases_lt a b) [
      | inl lt ↦ let same : b ≡ max a b = omega arith in subst (λ n. 1 ≤ n → HasStrip m n) same q
      | inr ge ↦ let same : a ≡ max a b = omega arith in subst (λ n. 1 ≤ n → HasStrip m n) same p
    ]
reaches_wider m (Number a) Endless p q = q
reaches_wider m Endless b p q = p

keeps_narrower : (m : Meaning) (a b : Width) → KeepsCeiling m a → KeepsCeiling m b → KeepsCeiling m (narrower a b)
keeps_narrower m (Number a) (Number b) p q =
    elim (cases_lt a b) [
      | inl lt ↦ let same : a ≡ min a b = omega arith in subst (λ n. (w : ℕ) → n < w → HasStrip m w → ⊥) same p
      | inr ge ↦ let same : b ≡ min a b = omega arith in subst (λ n. (w : ℕ) → n < w → HasStrip m w → ⊥) same q
    ]
keeps_narrower m (Number a) Endless p q = p
keeps_narrower m Endless b p q = q

module _ (m : Meaning) (v : Valid m) where
  moved_upheld : (e : Ends) (a : Claim) → Upheld m e → Sound m a → Upheld m (moved e a)
  moved_upheld e (Reaches w) u s = record {
    floor_reached = reaches_wider m e.floor w u.floor_reached s;
    ceiling_kept = u.ceiling_kept;
  }
  moved_upheld e (Limits w) u s = record {
    floor_reached = u.floor_reached;
    ceiling_kept = keeps_narrower m e.ceiling w u.ceiling_kept s;
  }

  filed_upheld : (e : Ends) (bs : List ℕ) (r : Result Claim DocketFault) → judged m bs ≡ r → Upheld m e → Upheld m (ends_after e r)
  filed_upheld e bs (Ok a) is u = moved_upheld e a u (judged_sound m v bs a is)
  filed_upheld e bs (Err f) is u = u

  call_upheld : (e : Ends) (c : Call) → Upheld m e → Upheld m (after_call m e c)
  call_upheld e (files bs bytes) u = filed_upheld e bs (judged m bs) refl u
  call_upheld e asks_ends u = u
  call_upheld e (asks_tally s) u = u

  calls_upheld : (cs : List Call) (e : Ends) → Upheld m e → Upheld m (after_calls m e cs)
  calls_upheld [] e u = u
  calls_upheld (c ∷ cs) e u = calls_upheld cs (after_call m e c) (call_upheld e c u)

  fresh_upheld : Upheld m fresh_ends
  fresh_upheld = record { floor_reached = λ some. absurd (omega arith); ceiling_kept = tt }

  -- a list of numbers that keeps a rule has bytes that are accepted
  module _ (k : Kind) (xs : List ℕ) (some : 1 ≤ length xs) (few : length xs ≤ 8064) (small : (i : ℕ) → i < length xs → get_or xs i 0 < 2 ^ 32) (keeps : rule m k xs ≡ Ok tt) where
    pub accepted : (bs : List ℕ) × Bytes bs × (judged m bs ≡ Ok (shows k xs))
    accepted =
        let w = written k xs some few small in
        (w.0, w.1, ap (judged_contents m) w.2 ∙ ap (λ u. answered u (shows k xs)) keeps)

  -- where the ends are equal, a width that is reached does not move the floor
  reach_stays : (f c w : Width) → f ≡ c → KeepsCeiling m c → ReachesFloor m w → wider f w ≡ f
  reach_stays (Number a) c (Number b) same kept reach =
      let keeps : (n : ℕ) → a < n → HasStrip m n → ⊥ = subst (KeepsCeiling m) (sym same) kept in
      elim (cases_lt a b) [
        | inl lt ↦ absurd (keeps b lt (reach (omega arith)))
        | inr ge ↦ ap Number (omega arith)
      ]
  reach_stays (Number a) c Endless same kept reach =
      let keeps : (n : ℕ) → a < n → HasStrip m n → ⊥ = subst (KeepsCeiling m) (sym same) kept in
      absurd (keeps (a + 1) (omega arith) (reach (a + 1) (omega arith)))
  reach_stays Endless c w same kept reach = refl

  -- and a limit that is kept does not move the ceiling
  limit_stays : (f c w : Width) → f ≡ c → ReachesFloor m f → KeepsCeiling m w → narrower c w ≡ c
  limit_stays f (Number a) (Number b) same reach kept =
      let reaches : 1 ≤ a → HasStrip m a = subst (ReachesFloor m) same reach in
      elim (cases_lt b a) [
        | inl lt ↦ absurd (kept a lt (reaches (omega arith)))
        | inr ge ↦ ap Number (omega arith)
      ]
  limit_stays f (Number a) Endless same reach kept = refl
  limit_stays f Endless (Number b) same reach kept =
      let reaches : (n : ℕ) → 1 ≤ n → HasStrip m n = subst (ReachesFloor m) same reach in
      absurd (kept (b + 1) (omega arith) (reaches (b + 1) (omega arith)))
  limit_stays f Endless Endless same reach kept = refl

  stays : (e : Ends) → Upheld m e → e.floor ≡ e.ceiling → (bs : List ℕ) (r : Result Claim DocketFault) → judged m bs ≡ r → ((ends_after e r).floor ≡ e.floor) × ((ends_after e r).ceiling ≡ e.ceiling)
  stays e u same bs (Ok (Reaches w)) is =
      (reach_stays e.floor e.ceiling w same u.ceiling_kept (judged_sound m v bs (Reaches w) is), refl)
  stays e u same bs (Ok (Limits w)) is =
      (refl, limit_stays e.floor e.ceiling w same u.floor_reached (judged_sound m v bs (Limits w) is))
  stays e u same bs (Err f) is = (refl, refl)

  -- what a paper that is accepted and moves nothing says of the ends
  floor_by : (e : Ends) → NothingMoves m e → (bs : List ℕ) (w : Width) → Bytes bs → judged m bs ≡ Ok (Reaches w) → wider e.floor w ≡ e.floor
  floor_by e still bs w bytes is = subst (λ r. (ends_after e r).floor ≡ e.floor) is (still bs bytes).0

  ceiling_by : (e : Ends) → NothingMoves m e → (bs : List ℕ) (w : Width) → Bytes bs → judged m bs ≡ Ok (Limits w) → narrower e.ceiling w ≡ e.ceiling
  ceiling_by e still bs w bytes is = subst (λ r. (ends_after e r).ceiling ≡ e.ceiling) is (still bs bytes).1

  walk_small : (is : List ℕ) (p q : ℕ) → Walk m is p q → (i : ℕ) → i < length is → get_or is i 0 < 2 ^ 32
  walk_small is p q w i within = omega (arith, walk_slot v w i within, v.few_slots)

  -- where there is a ring, both ends are endless
  wider_endless : (f : Width) → wider f Endless ≡ f → f ≡ Endless
  wider_endless (Number a) same = sym same
  wider_endless Endless same = refl

  kept_endless : (c : Width) → KeepsCeiling m c → ReachesFloor m Endless → c ≡ Endless
  kept_endless (Number a) kept reach = absurd (kept (a + 1) (omega arith) (reach (a + 1) (omega arith)))
  kept_endless Endless kept reach = refl

  settled_by_ring : (e : Ends) → Upheld m e → NothingMoves m e → (is : List ℕ) → 1 ≤ length is → length is ≤ m.states → Ring m is → e.floor ≡ e.ceiling
  settled_by_ring e u still is some few ring =
      let paper = accepted OfRing is some (omega (arith, v.few_states)) (walk_small is ring.0 ring.0 ring.1) ((ring_law m is some).1 ring) in
      wider_endless e.floor (floor_by e still paper.0 Endless paper.1 paper.2)
      ∙ sym (kept_endless e.ceiling u.ceiling_kept (ring_reaches m v is ring))

  -- where there is a ranking as low as a strip is wide, both ends are that width
  module _ (k : Ranked m) where
    abbrev ranks : List ℕ
    ranks = map k.rank (range_with_len 0 m.states)

    ranks_length : length ranks ≡ m.states
    ranks_length = length-map-range_with_len k.rank 0 m.states

    rank_at : (q : ℕ) → q < m.states → get_or ranks q 0 ≡ k.rank q
    rank_at q within = get_or-map-range_with_len k.rank 0 m.states q q 0 within (omega arith)

    rank_below : (q : ℕ) → q < m.states → get_or ranks q 0 ≤ k.top
    rank_below q within = omega (arith, rank_at q within, k.below q within)

    rank_small : (q : ℕ) → q < length ranks → get_or ranks q 0 ≤ 4096
    rank_small q within = omega (arith, rank_below q (omega (arith, ranks_length)), k.least, v.few_states)

    ranks_on : RankingOn m ranks
    ranks_on = record {
      sized = ranks_length;
      small = λ q within. omega (arith, rank_small q within);
      falls = record {
        falls = λ i e is.
            let inside = v.inside i e is in
            omega (arith, k.falls.falls i e is, rank_at (to e) inside.to_state, rank_at (from e) inside.from_state);
      };
    }

    highest_below : (n : ℕ) → n ≤ m.states → highest ranks n ≤ k.top
    unfolding highest
    highest_below zero within = omega arith
    highest_below (suc n) within = omega (arith, highest_below n (omega arith), rank_below n (omega arith))

    height_below : height ranks ≤ k.top
    height_below = highest_below (length ranks) (omega (arith, ranks_length))

    rank_paper : (bs : List ℕ) × Bytes bs × (judged m bs ≡ Ok (Limits (Number (height ranks))))
    rank_paper =
        accepted OfRanking ranks (omega (arith, ranks_length, v.some_state)) (omega (arith, ranks_length, v.few_states))
        (λ q within. omega (arith, rank_small q within)) ((ranking_law m ranks v).1 ranks_on)

    -- the ends, one case after the other
    ceiling_low : (c : Width) → narrower c (Number (height ranks)) ≡ c → (a : ℕ) × (c ≡ Number a) × (a ≤ k.top)
    ceiling_low (Number a) same =
        let least : min a (height ranks) ≡ a = cc in
        (a, refl, omega (arith, height_below))
    ceiling_low Endless same = absurd (cc)

    floor_high : (f : Width) → ReachesFloor m f → (1 ≤ k.top → wider f (Number k.top) ≡ f) → (a : ℕ) × (f ≡ Number a) × (k.top ≤ a)
    floor_high (Number a) reach still =
        elim (cases_lt 0 k.top) [
          | inl lt ↦ let most : max a k.top ≡ a = number_same (still lt) in (a, refl, omega arith)
          | inr ge ↦ (a, refl, omega arith)
        ]
      where
        number_same : {x y : ℕ} → Number x ≡ Number y → x ≡ y
        number_same same = cc
    floor_high Endless reach still =
        absurd (ranking_limits m v ranks ranks_on (height ranks + 1) (omega arith) (reach (height ranks + 1) (omega arith)))

    strip_still : (e : Ends) → NothingMoves m e → 1 ≤ k.top → wider e.floor (Number k.top) ≡ e.floor
    strip_still e still some =
        let s = k.reach some in
        let long : 1 ≤ length s.0 = omega (arith, s.1) in
        let paper = accepted OfStrip s.0 long (omega (arith, s.1, k.least, v.few_states)) (walk_small s.0 s.2.0 s.2.1 s.2.2) ((strip_law m s.0 long).1 s.2) in
        subst (λ n. wider e.floor (Number n) ≡ e.floor) s.1 (floor_by e still paper.0 (Number (length s.0)) paper.1 paper.2)

    settled_by_rank : (e : Ends) → Upheld m e → NothingMoves m e → e.floor ≡ e.ceiling
    settled_by_rank e u still =
        let c = ceiling_low e.ceiling (ceiling_by e still rank_paper.0 (Number (height ranks)) rank_paper.1 rank_paper.2) in
        let f = floor_high e.floor u.floor_reached (strip_still e still) in
        let reach : 1 ≤ f.0 → HasStrip m f.0 = subst (ReachesFloor m) f.1 u.floor_reached in
        let kept : (w : ℕ) → c.0 < w → HasStrip m w → ⊥ = subst (KeepsCeiling m) c.1 u.ceiling_kept in
        elim (cases_lt c.0 f.0) [
          | inl lt ↦ absurd (kept f.0 lt (reach (omega arith)))
          | inr ge ↦ f.1 ∙ ap Number (omega (arith, f.2, c.2)) ∙ sym c.1
        ]

  settles : (e : Ends) → Upheld m e → (e.floor ≡ e.ceiling) ↔ NothingMoves m e
  settles e u = (
    λ same bs bytes. stays e u same bs (judged m bs) refl,
    λ still.
        elim (either_or m v) [
          | inl r ↦ settled_by_ring e u still r.0 r.1 r.2 r.3
          | inr k ↦ settled_by_rank k e u still
        ],
  )

  -- a torus of one copy would be a ring of the stack
  torus_refuted : (e : Ends) → Upheld m e → (t : Meaning) → Valid t → (n : ℕ) → Copies t n m → (c : ℕ) → e.ceiling ≡ Number c → (bs : List ℕ) (k : Contents) (a : Claim) → contents_of bs ≡ Ok k → k.kind ≡ OfTorus → judged t bs ≡ Ok a → ⊥
  torus_refuted e u t vt n copies c low bs k a is kind told =
      let weighs : answered (rule t k.kind k.numbers) (shows k.kind k.numbers) ≡ Ok a = sym (ap (judged_contents t) is) ∙ told in
      let pass : rule t OfTorus k.numbers ≡ Ok tt = subst (λ j. rule t j k.numbers ≡ Ok tt) kind (passed _ _ a (sym weighs)) in
      let few = (some_numbers bs k is).1 in
      let ring = torus_ring t k.numbers ((torus_law t k.numbers few).0 pass) vt copies in
      let kept : (w : ℕ) → c < w → HasStrip m w → ⊥ = subst (KeepsCeiling m) low u.ceiling_kept in
      kept (c + 1) (omega arith) (ring_strips ring.1 (c + 1) (omega arith))

  no_torus_in : (e : Ends) → Upheld m e → (t : Meaning) → Valid t → (n : ℕ) → Copies t n m → (c : ℕ) → e.ceiling ≡ Number c → (cs : List Call) → TakesTorus t cs → ⊥
  no_torus_in e u t vt n copies c low [] takes = takes
  no_torus_in e u t vt n copies c low (files bs bytes ∷ cs) (inl h) = torus_refuted e u t vt n copies c low bs h.0 h.1 h.2 h.3 h.4
  no_torus_in e u t vt n copies c low (files bs bytes ∷ cs) (inr h) = no_torus_in e u t vt n copies c low cs h
  no_torus_in e u t vt n copies c low (asks_ends ∷ cs) takes = no_torus_in e u t vt n copies c low cs takes
  no_torus_in e u t vt n copies c low (asks_tally s ∷ cs) takes = no_torus_in e u t vt n copies c low cs takes

  holds : (e : Ends) → Upheld m e → Holds m e
  holds e u = record {
    settled = settles e u;
    floor_reached = u.floor_reached;
    ceiling_kept = u.ceiling_kept;
    no_torus = no_torus_in e u;
  }

  -- the promise of the two widths
  pub promise : Promise m
  promise cs = holds (reached m cs) (calls_upheld cs fresh_ends fresh_upheld)
