-- What an accepted paper shows is so. Assumes nothing.
use Rattle.std.proofs.Common.{◌≡◌, ℕ, zero, suc, ◌<◌, ◌≤◌, List, length, get_or, Ok, Err, Result, sym, refl, ap, subst, inl, inr, arith}
use Rattle.std.proofs.lemmas.Bool.{cases_lt}
use Rattle.papers.specs.Paper.{Contents, contents_of}
use Rattle.papers.specs.declared.fault.PaperFault.{PaperFault}
use Rattle.papers.specs.declared.kind.Kind.{Kind}
use Rattle.papers.specs.declared.kind.Kind.TheVariants.{Strip as OfStrip, Ring as OfRing, Ranking as OfRanking, Torus as OfTorus}
use Rattle.papers.proofs.Lengths.{some_numbers}
use Rattle.papers.proofs.Order.{answer_of, passed}
use Rattle.transducers.specs.Meaning.{Meaning, Valid}
use Rattle.rules.specs.Filing.{judged, judged_contents, rule, shows}
use Rattle.laws.specs.Promise.{KeepsCeiling, ReachesFloor}
use Rattle.rules.specs.Ranks.{height, highest}
use Rattle.laws.specs.Walking.{RankingOn, Ring, TorusOn}
use Rattle.rules.specs.declared.width.Claim.{Claim}
use Rattle.rules.specs.declared.width.Claim.TheVariants.{Reaches, Limits}
use Rattle.rules.specs.declared.width.Width.TheVariants.{Number, Endless}
use Rattle.laws.proofs.Paths.{ring_strips, walk_start}
use Rattle.laws.proofs.Ranked.{walk_falls}
use Rattle.laws.proofs.RuleLaws.{ranking_law, ring_law, strip_law}
use Rattle.laws.proofs.TorusLaws.{torus_law}

-- a claim is so
abbrev pub Sound : Meaning → Claim → Type 0
Sound m (Reaches w) = ReachesFloor m w
Sound m (Limits w) = KeepsCeiling m w

-- no rank is above the height
pub below_highest : (xs : List ℕ) (n q : ℕ) → q < n → get_or xs q 0 ≤ highest xs n
unfolding highest
below_highest xs zero q within = absurd (omega arith)
below_highest xs (suc n) q within =
    elim (cases_lt q n) [
      | inl lt ↦ omega (arith, below_highest xs n q lt)
      | inr ge ↦ let same : get_or xs q 0 ≡ get_or xs n 0 = ap (λ k. get_or xs k 0) (omega arith) in omega arith
    ]

module _ (m : Meaning) (v : Valid m) where
  -- no walk is longer than the greatest rank
  pub ranking_limits : (xs : List ℕ) → RankingOn m xs → KeepsCeiling m (Number (height xs))
  ranking_limits xs r w past strip =
      let walk = strip.2.2 in
      let start : strip.2.0 < length xs = omega (arith, walk_start v walk, r.sized) in
      omega (arith, walk_falls r.falls walk, below_highest xs (length xs) strip.2.0 start, strip.1)

  pub ring_reaches : (is : List ℕ) → Ring m is → ReachesFloor m Endless
  ring_reaches is ring w some = ring_strips ring w some

  torus_reaches : (xs : List ℕ) → TorusOn m xs → ReachesFloor m Endless
  torus_reaches xs t = ring_reaches _ (t.closed 0 t.some_row)

  kind_sound : (k : Kind) (xs : List ℕ) → 1 ≤ length xs → length xs ≤ 8064 → rule m k xs ≡ Ok tt → Sound m (shows k xs)
  kind_sound OfStrip xs some few pass = λ _. (xs, refl, (strip_law m xs some).0 pass)
  kind_sound OfRing xs some few pass = ring_reaches xs ((ring_law m xs some).0 pass)
  kind_sound OfRanking xs some few pass = ranking_limits xs ((ranking_law m xs v).0 pass)
  kind_sound OfTorus xs some few pass = torus_reaches xs ((torus_law m xs few).0 pass)

  contents_sound : (bs : List ℕ) (r : Result Contents PaperFault) → contents_of bs ≡ r → (a : Claim) → judged_contents m r ≡ Ok a → Sound m a
  contents_sound bs (Ok c) is a told =
      let pass = passed _ _ a (sym told) in
      let same = answer_of _ (shows c.kind c.numbers) a (sym told) in
      let sizes = some_numbers bs c is in
      subst (Sound m) (sym same) (kind_sound c.kind c.numbers sizes.0 sizes.1 pass)
  contents_sound bs (Err f) is a told = absurd (cc)

  -- what an accepted paper shows is so
  pub judged_sound : (bs : List ℕ) (a : Claim) → judged m bs ≡ Ok a → Sound m a
  judged_sound bs a told = contents_sound bs (contents_of bs) refl a told
