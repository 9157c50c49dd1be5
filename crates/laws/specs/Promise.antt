-- The promise of the two widths: what holds of a docket over a transducer after every list of calls. Assumes nothing.
use Rattle.std.specs.Prelude.{◌≡◌, ℕ, ◌<◌, ◌≤◌, ◌⊎◌, ◌↔◌, List, [], ◌∷◌, Ok, Option}
use Rattle.papers.specs.Bytes.{Bytes}
use Rattle.papers.specs.Paper.{Contents, contents_of}
use Rattle.papers.specs.declared.kind.Kind.{Kind}
use Rattle.papers.specs.declared.kind.Kind.TheVariants.{Torus}
use Rattle.transducers.specs.Meaning.{Meaning, Valid}
use Rattle.transducers.specs.Stacking.{Copies}
use Rattle.rules.specs.Filing.{ends_after, judged}
use Rattle.laws.specs.Walking.{HasStrip}
use Rattle.rules.specs.Widths.{fresh_ends}
use Rattle.rules.specs.declared.width.Claim.{Claim}
use Rattle.rules.specs.declared.width.Ends.{Ends}
use Rattle.rules.specs.declared.width.Width.{Width}
use Rattle.rules.specs.declared.width.Width.TheVariants.{Number, Endless}

-- what may be done with an open docket; the tally of none is that of papers that could not be read
pub data Call : Type 0 where
  files : (bs : List ℕ) → Bytes bs → Call
  asks_ends : Call
  asks_tally : Option Kind → Call

-- the ends after one call, and after a list of calls
abbrev pub after_call : Meaning → Ends → Call → Ends
after_call m e (files bs bytes) = ends_after e (judged m bs)
after_call m e asks_ends = e
after_call m e (asks_tally k) = e

abbrev pub after_calls : Meaning → Ends → List Call → Ends
after_calls m e [] = e
after_calls m e (c ∷ cs) = after_calls m (after_call m e c) cs

-- the ends of a new docket after a list of calls
abbrev pub reached : Meaning → List Call → Ends
reached m cs = after_calls m fresh_ends cs

-- no paper filed next, whatever its bytes, would move either width
abbrev pub NothingMoves : Meaning → Ends → Type 0
NothingMoves m e =
    (bs : List ℕ) → Bytes bs → ((ends_after e (judged m bs)).floor ≡ e.floor) × ((ends_after e (judged m bs)).ceiling ≡ e.ceiling)

-- there is a strip as wide as the floor; a floor of 0 says nothing
abbrev pub ReachesFloor : Meaning → Width → Type 0
ReachesFloor m (Number w) = 1 ≤ w → HasStrip m w
ReachesFloor m Endless = (w : ℕ) → 1 ≤ w → HasStrip m w

-- there is no strip wider than the ceiling
abbrev pub KeepsCeiling : Meaning → Width → Type 0
KeepsCeiling m (Number c) = (w : ℕ) → c < w → HasStrip m w → ⊥
KeepsCeiling m Endless = Unit {0}

-- a torus is among the papers that are accepted in a list of calls
abbrev pub TakesTorus : Meaning → List Call → Type 0
TakesTorus m [] = ⊥
TakesTorus m (files bs bytes ∷ cs) =
    ((c : Contents) × (a : Claim) × (contents_of bs ≡ Ok c) × (c.kind ≡ Torus) × (judged m bs ≡ Ok a)) ⊎ TakesTorus m cs
TakesTorus m (asks_ends ∷ cs) = TakesTorus m cs
TakesTorus m (asks_tally k ∷ cs) = TakesTorus m cs

-- what holds of these ends of a docket over m
pub record Holds (m : Meaning) (e : Ends) : Type 0 where
  -- floor and ceiling are equal exactly when no paper would move either
  pub settled : (e.floor ≡ e.ceiling) ↔ NothingMoves m e
  pub floor_reached : ReachesFloor m e.floor
  pub ceiling_kept : KeepsCeiling m e.ceiling
  -- where m is stacked copies of one transducer and the ceiling is a number, that transducer takes no torus
  pub no_torus : (t : Meaning) → Valid t → (k : ℕ) → Copies t k m → (c : ℕ) → e.ceiling ≡ Number c → (cs : List Call) → TakesTorus t cs → ⊥

-- the promise: it holds after every list of calls
abbrev pub Promise : Meaning → Type 0
Promise m = (cs : List Call) → Holds m (reached m cs)
