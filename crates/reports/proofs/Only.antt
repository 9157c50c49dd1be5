-- A refusal blames one part, and no other meets the law. Assumes nothing.
use Rattle.std.proofs.Common.{ℕ, ◌+◌, ◌*◌, ◌/◌, ◌%◌, inl, inr, arith}
use Rattle.reports.proofs.Feeds.{one_start, one_end, line_or_none}
use Rattle.reports.specs.Excerpts.{Slice, IsPart, IsCut, IsBlamed, SamePart}
use Rattle.reports.specs.declared.excerpts.Blame.{Blame}
use Rattle.reports.specs.declared.excerpts.Blame.TheVariants.{Line, Block, Number, Nothing}

module _ (q r : Slice) where
  one_part : (w : Slice) (s e : ℕ) → IsPart w s e q → IsPart w s e r → SamePart q r
  one_part w s e a b = record { memory = cc; place = cc; bytes = cc }

  one_cut : (w : Slice) (s size : ℕ) → IsCut w s size q → IsCut w s size r → SamePart q r
  one_cut w s size (inl a) (inl b) = one_part w s (s + size) a.1 b.1
  one_cut w s size (inl a) (inr b) = absurd (omega arith)
  one_cut w s size (inr a) (inl b) = absurd (omega arith)
  one_cut w s size (inr a) (inr b) = one_part w 0 0 a.1 b.1

  one_line :
      (text paper : Slice) (n : ℕ) → IsBlamed text paper (Line n) q → IsBlamed text paper (Line n) r → SamePart q r
  one_line text paper n (inl (s, e, a, p)) (inl (t, f, b, o)) =
      let start = one_start text.now n s t a.start b.start in
      let end = one_end text.now s t e f start a.end b.end in
      record { memory = cc; place = cc; bytes = cc }
  one_line text paper n (inl (s, e, a, p)) (inr b) = absurd (line_or_none text.now n s a.start b.0)
  one_line text paper n (inr a) (inl (s, e, b, p)) = absurd (line_or_none text.now n s b.start a.0)
  one_line text paper n (inr a) (inr b) = one_part paper 0 0 a.1 b.1

  pub one_blamed : (text paper : Slice) (b : Blame) → IsBlamed text paper b q → IsBlamed text paper b r → SamePart q r
  one_blamed text paper (Line n) a b = one_line text paper n a b
  one_blamed text paper (Block n) a b = one_cut paper (512 * n) 512 a b
  one_blamed text paper (Number p) a b = one_cut paper (512 * (p / 126) + 4 + 4 * (p % 126)) 4 a b
  one_blamed text paper Nothing a b = one_part paper 0 0 a b
