-- The items of a line: a byte that has to stand there, and a number. Assumes nothing.
use Rattle.std.specs.Prelude.{ℕ, ◌+◌, ◌-◌, ◌*◌, Bool, false, cond, ◌&&◌, List, [], ◌∷◌, Ok, Err, ◌==◌, nat_le, nat_lt}
use Rattle.setgrammar.specs.Place.{Place, Read, ◌then◌, byte_at, after}
use Rattle.setgrammar.specs.declared.fault.Position.{Position}
use Rattle.setgrammar.specs.declared.fault.TextFault.TheVariants.{Byte, Range, Ends}

-- this byte and no other
abbrev pub expect_at : ℕ → Place → Read (Unit {0})
expect_at due p = byte_at p then λ b q. cond (b == due) (Ok (tt, q)) (Err (Byte p.at))

abbrev pub is_digit : ℕ → Bool
is_digit b = nat_le 48 b && nat_le b 57

-- a digit, by its value
abbrev pub digit_at : Place → Read ℕ
digit_at p = byte_at p then λ b q. cond (is_digit b) (Ok (b - 48, q)) (Err (Byte p.at))

-- whether a digit comes next
abbrev pub digit_next : List ℕ → Bool
digit_next [] = false
digit_next (b ∷ bs) = is_digit b

-- a number goes on with the next digit, unless it is 0
abbrev pub more_at : ℕ → Place → Read ℕ
more_at n p = cond (nat_lt 0 n && digit_next p.rest) (digit_at p then λ d q. Ok (10 * n + d, q)) (Ok (n, p))

-- a number of at most three digits, from low to high
abbrev pub number_at : ℕ → ℕ → Place → Read ℕ
number_at low high p =
    digit_at p then more_at then more_at then λ n q. cond (nat_le low n && nat_le n high) (Ok (n, q)) (Err (Range p.at))

-- any bytes up to a line feed, and the line feed
unfoldable pub note_from : List ℕ → Position → Read (Unit {0})
note_from [] at = Err (Ends at)
note_from (b ∷ bs) at =
    cond (b == 10) (Ok (tt, record { rest = bs; at = after at b })) (note_from bs (after at b))

abbrev pub note_at : Place → Read (Unit {0})
note_at p = note_from p.rest p.at

-- a space and a number
abbrev pub field_at : ℕ → ℕ → Place → Read ℕ
field_at low high p = expect_at 32 p then λ _ q. number_at low high q

-- the rest of a line: a space and a number for each range, and a line feed
abbrev pub fields_at : List (ℕ × ℕ) → Place → Read (List ℕ)
fields_at [] p = expect_at 10 p then λ _ q. Ok ([], q)
fields_at (range ∷ ranges) p =
    field_at range.0 range.1 p then λ n q. fields_at ranges q then λ ns r. Ok (n ∷ ns, r)
