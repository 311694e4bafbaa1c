-- The flags of bytes.
use Rattle.std.specs.Prelude.{ℕ, Bool, not, ◌||◌, ◌==◌, nat_eq, bit_and}
use Rattle.std.specs.Char.{is_ascii_digit, is_ascii_lowercase}
use Rattle.hist_types.specs.Bytes.{colon}

-- one of the flags is set
abbrev pub has_flag : ℕ → ℕ → Bool
has_flag flags flag = not (nat_eq (bit_and flags flag) 0)

abbrev pub is_no_digit : ℕ → Bool
is_no_digit b = not (is_ascii_digit b)

-- a decimal digit, a colon or a lower-case letter
abbrev pub is_plain : ℕ → Bool
is_plain b = is_ascii_digit b || (b == colon) || is_ascii_lowercase b

abbrev pub is_no_plain : ℕ → Bool
is_no_plain b = not (is_plain b)
