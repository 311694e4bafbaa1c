-- The bytes that the notation gives a meaning (EDN).
-- Blanks are the bytes 9 to 13, 32 and the comma: tab, line feed, vertical tab, form feed, carriage
-- return and space. (Which bytes are blanks is this project's own choice.)
use Rattle.std.specs.Prelude.{ℕ, [], ◌∷◌, Bool, not, ◌||◌, nat_eq, ◌==◌}
use Rattle.std.specs.List.{list_any}

abbrev pub line_feed : ℕ
line_feed = 10

abbrev pub quote : ℕ
quote = 34

abbrev pub backslash : ℕ
backslash = 92

abbrev pub semicolon : ℕ
semicolon = 59

abbrev pub colon : ℕ
colon = 58

abbrev pub hash : ℕ
hash = 35

abbrev pub underscore : ℕ
underscore = 95

abbrev pub plus : ℕ
plus = 43

abbrev pub minus : ℕ
minus = 45

abbrev pub dot : ℕ
dot = 46

abbrev pub zero_digit : ℕ
zero_digit = 48

abbrev pub letter_n : ℕ
letter_n = 78

abbrev pub open_round : ℕ
open_round = 40

abbrev pub close_round : ℕ
close_round = 41

abbrev pub open_square : ℕ
open_square = 91

abbrev pub close_square : ℕ
close_square = 93

abbrev pub open_brace : ℕ
open_brace = 123

abbrev pub close_brace : ℕ
close_brace = 125

abbrev pub is_blank : ℕ → Bool
is_blank b = list_any (nat_eq b) (9 ∷ 10 ∷ 11 ∷ 12 ∷ 13 ∷ 32 ∷ 44 ∷ [])

abbrev pub is_opener : ℕ → Bool
is_opener b = list_any (nat_eq b) (open_round ∷ open_square ∷ open_brace ∷ [])

abbrev pub is_closer : ℕ → Bool
is_closer b = list_any (nat_eq b) (close_round ∷ close_square ∷ close_brace ∷ [])

-- A run goes on over every byte but a blank, a bracket, a quote and a semicolon; a byte of 128 or
-- more is in it.
abbrev pub is_run_byte : ℕ → Bool
is_run_byte b = not (is_blank b || is_opener b || is_closer b || (b == quote) || (b == semicolon))
