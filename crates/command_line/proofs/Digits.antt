-- Numbers in options, by what the standard library parses.
use Rattle.std.proofs.Common.{◌≡◌, ℕ, ◌<◌, ◌≤◌, ◌^◌, List, [], ◌∷◌, length, Bool, true, if◌then◌else◌, ◌&&◌, Some, None, Err, arith, rules}
use Rattle.std.specs.Char.{is_ascii_digit}
use Rattle.std.specs.List.{list_all}
use Rattle.std.specs.Prelude.{nat_lt, nat_le}
use Rattle.std.specs.Str.Parse.{ParsesUnsigned, digits_value}
use Rattle.std.proofs.lemmas.Grind.{common_steps}
use Rattle.std.proofs.lemmas.Str.Parse.{IsNumeralModel, numerals_by_value, parse_digits}
use Rattle.command_line.specs.Lines.{number_to}

are_digits : IsNumeralModel (λ text. list_all is_ascii_digit text ≡ true) (digits_value 10)
are_digits = numerals_by_value _ (search rules)

-- a number that is 0 or above the most is none
out_of_range : (b : Bool) (n most : ℕ) → ¬ ((0 < n) × (n ≤ most)) → None ≡ (if b && nat_lt 0 n && nat_le n most then Some n else None)
out_of_range b n most out = grind (arith, common_steps)

-- digits that don't parse write no number up to one of 64 bits
pub no_number : {E : Type 0} (most : ℕ) (text : List ℕ) (e : E) → most < 2 ^ 64 → ParsesUnsigned 64 10 text (Err e) → list_all is_ascii_digit text ≡ true → None ≡ number_to most text
no_number most text e room parses digits =
    out_of_range _ (digits_value 10 text) most (λ fits. parse_digits are_digits 64 text (Err e) parses digits (has_some text fits.0, omega (arith, fits.1, room)))
  where
    has_some : (text : List ℕ) → 0 < digits_value 10 text → 0 < length text
    has_some [] some = absurd (omega arith)
    has_some (b ∷ rest) some = omega arith
