-- Atoms as tokens (EDN; the escapes `\b` and `\f` and the bound of 64 bits are this project's own).
--
-- A key is the spelling of an atom, one token: an integer from -9223372036854775808 to
-- 9223372036854775807, with a sign or an `N` or without, a keyword, a symbol, or a string whose
-- escapes are all among `\t` `\r` `\n` `\\` `\"` `\b` `\f`. A value is that or `nil`. Every other
-- token is no atom.
use Rattle.std.specs.Prelude.{ℕ, ℤ, pos, negsuc, ◌-◌, List, [], ◌∷◌, length, take, drop, Bool, true, false, not, ◌&&◌, ◌==◌, nat_lt, nat_le, if◌then◌else◌, Option, Some, None, option_map, option_and_then, ◌^◌}
use Rattle.std.specs.Str.Parse.{signed_digits_value}
use Rattle.hist_types.specs.Bytes.{quote, backslash}
use Rattle.hist_types.specs.Atoms.{Atom, integer, keyword, string, symbol}
use Rattle.hist_types.specs.Tokens.{ItemKind, Str, Nil, Int, Keyword, Symbol, without_n}
use Rattle.hist_types.specs.declared.limits.TheConstants.{MAX_PROCESS}

-- the number that an integer's spelling means
abbrev pub int_value : List ℕ → ℤ
int_value spelling = signed_digits_value 10 (without_n spelling)

abbrev pub is_64_bit : ℤ → Bool
is_64_bit (pos n) = nat_lt n (2 ^ 63)
is_64_bit (negsuc n) = nat_lt n (2 ^ 63)

-- the byte that an escape means
abbrev pub escape_value : ℕ → Option ℕ
escape_value b =
    if b == 116 then Some 9
    else (if b == 114 then Some 13
    else (if b == 110 then Some 10
    else (if b == backslash then Some backslash
    else (if b == quote then Some quote
    else (if b == 98 then Some 8
    else (if b == 102 then Some 12
    else None))))))

-- a byte of a string before the rest of its content
abbrev pub with_byte : (taken : Bool) → ℕ → Option (List ℕ) → Option (List ℕ)
with_byte true b content = option_and_then (λ c. option_map (λ cs. c ∷ cs) content) (escape_value b)
with_byte false b content = if b == backslash then content else option_map (λ cs. b ∷ cs) content

-- The content of a string from what is between its quotes, where all its escapes are among
-- those above. `taken` says that a backslash takes the first byte.
abbrev pub decoded : (taken : Bool) → List ℕ → Option (List ℕ)
decoded true [] = None
decoded false [] = Some []
decoded taken (b ∷ rest) = with_byte taken b (decoded ((b == backslash) && not taken) rest)

-- what is between the first and the last byte
abbrev pub between_quotes : List ℕ → List ℕ
between_quotes bytes = take (length bytes - 2) (drop 1 bytes)

abbrev pub atom_of_token : ItemKind → List ℕ → Option Atom
atom_of_token Int bytes =
    if is_64_bit (int_value bytes) then Some (integer (int_value bytes)) else None
atom_of_token Keyword bytes = Some (keyword bytes)
atom_of_token Symbol bytes = Some (symbol bytes)
atom_of_token Str bytes = option_map string (decoded false (between_quotes bytes))
atom_of_token kind bytes = None

abbrev pub is_nil_kind : ItemKind → Bool
is_nil_kind Nil = true
is_nil_kind kind = false

-- the bytes of a token that is a keyword
abbrev pub keyword_of_token : ItemKind → List ℕ → Option (List ℕ)
keyword_of_token Keyword bytes = Some bytes
keyword_of_token kind bytes = None

-- the number of a token that is an integer
abbrev pub int_of_token : ItemKind → List ℕ → Option ℤ
int_of_token Int bytes = Some (int_value bytes)
int_of_token kind bytes = None

-- a process is an integer from 0 to 2147483647
abbrev pub process_of : ℤ → Option ℕ
process_of (pos n) = if nat_le n MAX_PROCESS then Some n else None
process_of (negsuc n) = None
