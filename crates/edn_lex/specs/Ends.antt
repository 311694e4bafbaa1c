-- Where the items at the front of a text end.
use Rattle.std.specs.Prelude.{◌≡◌, ◌<◌, ℕ, List, length, Option, MatchOption}
use Rattle.std.specs.Str.Lossy.{utf8_valid_len}

-- the bytes are UTF-8, or they are up to this offset and no further
abbrev pub StopsBeingUtf8 : List ℕ → Option ℕ → Type 0
StopsBeingUtf8 bytes found =
    MatchOption found (utf8_valid_len bytes ≡ length bytes)
    (λ n. (utf8_valid_len bytes ≡ n) × (n < length bytes))
