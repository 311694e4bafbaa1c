-- Where bytes are cut into lines.
use Rattle.std.specs.Prelude.{◌≡◌, ◌≢◌, ℕ, ◌+◌, ◌<◌, ◌≤◌, List, ◌∷◌, ◌++◌, length, take, drop}
use Rattle.std.specs.List.{AllByRecursion}
use Rattle.hist_types.specs.Bytes.{line_feed}
use Rattle.hist_types.specs.declared.limits.TheConstants.{MAX_LINE_BYTES}
use Rattle.verdict_serve.specs.declared.lines.Next.{Next}
use Rattle.verdict_serve.specs.declared.lines.Next.TheVariants.{Line, Overlong, End}

-- no byte 10 is among the bytes
abbrev pub IsUnbroken : List ℕ → Type 0
IsUnbroken bytes = AllByRecursion (λ b. b ≢ line_feed) bytes

-- the bytes are a first line, its byte 10 and these bytes
pub record BeginsWithLine (bytes l rest : List ℕ) : Type 0 where
  pub whole : bytes ≡ l ++ line_feed ∷ rest
  pub unbroken : IsUnbroken l

-- the first byte 10 is in this place
pub record IsLineEnd (bytes : List ℕ) (place : ℕ) : Type 0 where
  pub within : place < length bytes
  pub begins : BeginsWithLine bytes (take place bytes) (drop (place + 1) bytes)

-- the line that was given last, and what was read after it
pub record Cut : Type 0 where
  pub line : List ℕ
  pub unread : List ℕ

-- what these bytes give next, and what is left of them then
abbrev pub IsNext : Next → (bytes : List ℕ) → Cut → Type 0
IsNext Line bytes cut =
    BeginsWithLine bytes cut.line cut.unread × (length cut.line ≤ MAX_LINE_BYTES)
IsNext Overlong bytes cut =
    (l : List ℕ) × BeginsWithLine bytes l cut.unread × (MAX_LINE_BYTES < length l)
IsNext End bytes cut = IsUnbroken bytes
