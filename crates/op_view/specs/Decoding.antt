-- The content of a string, byte by byte.
use Rattle.std.specs.Prelude.{◌≡◌, ◌⊎◌, ℕ, List, [], ◌∷◌, ◌<◌, length, Bool, false, None, option_map, is_some}
use Rattle.std.specs.Option.{unwrap_or}
use Rattle.hist_types.specs.AtomTokens.{decoded}

-- what is between quotes has a content
abbrev pub has_content : List ℕ → Bool
has_content between = is_some (decoded false between)

-- what is between quotes, decoded; where it has no content, nothing
abbrev pub content_of : List ℕ → List ℕ
content_of between = unwrap_or (decoded false between) []

-- The content begins with the byte, and the rest of it is the content of what is after.
pub record BeginsWithByte (between : List ℕ) (byte : ℕ) (behind : List ℕ) : Type 0 where
  pub shorter : length behind < length between
  pub content : decoded false between ≡ option_map (λ cs. byte ∷ cs) (decoded false behind)

-- there is nothing, or no content
abbrev pub HasNoByte : List ℕ → Type 0
HasNoByte between = (between ≡ []) ⊎ (decoded false between ≡ None)
