-- What the code's type for what a line says means.
use Rattle.std.specs.List.{AllByRecursion}
use Rattle.std.specs.Prelude.{◌≡◌, ◌≢◌, ℕ, ◌+◌, ◌<◌, List, ◌∷◌, ◌++◌, length, take, drop, bytes_eq, codes, if◌then◌else◌, Option, None, option_map, option_and_then}
use Rattle.hist_types.specs.Sessions.{Saying as ASaying, overlong, quit, verdict, read, import, index_of, words_of, space}
use Rattle.verdict_serve.specs.declared.sayings.Saying.{Saying}
use Rattle.verdict_serve.specs.declared.sayings.Saying.TheVariants.{Overlong, Quit, Verdict, Read, Import}

abbrev pub said : Saying → ASaying
said Overlong = overlong
said Quit = quit
said Verdict = verdict
said (Read from to) = read from to
said (Import text) = import text.now

-- no space is in the text
abbrev pub IsOneWord : List ℕ → Type 0
IsOneWord text = AllByRecursion (λ b. b ≢ space) text

-- the first space is in this place
pub record IsWordEnd (text : List ℕ) (place : ℕ) : Type 0 where
  pub within : place < length text
  pub word : IsOneWord (take place text)
  pub whole : text ≡ take place text ++ space ∷ drop (place + 1) text

-- the words of the text are this one and those of the rest
abbrev pub SplitsWord : (text word rest : List ℕ) → Type 0
SplitsWord text word rest = words_of text ≡ word ∷ words_of rest

-- both indexes, where there are both
abbrev pub indexes : (from to : Option ℕ) → Option (ℕ × ℕ)
indexes from to = option_and_then (λ a. option_map (λ b. (a, b)) to) from

-- the indexes of three words of which the first is `read`
abbrev pub range_by : (word from to : List ℕ) → Option (ℕ × ℕ)
range_by word from to =
    if bytes_eq word (codes "read") then indexes (index_of from) (index_of to) else None
