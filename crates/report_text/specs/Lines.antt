-- How lines are put together. No public clause cites this module.
use denote.Bor.{Bor}
use Rattle.std.specs.Prelude.{ℕ, List, ◌++◌, codes, Option}
use Rattle.std.specs.Option.{option_copied}
use Rattle.hist_types.specs.Atoms.{Atom}
use Rattle.hist_types.specs.CanonicalText.{atom_text, value_text}

-- after a word, a key and its value
abbrev pub version_after : (word : List ℕ) → Atom → Option (Bor Atom) → List ℕ
version_after word key value =
    word ++ (atom_text key ++ codes " " ++ value_text (option_copied value))
