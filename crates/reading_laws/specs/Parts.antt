-- Parts of a text that read by themselves.
use Rattle.std.specs.Prelude.{◌≡◌, ◌≢◌, ℕ, ◌+◌, List, [], ◌∷◌, ◌++◌, Bool, true, false, drop}
use Rattle.hist_types.specs.Bytes.{backslash, line_feed}
use Rattle.hist_types.specs.declared.types.At.{At}
use Rattle.hist_types.specs.declared.types.At.TheVariants.{Byte}
use Rattle.hist_types.specs.declared.types.Fault.{Fault}
use Rattle.hist_types.specs.declared.types.Refusal.{Refusal}
use Rattle.hist_types.specs.declared.types.Refusal.TheVariants.{UnclosedString, Unclosed, DanglingTag}

-- from the offset on the text has the part, and then what is behind it
abbrev pub HasPartAt : List ℕ → (offset : ℕ) → (part behind : List ℕ) → Type 0
HasPartAt text offset part behind = drop offset text ≡ part ++ behind

-- the part ends with the end of a line, and no `\` is right before it
abbrev pub EndsLine : List ℕ → Type 0
EndsLine part =
    (before : List ℕ)
    × (last : ℕ)
    × (last ≢ backslash)
    × (part ≡ before ++ last ∷ line_feed ∷ [])

abbrev pub at_behind : ℕ → At → At
at_behind offset (Byte place) = Byte (offset + place)
at_behind offset at = at

-- the fault, with its place counted from so many bytes earlier
abbrev pub fault_behind : ℕ → Fault → Fault
fault_behind offset fault =
    record { refusal = fault.refusal; at = at_behind offset fault.at }

-- what may be refused at a text's end, and no longer if the text goes on
abbrev pub can_come_at_end : Refusal → Bool
can_come_at_end UnclosedString = true
can_come_at_end Unclosed = true
can_come_at_end DanglingTag = true
can_come_at_end refusal = false
