-- Refusals (this project's own): the table of their numbers and names, which never change.
use Rattle.std.specs.Prelude.{ℕ, List, codes}
use Rattle.hist_types.specs.declared.types.At.TheVariants.{Event, Nowhere}
use Rattle.hist_types.specs.declared.types.Fault.{Fault}
use Rattle.hist_types.specs.declared.types.Refusal.{Refusal}
use Rattle.hist_types.specs.declared.types.Refusal.TheVariants.{Busy, Retired, Rewritten, Idle, Mismatch, Full, TooManyEvents, BadRange, Memory, NoThread, BadUtf8, UnclosedString, StrayCloser, TooDeep, Unclosed, OddMap, DanglingTag, NotAMap, MissingField, DuplicateField, BadType, BadProcess, NotTxn, BadAtom, NilWritten, TooLong, TooManyMicroOps, BlockFull, EmptyImport}

-- a number, and a name as it is printed
pub record Title : Type 0 where
  pub number : ℕ
  pub name : List ℕ

abbrev pub titled : ℕ → List ℕ → Title
titled number name = record { number = number; name = name }

abbrev pub title_of : Refusal → Title
title_of Busy = titled 1 (codes "Busy")
title_of Retired = titled 2 (codes "Retired")
title_of Rewritten = titled 3 (codes "Rewritten")
title_of Idle = titled 5 (codes "Idle")
title_of Mismatch = titled 6 (codes "Mismatch")
title_of Full = titled 7 (codes "Full")
title_of TooManyEvents = titled 8 (codes "TooManyEvents")
title_of BadRange = titled 9 (codes "BadRange")
title_of Memory = titled 10 (codes "Memory")
title_of NoThread = titled 11 (codes "NoThread")
title_of BadUtf8 = titled 20 (codes "BadUtf8")
title_of UnclosedString = titled 21 (codes "UnclosedString")
title_of StrayCloser = titled 22 (codes "StrayCloser")
title_of TooDeep = titled 23 (codes "TooDeep")
title_of Unclosed = titled 24 (codes "Unclosed")
title_of OddMap = titled 25 (codes "OddMap")
title_of DanglingTag = titled 26 (codes "DanglingTag")
title_of NotAMap = titled 27 (codes "NotAMap")
title_of MissingField = titled 28 (codes "MissingField")
title_of DuplicateField = titled 29 (codes "DuplicateField")
title_of BadType = titled 30 (codes "BadType")
title_of BadProcess = titled 31 (codes "BadProcess")
title_of NotTxn = titled 32 (codes "NotTxn")
title_of BadAtom = titled 33 (codes "BadAtom")
title_of NilWritten = titled 34 (codes "NilWritten")
title_of TooLong = titled 35 (codes "TooLong")
title_of TooManyMicroOps = titled 36 (codes "TooManyMicroOps")
title_of BlockFull = titled 37 (codes "BlockFull")
title_of EmptyImport = titled 38 (codes "EmptyImport")

abbrev pub number_of : Refusal → ℕ
number_of refusal = (title_of refusal).number

abbrev pub name_of : Refusal → List ℕ
name_of refusal = (title_of refusal).name

-- a broken rule of the journal, and the index that the operation would have had
abbrev pub event_fault : Refusal × ℕ → Fault
event_fault broken = record { refusal = broken.0; at = Event broken.1 }

-- a refusal that has no place
abbrev pub without_place : Refusal → Fault
without_place refusal = record { refusal = refusal; at = Nowhere }

-- out of memory
abbrev pub memory_fault : Fault
memory_fault = without_place Memory
