-- No two refusals share a number or a name: each is found again in the table by either.
use Rattle.std.proofs.Common.{◌≡◌, ℕ, List, [], ◌∷◌, ◌==◌, bytes_eq, Option, Some, refl, sym, ◌∙◌, ap}
use Rattle.std.specs.List.{find}
use Rattle.hist_types.specs.Refusals.{number_of, name_of}
use Rattle.hist_types.specs.declared.types.Refusal.{Refusal}
use Rattle.hist_types.specs.declared.types.Refusal.TheVariants.{Busy, Retired, Rewritten, Idle, Mismatch, Full, TooManyEvents, BadRange, Memory, NoThread, BadUtf8, UnclosedString, StrayCloser, TooDeep, Unclosed, OddMap, DanglingTag, NotAMap, MissingField, DuplicateField, BadType, BadProcess, NotTxn, BadAtom, NilWritten, TooLong, TooManyMicroOps, BlockFull, EmptyImport}

-- the whole table
abbrev refusals : List Refusal
refusals = Busy ∷ Retired ∷ Rewritten ∷ Idle ∷ Mismatch ∷ Full ∷ TooManyEvents ∷ BadRange ∷ Memory ∷ NoThread ∷ BadUtf8 ∷ UnclosedString ∷ StrayCloser ∷ TooDeep ∷ Unclosed ∷ OddMap ∷ DanglingTag ∷ NotAMap ∷ MissingField ∷ DuplicateField ∷ BadType ∷ BadProcess ∷ NotTxn ∷ BadAtom ∷ NilWritten ∷ TooLong ∷ TooManyMicroOps ∷ BlockFull ∷ EmptyImport ∷ []

with_number : ℕ → Option Refusal
with_number number = find (λ r. number_of r == number) refusals

with_name : List ℕ → Option Refusal
with_name name = find (λ r. bytes_eq (name_of r) name) refusals

-- each refusal is found by its number and by its name
found : (r : Refusal) → (with_number (number_of r) ≡ Some r) × (with_name (name_of r) ≡ Some r)
unfolding with_number with_name
found Busy = (refl, refl)
found Retired = (refl, refl)
found Rewritten = (refl, refl)
found Idle = (refl, refl)
found Mismatch = (refl, refl)
found Full = (refl, refl)
found TooManyEvents = (refl, refl)
found BadRange = (refl, refl)
found Memory = (refl, refl)
found NoThread = (refl, refl)
found BadUtf8 = (refl, refl)
found UnclosedString = (refl, refl)
found StrayCloser = (refl, refl)
found TooDeep = (refl, refl)
found Unclosed = (refl, refl)
found OddMap = (refl, refl)
found DanglingTag = (refl, refl)
found NotAMap = (refl, refl)
found MissingField = (refl, refl)
found DuplicateField = (refl, refl)
found BadType = (refl, refl)
found BadProcess = (refl, refl)
found NotTxn = (refl, refl)
found BadAtom = (refl, refl)
found NilWritten = (refl, refl)
found TooLong = (refl, refl)
found TooManyMicroOps = (refl, refl)
found BlockFull = (refl, refl)
found EmptyImport = (refl, refl)

same_refusal : (a b : Refusal) → Some a ≡ Some b → a ≡ b
same_refusal a b e = cc

pub same_number : (a b : Refusal) → number_of a ≡ number_of b → a ≡ b
same_number a b e = same_refusal a b (sym (found a).0 ∙ (ap with_number e ∙ (found b).0))

pub same_name : (a b : Refusal) → name_of a ≡ name_of b → a ≡ b
same_name a b e = same_refusal a b (sym (found a).1 ∙ (ap with_name e ∙ (found b).1))
