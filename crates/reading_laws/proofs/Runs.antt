-- A run is the longest row of run bytes at the front.
use Rattle.std.proofs.Common.{◌≡◌, ℕ, List, [], ◌∷◌, length, Bool, true, false, IsTrue, if◌then◌else◌, refl, sym, subst}
use Rattle.std.specs.List.{AllByRecursion, All}
use Rattle.std.proofs.lemmas.List.Elements.{All-from_recursion}
use Rattle.std.proofs.lemmas.List.Sums.{take_while-cons}
use Rattle.hist_types.specs.Bytes.{is_run_byte}
use Rattle.reading_laws.specs.Readings.{RunEndsAt}
use Rattle.hist_types.specs.Tokens.{run_of}

abbrev IsRunByte : ℕ → Type 0
IsRunByte b = IsTrue (is_run_byte b)

first_byte_in :
    (b : ℕ) (rest run : List ℕ) (passes : Bool)
    → is_run_byte b ≡ passes
    → AllByRecursion IsRunByte run
    → AllByRecursion IsRunByte (if passes then b ∷ run else [])
first_byte_in b rest run true e all = (e, all)
first_byte_in b rest run false e all = tt

all_in : (text : List ℕ) → AllByRecursion IsRunByte (run_of text)
all_in [] = tt
all_in (b ∷ rest) =
    subst (AllByRecursion IsRunByte) (sym (take_while-cons is_run_byte b rest)) (first_byte_in b rest (run_of rest) (is_run_byte b) refl (all_in rest))

pub run_of-all : (text : List ℕ) → All IsRunByte (run_of text)
run_of-all text = All-from_recursion IsRunByte (run_of text) (all_in text)

first_byte_behind :
    (b : ℕ) (rest run : List ℕ) (passes : Bool)
    → is_run_byte b ≡ passes
    → RunEndsAt rest (length run)
    → RunEndsAt (b ∷ rest) (length (if passes then b ∷ run else []))
first_byte_behind b rest run true e ends = ends
first_byte_behind b rest run false e ends = e

pub run_of-ends : (text : List ℕ) → RunEndsAt text (length (run_of text))
run_of-ends [] = tt
run_of-ends (b ∷ rest) =
    subst (λ run. RunEndsAt (b ∷ rest) (length run)) (sym (take_while-cons is_run_byte b rest)) (first_byte_behind b rest (run_of rest) (is_run_byte b) refl (run_of-ends rest))
