-- Parts that stand one behind the other in a text.
use Rattle.std.proofs.Common.{◌≡◌, ℕ, zero, suc, ◌+◌, ◌-◌, ◌<◌, ◌≤◌, List, [], ◌∷◌, ◌++◌, length, take, drop, get_or, Option, refl, sym, ◌∙◌, ap, subst, arith, append_assoc, length-append, drop-drop}
use Rattle.std.proofs.Math.Seq.{drop-append_seam, take-add}
use Rattle.std.proofs.lemmas.List.{take_all}
use Rattle.hist_types.specs.Operations.{Operation}
use Rattle.hist_types.specs.declared.types.Fault.{Fault}
use Rattle.reading_laws.specs.Parts.{HasPartAt, EndsLine}
use Rattle.hist_types.specs.Reading.{GivesOperations, GivesFrom}
use Rattle.block_reader.specs.Parts.{end_of_part, part_at, AreStarts, ReadsThrough, front_of}

-- the law of parts that read by themselves
abbrev pub PartLaw : Type 0
PartLaw =
    (text part behind : List ℕ) (offset : ℕ) (operations later : List Operation) (fault : Option Fault)
    → HasPartAt text offset part behind → EndsLine part → GivesOperations part operations
    → GivesFrom text (offset + length part) later fault → GivesFrom text offset (operations ++ later) fault

pub nothing_through : ReadsThrough [] []
nothing_through text behind offset later fault has gives = subst (λ n. GivesFrom text n later fault) (omega arith) gives

more_through : PartLaw → (a part : List ℕ) (os ps : List Operation) → ReadsThrough a os → EndsLine part → GivesOperations part ps → ReadsThrough (a ++ part) (os ++ ps)
more_through law a part os ps through ends gives text behind offset later fault has rest =
    let there : drop (offset + length a) text ≡ part ++ behind =
    sym (drop-drop (length a) offset text) ∙ (ap (drop (length a)) (has ∙ append_assoc a part behind) ∙ drop-append_seam a (part ++ behind)) in
    let long : offset + length (a ++ part) ≡ (offset + length a) + length part = omega (arith, length-append a part) in
    let second = law text part behind (offset + length a) ps later fault there ends gives (subst (λ n. GivesFrom text n later fault) long rest) in
    subst (λ xs. GivesFrom text offset xs fault) (sym (append_assoc os ps later))
    (through text (part ++ behind) offset (ps ++ later) fault (has ∙ append_assoc a part behind) second)

same_start : (xs : List ℕ) (i a b : ℕ) → i < length xs → get_or xs i a ≡ get_or xs i b
same_start [] i a b below = absurd (omega arith)
same_start (x ∷ xs) zero a b below = refl
same_start (x ∷ xs) (suc i) a b below = same_start xs i a b (omega arith)

at_start : (text starts : List ℕ) → AreStarts text starts → get_or starts 0 (length text) ≡ 0
at_start text starts are = same_start starts 0 (length text) 0 are.some ∙ are.first

past_end : (xs : List ℕ) (i d : ℕ) → length xs ≤ i → get_or xs i d ≡ d
past_end [] i d above = refl
past_end (x ∷ xs) zero d above = absurd (omega arith)
past_end (x ∷ xs) (suc i) d above = past_end xs i d (omega arith)

-- the parts so far, and one more
pub through_next : PartLaw → (text starts : List ℕ) (i : ℕ) (os ps : List Operation) → AreStarts text starts → i < length starts
    → ReadsThrough (front_of text starts i) os → GivesOperations (part_at text starts i) ps
    → ReadsThrough (front_of text starts (i + 1)) (os ++ ps)
through_next law text starts i os ps are below through gives =
    let s = get_or starts i 0 in
    let e = end_of_part text starts i in
    let start : get_or starts i (length text) ≡ s = same_start starts i (length text) 0 below in
    let ordered = are.ordered i below in
    let long : e ≡ s + (e - s) = omega arith in
    let joined : take e text ≡ take s text ++ part_at text starts i = ap (λ n. take n text) long ∙ take-add s (e - s) text in
    subst (λ t. ReadsThrough t (os ++ ps)) (sym joined)
    (more_through law (take s text) (part_at text starts i) os ps (subst (λ n. ReadsThrough (take n text) os) start through) (are.ends i below) gives)

pub through_all : (text starts : List ℕ) (i : ℕ) (os : List Operation) → i ≡ length starts → ReadsThrough (front_of text starts i) os → ReadsThrough text os
through_all text starts i os all through =
    subst (λ t. ReadsThrough t os) (ap (λ n. take n text) (past_end starts i (length text) (omega arith)) ∙ take_all (length text) text (omega arith)) through

pub through_none : (text starts : List ℕ) → AreStarts text starts → ReadsThrough (front_of text starts 0) []
through_none text starts are = subst (λ n. ReadsThrough (take n text) []) (sym (at_start text starts are)) nothing_through
