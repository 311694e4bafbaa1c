-- Where bytes are cut into lines.
use Rattle.std.proofs.Common.{◌≡◌, ◌∙◌, ℕ, ◌+◌, ◌≤◌, List, [], ◌∷◌, ◌++◌, length, take, drop, sym, ap, subst, arith}
use Rattle.std.proofs.lemmas.List.{append_assoc, length-drop, drop-drop, take-append-drop}
use lib.Seq.{take-add}
use Rattle.hist_types.specs.Bytes.{line_feed}
use Rattle.verdict_serve.specs.Cuts.{IsUnbroken, BeginsWithLine, IsLineEnd}

pub unbroken_both : (xs ys : List ℕ) → IsUnbroken xs → IsUnbroken ys → IsUnbroken (xs ++ ys)
unbroken_both [] ys first second = second
unbroken_both (x ∷ xs) ys first second = (first.0, unbroken_both xs ys first.1 second)

-- more bytes before a first line, without a byte 10, are part of it
pub begins_later : (xs bytes l rest : List ℕ) → IsUnbroken xs → BeginsWithLine bytes l rest → BeginsWithLine (xs ++ bytes) (xs ++ l) rest
begins_later xs bytes l rest unbroken begins = record {
  whole = ap (λ (t : List ℕ). xs ++ t) begins.whole ∙ sym (append_assoc xs l (line_feed ∷ rest));
  unbroken = unbroken_both xs l unbroken begins.unbroken;
}

-- a line's end that was searched for after the first bytes
pub later_end : (bytes : List ℕ) (n place : ℕ) → n ≤ length bytes → IsUnbroken (take n bytes) → IsLineEnd (drop n bytes) place → IsLineEnd bytes (n + place)
later_end bytes n place within unbroken end =
    let whole : take n bytes ++ drop n bytes ≡ bytes = take-append-drop n bytes in
    let begins = begins_later (take n bytes) (drop n bytes) (take place (drop n bytes)) (drop (place + 1) (drop n bytes)) unbroken end.begins in
    let front : take n bytes ++ take place (drop n bytes) ≡ take (n + place) bytes = sym (take-add n place bytes) in
    let sum : n + (place + 1) ≡ n + place + 1 = omega arith in
    let rest : drop (place + 1) (drop n bytes) ≡ drop (n + place + 1) bytes = drop-drop (place + 1) n bytes ∙ ap (λ (k : ℕ). drop k bytes) sum in
    record {
      within = omega (arith, end.within, length-drop n bytes);
      begins = record {
        whole = sym whole ∙ begins.whole ∙ ap (λ (t : List ℕ). t ++ line_feed ∷ drop (place + 1) (drop n bytes)) front ∙ ap (λ (t : List ℕ). take (n + place) bytes ++ line_feed ∷ t) rest;
        unbroken = subst IsUnbroken front begins.unbroken;
      };
    }
