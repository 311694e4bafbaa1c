-- One more part of a text.
use Rattle.std.proofs.Common.{◌≡◌, inl, inr, ℕ, zero, suc, ◌+◌, ◌-◌, ◌<◌, ◌≤◌, List, [], ◌∷◌, ◌++◌, length, take, drop, get_or, slice_range, refl, sym, ◌∙◌, ap, ap₂, subst, arith, length-append, drop-drop}
use Rattle.std.specs.Prelude.{◌≢◌}
use Rattle.std.proofs.Math.Seq.{take-add}
use Rattle.std.proofs.lemmas.Bool.{cases_order}
use Rattle.hist_types.specs.Bytes.{backslash, line_feed}
use Rattle.reading_laws.specs.Parts.{EndsLine}
use Rattle.block_reader.specs.Parts.{end_of_part, AreStarts}
use Rattle.block_reader.specs.Starts.{IsBehindLine}

-- the two bytes at a place
two_at : (xs : List ℕ) (i : ℕ) → i + 2 ≤ length xs → take 2 (drop i xs) ≡ get_or xs i 0 ∷ get_or xs (suc i) 0 ∷ []
two_at [] i fits = absurd (omega arith)
two_at (x ∷ []) zero fits = absurd (omega arith)
two_at (x ∷ y ∷ xs) zero fits = refl
two_at (x ∷ xs) (suc i) fits = two_at xs i (omega arith)

-- a part that ends a line
pub ends_behind_line : (text : List ℕ) (start end : ℕ) → start + 2 ≤ end → end ≤ length text → get_or text (end - 2) 0 ≢ backslash → get_or text (end - 1) 0 ≡ line_feed
    → EndsLine (slice_range text start end)
ends_behind_line text start end some within before line =
    let m = end - 2 - start in
    let count : end - start ≡ m + 2 = omega arith in
    let at : start + m ≡ end - 2 = omega arith in
    let next : suc (end - 2) ≡ end - 1 = omega arith in (
      take m (drop start text),
      get_or text (end - 2) 0,
      before,
      ap (λ n. take n (drop start text)) count
          ∙ (take-add m 2 (drop start text)
          ∙ ap (λ xs. take m (drop start text) ++ xs)
          (ap (take 2) (drop-drop m start text ∙ ap (λ n. drop n text) at)
          ∙ (two_at text (end - 2) (omega arith) ∙ ap (λ b. get_or text (end - 2) 0 ∷ b ∷ []) (ap (λ n. get_or text n 0) next ∙ line)))),
    )

get_front : (xs ys : List ℕ) (i d : ℕ) → i < length xs → get_or (xs ++ ys) i d ≡ get_or xs i d
get_front [] ys i d below = absurd (omega arith)
get_front (x ∷ xs) ys zero d below = refl
get_front (x ∷ xs) ys (suc i) d below = get_front xs ys i d (omega arith)

get_last : (xs : List ℕ) (y d : ℕ) → get_or (xs ++ y ∷ []) (length xs) d ≡ y
get_last [] y d = refl
get_last (x ∷ xs) y d = get_last xs y d

past_end : (xs : List ℕ) (i d : ℕ) → length xs ≤ i → get_or xs i d ≡ d
past_end [] i d above = refl
past_end (x ∷ xs) zero d above = absurd (omega arith)
past_end (x ∷ xs) (suc i) d above = past_end xs i d (omega arith)

get_behind : (xs ys : List ℕ) (i d : ℕ) → get_or (xs ++ ys) (length xs + i) d ≡ get_or ys i d
get_behind [] ys i d = let same : 0 + i ≡ i = omega arith in ap (λ n. get_or ys n d) same
get_behind (x ∷ xs) ys i d =
    let next : length (x ∷ xs) + i ≡ suc (length xs + i) = omega arith in
    ap (λ n. get_or (x ∷ (xs ++ ys)) n d) next ∙ get_behind xs ys i d

-- how a text ends that ends a line
record HasEnd (text : List ℕ) : Type 0 where
  pub long : 2 ≤ length text
  pub before : get_or text (length text - 2) 0 ≢ backslash
  pub line : get_or text (length text - 1) 0 ≡ line_feed

has_end : (text : List ℕ) → EndsLine text → HasEnd text
has_end text (before, last, other, is) =
    let two = last ∷ line_feed ∷ [] in
    let long : length text ≡ length before + 2 = ap length is ∙ length-append before two in
    let first : length text - 2 ≡ length before + 0 = omega arith in
    let second : length text - 1 ≡ length before + 1 = omega arith in
    record {
      long = omega arith;
      before = λ e. other (sym (ap₂ (λ xs n. get_or xs n 0) is first ∙ get_behind before two 0 0) ∙ e);
      line = ap₂ (λ xs n. get_or xs n 0) is second ∙ get_behind before two 1 0;
    }

-- a part from one place to another
record IsPart (text : List ℕ) (start end : ℕ) : Type 0 where
  pub ordered : start ≤ end
  pub within : end ≤ length text
  pub ends : EndsLine (slice_range text start end)

part_of : (text starts : List ℕ) → AreStarts text starts → (i : ℕ) → i < length starts → IsPart text (get_or starts i 0) (end_of_part text starts i)
part_of text starts are i below = record { ordered = are.ordered i below; within = are.within i below; ends = are.ends i below }

-- the parts of some starts, by their index
are_starts : (text starts : List ℕ) → 0 < length starts → get_or starts 0 0 ≡ 0
    → ((i : ℕ) → i < length starts → IsPart text (get_or starts i 0) (end_of_part text starts i)) → AreStarts text starts
are_starts text starts some first parts =
    record {
      some = some;
      first = first;
      ordered = λ i below. (parts i below).ordered;
      within = λ i below. (parts i below).within;
      ends = λ i below. (parts i below).ends;
    }

pub one_start : (text : List ℕ) → EndsLine text → AreStarts text (0 ∷ [])
one_start text ends = are_starts text (0 ∷ []) (omega arith) refl by
  where
    by : (i : ℕ) → i < 1 → IsPart text (get_or (0 ∷ []) i 0) (end_of_part text (0 ∷ []) i)
    by zero below =
        let end = has_end text ends in
        let long = end.long in
        record { ordered = omega arith; within = omega arith; ends = ends_behind_line text 0 (length text) (omega arith) (omega arith) end.before end.line }
    by (suc i) below = absurd (omega arith)

abbrev part_with : List ℕ → List ℕ → ℕ → ℕ → Type 0
part_with text starts start i = IsPart text (get_or (starts ++ start ∷ []) i 0) (end_of_part text (starts ++ start ∷ []) i)

part_in_all :
    (text starts : List ℕ) (last offset start i : ℕ) → EndsLine text → AreStarts text starts → last ≡ get_or starts (length starts - 1) 0 → last < offset
    → IsBehindLine text offset start → 2 ≤ length text - start → i < length starts + 1 → part_with text starts start i
part_in_all text starts last offset start i ends are is_last above found left below = elim (cases_order (i + 1) (length starts)) [
  | inl at_end ↦
      let from : get_or (starts ++ start ∷ []) i 0 ≡ last = get_front starts (start ∷ []) i 0 (omega arith) ∙ (ap (λ n. get_or starts n 0) (omega arith) ∙ sym is_last) in
      let to : get_or (starts ++ start ∷ []) (i + 1) (length text) ≡ start = ap (λ n. get_or (starts ++ start ∷ []) n (length text)) at_end ∙ get_last starts start (length text) in
      let behind = found.behind in
      let part : IsPart text last start = record { ordered = omega arith; within = found.within; ends = ends_behind_line text last start (omega arith) found.within found.before found.line } in
      subst (λ a. IsPart text a (end_of_part text (starts ++ start ∷ []) i)) (sym from) (subst (IsPart text last) (sym to) part)
  | inr (inl before) ↦
      let from : get_or (starts ++ start ∷ []) i 0 ≡ get_or starts i 0 = get_front starts (start ∷ []) i 0 (omega arith) in
      let to : get_or (starts ++ start ∷ []) (i + 1) (length text) ≡ get_or starts (i + 1) (length text) = get_front starts (start ∷ []) (i + 1) (length text) before in
      subst (λ a. IsPart text a (end_of_part text (starts ++ start ∷ []) i)) (sym from) (subst (IsPart text (get_or starts i 0)) (sym to) (part_of text starts are i (omega arith)))
  | inr (inr behind_all) ↦
      let long = length-append starts (start ∷ []) in
      let from : get_or (starts ++ start ∷ []) i 0 ≡ start = ap (λ n. get_or (starts ++ start ∷ []) n 0) (omega arith) ∙ get_last starts start 0 in
      let to : get_or (starts ++ start ∷ []) (i + 1) (length text) ≡ length text = past_end (starts ++ start ∷ []) (i + 1) (length text) (omega arith) in
      let end = has_end text ends in
      let within = found.within in
      let part : IsPart text start (length text) =
      record { ordered = within; within = omega arith; ends = ends_behind_line text start (length text) (omega arith) (omega arith) end.before end.line } in
      subst (λ a. IsPart text a (end_of_part text (starts ++ start ∷ []) i)) (sym from) (subst (IsPart text start) (sym to) part)
]

pub one_more_start :
    (text starts : List ℕ) (last offset start : ℕ) → EndsLine text → AreStarts text starts → last ≡ get_or starts (length starts - 1) 0 → last < offset
    → IsBehindLine text offset start → 2 ≤ length text - start → AreStarts text (starts ++ start ∷ [])
one_more_start text starts last offset start ends are is_last above found left =
    let long = length-append starts (start ∷ []) in
    are_starts text (starts ++ start ∷ []) (omega arith) (get_front starts (start ∷ []) 0 0 are.some ∙ are.first)
    (λ i below. part_in_all text starts last offset start i ends are is_last above found left (omega arith))

pub last_start : (starts : List ℕ) (start n : ℕ) → n ≡ length (starts ++ start ∷ []) - 1 → start ≡ get_or (starts ++ start ∷ []) n 0
last_start starts start n is = sym (ap (λ k. get_or (starts ++ start ∷ []) k 0) (omega (arith, length-append starts (start ∷ []))) ∙ get_last starts start 0)
