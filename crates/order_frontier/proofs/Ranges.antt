-- Ranges of lists of predecessors, as the lists grow.
use mathlib.Core.List.{IsPrefix, IsSuffix}
use Rattle.std.proofs.Common.{◌≡◌, ◌∙◌, ◌≤◌, ◌+◌, ◌-◌, ℕ, Bool, true, false, nat_lt, List, [], ◌∷◌, ◌++◌, length, take, drop, map, All, refl, ap, sym, subst, arith}
use Rattle.std.specs.Prelude.{slice_range}
use Rattle.std.specs.List.{AllByRecursion}
use Rattle.std.proofs.lemmas.Bool.{ltb-true, ltb-false}
use Rattle.std.proofs.lemmas.List.{append-nil, append_assoc, length-append, take-append-drop, take-append-le, drop-append-le, length-drop, map-append, drop-take}
use Rattle.std.proofs.lemmas.List.Sums.{fold-append}
use Rattle.std.proofs.lemmas.List.Elements.{recursion_from_All, All-from_recursion, All-append}
use Rattle.std.proofs.Math.Seq.{drop-append_seam, take-length}
use Rattle.order_frontier.specs.declared.types.Predecessor.{Predecessor}
use Rattle.order_frontier.specs.declared.types.Completed.{Completed}
use Rattle.order_frontier.specs.Completions.{predecessor_of, count_passed, frontier_after}
use Rattle.order_frontier.specs.Predecessors.{Before, last_realtime}
use Rattle.order_frontier.specs.declared.types.Span.{Span}
use Rattle.order_frontier.specs.declared.types.Row.{Row}
use Rattle.order_frontier.specs.Ranges.{before_in, between, IsSpanOf, IsRowIn, IsRowOf, AreRowsOf}

-- ---- a list that grows

range-append : (items more : List Predecessor) (a b : ℕ) → a ≤ b → b ≤ length items → slice_range (items ++ more) a b ≡ slice_range items a b
range-append items more a b rising within =
    let whole : drop a (items ++ more) ≡ drop a items ++ more = drop-append-le a items more (omega arith) in
    let fits : b - a ≤ length (drop a items) = omega (arith, length-drop a items) in
    ap (take (b - a)) whole ∙ take-append-le (b - a) (drop a items) more fits

-- what was added last
last_range : (items more : List Predecessor) → slice_range (items ++ more) (length items) (length (items ++ more)) ≡ more
last_range items more =
    let n : length (items ++ more) - length items ≡ length more = omega (arith, length-append items more) in
    ap (take (length (items ++ more) - length items)) (drop-append_seam items more) ∙ ap (λ k. take k more) n ∙ take-length more

span-append : (items more : List Predecessor) (s : Span) → IsSpanOf items s → between (items ++ more) s ≡ between items s
span-append items more s is = range-append items more s.start s.end is.rising is.within

still_span : (items more : List Predecessor) (s : Span) → IsSpanOf items s → IsSpanOf (items ++ more) s
still_span items more s is = record { rising = is.rising; within = (let w = is.within in omega (arith, w, length-append items more)) }

row-append : (own own+ others others+ : List Predecessor) (r : Row) → IsRowIn own others r → before_in (own ++ own+) (others ++ others+) r ≡ before_in own others r
row-append own own+ others others+ r is =
    ap (λ ps. record { process = r.process; invocation = r.invocation; in_process = ps; in_realtime = between (others ++ others+) r.in_realtime }) (span-append own own+ r.in_process is.0)
    ∙ ap (λ ps. record { process = r.process; invocation = r.invocation; in_process = between own r.in_process; in_realtime = ps }) (span-append others others+ r.in_realtime is.1)

rows-append : (own own+ others others+ : List Predecessor) (rs : List Row) → AllByRecursion (IsRowIn own others) rs
    → map (before_in (own ++ own+) (others ++ others+)) rs ≡ map (before_in own others) rs
rows-append own own+ others others+ [] are = refl
rows-append own own+ others others+ (r ∷ rs) are =
    ap (λ b. b ∷ map (before_in (own ++ own+) (others ++ others+)) rs) (row-append own own+ others others+ r are.0)
    ∙ ap (λ bs. before_in own others r ∷ bs) (rows-append own own+ others others+ rs are.1)

rows_stay : (own own+ others others+ : List Predecessor) (rs : List Row) → AllByRecursion (IsRowIn own others) rs → AllByRecursion (IsRowIn (own ++ own+) (others ++ others+)) rs
rows_stay own own+ others others+ [] are = tt
rows_stay own own+ others others+ (r ∷ rs) are = (
  (still_span own own+ r.in_process are.0.0, still_span others others+ r.in_realtime are.0.1),
  rows_stay own own+ others others+ rs are.1,
)

-- all rows stay as the lists grow, with what they have
still_rows : (own own' own+ others others' others+ : List Predecessor) (rs : List Row) → own' ≡ own ++ own+ → others' ≡ others ++ others+
    → All (IsRowIn own others) rs → All (IsRowIn own' others') rs
still_rows own own' own+ others others' others+ rs grown grown' are =
    subst (λ xs. All (IsRowIn xs others') rs) (sym grown)
    (subst (λ ys. All (IsRowIn (own ++ own+) ys) rs) (sym grown')
    (All-from_recursion (IsRowIn (own ++ own+) (others ++ others+)) rs
    (rows_stay own own+ others others+ rs (recursion_from_All (IsRowIn own others) rs are))))

same_rows : (own own' own+ others others' others+ : List Predecessor) (rs : List Row) → own' ≡ own ++ own+ → others' ≡ others ++ others+
    → All (IsRowIn own others) rs → map (before_in own' others') rs ≡ map (before_in own others) rs
same_rows own own' own+ others others' others+ rs grown grown' are =
    ap (λ xs. map (before_in xs others') rs) grown ∙ ap (λ ys. map (before_in (own ++ own+) ys) rs) grown'
    ∙ rows-append own own+ others others+ rs (recursion_from_All (IsRowIn own others) rs are)

pub kept_rows : (own own' others others' : List Predecessor) (rs : List Row) → IsPrefix own own' → IsPrefix others others'
    → All (IsRowIn own others) rs → map (before_in own' others') rs ≡ map (before_in own others) rs
kept_rows own own' others others' rs grown grown' are = same_rows own own' grown.0 others others' grown'.0 rs (sym grown.1) (sym grown'.1) are

pub rows_kept : (own own' others others' : List Predecessor) (rs : List Row) → IsPrefix own own' → IsPrefix others others'
    → All (IsRowIn own others) rs → All (IsRowIn own' others') rs
rows_kept own own' others others' rs grown grown' are = still_rows own own' grown.0 others others' grown'.0 rs (sym grown.1) (sym grown'.1) are

-- one more row
one_more : (own others : List Predecessor) (rs : List Row) (r : Row) → All (IsRowIn own others) rs → IsRowIn own others r → All (IsRowIn own others) (rs ++ r ∷ [])
one_more own others rs r are is = All-append (IsRowIn own others) rs (r ∷ []) are (All-from_recursion (IsRowIn own others) (r ∷ []) (is, tt))

last_more : (order : List Before) (b : Before) → last_realtime (order ++ b ∷ []) ≡ b.in_realtime
last_more order b = fold-append (λ ps (u : Before). u.in_realtime) [] order (b ∷ [])

-- the rows stay as the list for processes grows
pub still_are : (own own' others : List Predecessor) (rs : List Row) → IsPrefix own own' → AreRowsOf own others rs → AreRowsOf own' others rs
still_are own own' others rs grown are =
    let same : IsPrefix others others = ([], append-nil others) in
    record {
      ranges = rows_kept own own' others others rs grown same are.ranges;
      end = subst (λ order. IsSuffix (last_realtime order) others) (sym (kept_rows own own' others others rs grown same are.ranges)) are.end;
    }

-- one more transaction, with ranges of the lists as they have grown
pub pushed_row :
    (own own' others others' : List Predecessor) (rs : List Row) (r : Row) (b : Before)
    → IsPrefix own own'
    → IsPrefix others others'
    → All (IsRowIn own others) rs
    → IsRowOf own' others' r b
    → IsSuffix b.in_realtime others'
    → (map (before_in own' others') (rs ++ r ∷ []) ≡ map (before_in own others) rs ++ b ∷ []) × AreRowsOf own' others' (rs ++ r ∷ [])
pushed_row own own' others others' rs r b grown grown' are is end =
    let order : map (before_in own' others') (rs ++ r ∷ []) ≡ map (before_in own others) rs ++ b ∷ [] =
    map-append (before_in own' others') rs (r ∷ [])
    ∙ ap (λ bs. bs ++ before_in own' others' r ∷ []) (kept_rows own own' others others' rs grown grown' are)
    ∙ ap (λ x. map (before_in own others) rs ++ x ∷ []) is.1 in (
      order,
      record {
        ranges = one_more own' others' rs r (rows_kept own own' others others' rs grown grown' are) is.0;
        end = subst (λ ps. IsSuffix ps others') (sym (ap last_realtime order ∙ last_more (map (before_in own others) rs) b)) end;
      },
    )

-- ---- what was added last

last_span : (items items' more : List Predecessor) → items' ≡ items ++ more → IsSpanOf items' (record { start = length items; end = length items' })
last_span items items' more grown = (let long = ap length grown ∙ length-append items more in record { rising = omega (arith, long); within = omega arith })

last_between : (items items' more : List Predecessor) → items' ≡ items ++ more → between items' (record { start = length items; end = length items' }) ≡ more
last_between items items' more grown = ap (λ xs. slice_range xs (length items) (length xs)) grown ∙ last_range items more

abbrev pub row_of : (process invocation first last start end : ℕ) → Row
row_of process invocation first last start end =
    record { process = process; invocation = invocation; in_process = record { start = first; end = last }; in_realtime = record { start = start; end = end } }

-- one more transaction, with ranges of its own
pub pushed :
    (own own' others others' : List Predecessor) (rs rs' : List Row) (r : Row) (b : Before)
    → All (IsRowIn own others) rs
    → own' ≡ own ++ b.in_process
    → others' ≡ others ++ b.in_realtime
    → r ≡ row_of b.process b.invocation (length own) (length own') (length others) (length others')
    → rs' ≡ rs ++ r ∷ []
    → (map (before_in own' others') rs' ≡ map (before_in own others) rs ++ b ∷ []) × AreRowsOf own' others' rs'
pushed own own' others others' rs rs' r b are grown grown' row added =
    let new = row_of b.process b.invocation (length own) (length own') (length others) (length others') in
    let seen : before_in own' others' new ≡ b =
    ap (λ ps. record { process = b.process; invocation = b.invocation; in_process = ps; in_realtime = between others' new.in_realtime }) (last_between own own' b.in_process grown)
    ∙ ap (λ ps. record { process = b.process; invocation = b.invocation; in_process = b.in_process; in_realtime = ps }) (last_between others others' b.in_realtime grown') in
    let more =
    pushed_row own own' others others' rs new b (b.in_process, sym grown) (b.in_realtime, sym grown') are
    ((last_span own own' b.in_process grown, last_span others others' b.in_realtime grown'), seen) (others, sym grown') in
    let last : rs' ≡ rs ++ new ∷ [] = added ∙ ap (λ x. rs ++ x ∷ []) row in (
      ap (map (before_in own' others')) last ∙ more.0,
      subst (AreRowsOf own' others') (sym last) more.1,
    )

-- ---- a list that ends with the first ones of those that are added

pub suffix_of : (end middle whole : List Predecessor) → IsSuffix end middle → IsSuffix middle whole → IsSuffix end whole
suffix_of end middle whole inner outer = (outer.0 ++ inner.0, append_assoc outer.0 inner.0 end ∙ ap (λ xs. outer.0 ++ xs) inner.1 ∙ outer.1)

-- the first ones stay the last ones of a list, but for those that are passed
shared_by : (recent list : List Predecessor) (p : Predecessor) (shared count : ℕ) (fewer : Bool) → nat_lt shared count ≡ fewer → shared ≤ length recent → IsSuffix (take shared recent) list
    → IsSuffix (take (shared - count) (drop count recent ++ p ∷ [])) list
shared_by recent list p shared count true is fits ends =
    let below = ltb-true shared count is in
    let none : shared - count ≡ 0 = omega (arith, below) in
    subst (λ n. IsSuffix (take n (drop count recent ++ p ∷ [])) list) (sym none) (list, append-nil list)
shared_by recent list p shared count false is fits ends =
    let up = ltb-false shared count is in
    let rest = length-drop count recent in
    let sum : count + (shared - count) ≡ shared = omega (arith, up) in
    let same : drop count (take shared recent) ≡ take (shared - count) (drop count recent ++ p ∷ []) =
    ap (λ n. drop count (take n recent)) (sym sum) ∙ drop-take count (shared - count) recent
    ∙ sym (take-append-le (shared - count) (drop count recent) (p ∷ []) (omega (arith, rest, fits))) in
    subst (λ xs. IsSuffix xs list) same (suffix_of (drop count (take shared recent)) (take shared recent) list (take count (take shared recent), take-append-drop count (take shared recent)) ends)

pub shared_after : (recent recent' list : List Predecessor) (d : Completed) (shared count : ℕ) → count ≡ count_passed d.invocation recent → recent' ≡ frontier_after recent d
    → (shared ≤ length recent) × IsSuffix (take shared recent) list
    → (shared - count ≤ length recent') × IsSuffix (take (shared - count) recent') list
shared_after recent recent' list d shared count counted after was =
    let next : recent' ≡ drop count recent ++ predecessor_of d ∷ [] = after ∙ ap (λ n. drop n recent ++ predecessor_of d ∷ []) (sym counted) in
    let fits = was.0 in
    let rest = length-drop count recent in
    let long = ap length next ∙ length-append (drop count recent) (predecessor_of d ∷ []) in (
      omega (arith, fits, rest, long),
      subst (λ xs. IsSuffix (take (shared - count) xs) list) (sym next) (shared_by recent list (predecessor_of d) shared count (nat_lt shared count) refl fits was.1),
    )
