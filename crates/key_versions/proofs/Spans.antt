-- Numbers of transactions side by side in one list.
use Rattle.std.proofs.Common.{◌≡◌, ◌≤◌, ◌<◌, ◌-◌, ℕ, zero, suc, List, [], ◌∷◌, ◌++◌, length, map, set, get_or, take, drop, All, Option, Some, option_map, refl, sym, ◌∙◌, ap, subst, arith}
use Rattle.std.specs.Prelude.{slice_get}
use Rattle.std.proofs.Math.Seq.{drop-append_seam, take-append_seam}
use Rattle.std.proofs.lemmas.List.{append_assoc, map-append, map-set, length-append, length-drop, length-map, take-append-le, drop-append-le}
use Rattle.std.proofs.lemmas.List.Elements.{All-set}
use Rattle.std.proofs.lemmas.Option.{slice_get-get_or, slice_get-map}
use Rattle.key_versions.specs.declared.accesses.Span.{Span}
use Rattle.key_versions.specs.declared.kept_accesses.KeptSpan.{KeptSpan}
use Rattle.key_versions.specs.declared.pending.Access.{Access}
use Rattle.key_versions.specs.Rows.{Accessed}
use Rattle.flat_groups.specs.Groups.{between}
use Rattle.key_versions.specs.Spans.{IsSpan, accessed_at, writes_start, seen_start, end_of, IsKeptSpan, kept_at, AreAppended}
use Rattle.key_versions.specs.TxnAccesses.{TxnAccesses, accesses_by}
use Rattle.key_versions.proofs.Changed.{all_behind}

abbrev accessed_by : List ℕ → List ℕ → Accessed
accessed_by reads installs = record { reads = reads; installs = installs }

abbrev span_by : ℕ → ℕ → ℕ → Span
span_by reads installs end = record { reads = reads; installs = installs; end = end }

-- ---- more numbers

between_kept : {A : Type 0} (from to : ℕ) (xs ys : List A) → from ≤ to → to ≤ length xs → between from to (xs ++ ys) ≡ between from to xs
between_kept from to xs ys rises within =
    let below : from ≤ length xs = omega arith in
    let enough : to - from ≤ length (drop from xs) = omega (arith, length-drop from xs) in
    ap (take (to - from)) (drop-append-le from xs ys below) ∙ take-append-le (to - from) (drop from xs) ys enough

one_kept : (xs ys : List ℕ) (s : Span) → IsSpan (length xs) s → accessed_at (xs ++ ys) s ≡ accessed_at xs s
one_kept xs ys s is =
    let middle : s.installs ≤ length xs = let a = is.1 in let b = is.2 in omega arith in
    ap (λ (rs : List ℕ). accessed_by rs (between s.installs s.end (xs ++ ys))) (between_kept s.reads s.installs xs ys is.0 middle)
    ∙ ap (accessed_by (between s.reads s.installs xs)) (between_kept s.installs s.end xs ys is.1 is.2)

spans_kept : (xs ys : List ℕ) (ss : List Span) → All (IsSpan (length xs)) ss → map (accessed_at (xs ++ ys)) ss ≡ map (accessed_at xs) ss
spans_kept xs ys [] all = refl
spans_kept xs ys (s ∷ ss) all =
    ap (λ (a : Accessed). a ∷ map (accessed_at (xs ++ ys)) ss) (one_kept xs ys s (all 0 s (omega arith)))
    ∙ ap (λ (as1 : List Accessed). accessed_at xs s ∷ as1) (spans_kept xs ys ss (all_behind (IsSpan (length xs)) s ss all))

pub spans_wider : (n m : ℕ) (ss : List Span) → n ≤ m → All (IsSpan n) ss → All (IsSpan m) ss
spans_wider n m ss more all k d below =
    let is = all k d below in
    let last : (get_or ss k d).end ≤ n = is.2 in
    let wider : (get_or ss k d).end ≤ m = omega arith in
    (is.0, is.1, wider)

spans_within : (xs ys : List ℕ) (ss : List Span) → All (IsSpan (length xs)) ss → All (IsSpan (length (xs ++ ys))) ss
spans_within xs ys ss all =
    let more : length xs ≤ length (xs ++ ys) = omega (arith, length-append xs ys) in
    spans_wider (length xs) (length (xs ++ ys)) ss more all

-- ---- one transaction more

all_pushed : {A : Type 0} (P : A → Type 0) (xs : List A) (x : A) → All P xs → P x → All P (xs ++ x ∷ [])
all_pushed P [] x all is zero d below = is
all_pushed P [] x all is (suc k) d below = absurd (omega arith)
all_pushed P (y ∷ xs) x all is zero d below = all 0 d (omega arith)
all_pushed P (y ∷ xs) x all is (suc k) d below =
    let behind : k < length (xs ++ x ∷ []) = omega arith in
    all_pushed P xs x (all_behind P y xs all) is k d behind

-- the numbers that were appended
appended : {A : Type 0} (xs ys zs : List A) → between (length xs) (length (xs ++ ys)) ((xs ++ ys) ++ zs) ≡ ys
appended {A} xs ys zs =
    let count : length (xs ++ ys) - length xs ≡ length ys = omega (arith, length-append xs ys) in
    ap (λ n. take n (drop (length xs) ((xs ++ ys) ++ zs))) count
    ∙ ap (λ (ns : List A). take (length ys) (drop (length xs) ns)) (append_assoc xs ys zs)
    ∙ ap (take (length ys)) (drop-append_seam xs (ys ++ zs))
    ∙ take-append_seam ys zs

last_appended : {A : Type 0} (xs ys : List A) → between (length xs) (length (xs ++ ys)) (xs ++ ys) ≡ ys
last_appended {A} xs ys =
    let count : length (xs ++ ys) - length xs ≡ length ys = omega (arith, length-append xs ys) in
    ap (λ n. take n (drop (length xs) (xs ++ ys))) count
    ∙ ap (take (length ys)) (drop-append_seam xs ys)
    ∙ all_taken ys
  where
    all_taken : (ys : List A) → take (length ys) ys ≡ ys
    all_taken [] = refl
    all_taken (y ∷ ys) = ap (λ (ns : List A). y ∷ ns) (all_taken ys)

-- the span of a transaction whose reads and installs were appended
abbrev appended_span : (numbers reads installs : List ℕ) → Span
appended_span numbers reads installs =
    span_by (length numbers) (length (numbers ++ reads)) (length ((numbers ++ reads) ++ installs))

pushed_within :
    (numbers reads installs : List ℕ) (ss : List Span) → All (IsSpan (length numbers)) ss
    → All (IsSpan (length ((numbers ++ reads) ++ installs))) (ss ++ appended_span numbers reads installs ∷ [])
pushed_within numbers reads installs ss all =
    let end = length ((numbers ++ reads) ++ installs) in
    let first : length numbers ≤ length (numbers ++ reads) = omega (arith, length-append numbers reads) in
    let second : length (numbers ++ reads) ≤ end = omega (arith, length-append (numbers ++ reads) installs) in
    let last : end ≤ end = omega arith in
    all_pushed (IsSpan end) ss (appended_span numbers reads installs)
    (spans_within (numbers ++ reads) installs ss (spans_within numbers reads ss all)) (first, second, last)

pushed_accessed :
    (numbers reads installs : List ℕ) (ss : List Span) → All (IsSpan (length numbers)) ss
    → map (accessed_at ((numbers ++ reads) ++ installs)) (ss ++ appended_span numbers reads installs ∷ [])
    ≡ map (accessed_at numbers) ss ++ accessed_by reads installs ∷ []
pushed_accessed numbers reads installs ss all =
    let now = (numbers ++ reads) ++ installs in
    let s = appended_span numbers reads installs in
    map-append (accessed_at now) ss (s ∷ [])
    ∙ ap (λ (as1 : List Accessed). as1 ++ accessed_at now s ∷ [])
    (spans_kept (numbers ++ reads) installs ss (spans_within numbers reads ss all) ∙ spans_kept numbers reads ss all)
    ∙ ap (λ (rs : List ℕ). map (accessed_at numbers) ss ++ accessed_by rs (between s.installs s.end now) ∷ []) (appended numbers reads installs)
    ∙ ap (λ (is : List ℕ). map (accessed_at numbers) ss ++ accessed_by reads is ∷ []) (last_appended (numbers ++ reads) installs)

-- what a push leaves
pub pushed :
    (numbers read now : List ℕ) (reads installs : List ℕ) (ss after : List Span) (start middle end : ℕ) → All (IsSpan (length numbers)) ss
    → read ≡ numbers ++ reads → now ≡ read ++ installs → start ≡ length numbers → middle ≡ length read → end ≡ length now
    → after ≡ ss ++ span_by start middle end ∷ []
    → All (IsSpan (length now)) after × (map (accessed_at now) after ≡ map (accessed_at numbers) ss ++ accessed_by reads installs ∷ [])
pushed numbers read now reads installs ss after start middle end all first second at_start at_middle at_end last =
    let whole : now ≡ (numbers ++ reads) ++ installs = second ∙ ap (λ (xs : List ℕ). xs ++ installs) first in
    let span : span_by start middle end ≡ appended_span numbers reads installs =
    ap (λ n. span_by n middle end) at_start
    ∙ ap (λ n. span_by (length numbers) n end) (at_middle ∙ ap length first)
    ∙ ap (span_by (length numbers) (length (numbers ++ reads))) (at_end ∙ ap length whole) in
    let spans : after ≡ ss ++ appended_span numbers reads installs ∷ [] = last ∙ ap (λ (s : Span). ss ++ s ∷ []) span in (
      rw (whole, spans) (pushed_within numbers reads installs ss all),
      ap (λ (xs : List ℕ). map (accessed_at xs) after) whole
          ∙ ap (map (accessed_at ((numbers ++ reads) ++ installs))) spans
          ∙ pushed_accessed numbers reads installs ss all,
    )

-- ---- one transaction of those

pub told_at :
    {N S A : Type 0} (at_span : List N → S → A) (f : A → List N) (numbers seen : List N) (ss : List S) (accesses : List A) (place : ℕ) (s : S)
    → map (at_span numbers) ss ≡ accesses → place < length accesses → s ≡ get_or ss place s → seen ≡ numbers
    → slice_get (map f accesses) place ≡ Some (f (at_span seen s))
told_at {N} {S} {A} at_span f numbers seen ss accesses place s is below at same =
    let count : length accesses ≡ length ss = ap length (sym is) ∙ length-map ss (at_span numbers) in
    let within : place < length ss = subst (λ n. place < n) count below in
    slice_get-map f accesses place
    ∙ ap (λ (as1 : List A). option_map f (slice_get as1 place)) (sym is)
    ∙ ap (λ (o : Option A). option_map f o) (slice_get-map (at_span numbers) ss place)
    ∙ ap (λ (o : Option S). option_map f (option_map (at_span numbers) o)) (slice_get-get_or ss place s within)
    ∙ ap (λ (t : S). Some (f (at_span numbers t))) (sym at)
    ∙ ap (λ (ns : List N). Some (f (at_span ns s))) (sym same)

-- ---- accesses that are kept

one_kept_at : (xs ys : List Access) (s : KeptSpan) → IsKeptSpan (length xs) s → kept_at (xs ++ ys) s ≡ kept_at xs s
one_kept_at xs ys s is =
    let first = writes_start s in
    let second = seen_start s in
    let end = end_of s in
    let first_within : first ≤ length xs = omega arith in
    let second_within : second ≤ length xs = omega arith in
    let a : s.start ≤ first = omega arith in
    let b : first ≤ second = omega arith in
    let c : second ≤ end = omega arith in
    ap (λ (rs : List Access). accesses_by rs (between first second (xs ++ ys)) (between second end (xs ++ ys))) (between_kept s.start first xs ys a first_within)
    ∙ ap (λ (ws : List Access). accesses_by (between s.start first xs) ws (between second end (xs ++ ys))) (between_kept first second xs ys b second_within)
    ∙ ap (accesses_by (between s.start first xs) (between first second xs)) (between_kept second end xs ys c is)

all_kept_at : (xs ys : List Access) (ss : List KeptSpan) → All (IsKeptSpan (length xs)) ss → map (kept_at (xs ++ ys)) ss ≡ map (kept_at xs) ss
all_kept_at xs ys [] all = refl
all_kept_at xs ys (s ∷ ss) all =
    ap (λ (a : TxnAccesses). a ∷ map (kept_at (xs ++ ys)) ss) (one_kept_at xs ys s (all 0 s (omega arith)))
    ∙ ap (λ (as1 : List TxnAccesses). kept_at xs s ∷ as1) (all_kept_at xs ys ss (all_behind (IsKeptSpan (length xs)) s ss all))

pub kept_wider : (n m : ℕ) (ss : List KeptSpan) → n ≤ m → All (IsKeptSpan n) ss → All (IsKeptSpan m) ss
kept_wider n m ss more all k d below = let last : end_of (get_or ss k d) ≤ n = all k d below in omega arith

-- what was appended, and its span
pub appended_accesses :
    (xs first second now : List Access) (rs ws ss : List Access) (s : KeptSpan) → first ≡ xs ++ rs → second ≡ first ++ ws → now ≡ second ++ ss
    → s.start ≡ length xs → s.reads ≡ length rs → s.writes ≡ length ws → s.seen ≡ length ss
    → AreAppended xs now rs ws ss s
appended_accesses xs first second now rs ws ss s is_first is_second is_now start reads writes seen =
    let one = length-append xs rs in
    let two = length-append first ws in
    let three = length-append second ss in
    let count_first : length first ≡ length (xs ++ rs) = ap length is_first in
    let count_second : length second ≡ length (first ++ ws) = ap length is_second in
    let count_now : length now ≡ length (second ++ ss) = ap length is_now in
    let at_writes : writes_start s ≡ length first = omega arith in
    let at_seen : seen_start s ≡ length second = omega arith in
    let at_end : end_of s ≡ length now = omega arith in
    let whole : now ≡ xs ++ (rs ++ (ws ++ ss)) =
    is_now ∙ ap (λ (ys : List Access). ys ++ ss) (is_second ∙ ap (λ (ys : List Access). ys ++ ws) is_first)
    ∙ append_assoc (xs ++ rs) ws ss ∙ append_assoc xs rs (ws ++ ss) in
    let their_reads : between s.start (writes_start s) now ≡ rs =
    ap (λ n. between n (writes_start s) now) start ∙ ap (λ n. between (length xs) n now) (at_writes ∙ count_first)
    ∙ ap (between (length xs) (length (xs ++ rs))) (whole ∙ sym (append_assoc xs rs (ws ++ ss))) ∙ appended xs rs (ws ++ ss) in
    let their_writes : between (writes_start s) (seen_start s) now ≡ ws =
    ap (λ n. between n (seen_start s) now) at_writes ∙ ap (λ n. between (length first) n now) (at_seen ∙ count_second)
    ∙ ap (between (length first) (length (first ++ ws))) (is_now ∙ ap (λ (ys : List Access). ys ++ ss) is_second) ∙ appended first ws ss in
    let their_seen : between (seen_start s) (end_of s) now ≡ ss =
    ap (λ n. between n (end_of s) now) at_seen ∙ ap (λ n. between (length second) n now) (at_end ∙ count_now)
    ∙ ap (between (length second) (length (second ++ ss))) is_now ∙ last_appended second ss in
    record {
      all = whole;
      span = omega arith;
      at = ap (λ (x : List Access). accesses_by x (between (writes_start s) (seen_start s) now) (between (seen_start s) (end_of s) now)) their_reads
          ∙ ap (λ (x : List Access). accesses_by rs x (between (seen_start s) (end_of s) now)) their_writes ∙ ap (accesses_by rs ws) their_seen;
    }

module _ (xs now : List Access) (rs ws ss : List Access) (s : KeptSpan) (is : AreAppended xs now rs ws ss s) (spans : List KeptSpan) (all : All (IsKeptSpan (length xs)) spans) where
  longer : length xs ≤ length now
  longer = let count : length now ≡ length (xs ++ (rs ++ (ws ++ ss))) = ap length is.all in omega (arith, length-append xs (rs ++ (ws ++ ss)))

  before : map (kept_at now) spans ≡ map (kept_at xs) spans
  before = ap (λ (ys : List Access). map (kept_at ys) spans) is.all ∙ all_kept_at xs (rs ++ (ws ++ ss)) spans all

  -- one transaction more
  pub kept_pushed : All (IsKeptSpan (length now)) (spans ++ s ∷ [])
  kept_pushed = all_pushed (IsKeptSpan (length now)) spans s (kept_wider (length xs) (length now) spans longer all) is.span

  pub pushed_is : map (kept_at now) (spans ++ s ∷ []) ≡ map (kept_at xs) spans ++ accesses_by rs ws ss ∷ []
  pushed_is =
      map-append (kept_at now) spans (s ∷ []) ∙ ap (λ (as1 : List TxnAccesses). as1 ++ kept_at now s ∷ []) before
      ∙ ap (λ (a : TxnAccesses). map (kept_at xs) spans ++ a ∷ []) is.at

  -- others for the one at the place
  pub kept_set : (place : ℕ) → All (IsKeptSpan (length now)) (set spans place s)
  kept_set place = All-set (IsKeptSpan (length now)) spans place s is.span (kept_wider (length xs) (length now) spans longer all)

  pub set_is : (place : ℕ) → map (kept_at now) (set spans place s) ≡ set (map (kept_at xs) spans) place (accesses_by rs ws ss)
  set_is place =
      map-set (kept_at now) spans place s ∙ ap (λ (as1 : List TxnAccesses). set as1 place (kept_at now s)) before
      ∙ ap (set (map (kept_at xs) spans) place) is.at
