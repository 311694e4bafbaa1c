-- Parts of a flat list, as the list grows and as it is read.
use Rattle.std.proofs.Common.{◌≡◌, ◌∙◌, ◌<◌, ◌≤◌, ◌+◌, ◌-◌, ◌*◌, inl, inr, ℕ, zero, suc, Bool, true, false, List, [], ◌∷◌, ◌++◌, length, get_or, take, drop, map, refl, ap, sym, subst, arith}
use Rattle.std.specs.Prelude.{slice_range}
use Rattle.std.specs.List.{range_with_len}
use Rattle.std.proofs.lemmas.Bool.{cases_lt, false≢true}
use Rattle.std.proofs.lemmas.List.{length-append, append-nil, take-append-le, drop-append-le, length-drop, drop-drop, get_or_append_left, get_or-append-add}
use Rattle.std.proofs.lemmas.List.FromFn.{length-map-range_with_len, get_or-map-range_with_len}
use Rattle.std.proofs.Math.Seq.{drop-append_seam, take-length, take-add, get_or-append_seam}
use Rattle.edge_graph.specs.FlatRows.{Row, no_row, row_at, led_to, first_part, last_part, leave_versions, part_at, txn_row_in, version_row_in, rows_in, AreBounds, AreRowBounds, IsRowBehind}
use Rattle.edge_graph.specs.declared.layout.Ends.{Ends}
use Rattle.edge_graph.specs.declared.types.Dependencies.{Dependencies}
use Rattle.edge_graph.specs.declared.types.Dependencies.TheVariants.{None, Ww, Wr, Rw, WrAndWw, All as AllOfThem}

-- ---- ranges

pub part-append : (items more : List ℕ) (a b : ℕ) → a ≤ b → b ≤ length items → slice_range (items ++ more) a b ≡ slice_range items a b
part-append items more a b rising within =
    let whole : drop a (items ++ more) ≡ drop a items ++ more = drop-append-le a items more (omega arith) in
    let fits : b - a ≤ length (drop a items) = omega (arith, length-drop a items) in
    ap (take (b - a)) whole ∙ take-append-le (b - a) (drop a items) more fits

-- what was added last
last_range : (items more : List ℕ) → slice_range (items ++ more) (length items) (length (items ++ more)) ≡ more
last_range items more =
    let n : length (items ++ more) - length items ≡ length more = omega (arith, length-append items more) in
    ap (take (length (items ++ more) - length items)) (drop-append_seam items more) ∙ ap (λ k. take k more) n ∙ take-length more

-- two that meet
parts_meet : (items : List ℕ) (a b c : ℕ) → a ≤ b → b ≤ c → slice_range items a c ≡ slice_range items a b ++ slice_range items b c
parts_meet items a b c h k =
    let n : c - a ≡ (b - a) + (c - b) = omega arith in
    let m : a + (b - a) ≡ b = omega arith in
    ap (λ j. take j (drop a items)) n ∙ take-add (b - a) (c - b) (drop a items)
    ∙ ap (λ xs. take (b - a) (drop a items) ++ take (c - b) xs) (drop-drop (b - a) a items ∙ ap (λ j. drop j items) m)

-- ---- one more part

abbrev pub start : List ℕ
start = 0 ∷ []

at_first : (k : ℕ) → k < 1 → get_or start k 0 ≡ zero
at_first zero h = refl
at_first (suc k) h = absurd (omega (arith, h))

pub first_bound : AreRowBounds 0 0 start []
first_bound =
    record {
      count = refl;
      rising = record {
        rising = λ k h. absurd (omega (arith, h));
        within = λ k h. omega (arith, at_first k h);
        end = λ k h. at_first k (omega (arith, h));
      };
    }

module _ (bounds items more : List ℕ) (are : AreBounds bounds items) (n : ℕ) (count : length bounds ≡ n + 1) where
  abbrev longer : List ℕ
  longer = bounds ++ length (items ++ more) ∷ []

  long : length longer ≡ n + 2
  long = omega (arith, count, length-append bounds (length (items ++ more) ∷ []))

  old_bound : (k : ℕ) → k < n + 1 → get_or longer k 0 ≡ get_or bounds k 0
  old_bound k h = get_or_append_left bounds (length (items ++ more) ∷ []) 0 k (omega (arith, count, h))

  new_bound : get_or longer (n + 1) 0 ≡ length (items ++ more)
  new_bound = ap (λ k. get_or longer k 0) (sym count) ∙ get_or-append_seam bounds (length (items ++ more)) [] 0

  last_bound : get_or bounds n 0 ≡ length items
  last_bound = are.end n (sym count)

  pub more_bounds : AreBounds longer (items ++ more)
  more_bounds =
      record {
        rising =
            λ k h.
            elim (cases_lt k n) [
              | inl low ↦ omega (arith, old_bound k (omega (arith, low)), old_bound (k + 1) (omega (arith, low)), are.rising k (omega (arith, low, count)))
              | inr high ↦
                  let at : k ≡ n = omega (arith, h, high, long) in
                  subst (λ k. get_or longer k 0 ≤ get_or longer (k + 1) 0) (sym at)
                  (omega (arith, old_bound n (omega arith), last_bound, new_bound, length-append items more))
            ];
        within =
            λ k h.
            elim (cases_lt k (n + 1)) [
              | inl low ↦ omega (arith, old_bound k low, are.within k (omega (arith, low, count)), length-append items more)
              | inr high ↦
                  let at : k ≡ n + 1 = omega (arith, h, high, long) in
                  subst (λ k. get_or longer k 0 ≤ length (items ++ more)) (sym at) (omega (arith, new_bound))
            ];
        end =
            λ k h.
            let at : k ≡ n + 1 = omega (arith, h, long) in
            ap (λ k. get_or longer k 0) at ∙ new_bound;
      }

  pub same_part : (k : ℕ) → k < n → part_at longer (items ++ more) k ≡ part_at bounds items k
  same_part k h =
      ap (λ a. slice_range (items ++ more) a (get_or longer (k + 1) 0)) (old_bound k (omega (arith, h)))
      ∙ ap (slice_range (items ++ more) (get_or bounds k 0)) (old_bound (k + 1) (omega (arith, h)))
      ∙ part-append items more (get_or bounds k 0) (get_or bounds (k + 1) 0) (are.rising k (omega (arith, h, count))) (are.within (k + 1) (omega (arith, h, count)))

  pub new_part : part_at longer (items ++ more) n ≡ more
  new_part =
      ap (λ a. slice_range (items ++ more) a (get_or longer (n + 1) 0)) (old_bound n (omega arith) ∙ last_bound)
      ∙ ap (slice_range (items ++ more) (length items)) new_bound ∙ last_range items more

-- ---- one more row of a transaction

abbrev row_of : List ℕ → List ℕ → List ℕ → Row
row_of rw wr ww = record { rw = rw; wr = wr; ww = ww }

row_is : (a b c d e f : List ℕ) → a ≡ d → b ≡ e → c ≡ f → row_of a b c ≡ row_of d e f
row_is a b c d e f h k l = ap (λ x. row_of x b c) h ∙ ap (λ y. row_of d y c) k ∙ ap (row_of d e) l

module _ (bounds items rw wr ww : List ℕ) (are : AreBounds bounds items) (n : ℕ) (count : length bounds ≡ n + 1) where
  abbrev by_rw : List ℕ
  by_rw = longer bounds items rw are n count

  one : AreBounds by_rw (items ++ rw)
  one = more_bounds bounds items rw are n count

  count_one : length by_rw ≡ (n + 1) + 1
  count_one = omega (arith, long bounds items rw are n count)

  abbrev by_wr : List ℕ
  by_wr = longer by_rw (items ++ rw) wr one (n + 1) count_one

  two : AreBounds by_wr ((items ++ rw) ++ wr)
  two = more_bounds by_rw (items ++ rw) wr one (n + 1) count_one

  count_two : length by_wr ≡ (n + 2) + 1
  count_two = omega (arith, long by_rw (items ++ rw) wr one (n + 1) count_one)

  abbrev by_ww : List ℕ
  by_ww = longer by_wr ((items ++ rw) ++ wr) ww two (n + 2) count_two

  three : AreBounds by_ww (((items ++ rw) ++ wr) ++ ww)
  three = more_bounds by_wr ((items ++ rw) ++ wr) ww two (n + 2) count_two

  count_three : length by_ww ≡ (n + 3) + 1
  count_three = omega (arith, long by_wr ((items ++ rw) ++ wr) ww two (n + 2) count_two)

  old_part : (k : ℕ) → k < n → part_at by_ww (((items ++ rw) ++ wr) ++ ww) k ≡ part_at bounds items k
  old_part k h =
      same_part by_wr ((items ++ rw) ++ wr) ww two (n + 2) count_two k (omega (arith, h))
      ∙ same_part by_rw (items ++ rw) wr one (n + 1) count_one k (omega (arith, h))
      ∙ same_part bounds items rw are n count k h

  part_rw : part_at by_ww (((items ++ rw) ++ wr) ++ ww) n ≡ rw
  part_rw =
      same_part by_wr ((items ++ rw) ++ wr) ww two (n + 2) count_two n (omega arith)
      ∙ same_part by_rw (items ++ rw) wr one (n + 1) count_one n (omega arith)
      ∙ new_part bounds items rw are n count

  part_wr : part_at by_ww (((items ++ rw) ++ wr) ++ ww) (n + 1) ≡ wr
  part_wr =
      same_part by_wr ((items ++ rw) ++ wr) ww two (n + 2) count_two (n + 1) (omega arith)
      ∙ new_part by_rw (items ++ rw) wr one (n + 1) count_one

  part_ww : part_at by_ww (((items ++ rw) ++ wr) ++ ww) (n + 2) ≡ ww
  part_ww = new_part by_wr ((items ++ rw) ++ wr) ww two (n + 2) count_two

-- the bounds of a transaction's row, after those before it
abbrev pub with_ends : List ℕ → Ends → List ℕ
with_ends bounds e = ((bounds ++ e.rw ∷ []) ++ e.wr ∷ []) ++ e.ww ∷ []

module _ (bounds items more : List ℕ) (e : Ends) (row : Row) (places : ℕ) (are : AreRowBounds places 0 bounds items) (is : IsRowBehind items more e row) where
  abbrev n : ℕ
  n = 3 * places

  count : length bounds ≡ n + 1
  count = omega (arith, are.count)

  abbrev ended : List ℕ
  ended = by_ww bounds items row.rw row.wr row.ww are.rising n count

  is_ended : with_ends bounds e ≡ ended
  is_ended =
      ap (λ k. ((bounds ++ k ∷ []) ++ e.wr ∷ []) ++ e.ww ∷ []) is.rw
      ∙ ap (λ k. ((bounds ++ length (items ++ row.rw) ∷ []) ++ k ∷ []) ++ e.ww ∷ []) is.wr
      ∙ ap (λ k. ((bounds ++ length (items ++ row.rw) ∷ []) ++ length ((items ++ row.rw) ++ row.wr) ∷ []) ++ k ∷ []) (is.ww ∙ ap length is.items)

  both_are : (P : List ℕ → List ℕ → Type 0) → P ended (((items ++ row.rw) ++ row.wr) ++ row.ww) → P (with_ends bounds e) more
  both_are P p = subst (P (with_ends bounds e)) (sym is.items) (subst (λ bs. P bs (((items ++ row.rw) ++ row.wr) ++ row.ww)) (sym is_ended) p)

  pub one_more_txn : AreRowBounds (places + 1) 0 (with_ends bounds e) more
  one_more_txn =
      both_are (AreRowBounds (places + 1) 0) (record {
        count = omega (arith, count_three bounds items row.rw row.wr row.ww are.rising n count);
        rising = three bounds items row.rw row.wr row.ww are.rising n count;
      })

  pub same_row : (place : ℕ) → place < places → txn_row_in (with_ends bounds e) more place ≡ txn_row_in bounds items place
  same_row place h =
      both_are (λ bs xs. txn_row_in bs xs place ≡ txn_row_in bounds items place)
      (row_is _ _ _ _ _ _
      (old_part bounds items row.rw row.wr row.ww are.rising n count (3 * place) (omega (arith, h)))
      (old_part bounds items row.rw row.wr row.ww are.rising n count (3 * place + 1) (omega (arith, h)))
      (old_part bounds items row.rw row.wr row.ww are.rising n count (3 * place + 2) (omega (arith, h))))

  pub new_row : txn_row_in (with_ends bounds e) more places ≡ row
  new_row =
      both_are (λ bs xs. txn_row_in bs xs places ≡ row)
      (row_is _ _ _ _ _ _
      (part_rw bounds items row.rw row.wr row.ww are.rising n count)
      (part_wr bounds items row.rw row.wr row.ww are.rising n count)
      (part_ww bounds items row.rw row.wr row.ww are.rising n count))

-- ---- one more row of a version

module _ (bounds items more added : List ℕ) (end : ℕ) (txns versions : ℕ) (are : AreRowBounds txns versions bounds items) (is : more ≡ items ++ added) (end_is : end ≡ length more) where
  abbrev m : ℕ
  m = 3 * txns + versions

  both : (P : List ℕ → List ℕ → Type 0) → P (longer bounds items added are.rising m are.count) (items ++ added) → P (bounds ++ end ∷ []) more
  both P p =
      subst (P (bounds ++ end ∷ [])) (sym is)
      (subst (λ k. P (bounds ++ k ∷ []) (items ++ added)) (sym (end_is ∙ ap length is)) p)

  pub one_more_version : AreRowBounds txns (versions + 1) (bounds ++ end ∷ []) more
  one_more_version =
      both (AreRowBounds txns (versions + 1)) (record {
        count = omega (arith, long bounds items added are.rising m are.count);
        rising = more_bounds bounds items added are.rising m are.count;
      })

  pub part_before : (k : ℕ) → k < 3 * txns + versions → part_at (bounds ++ end ∷ []) more k ≡ part_at bounds items k
  part_before k h = both (λ bs xs. part_at bs xs k ≡ part_at bounds items k) (same_part bounds items added are.rising m are.count k h)

  pub txn_before : (place : ℕ) → place < txns → txn_row_in (bounds ++ end ∷ []) more place ≡ txn_row_in bounds items place
  txn_before place h =
      row_is _ _ _ _ _ _ (part_before (3 * place) (omega (arith, h))) (part_before (3 * place + 1) (omega (arith, h))) (part_before (3 * place + 2) (omega (arith, h)))

  pub part_added : part_at (bounds ++ end ∷ []) more (3 * txns + versions) ≡ added
  part_added = both (λ bs xs. part_at bs xs m ≡ added) (new_part bounds items added are.rising m are.count)

-- ---- rows by vertex

pub length-rows_in : (txns versions : ℕ) (bounds items : List ℕ) → length (rows_in txns versions bounds items) ≡ txns + versions
length-rows_in txns versions bounds items =
    let a = length-map-range_with_len (txn_row_in bounds items) 0 txns in
    let b = length-map-range_with_len (version_row_in bounds items) (3 * txns) versions in
    omega (arith, a, b, length-append (map (txn_row_in bounds items) (range_with_len 0 txns)) (map (version_row_in bounds items) (range_with_len (3 * txns) versions)))

pub txn_row_at : (txns versions : ℕ) (bounds items : List ℕ) (place : ℕ) → place < txns → row_at (rows_in txns versions bounds items) place ≡ txn_row_in bounds items place
txn_row_at txns versions bounds items place h =
    let rows = map (txn_row_in bounds items) (range_with_len 0 txns) in
    get_or_append_left rows (map (version_row_in bounds items) (range_with_len (3 * txns) versions)) no_row place
    (omega (arith, h, length-map-range_with_len (txn_row_in bounds items) 0 txns))
    ∙ get_or-map-range_with_len (txn_row_in bounds items) 0 txns place place no_row h (omega arith)

pub version_row_at : (txns versions : ℕ) (bounds items : List ℕ) (number : ℕ) → number < versions → row_at (rows_in txns versions bounds items) (txns + number) ≡ version_row_in bounds items (3 * txns + number)
version_row_at txns versions bounds items number h =
    let rows = map (txn_row_in bounds items) (range_with_len 0 txns) in
    let more = map (version_row_in bounds items) (range_with_len (3 * txns) versions) in
    ap (λ n. row_at (rows ++ more) (n + number)) (sym (length-map-range_with_len (txn_row_in bounds items) 0 txns))
    ∙ get_or-append-add rows more number no_row
    ∙ get_or-map-range_with_len (version_row_in bounds items) (3 * txns) versions number (3 * txns + number) no_row h refl

-- ---- a row that is read

module _ (bounds items : List ℕ) (are : AreBounds bounds items) where
  climb : (n i : ℕ) → i + n < length bounds → get_or bounds i 0 ≤ get_or bounds (i + n) 0
  climb zero i h =
      let same : i ≡ i + 0 = omega arith in
      subst (λ k. get_or bounds i 0 ≤ get_or bounds k 0) same (omega arith)
  climb (suc n) i h =
      let so_far = climb n i (omega (arith, h)) in
      let next = are.rising (i + n) (omega (arith, h)) in
      let same : (i + n) + 1 ≡ i + suc n = omega arith in
      subst (λ k. get_or bounds i 0 ≤ get_or bounds k 0) same (omega (arith, so_far, next))

  pub rising : (i j : ℕ) → i ≤ j → j < length bounds → get_or bounds i 0 ≤ get_or bounds j 0
  rising i j h within =
      let same : i + (j - i) ≡ j = omega (arith, h) in
      subst (λ k. get_or bounds i 0 ≤ get_or bounds k 0) same (climb (j - i) i (omega (arith, same, within)))

  -- one part
  part_is : (k i j : ℕ) → i ≡ k → j ≡ k + 1 → slice_range items (get_or bounds i 0) (get_or bounds j 0) ≡ part_at bounds items k
  part_is k i j a b =
      ap (λ i. slice_range items (get_or bounds i 0) (get_or bounds j 0)) a
      ∙ ap (λ j. slice_range items (get_or bounds k 0) (get_or bounds j 0)) b

  -- no part
  none_is : (i j : ℕ) → i ≡ j → slice_range items (get_or bounds i 0) (get_or bounds j 0) ≡ []
  none_is i j same =
      let none : get_or bounds i 0 - get_or bounds i 0 ≡ 0 = omega arith in
      ap (λ j. slice_range items (get_or bounds i 0) (get_or bounds j 0)) (sym same)
      ∙ ap (λ n. take n (drop (get_or bounds i 0) items)) none

  -- two parts, and three
  two_are : (k i j : ℕ) → i ≡ k → j ≡ k + 2 → j < length bounds → slice_range items (get_or bounds i 0) (get_or bounds j 0) ≡ part_at bounds items k ++ part_at bounds items (k + 1)
  two_are k i j a b within =
      parts_meet items (get_or bounds i 0) (get_or bounds (k + 1) 0) (get_or bounds j 0)
      (rising i (k + 1) (omega (arith, a)) (omega (arith, b, within))) (rising (k + 1) j (omega (arith, b)) within)
      ∙ ap (λ xs. xs ++ slice_range items (get_or bounds (k + 1) 0) (get_or bounds j 0)) (part_is k i (k + 1) a (omega arith))
      ∙ ap (λ xs. part_at bounds items k ++ xs) (part_is (k + 1) (k + 1) j (omega arith) (omega (arith, b)))

  three_are :
      (k i j : ℕ) → i ≡ k → j ≡ k + 3 → j < length bounds
      → slice_range items (get_or bounds i 0) (get_or bounds j 0) ≡ part_at bounds items k ++ (part_at bounds items (k + 1) ++ part_at bounds items (k + 2))
  three_are k i j a b within =
      let same : (k + 1) + 1 ≡ k + 2 = omega arith in
      parts_meet items (get_or bounds i 0) (get_or bounds (k + 1) 0) (get_or bounds j 0)
      (rising i (k + 1) (omega (arith, a)) (omega (arith, b, within))) (rising (k + 1) j (omega (arith, b)) within)
      ∙ ap (λ xs. xs ++ slice_range items (get_or bounds (k + 1) 0) (get_or bounds j 0)) (part_is k i (k + 1) a (omega arith))
      ∙ ap (λ xs. part_at bounds items k ++ xs)
      (two_are (k + 1) (k + 1) j (omega arith) (omega (arith, b)) within
      ∙ ap (λ n. part_at bounds items (k + 1) ++ part_at bounds items n) same)

  -- a transaction's parts
  txn_led :
      (d : Dependencies) (v i j : ℕ) → i ≡ 3 * v + first_part d → j ≡ 3 * v + last_part d → 3 * v + 3 < length bounds
      → slice_range items (get_or bounds i 0) (get_or bounds j 0) ≡ led_to d (txn_row_in bounds items v)
  txn_led None v i j a b within = none_is i j (omega (arith, a, b))
  txn_led Ww v i j a b within = part_is (3 * v + 2) i j a (omega (arith, b))
  txn_led Wr v i j a b within = part_is (3 * v + 1) i j a (omega (arith, b))
  txn_led Rw v i j a b within = part_is (3 * v) i j (omega (arith, a)) b
  txn_led WrAndWw v i j a b within =
      let same : (3 * v + 1) + 1 ≡ 3 * v + 2 = omega arith in
      two_are (3 * v + 1) i j a (omega (arith, b)) (omega (arith, b, within))
      ∙ ap (λ n. part_at bounds items (3 * v + 1) ++ part_at bounds items n) same
  txn_led AllOfThem v i j a b within = three_are (3 * v) i j (omega (arith, a)) b (omega (arith, b, within))

  -- a version's part
  version_led :
      (d : Dependencies) (part i j : ℕ) → leave_versions d ≡ true → i ≡ part → j ≡ part + 1
      → slice_range items (get_or bounds i 0) (get_or bounds j 0) ≡ led_to d (version_row_in bounds items part)
  version_led None part i j h a b = absurd (false≢true h)
  version_led Ww part i j h a b = absurd (false≢true h)
  version_led Wr part i j h a b = absurd (false≢true h)
  version_led Rw part i j h a b = part_is part i j a b
  version_led WrAndWw part i j h a b = absurd (false≢true h)
  version_led AllOfThem part i j h a b = part_is part i j a b ∙ sym (append-nil (part_at bounds items part))

  version_not_led :
      (d : Dependencies) (part i j : ℕ) → leave_versions d ≡ false → i ≡ j
      → slice_range items (get_or bounds i 0) (get_or bounds j 0) ≡ led_to d (version_row_in bounds items part)
  version_not_led None part i j h same = none_is i j same
  version_not_led Ww part i j h same = none_is i j same
  version_not_led Wr part i j h same = none_is i j same
  version_not_led Rw part i j h same = absurd (false≢true (sym h))
  version_not_led WrAndWw part i j h same = none_is i j same
  version_not_led AllOfThem part i j h same = absurd (false≢true (sym h))

-- the parts of a vertex that are read, from one bound to another one
pub record IsRead (d : Dependencies) (bounds items : List ℕ) (rows : List Row) (v : ℕ) (i j : ℕ) : Type 0 where
  pub order : i ≤ j
  pub within : j < length bounds
  pub rise : get_or bounds i 0 ≤ get_or bounds j 0
  pub inside : get_or bounds j 0 ≤ length items
  pub led : slice_range items (get_or bounds i 0) (get_or bounds j 0) ≡ led_to d (row_at rows v)

parts_rise : (d : Dependencies) → (first_part d ≤ last_part d) × (last_part d ≤ 3)
parts_rise None = (omega arith, omega arith)
parts_rise Ww = (omega arith, omega arith)
parts_rise Wr = (omega arith, omega arith)
parts_rise Rw = (omega arith, omega arith)
parts_rise WrAndWw = (omega arith, omega arith)
parts_rise AllOfThem = (omega arith, omega arith)

module _ (d : Dependencies) (txns versions : ℕ) (bounds items : List ℕ) (rows : List Row) (v : ℕ) (are : AreRowBounds txns versions bounds items) (is : rows_in txns versions bounds items ≡ rows) where
  pub vertices : length rows ≡ txns + versions
  vertices = omega (arith, ap length is, length-rows_in txns versions bounds items)

  pub read_txn : v < txns → (i j : ℕ) → i ≡ 3 * v + first_part d → j ≡ 3 * v + last_part d → IsRead d bounds items rows v i j
  read_txn h i j a b =
      let (order, most) = parts_rise d in
      let inside : j < length bounds = omega (arith, h, b, most, are.count) in
      let all : i ≤ j = omega (arith, a, b, order) in
      record {
        order = all;
        within = inside;
        rise = rising bounds items are.rising i j all inside;
        inside = are.rising.within j inside;
        led =
            txn_led bounds items are.rising d v i j a b (omega (arith, h, are.count))
            ∙ ap (led_to d) (sym (txn_row_at txns versions bounds items v h) ∙ ap (λ rows. row_at rows v) is);
      }

  version_there : txns ≤ v → v < length rows → version_row_in bounds items (2 * txns + v) ≡ row_at rows v
  version_there h k =
      let at : txns + (v - txns) ≡ v = omega (arith, h) in
      let part : 3 * txns + (v - txns) ≡ 2 * txns + v = omega (arith, h) in
      ap (version_row_in bounds items) (sym part)
      ∙ sym (version_row_at txns versions bounds items (v - txns) (omega (arith, h, k, vertices)))
      ∙ ap (row_at (rows_in txns versions bounds items)) at ∙ ap (λ rows. row_at rows v) is

  pub read_version : txns ≤ v → v < length rows → leave_versions d ≡ true → (i j : ℕ) → i ≡ 2 * txns + v → j ≡ i + 1 → IsRead d bounds items rows v i j
  read_version h k leave i j a b =
      let inside : j < length bounds = omega (arith, a, b, k, vertices, are.count) in
      let all : i ≤ j = omega (arith, b) in
      record {
        order = all;
        within = inside;
        rise = rising bounds items are.rising i j all inside;
        inside = are.rising.within j inside;
        led = version_led bounds items are.rising d (2 * txns + v) i j leave a (omega (arith, a, b)) ∙ ap (led_to d) (version_there h k);
      }

  pub read_nothing : txns ≤ v → v < length rows → leave_versions d ≡ false → (i j : ℕ) → i ≡ 0 → j ≡ 0 → IsRead d bounds items rows v i j
  read_nothing h k leave i j a b =
      let inside : j < length bounds = omega (arith, b, are.count) in
      let all : i ≤ j = omega (arith, a, b) in
      record {
        order = all;
        within = inside;
        rise = rising bounds items are.rising i j all inside;
        inside = are.rising.within j inside;
        led = version_not_led bounds items are.rising d (2 * txns + v) i j leave (omega (arith, a, b)) ∙ ap (led_to d) (version_there h k);
      }

  pub of_txn : (p : ℕ × ℕ) (a b : ℕ) → a ≡ first_part d → b ≡ last_part d → v < txns → p ≡ (3 * v + a, 3 * v + b) → IsRead d bounds items rows v p.0 p.1
  of_txn p a b first last h there =
      read_txn h p.0 p.1 (ap (λ (q : ℕ × ℕ). q.0) there ∙ ap (λ n. 3 * v + n) first) (ap (λ (q : ℕ × ℕ). q.1) there ∙ ap (λ n. 3 * v + n) last)

  pub of_version : (p : ℕ × ℕ) (leave : Bool) → leave ≡ leave_versions d → leave ≡ true → txns ≤ v → v < length rows → p ≡ (2 * txns + v, 2 * txns + v + 1) → IsRead d bounds items rows v p.0 p.1
  of_version p leave told leaves h k there =
      let at = ap (λ (q : ℕ × ℕ). q.0) there in
      read_version h k (sym told ∙ leaves) p.0 p.1 at (ap (λ (q : ℕ × ℕ). q.1) there ∙ ap (λ n. n + 1) (sym at))

  pub of_nothing : (p : ℕ × ℕ) (leave : Bool) → leave ≡ leave_versions d → leave ≡ false → txns ≤ v → v < length rows → p ≡ (0, 0) → IsRead d bounds items rows v p.0 p.1
  of_nothing p leave told stays h k there =
      read_nothing h k (sym told ∙ stays) p.0 p.1 (ap (λ (q : ℕ × ℕ). q.0) there) (ap (λ (q : ℕ × ℕ). q.1) there)
