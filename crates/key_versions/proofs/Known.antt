-- One row after a transaction.
use Rattle.std.proofs.Common.{◌≡◌, ◌⊎◌, inl, inr, ◌<◌, ◌≤◌, ◌-◌, ℕ, zero, suc, List, [], ◌∷◌, ◌++◌, length, map, replicate, Bool, true, false, cond, Some, refl, sym, ◌∙◌, ap, subst, arith}
use Rattle.std.specs.Prelude.{slice_get, filter, not, ◌&&◌, ◌||◌, ◌==◌}
use Rattle.std.specs.List.{list_any}
use Rattle.std.proofs.lemmas.Bool.{cases_Bool, cases_lt, eqb-true, eqb-false}
use Rattle.std.proofs.lemmas.List.{append_assoc, append-nil, length-append, length-replicate}
use Rattle.key_versions.specs.declared.pending.Access.{Access}
use Rattle.key_versions.specs.declared.types.Writer.{Writer}
use Rattle.key_versions.specs.declared.types.Follower.{Follower}
use Rattle.key_versions.specs.Rows.{Known, unknown, change, with_writer, has_nil, lasts, written_rows, follower, with_follower, installed_rows, is_behind, with_reader, has_number, read_rows, rows_after, grown}
use Rattle.key_versions.proofs.Lists.{change_here, change_elsewhere, get_behind, get_replicate}
use Rattle.key_versions.proofs.Places.{slice_get_front}
use Rattle.key_versions.proofs.Changed.{length-change, length-written}

-- a row where a change is made at a place
change_if :
    (f : Known → Known) (k n : ℕ) (rows : List Known) (x : Known) → slice_get rows n ≡ Some x
    → slice_get (change f k rows) n ≡ Some (cond (k == n) (f x) x)
change_if f k n rows x h = elim (cases_Bool (k == n)) [
  | inl is ↦ (
      let same : k ≡ n = eqb-true k n is in
      subst (λ j. slice_get (change f j rows) n ≡ Some (f x)) (sym same) (change_here f n rows x h) ∙ sym (ap (λ b. Some (cond b (f x) x)) is))
  | inr differ ↦ change_elsewhere f k n rows (eqb-false k n differ) ∙ h ∙ sym (ap (λ b. Some (cond b (f x) x)) differ)
]

-- ---- writes

abbrev pub writer_by : ℕ → Bool → Writer
writer_by place over = record { txn = place; over = over }

abbrev pub written_at : ℕ → ℕ → Known → List Access → Known
written_at place n x [] = x
written_at place n x (w ∷ ws) = written_at place n (cond (w.version == n) (with_writer (writer_by place (has_nil w.nil ws)) x) x) ws

written_row :
    (place n : ℕ) (rows : List Known) (ws : List Access) (x : Known) → slice_get rows n ≡ Some x
    → slice_get (written_rows place rows ws) n ≡ Some (written_at place n x ws)
written_row place n rows [] x h = h
written_row place n rows (w ∷ ws) x h =
    let f = with_writer (writer_by place (has_nil w.nil ws)) in
    written_row place n (change f w.version rows) ws (cond (w.version == n) (f x) x) (change_if f w.version n rows x h)

-- ---- installs

abbrev pub installed_at : ℕ → ℕ → Known → List Access → Known
installed_at place n x [] = x
installed_at place n x (w ∷ ws) = installed_at place n (cond (w.nil == n) (with_follower (follower place w) x) x) ws

installed_row :
    (place n : ℕ) (rows : List Known) (ws : List Access) (x : Known) → slice_get rows n ≡ Some x
    → slice_get (installed_rows place rows ws) n ≡ Some (installed_at place n x ws)
installed_row place n rows [] x h = h
installed_row place n rows (w ∷ ws) x h =
    let f = with_follower (follower place w) in
    installed_row place n (change f w.nil rows) ws (cond (w.nil == n) (f x) x) (change_if f w.nil n rows x h)

-- ---- reads

-- the accesses of a version are of its key
abbrev pub HaveNil : ℕ → ℕ → List Access → Type 0
HaveNil nil n [] = Unit {0}
HaveNil nil n (r ∷ rs) = ((r.version ≡ n) → r.nil ≡ nil) × HaveNil nil n rs

abbrev pub access_by : ℕ → ℕ → Access
access_by nil version = record { nil = nil; version = version }

any_push : {A : Type 0} (p : A → Bool) (xs : List A) (x : A) → list_any p (xs ++ x ∷ []) ≡ (list_any p xs || p x)
any_push p [] x = by (p x)
  where
    by : (b : Bool) → (b || false) ≡ b
    by true = refl
    by false = refl
any_push p (y ∷ xs) x = ap (λ b. p y || b) (any_push p xs x) ∙ by (p y) (list_any p xs) (p x)
  where
    by : (a b c : Bool) → (a || (b || c)) ≡ ((a || b) || c)
    by true b c = refl
    by false b c = refl

or_false : (b : Bool) → (b || false) ≡ b
or_false true = refl
or_false false = refl

or_true : (b : Bool) → (b || true) ≡ true
or_true true = refl
or_true false = refl

read_row :
    (place n nil : ℕ) (installs : List Access) (rows : List Known) (before rs : List Access) (x : Known) → HaveNil nil n rs → slice_get rows n ≡ Some x
    → slice_get (read_rows place installs rows before rs) n ≡ Some (cond (has_number n rs && not (has_number n before)) (with_reader place (access_by nil n) installs x) x)
read_row place n nil installs rows before [] x are h = h
read_row place n nil installs rows before (r ∷ rs) x are h = elim (cases_Bool (r.version == n)) [
  | inl is ↦ (
      let same : r.version ≡ n = eqb-true r.version n is in
      let seen : has_number n (before ++ r ∷ []) ≡ true = any_push (λ (a : Access). a.version == n) before r ∙ ap (λ b. has_number n before || b) is ∙ or_true (has_number n before) in
      let there : has_number n (r ∷ rs) ≡ true = ap (λ b. b || has_number n rs) is in
      let access : r ≡ access_by nil n = ap (access_by r.nil) same ∙ ap (λ m. access_by m n) (are.0 same) in
      let first : has_number r.version before ≡ has_number n before = ap (λ m. has_number m before) same in
      let f = with_reader place r installs in
      let one : slice_get (cond (has_number r.version before) rows (change f r.version rows)) n ≡ Some (cond (has_number n before) x (f x)) =
      by_first (has_number r.version before) (has_number n before) f r.version n rows x first h is in
      read_row place n nil installs (cond (has_number r.version before) rows (change f r.version rows)) (before ++ r ∷ []) rs (cond (has_number n before) x (f x)) are.1 one
      ∙ ap (λ b. Some (cond (has_number n rs && not b) (with_reader place (access_by nil n) installs (cond (has_number n before) x (f x))) (cond (has_number n before) x (f x)))) seen
      ∙ ap (λ b. Some (cond b (with_reader place (access_by nil n) installs (cond (has_number n before) x (f x))) (cond (has_number n before) x (f x)))) (and_false (has_number n rs))
      ∙ ap Some (turned (has_number n before) x (f x)) ∙ ap (λ a. Some (cond (not (has_number n before)) (with_reader place a installs x) x)) access
      ∙ sym (ap (λ b. Some (cond (b && not (has_number n before)) (with_reader place (access_by nil n) installs x) x)) there))
  | inr differ ↦ (
      let seen : has_number n (before ++ r ∷ []) ≡ has_number n before =
      any_push (λ (a : Access). a.version == n) before r ∙ ap (λ b. has_number n before || b) differ ∙ or_false (has_number n before) in
      let there : has_number n (r ∷ rs) ≡ has_number n rs = ap (λ b. b || has_number n rs) differ in
      let f = with_reader place r installs in
      let one : slice_get (cond (has_number r.version before) rows (change f r.version rows)) n ≡ Some x = by_other (has_number r.version before) f r.version n rows x h differ in
      read_row place n nil installs (cond (has_number r.version before) rows (change f r.version rows)) (before ++ r ∷ []) rs x are.1 one
      ∙ ap (λ b. Some (cond (has_number n rs && not b) (with_reader place (access_by nil n) installs x) x)) seen
      ∙ sym (ap (λ b. Some (cond (b && not (has_number n before)) (with_reader place (access_by nil n) installs x) x)) there))
]
  where
    and_false : (b : Bool) → (b && false) ≡ false
    and_false true = refl
    and_false false = refl

    turned : (b : Bool) (x y : Known) → cond b x y ≡ cond (not b) y x
    turned true x y = refl
    turned false x y = refl

    by_first :
        (b b' : Bool) (f : Known → Known) (k n : ℕ) (rows : List Known) (x : Known) → b ≡ b' → slice_get rows n ≡ Some x → (k == n) ≡ true
        → slice_get (cond b rows (change f k rows)) n ≡ Some (cond b' x (f x))
    by_first true b' f k n rows x e h is = h ∙ ap (λ c. Some (cond c x (f x))) e
    by_first false b' f k n rows x e h is = change_if f k n rows x h ∙ ap (λ c. Some (cond c (f x) x)) is ∙ ap (λ c. Some (cond c x (f x))) e

    by_other :
        (b : Bool) (f : Known → Known) (k n : ℕ) (rows : List Known) (x : Known) → slice_get rows n ≡ Some x → (k == n) ≡ false
        → slice_get (cond b rows (change f k rows)) n ≡ Some x
    by_other true f k n rows x h differ = h
    by_other false f k n rows x h differ = change_if f k n rows x h ∙ ap (λ c. Some (cond c (f x) x)) differ

-- ---- all together

abbrev pub row_after : ℕ → ℕ → ℕ → Known → List Access → List Access → Known
row_after place n nil x rs ws =
    let y = installed_at place n (written_at place n x ws) (lasts ws) in
    cond (has_number n rs) (with_reader place (access_by nil n) (lasts ws) y) y

and_not_false : (b : Bool) → (b && true) ≡ b
and_not_false true = refl
and_not_false false = refl

pub row_is :
    (place n nil : ℕ) (rows : List Known) (rs ws : List Access) (x : Known) → HaveNil nil n rs → slice_get rows n ≡ Some x
    → slice_get (rows_after place rs ws rows) n ≡ Some (row_after place n nil x rs ws)
row_is place n nil rows rs ws x are h =
    let y = installed_at place n (written_at place n x ws) (lasts ws) in
    read_row place n nil (lasts ws) (installed_rows place (written_rows place rows ws) (lasts ws)) [] rs y are
    (installed_row place n (written_rows place rows ws) (lasts ws) (written_at place n x ws) (written_row place n rows ws x h))
    ∙ ap (λ b. Some (cond b (with_reader place (access_by nil n) (lasts ws) y) y)) (and_not_false (has_number n rs))

-- ---- how many

length-installed : (place : ℕ) (rows : List Known) (ws : List Access) → length (installed_rows place rows ws) ≡ length rows
length-installed place rows [] = refl
length-installed place rows (w ∷ ws) =
    length-installed place (change (with_follower (follower place w)) w.nil rows) ws ∙ length-change (with_follower (follower place w)) w.nil rows

length-read : (place : ℕ) (installs : List Access) (rows : List Known) (before rs : List Access) → length (read_rows place installs rows before rs) ≡ length rows
length-read place installs rows before [] = refl
length-read place installs rows before (r ∷ rs) =
    length-read place installs (cond (has_number r.version before) rows (change (with_reader place r installs) r.version rows)) (before ++ r ∷ []) rs
    ∙ by (has_number r.version before) (with_reader place r installs) r.version rows
  where
    by : (b : Bool) (f : Known → Known) (k : ℕ) (rows : List Known) → length (cond b rows (change f k rows)) ≡ length rows
    by true f k rows = refl
    by false f k rows = length-change f k rows

pub length-after : (place : ℕ) (rs ws : List Access) (rows : List Known) → length (rows_after place rs ws rows) ≡ length rows
length-after place rs ws rows =
    length-read place (lasts ws) (installed_rows place (written_rows place rows ws) (lasts ws)) [] rs
    ∙ length-installed place (written_rows place rows ws) (lasts ws) ∙ length-written place rows ws

pub length-grown : (n : ℕ) (rows : List Known) → length rows ≤ n → length (grown n rows) ≡ n
length-grown n rows below = omega (arith, length-append rows (replicate (n - length rows) unknown), length-replicate (n - length rows) unknown)

-- a row that was there, or a new one
pub grown_row :
    (m : ℕ) (rows : List Known) (n : ℕ) (x : Known) → slice_get (grown m rows) n ≡ Some x
    → (slice_get rows n ≡ Some x) ⊎ ((length rows ≤ n) × (x ≡ unknown))
grown_row m rows n x h = elim (cases_lt n (length rows)) [
  | inl below ↦ (
      let there = at rows n below in
      inl (there.1 ∙ sym (slice_get_front rows (replicate (m - length rows) unknown) n there.0 there.1) ∙ h))
  | inr past ↦ inr (past, get_replicate (m - length rows) (n - length rows) unknown x (sym (get_behind rows (replicate (m - length rows) unknown) n past) ∙ h))
]
  where
    at : (xs : List Known) (n : ℕ) → n < length xs → (x : Known) × (slice_get xs n ≡ Some x)
    at [] n below = absurd (omega arith)
    at (x ∷ xs) zero below = (x, refl)
    at (x ∷ xs) (suc n) below = let behind : n < length xs = omega arith in at xs n behind

-- ---- the parts of a row

written_readers : (place n : ℕ) (x : Known) (ws : List Access) → ((written_at place n x ws).readers ≡ x.readers) × ((written_at place n x ws).followers ≡ x.followers)
written_readers place n x [] = (refl, refl)
written_readers place n x (w ∷ ws) =
    let y = with_writer (writer_by place (has_nil w.nil ws)) x in
    let behind = written_readers place n (cond (w.version == n) y x) ws in
    let here = by (w.version == n) y x refl refl in
    (behind.0 ∙ here.0, behind.1 ∙ here.1)
  where
    by : (b : Bool) (y x : Known) → y.readers ≡ x.readers → y.followers ≡ x.followers → ((cond b y x).readers ≡ x.readers) × ((cond b y x).followers ≡ x.followers)
    by true y x r f = (r, f)
    by false y x r f = (refl, refl)

abbrev pub is_of : ℕ → Access → Bool
is_of n w = w.nil == n

-- a row with these followers more
abbrev HasMore : Known → List Follower → Known → Type 0
HasMore x fs z = (z.writer ≡ x.writer) × (z.readers ≡ x.readers) × (z.followers ≡ x.followers ++ fs)

installed_by :
    (b : Bool) (place n : ℕ) (x : Known) (w : Access) (ws : List Access)
    → HasMore (with_follower (follower place w) x) (map (follower place) (filter (is_of n) ws)) (installed_at place n (with_follower (follower place w) x) ws)
    → HasMore x (map (follower place) (filter (is_of n) ws)) (installed_at place n x ws)
    → HasMore x (map (follower place) (cond b (w ∷ filter (is_of n) ws) (filter (is_of n) ws))) (installed_at place n (cond b (with_follower (follower place w) x) x) ws)
installed_by true place n x w ws followed same = (followed.0, followed.1, followed.2 ∙ append_assoc x.followers (follower place w ∷ []) (map (follower place) (filter (is_of n) ws)))
installed_by false place n x w ws followed same = same

installed_parts : (place n : ℕ) (x : Known) (ws : List Access) → HasMore x (map (follower place) (filter (is_of n) ws)) (installed_at place n x ws)
installed_parts place n x [] = (refl, refl, sym (append-nil x.followers))
installed_parts place n x (w ∷ ws) =
    installed_by (w.nil == n) place n x w ws (installed_parts place n (with_follower (follower place w) x) ws) (installed_parts place n x ws)

read_parts :
    (b : Bool) (place : ℕ) (r : Access) (installs : List Access) (y : Known)
    → let z = cond b (with_reader place r installs y) y in
    (z.writer ≡ y.writer) × (z.readers ≡ y.readers ++ cond b (place ∷ []) []) × (z.followers ≡ y.followers ++ map (follower place) (cond b (filter (is_behind r) installs) []))
read_parts true place r installs y = (refl, refl, refl)
read_parts false place r installs y = (refl, sym (append-nil y.readers), sym (append-nil y.followers))

-- what a transaction adds to a row
pub row_parts :
    (place n nil : ℕ) (x : Known) (rs ws : List Access)
    → ((row_after place n nil x rs ws).writer ≡ (written_at place n x ws).writer)
    × ((row_after place n nil x rs ws).readers ≡ x.readers ++ cond (has_number n rs) (place ∷ []) [])
    × ((row_after place n nil x rs ws).followers
    ≡ (x.followers ++ map (follower place) (filter (is_of n) (lasts ws))) ++ map (follower place) (cond (has_number n rs) (filter (is_behind (access_by nil n)) (lasts ws)) []))
row_parts place n nil x rs ws =
    let w = written_at place n x ws in
    let y = installed_at place n w (lasts ws) in
    let first = written_readers place n x ws in
    let second = installed_parts place n w (lasts ws) in
    let third = read_parts (has_number n rs) place (access_by nil n) (lasts ws) y in (
      third.0 ∙ second.0,
      third.1 ∙ ap (λ (xs : List ℕ). xs ++ cond (has_number n rs) (place ∷ []) []) (second.1 ∙ first.0),
      third.2 ∙ ap (λ (xs : List Follower). xs ++ map (follower place) (cond (has_number n rs) (filter (is_behind (access_by nil n)) (lasts ws)) []))
          (second.2 ∙ ap (λ (xs : List Follower). xs ++ map (follower place) (filter (is_of n) (lasts ws))) first.1),
    )
