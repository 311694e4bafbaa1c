-- What is known of each version, as it is told and as it is grouped.
use Rattle.std.proofs.Common.{◌≡◌, inl, inr, ◌<◌, ◌≤◌, ◌+◌, ℕ, zero, suc, List, [], ◌∷◌, ◌++◌, length, map, set, get_or, Bool, true, false, cond, All, Option, Some, refl, sym, ◌∙◌, ap, subst, arith}
use Rattle.std.specs.Prelude.{◌==◌, filter}
use Rattle.std.specs.Option.{option_or}
use Rattle.std.proofs.lemmas.Bool.{cases_Bool, eqb-true}
use Rattle.std.proofs.lemmas.List.{append_assoc, append-nil}
use Rattle.key_versions.specs.declared.pending.Access.{Access}
use Rattle.key_versions.specs.declared.pending.Written.{Written}
use Rattle.key_versions.specs.declared.pending.Written.TheVariants.{Never}
use Rattle.key_versions.specs.declared.types.Writer.{Writer}
use Rattle.key_versions.specs.declared.types.Follower.{Follower}
use Rattle.flat_groups.specs.Groups.{group, groups_from, IsNumbered}
use Rattle.key_versions.specs.Pending.{writer_in, known_from}
use Rattle.key_versions.specs.Rows.{Known, unknown, change, follower, is_behind, with_writer, with_follower, with_place, with_reader}
use Rattle.flat_groups.proofs.Grouped.{group_here, group_elsewhere, none_beyond}

abbrev known_by : Option Writer → List ℕ → List Follower → Known
known_by writer readers followers = record { writer = writer; readers = readers; followers = followers }

abbrev pub with_followers : List Follower → Known → Known
with_followers fs known = known_by known.writer known.readers (known.followers ++ fs)

apart : (a b : ℕ) → a < b → (a == b) ≡ false
apart a b less = elim (cases_Bool (a == b)) [
  | inl is ↦ absurd (let same = eqb-true a b is in omega arith)
  | inr differ ↦ differ
]

beyond : (a b : ℕ) → b < a → (a == b) ≡ false
beyond a b less = elim (cases_Bool (a == b)) [
  | inl is ↦ absurd (let same = eqb-true a b is in omega arith)
  | inr differ ↦ differ
]

pub length-known : (first : ℕ) (ws : List Written) (rs : List (ℕ × ℕ)) (fs : List (ℕ × Follower)) → length (known_from first ws rs fs) ≡ length ws
length-known first [] rs fs = refl
length-known first (w ∷ ws) rs fs = ap suc (length-known (first + 1) ws rs fs)

-- a place among what is known is one of a writer
pub known_place : (ws : List Written) (rs : List (ℕ × ℕ)) (fs : List (ℕ × Follower)) {known : List Known} {n : ℕ} → known_from 0 ws rs fs ≡ known → n < length known → n < length ws
known_place ws rs fs {n = n} is below = subst (λ k. n < k) (ap length (sym is) ∙ length-known 0 ws rs fs) below

pub groups_same : {A : Type 0} {n m : ℕ} {ps qs : List (ℕ × A)} → n ≡ m → ps ≡ qs → groups_from 0 n ps ≡ groups_from 0 m qs
groups_same {m = m} {ps = ps} count same = ap (λ k. groups_from 0 k ps) count ∙ ap (groups_from 0 m) same

-- ---- writers

pub known_written :
    (first n : ℕ) (ws : List Written) (rs : List (ℕ × ℕ)) (fs : List (ℕ × Follower)) (w : Writer) (d y : Written) → n < length ws
    → writer_in y ≡ option_or (writer_in (get_or ws n d)) (Some w)
    → known_from first (set ws n y) rs fs ≡ change (with_writer w) n (known_from first ws rs fs)
known_written first n [] rs fs w d y within is = absurd (omega arith)
known_written first zero (x ∷ ws) rs fs w d y within is =
    ap (λ (o : Option Writer). known_by o (group first rs) (group first fs) ∷ known_from (first + 1) ws rs fs) is
known_written first (suc n) (x ∷ ws) rs fs w d y within is =
    ap (λ (ks : List Known). known_by (writer_in x) (group first rs) (group first fs) ∷ ks) (known_written (first + 1) n ws rs fs w d y (omega arith) is)

-- ---- readers

reader_before : (first n : ℕ) (ws : List Written) (rs : List (ℕ × ℕ)) (fs : List (ℕ × Follower)) (place : ℕ) → n < first → known_from first ws (rs ++ (n, place) ∷ []) fs ≡ known_from first ws rs fs
reader_before first n [] rs fs place less = refl
reader_before first n (w ∷ ws) rs fs place less =
    ap (λ (ps : List ℕ). known_by (writer_in w) ps (group first fs) ∷ known_from (first + 1) ws (rs ++ (n, place) ∷ []) fs) (group_elsewhere n first place rs (apart n first less))
    ∙ ap (λ (ks : List Known). known_by (writer_in w) (group first rs) (group first fs) ∷ ks) (reader_before (first + 1) n ws rs fs place (omega arith))

pub known_read :
    (first n k : ℕ) (ws : List Written) (rs : List (ℕ × ℕ)) (fs : List (ℕ × Follower)) (place : ℕ) → k ≡ first + n
    → known_from first ws (rs ++ (k, place) ∷ []) fs ≡ change (with_place place) n (known_from first ws rs fs)
known_read first n k [] rs fs place at = refl
known_read first zero k (w ∷ ws) rs fs place at =
    let same : k ≡ first = omega arith in
    ap (λ (ps : List ℕ). known_by (writer_in w) ps (group first fs) ∷ known_from (first + 1) ws (rs ++ (k, place) ∷ []) fs)
    (ap (λ m. group first (rs ++ (m, place) ∷ [])) same ∙ group_here first place rs)
    ∙ ap (λ (ks : List Known). known_by (writer_in w) (group first rs ++ place ∷ []) (group first fs) ∷ ks) (reader_before (first + 1) k ws rs fs place (omega arith))
known_read first (suc n) k (w ∷ ws) rs fs place at =
    ap (λ (ps : List ℕ). known_by (writer_in w) ps (group first fs) ∷ known_from (first + 1) ws (rs ++ (k, place) ∷ []) fs) (group_elsewhere k first place rs (beyond k first (omega arith)))
    ∙ ap (λ (ks : List Known). known_by (writer_in w) (group first rs) (group first fs) ∷ ks) (known_read (first + 1) n k ws rs fs place (omega arith))

-- ---- followers

follower_before : (first n : ℕ) (ws : List Written) (rs : List (ℕ × ℕ)) (fs : List (ℕ × Follower)) (f : Follower) → n < first → known_from first ws rs (fs ++ (n, f) ∷ []) ≡ known_from first ws rs fs
follower_before first n [] rs fs f less = refl
follower_before first n (w ∷ ws) rs fs f less =
    ap (λ (qs : List Follower). known_by (writer_in w) (group first rs) qs ∷ known_from (first + 1) ws rs (fs ++ (n, f) ∷ [])) (group_elsewhere n first f fs (apart n first less))
    ∙ ap (λ (ks : List Known). known_by (writer_in w) (group first rs) (group first fs) ∷ ks) (follower_before (first + 1) n ws rs fs f (omega arith))

pub known_followed :
    (first n k : ℕ) (ws : List Written) (rs : List (ℕ × ℕ)) (fs : List (ℕ × Follower)) (f : Follower) → k ≡ first + n
    → known_from first ws rs (fs ++ (k, f) ∷ []) ≡ change (with_follower f) n (known_from first ws rs fs)
known_followed first n k [] rs fs f at = refl
known_followed first zero k (w ∷ ws) rs fs f at =
    let same : k ≡ first = omega arith in
    ap (λ (qs : List Follower). known_by (writer_in w) (group first rs) qs ∷ known_from (first + 1) ws rs (fs ++ (k, f) ∷ []))
    (ap (λ m. group first (fs ++ (m, f) ∷ [])) same ∙ group_here first f fs)
    ∙ ap (λ (ks : List Known). known_by (writer_in w) (group first rs) (group first fs ++ f ∷ []) ∷ ks) (follower_before (first + 1) k ws rs fs f (omega arith))
known_followed first (suc n) k (w ∷ ws) rs fs f at =
    ap (λ (qs : List Follower). known_by (writer_in w) (group first rs) qs ∷ known_from (first + 1) ws rs (fs ++ (k, f) ∷ [])) (group_elsewhere k first f fs (beyond k first (omega arith)))
    ∙ ap (λ (ks : List Known). known_by (writer_in w) (group first rs) (group first fs) ∷ ks) (known_followed (first + 1) n k ws rs fs f (omega arith))

-- ---- one version more

pub known_added :
    (first : ℕ) (ws : List Written) (rs : List (ℕ × ℕ)) (fs : List (ℕ × Follower)) → All (IsNumbered (first + length ws)) rs → All (IsNumbered (first + length ws)) fs
    → known_from first (ws ++ Never ∷ []) rs fs ≡ known_from first ws rs fs ++ unknown ∷ []
known_added first [] rs fs readers followers =
    let all : first + 0 ≤ first = omega arith in
    ap (λ (ps : List ℕ). known_by (writer_in Never) ps (group first fs) ∷ []) (none_beyond (first + 0) first rs all readers)
    ∙ ap (λ (qs : List Follower). known_by (writer_in Never) [] qs ∷ []) (none_beyond (first + 0) first fs all followers)
known_added first (w ∷ ws) rs fs readers followers =
    let count : first + length (w ∷ ws) ≡ first + 1 + length ws = omega arith in
    ap (λ (ks : List Known). known_by (writer_in w) (group first rs) (group first fs) ∷ ks)
    (known_added (first + 1) ws rs fs (subst (λ n. All (IsNumbered n) rs) count readers) (subst (λ n. All (IsNumbered n) fs) count followers))

pub all_wider : {A : Type 0} (m n : ℕ) (ps : List (ℕ × A)) → m ≤ n → All (IsNumbered m) ps → All (IsNumbered n) ps
all_wider m n ps wider all k d below = let here = all k d below in omega arith

pub all_one_more : {A : Type 0} (n : ℕ) (ps : List (ℕ × A)) (p : ℕ × A) → All (IsNumbered n) ps → p.0 < n → All (IsNumbered n) (ps ++ p ∷ [])
all_one_more n [] p all is zero d below = is
all_one_more n [] p all is (suc k) d below = absurd (omega arith)
all_one_more n (q ∷ ps) p all is zero d below = all 0 d (omega arith)
all_one_more {A} n (q ∷ ps) p all is (suc k) d below =
    let behind : k < length (ps ++ p ∷ []) = omega arith in
    all_one_more n ps p (λ j e within. all (suc j) e (omega arith)) is k d behind

-- ---- a read, and what follows it

pub change_twice :
    {A : Type 0} (f g h : A → A) → ((x : A) → f (g x) ≡ h x) → (n : ℕ) (xs : List A) → change f n (change g n xs) ≡ change h n xs
change_twice f g h same n [] = refl
change_twice f g h same zero (x ∷ xs) = ap (λ y. y ∷ xs) (same x)
change_twice f g h same (suc n) (x ∷ xs) = ap (λ ys. x ∷ ys) (change_twice f g h same n xs)

change_none : {A : Type 0} (f : A → A) → ((x : A) → f x ≡ x) → (n : ℕ) (xs : List A) → change f n xs ≡ xs
change_none f same n [] = refl
change_none f same zero (x ∷ xs) = ap (λ y. y ∷ xs) (same x)
change_none f same (suc n) (x ∷ xs) = ap (λ ys. x ∷ ys) (change_none f same n xs)

abbrev pub following : ℕ → Access → List Access → List Follower
following place r installs = map (follower place) (filter (is_behind r) installs)

pub read_first :
    (place : ℕ) (r : Access) (installs : List Access) (n : ℕ) (ks : List Known)
    → change (with_followers (following place r installs)) n (change (with_place place) n ks) ≡ change (with_reader place r installs) n ks
read_first place r installs n ks = change_twice (with_followers (following place r installs)) (with_place place) (with_reader place r installs) (λ k. refl) n ks

pub followed_next :
    (place : ℕ) (r w : Access) (rest : List Access) (n : ℕ) (ks : List Known) → is_behind r w ≡ true
    → change (with_followers (following place r rest)) n (change (with_follower (follower place w)) n ks) ≡ change (with_followers (following place r (w ∷ rest))) n ks
followed_next place r w rest n ks is =
    change_twice (with_followers (following place r rest)) (with_follower (follower place w)) (with_followers (follower place w ∷ following place r rest))
    (λ k. ap (λ (fs : List Follower). known_by k.writer k.readers fs) (append_assoc k.followers (follower place w ∷ []) (following place r rest))) n ks
    ∙ ap (λ (b : Bool). change (with_followers (map (follower place) (cond b (w ∷ filter (is_behind r) rest) (filter (is_behind r) rest)))) n ks) (sym is)

pub followed_not :
    (place : ℕ) (r w : Access) (rest : List Access) (n : ℕ) (ks : List Known) → is_behind r w ≡ false
    → change (with_followers (following place r rest)) n ks ≡ change (with_followers (following place r (w ∷ rest))) n ks
followed_not place r w rest n ks is =
    ap (λ (b : Bool). change (with_followers (map (follower place) (cond b (w ∷ filter (is_behind r) rest) (filter (is_behind r) rest)))) n ks) (sym is)

pub followed_none : (n : ℕ) (ks : List Known) → change (with_followers []) n ks ≡ ks
followed_none n ks = change_none (with_followers []) (λ k. ap (λ (fs : List Follower). known_by k.writer k.readers fs) (append-nil k.followers)) n ks

-- ---- all that is known, by its parts

pub writers_known : (first : ℕ) (ws : List Written) (rs : List (ℕ × ℕ)) (fs : List (ℕ × Follower)) → map writer_in ws ≡ map (λ (k : Known). k.writer) (known_from first ws rs fs)
writers_known first [] rs fs = refl
writers_known first (w ∷ ws) rs fs = ap (λ (os : List (Option Writer)). writer_in w ∷ os) (writers_known (first + 1) ws rs fs)

pub readers_known : (first : ℕ) (ws : List Written) (rs : List (ℕ × ℕ)) (fs : List (ℕ × Follower)) → groups_from first (length ws) rs ≡ map (λ (k : Known). k.readers) (known_from first ws rs fs)
readers_known first [] rs fs = refl
readers_known first (w ∷ ws) rs fs = ap (λ (pss : List (List ℕ)). group first rs ∷ pss) (readers_known (first + 1) ws rs fs)

pub followers_known : (first : ℕ) (ws : List Written) (rs : List (ℕ × ℕ)) (fs : List (ℕ × Follower)) → groups_from first (length ws) fs ≡ map (λ (k : Known). k.followers) (known_from first ws rs fs)
followers_known first [] rs fs = refl
followers_known first (w ∷ ws) rs fs = ap (λ (qss : List (List Follower)). group first fs ∷ qss) (followers_known (first + 1) ws rs fs)

pub from_zero : (n : ℕ) → n ≡ 0 + n
from_zero n = omega arith
