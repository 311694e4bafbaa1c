-- Steps of the loops that add a transaction to the rows.
use Rattle.std.proofs.Common.{◌≡◌, ◌<◌, ◌≤◌, ◌-◌, replicate, ℕ, zero, suc, List, [], ◌∷◌, ◌++◌, length, Bool, true, false, cond, All, refl, sym, ◌∙◌, ap, arith}
use Rattle.std.proofs.lemmas.List.{append_assoc, append-nil, length_push}
use Rattle.key_versions.specs.declared.pending.Access.{Access}
use Rattle.key_versions.specs.Rows.{Known, change, follower, has_nil, lasts, has_number, with_writer, with_follower, with_reader, written_rows, installed_rows, read_rows, unknown, grown, IsWithin}

-- ---- new rows

pub one_grown : (n : ℕ) (rows : List Known) → length rows < n → grown n (rows ++ unknown ∷ []) ≡ grown n rows
one_grown n rows below =
    let count : n - length rows ≡ suc (n - length (rows ++ unknown ∷ [])) = omega (arith, length_push rows unknown) in
    append_assoc rows (unknown ∷ []) (replicate (n - length (rows ++ unknown ∷ [])) unknown) ∙ ap (λ m. rows ++ replicate m unknown) (sym count)

pub all_grown : (n : ℕ) (rows : List Known) → n ≤ length rows → grown n rows ≡ rows
all_grown n rows enough =
    let none : n - length rows ≡ 0 = omega arith in
    ap (λ m. rows ++ replicate m unknown) none ∙ append-nil rows

-- ---- installs

pub one_installed :
    (w : Access) (done rest : List Access) → has_nil w.nil rest ≡ false → (done ++ w ∷ []) ++ lasts rest ≡ done ++ lasts (w ∷ rest)
one_installed w done rest is = append_assoc done (w ∷ []) (lasts rest) ∙ ap (λ b. done ++ cond b (lasts rest) (w ∷ lasts rest)) (sym is)

pub none_installed : (w : Access) (done rest : List Access) → has_nil w.nil rest ≡ true → done ++ lasts rest ≡ done ++ lasts (w ∷ rest)
none_installed w done rest is = ap (λ b. done ++ cond b (lasts rest) (w ∷ lasts rest)) (sym is)

-- ---- reads

pub one_read :
    (place : ℕ) (installs : List Access) (rows : List Known) (before : List Access) (r : Access) (rest : List Access) → has_number r.version before ≡ false
    → read_rows place installs (change (with_reader place r installs) r.version rows) (before ++ r ∷ []) rest
    ≡ read_rows place installs rows before (r ∷ rest)
one_read place installs rows before r rest is =
    ap (λ b. read_rows place installs (cond b rows (change (with_reader place r installs) r.version rows)) (before ++ r ∷ []) rest) (sym is)

pub none_read :
    (place : ℕ) (installs : List Access) (rows : List Known) (before : List Access) (r : Access) (rest : List Access) → has_number r.version before ≡ true
    → read_rows place installs rows (before ++ r ∷ []) rest ≡ read_rows place installs rows before (r ∷ rest)
none_read place installs rows before r rest is =
    ap (λ b. read_rows place installs (cond b rows (change (with_reader place r installs) r.version rows)) (before ++ r ∷ []) rest) (sym is)

-- ---- within the rows

pub length-change : {A : Type 0} (f : A → A) (n : ℕ) (xs : List A) → length (change f n xs) ≡ length xs
length-change f n [] = refl
length-change f zero (x ∷ xs) = refl
length-change f (suc n) (x ∷ xs) = ap suc (length-change f n xs)

pub length-written : (place : ℕ) (rows : List Known) (ws : List Access) → length (written_rows place rows ws) ≡ length rows
length-written place rows [] = refl
length-written place rows (w ∷ ws) =
    let f = with_writer (record { txn = place; over = has_nil w.nil ws }) in
    length-written place (change f w.version rows) ws ∙ length-change f w.version rows

pub length-installed : (place : ℕ) (rows : List Known) (ws : List Access) → length (installed_rows place rows ws) ≡ length rows
length-installed place rows [] = refl
length-installed place rows (w ∷ ws) = length-installed place (change (with_follower (follower place w)) w.nil rows) ws ∙ length-change (with_follower (follower place w)) w.nil rows

pub all_behind : {A : Type 0} (P : A → Type 0) (x : A) (xs : List A) → All P (x ∷ xs) → All P xs
all_behind P x xs h = λ k d below. h (suc k) d (omega arith)

pub all_cons : {A : Type 0} (P : A → Type 0) (x : A) (xs : List A) → P x → All P xs → All P (x ∷ xs)
all_cons P x xs here behind zero d below = here
all_cons P x xs here behind (suc k) d below = behind k d (omega arith)

lasts_by : (n : ℕ) (w : Access) (ws : List Access) (b : Bool) → IsWithin n w → All (IsWithin n) (lasts ws) → All (IsWithin n) (cond b (lasts ws) (w ∷ lasts ws))
lasts_by n w ws true here behind = behind
lasts_by n w ws false here behind = all_cons (IsWithin n) w (lasts ws) here behind

pub lasts_within : (n : ℕ) (ws : List Access) → All (IsWithin n) ws → All (IsWithin n) (lasts ws)
lasts_within n [] h = h
lasts_within n (w ∷ ws) h = lasts_by n w ws (has_nil w.nil ws) (h 0 w (omega arith)) (lasts_within n ws (all_behind (IsWithin n) w ws h))
