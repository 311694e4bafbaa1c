-- What processes saw last, found by links.
use Rattle.std.proofs.Common.{◌≡◌, ◌≢◌, ◌<◌, ◌≤◌, ℕ, zero, suc, ◌+◌, ◌-◌, ◌*◌, ◌%◌, ◌^◌, min, List, [], ◌∷◌, ◌++◌, length, get_or, set, Bool, true, false, cond, ltb, Option, Some, None, refl, sym, ◌∙◌, ap, subst, arith, length-append}
use Rattle.std.specs.Prelude.{◌==◌, ◌&&◌, All}
use Rattle.std.proofs.lemmas.Bool.{eqb-true, eq-eqb, and_parts, ltb-true, ltb-false, lt-ltb, le-ltb}
use Rattle.std.proofs.lemmas.List.{get_or-set_same, get_or-set_other, get_or_append_left, get_or_default, length-set}
use Rattle.std.proofs.lemmas.List.Elements.{All-set}
use Rattle.std.proofs.Math.Seq.{get_or-append_seam}
use Rattle.std.proofs.lemmas.Nat.{and_le_r}
use Rattle.key_versions.specs.declared.last_seen.Seen.{Seen}
use Rattle.key_versions.specs.LastSeen.{Linked, linked_by, mixed, hash_of, nothing, is_of, index_from, place_of, version_at, index_of, last_seen, seen_with, IsFound, AreLinked}

-- as many links as the place are enough
enough :
    (links more place process nil : ℕ) (seen : List Seen) → place ≤ links → place ≤ more
    → index_from links place process nil seen ≡ index_from more place process nil seen
enough zero zero place process nil seen few many = refl
enough zero (suc more) zero process nil seen few many = refl
enough (suc links) zero zero process nil seen few many = refl
enough (suc links) (suc more) zero process nil seen few many = refl
enough zero more (suc index) process nil seen few many = absurd (omega (arith, few))
enough (suc links) zero (suc index) process nil seen few many = absurd (omega (arith, many))
enough (suc links) (suc more) (suc index) process nil seen few many =
    ap (cond (is_of process nil (get_or seen index nothing)) (Some index))
    (enough links more (min (get_or seen index nothing).next index) process nil seen (omega (arith, few)) (omega (arith, many)))

-- one link on
pub next_from :
    (place process nil : ℕ) (seen : List Seen) → 0 < place → is_of process nil (get_or seen (place - 1) nothing) ≡ false
    → index_from (min (get_or seen (place - 1) nothing).next (place - 1)) (min (get_or seen (place - 1) nothing).next (place - 1)) process nil seen
    ≡ index_from place place process nil seen
next_from zero process nil seen some other = absurd (omega (arith, some))
next_from (suc index) process nil seen some other =
    let e : suc index - 1 ≡ index = omega arith in
    by (suc index - 1) e other
  where
    by :
        (i : ℕ) → i ≡ index → is_of process nil (get_or seen i nothing) ≡ false
        → index_from (min (get_or seen i nothing).next i) (min (get_or seen i nothing).next i) process nil seen ≡ index_from (suc index) (suc index) process nil seen
    by i e other =
        let m = min (get_or seen index nothing).next index in
        let low : m ≤ index = omega arith in
        ap (λ j. index_from (min (get_or seen j nothing).next j) (min (get_or seen j nothing).next j) process nil seen) e
        ∙ enough m index m process nil seen (omega arith) low
        ∙ sym (ap (λ b. cond b (Some index) (index_from index m process nil seen)) (ap (λ j. is_of process nil (get_or seen j nothing)) (sym e) ∙ other))

pub none_from : (place process nil : ℕ) (seen : List Seen) → place ≤ 0 → None ≡ index_from place place process nil seen
none_from zero process nil seen none = refl
none_from (suc index) process nil seen none = absurd (omega (arith, none))

-- what is found is of the process and the key
found :
    (links place process nil : ℕ) (seen : List Seen) (i : ℕ) → index_from links place process nil seen ≡ Some i
    → (i < place) × (is_of process nil (get_or seen i nothing) ≡ true)
found zero place process nil seen i is = absurd (cc)
found (suc links) zero process nil seen i is = absurd (cc)
found (suc links) (suc index) process nil seen i is =
    by (is_of process nil (get_or seen index nothing)) refl is (found links (min (get_or seen index nothing).next index) process nil seen i)
  where
    m : ℕ
    m = min (get_or seen index nothing).next index

    by :
        (b : Bool) → is_of process nil (get_or seen index nothing) ≡ b → cond b (Some index) (index_from links m process nil seen) ≡ Some i
        → (index_from links m process nil seen ≡ Some i → (i < m) × (is_of process nil (get_or seen i nothing) ≡ true))
        → (i < suc index) × (is_of process nil (get_or seen i nothing) ≡ true)
    by true e is rest =
        let same : index ≡ i = cc in
        (omega (arith, same), subst (λ j. is_of process nil (get_or seen j nothing) ≡ true) same e)
    by false e is rest =
        let (low, of) = rest is in
        (omega (arith, low), of)

-- ---- once something is noted

-- the process, the key and the link are as they were
pub record IsAsLinked (s t : Seen) : Type 0 where
  pub process : t.process ≡ s.process
  pub nil : t.nil ≡ s.nil
  pub next : t.next ≡ s.next

is_of_same : (s t : Seen) (process nil : ℕ) → IsAsLinked s t → is_of process nil t ≡ is_of process nil s
is_of_same s t process nil same =
    ap (λ n. (n == process) && (t.nil == nil)) same.process ∙ ap (λ n. (s.process == process) && (n == nil)) same.nil

same_index :
    (links place process nil : ℕ) (seen now : List Seen)
    → ((i : ℕ) → i < place → IsAsLinked (get_or seen i nothing) (get_or now i nothing))
    → index_from links place process nil now ≡ index_from links place process nil seen
same_index zero place process nil seen now same = refl
same_index (suc links) zero process nil seen now same = refl
same_index (suc links) (suc index) process nil seen now same =
    let s = get_or seen index nothing in
    let here : IsAsLinked s (get_or now index nothing) = same index (omega arith) in
    let low : (i : ℕ) → i < min s.next index → i < suc index = λ i h. omega (arith, h) in
    ap (λ b. cond b (Some index) (index_from links (min (get_or now index nothing).next index) process nil now)) (is_of_same s (get_or now index nothing) process nil here)
    ∙ ap (λ n. cond (is_of process nil s) (Some index) (index_from links (min n index) process nil now)) here.next
    ∙ ap (cond (is_of process nil s) (Some index)) (same_index links (min s.next index) process nil seen now (λ i h. same i (low i h)))

abbrev pub noted : Seen → ℕ → Seen
noted s version = record { process = s.process; nil = s.nil; version = version; next = s.next }

is_linked : (s : Seen) (version : ℕ) → IsAsLinked s (noted s version)
is_linked s version = record { process = refl; nil = refl; next = refl }

as_it_is : (s : Seen) → IsAsLinked s s
as_it_is s = record { process = refl; nil = refl; next = refl }

-- what is of one process and key is of another one exactly if they are the same
of_same : (process nil one key : ℕ) (s : Seen) → is_of process nil s ≡ true → is_of one key s ≡ ((process == one) && (nil == key))
of_same process nil one key s is =
    let parts = and_parts (s.process == process) (s.nil == nil) is in
    ap (λ n. (n == one) && (s.nil == key)) (eqb-true s.process process parts.0) ∙ ap (λ n. (process == one) && (n == key)) (eqb-true s.nil nil parts.1)

both_same : (process nil : ℕ) → ((process == process) && (nil == nil)) ≡ true
both_same process nil = ap (λ b. b && (nil == nil)) (eq-eqb process process refl) ∙ eq-eqb nil nil refl

-- where the process and the key are the same, so is what is found
found_too :
    (linked : Linked) (process nil one key i : ℕ) → ((process == one) && (nil == key)) ≡ true
    → index_of linked process nil ≡ Some i → index_of linked one key ≡ Some i
found_too linked process nil one key i both is =
    let parts = and_parts (process == one) (nil == key) both in
    ap (λ p. index_of linked p key) (sym (eqb-true process one parts.0))
    ∙ ap (index_of linked process) (sym (eqb-true nil key parts.1))
    ∙ is

hash_within : (process nil n : ℕ) → 0 < n → hash_of process nil n < n
hash_within process nil n some =
    let low : hash_of process nil n ≤ n - 1 = and_le_r (mixed ((nil * 32 % 2 ^ 64 + process) % 2 ^ 64)) (n - 1) in
    omega (arith, low, some)

low_place :
    (seen : List Seen) (newest : List ℕ) (process nil : ℕ) → AreLinked seen newest → place_of (linked_by seen newest) process nil ≤ length seen
low_place seen newest process nil are = are.places (hash_of process nil (length newest)) 0 (hash_within process nil (length newest) are.some)

-- what is found of a process and a key is there, and theirs
pub index_found :
    (seen : List Seen) (newest : List ℕ) (process nil i : ℕ) → AreLinked seen newest → index_of (linked_by seen newest) process nil ≡ Some i
    → (i < length seen) × (is_of process nil (get_or seen i nothing) ≡ true)
index_found seen newest process nil i are is =
    let place = place_of (linked_by seen newest) process nil in
    let here = found place place process nil seen i is in
    let low = low_place seen newest process nil are in
    (omega (arith, here.0, low), here.1)

module _ (seen : List Seen) (newest : List ℕ) (i version : ℕ) (within : i < length seen) (are : AreLinked seen newest) where
  abbrev now : List Seen
  now = set seen i (noted (get_or seen i nothing) version)

  at : get_or now i nothing ≡ noted (get_or seen i nothing) version
  at = get_or-set_same seen i (noted (get_or seen i nothing) version) nothing within

  linked_at : (j : ℕ) → IsAsLinked (get_or seen j nothing) (get_or now j nothing)
  linked_at j = by (j == i) refl
    where
      by : (b : Bool) → (j == i) ≡ b → IsAsLinked (get_or seen j nothing) (get_or now j nothing)
      by true e =
          let same : j ≡ i = eqb-true j i e in
          subst (λ k. IsAsLinked (get_or seen k nothing) (get_or now k nothing)) (sym same)
          (subst (IsAsLinked (get_or seen i nothing)) (sym at) (is_linked (get_or seen i nothing) version))
      by false e =
          let differ : j ≢ i = λ same. (let same_too : (j == i) ≡ true = eq-eqb j i same in absurd (cc)) in
          subst (IsAsLinked (get_or seen j nothing)) (sym (get_or-set_other seen i j (noted (get_or seen i nothing) version) nothing differ)) (as_it_is (get_or seen j nothing))

  index_stays : (one key : ℕ) → index_of (linked_by now newest) one key ≡ index_of (linked_by seen newest) one key
  index_stays one key =
      let place = place_of (linked_by seen newest) one key in
      same_index place place one key seen now (λ j h. linked_at j)

  -- another version is at this index
  pub replaced :
      (process nil one key : ℕ) → index_of (linked_by seen newest) process nil ≡ Some i
      → last_seen (linked_by now newest) one key ≡ seen_with process nil version one key (last_seen (linked_by seen newest) one key)
  replaced process nil one key is =
      ap (version_at now) (index_stays one key)
      ∙ by ((process == one) && (nil == key)) (index_of (linked_by seen newest) one key) refl refl
    where
      by :
          (b : Bool) (r : Option ℕ) → ((process == one) && (nil == key)) ≡ b → index_of (linked_by seen newest) one key ≡ r
          → version_at now r ≡ cond b (Some version) (version_at seen r)
      by true r same e =
          ap (version_at now) (sym e ∙ found_too (linked_by seen newest) process nil one key i same is) ∙ ap (λ (s : Seen). Some s.version) at
      by false None other e = refl
      by false (Some j) other e =
          let of = (index_found seen newest one key j are e).1 in
          let here = (index_found seen newest process nil i are is).1 in
          let differ : j ≢ i = λ same. (
          let also : ((process == one) && (nil == key)) ≡ true =
          sym (of_same process nil one key (get_or seen i nothing) here) ∙ subst (λ k. is_of one key (get_or seen k nothing) ≡ true) same of in
          absurd (cc)
          ) in
          ap (λ (s : Seen). Some s.version) (get_or-set_other seen i j (noted (get_or seen i nothing) version) nothing differ)

  still_found : (j : ℕ) → j < length now → IsFound (linked_by now newest) j
  still_found j h =
      let same = linked_at j in
      let low : j < length seen = subst (λ n. j < n) (length-set seen i (noted (get_or seen i nothing) version)) h in
      ap (λ p. index_of (linked_by now newest) p (get_or now j nothing).nil) same.process
      ∙ ap (index_of (linked_by now newest) (get_or seen j nothing).process) same.nil
      ∙ index_stays (get_or seen j nothing).process (get_or seen j nothing).nil
      ∙ are.found j low

  pub replaced_linked : AreLinked now newest
  replaced_linked = record {
    some = are.some;
    places =
        subst (λ n. All (λ place. place ≤ n) newest) (sym (length-set seen i (noted (get_or seen i nothing) version)))
        are.places;
    found = still_found;
  }

-- ---- once something is added

module _ (seen : List Seen) (new : Seen) where
  abbrev more : List Seen
  more = seen ++ new ∷ []

  older : (j : ℕ) → j < length seen → get_or more j nothing ≡ get_or seen j nothing
  older j low = get_or_append_left seen (new ∷ []) nothing j low

  last : get_or more (length seen) nothing ≡ new
  last = get_or-append_seam seen new [] nothing

  -- from an older place the same is found
  older_index : (first one key : ℕ) → first ≤ length seen → index_from first first one key more ≡ index_from first first one key seen
  older_index first one key low =
      same_index first first one key seen more
      (λ j h. subst (IsAsLinked (get_or seen j nothing)) (sym (older j (omega (arith, h, low)))) (as_it_is (get_or seen j nothing)))

  -- from the newest place, which links to where its link leads
  newest_index :
      (one key : ℕ) → new.next ≤ length seen
      → index_from (length seen + 1) (length seen + 1) one key more
      ≡ cond (is_of one key new) (Some (length seen)) (index_from new.next new.next one key seen)
  newest_index one key low =
      let n = length seen in
      let e : n + 1 ≡ suc n = omega arith in
      let m : min new.next n ≡ new.next = omega (arith, low) in
      let here : new.next ≤ new.next = omega arith in
      ap (λ k. index_from k k one key more) e
      ∙ ap (λ (s : Seen). cond (is_of one key s) (Some n) (index_from n (min s.next n) one key more)) last
      ∙ ap (λ k. cond (is_of one key new) (Some n) (index_from n k one key more)) m
      ∙ ap (cond (is_of one key new) (Some n)) (enough n new.next new.next one key more low here ∙ older_index new.next one key low)

module _ (seen : List Seen) (newest : List ℕ) (process nil version : ℕ) (are : AreLinked seen newest) where
  abbrev linked : Linked
  linked = linked_by seen newest

  abbrev hash : ℕ
  hash = hash_of process nil (length newest)

  abbrev new : Seen
  new = record { process = process; nil = nil; version = version; next = get_or newest hash 0 }

  abbrev changed : List ℕ
  changed = set newest hash (length seen + 1)

  abbrev grown : Linked
  grown = linked_by (more seen new) changed

  abbrev index_now : (one key first : ℕ) → Option ℕ
  index_now one key first = index_from first first one key (more seen new)

  abbrev index_then : (one key first : ℕ) → Option ℕ
  index_then one key first = index_from first first one key seen

  -- the new one is found, and what was found before
  added_index :
      (one key : ℕ) → index_of grown one key ≡ cond ((process == one) && (nil == key)) (Some (length seen)) (index_of linked one key)
  added_index one key =
      ap (λ m. index_now one key (get_or changed (hash_of one key m) 0)) (length-set newest hash (length seen + 1)) ∙ by (other == hash) refl
    where
      other : ℕ
      other = hash_of one key (length newest)

      apart :
          other ≢ hash → (b : Bool) → ((process == one) && (nil == key)) ≡ b
          → index_of linked one key ≡ cond b (Some (length seen)) (index_of linked one key)
      apart differ true both =
          let parts = and_parts (process == one) (nil == key) both in
          absurd (differ (ap (λ p. hash_of p key (length newest)) (sym (eqb-true process one parts.0)) ∙ ap (λ k. hash_of process k (length newest)) (sym (eqb-true nil key parts.1))))
      apart differ false e = refl

      by :
          (b : Bool) → (other == hash) ≡ b
          → index_now one key (get_or changed other 0) ≡ cond ((process == one) && (nil == key)) (Some (length seen)) (index_then one key (get_or newest other 0))
      by true e =
          let here : get_or changed hash 0 ≡ length seen + 1 =
          get_or-set_same newest hash (length seen + 1) 0 (hash_within process nil (length newest) are.some) in
          subst
          (λ h. index_now one key (get_or changed h 0)
          ≡ cond ((process == one) && (nil == key)) (Some (length seen)) (index_then one key (get_or newest h 0)))
          (sym (eqb-true other hash e))
          (ap (index_now one key) here ∙ newest_index seen new one key (low_place seen newest process nil are))
      by false e =
          let differ : other ≢ hash = λ same. (let same_too : (other == hash) ≡ true = eq-eqb other hash same in absurd (cc)) in
          ap (index_now one key) (get_or-set_other newest hash other (length seen + 1) 0 differ)
          ∙ older_index seen new (get_or newest other 0) one key (low_place seen newest one key are)
          ∙ apart differ ((process == one) && (nil == key)) refl

  pub added : (one key : ℕ) → last_seen grown one key ≡ seen_with process nil version one key (last_seen linked one key)
  added one key = ap (version_at (more seen new)) (added_index one key) ∙ by ((process == one) && (nil == key))
    where
      there : (r : Option ℕ) → index_of linked one key ≡ r → version_at (more seen new) r ≡ version_at seen r
      there None e = refl
      there (Some j) e = ap (λ (s : Seen). Some s.version) (older seen new j (index_found seen newest one key j are e).0)

      by :
          (b : Bool) → version_at (more seen new) (cond b (Some (length seen)) (index_of linked one key))
          ≡ cond b (Some version) (last_seen linked one key)
      by true = ap (λ (s : Seen). Some s.version) (last seen new)
      by false = there (index_of linked one key) refl

  -- of the process and the key nothing was found before
  all_found : last_seen linked process nil ≡ None → (j : ℕ) → j < length (more seen new) → IsFound grown j
  all_found first j h = by (j == length seen) refl
    where
      none : (r : Option ℕ) → version_at seen r ≡ None → r ≡ None
      none None e = refl
      none (Some i) e = absurd (cc)

      s : Seen
      s = get_or seen j nothing

      found_before :
          j < length seen → (b : Bool) → ((process == s.process) && (nil == s.nil)) ≡ b
          → cond b (Some (length seen)) (index_of linked s.process s.nil) ≡ Some j
      found_before low true both =
          let parts = and_parts (process == s.process) (nil == s.nil) both in
          let there : index_of linked process nil ≡ Some j =
          ap (λ p. index_of linked p nil) (eqb-true process s.process parts.0) ∙ ap (index_of linked s.process) (eqb-true nil s.nil parts.1) ∙ are.found j low in
          let nowhere = none (index_of linked process nil) first in
          absurd (cc)
      found_before low false both = are.found j low

      by : (b : Bool) → (j == length seen) ≡ b → IsFound grown j
      by true e =
          subst (IsFound grown) (sym (eqb-true j (length seen) e))
          (subst (λ (t : Seen). index_of grown t.process t.nil ≡ Some (length seen)) (sym (last seen new))
          (added_index process nil ∙ ap (λ b. cond b (Some (length seen)) (index_of linked process nil)) (both_same process nil)))
      by false e =
          let count = length-append seen (new ∷ []) in
          let differ : j ≢ length seen = λ same. (let same_too : (j == length seen) ≡ true = eq-eqb j (length seen) same in absurd (cc)) in
          let low : j < length seen = omega (arith, h, count, differ) in
          subst (λ (t : Seen). index_of grown t.process t.nil ≡ Some j) (sym (older seen new j low))
          (added_index s.process s.nil ∙ found_before low ((process == s.process) && (nil == s.nil)) refl)

  pub added_linked : last_seen linked process nil ≡ None → AreLinked (more seen new) changed
  added_linked first =
      let count = length-append seen (new ∷ []) in record {
        some = subst (λ n. 0 < n) (sym (length-set newest hash (length seen + 1))) are.some;
        places =
            All-set (λ place. place ≤ length (more seen new)) newest hash (length seen + 1) (omega (arith, count))
            (λ k d h. (let low = are.places k d h in omega (arith, low, count)));
        found = all_found first;
      }

-- ---- while all is added to another table

-- the version at an index among the first ones
abbrev pub version_among : List Seen → (count : ℕ) → Option ℕ → Option ℕ
version_among seen count None = None
version_among seen count (Some index) = cond (ltb index count) (Some (get_or seen index nothing).version) None

module _ (seen : List Seen) (newest : List ℕ) (are : AreLinked seen newest) where
  abbrev all : Linked
  all = linked_by seen newest

  pub among_next :
      (i one key : ℕ) → i < length seen
      → seen_with (get_or seen i nothing).process (get_or seen i nothing).nil (get_or seen i nothing).version one key (version_among seen i (index_of all one key))
      ≡ version_among seen (i + 1) (index_of all one key)
  among_next i one key low = by ((s.process == one) && (s.nil == key)) (index_of all one key) refl refl
    where
      s : Seen
      s = get_or seen i nothing

      same_test : (j : ℕ) → j ≢ i → (b : Bool) → ltb j i ≡ b → b ≡ ltb j (i + 1)
      same_test j differ true e =
          let below : j < i = ltb-true j i e in
          sym (lt-ltb j (i + 1) (omega (arith, below)))
      same_test j differ false e =
          let above : i ≤ j = ltb-false j i e in
          sym (le-ltb j (i + 1) (omega (arith, above, differ)))

      by :
          (b : Bool) (r : Option ℕ) → ((s.process == one) && (s.nil == key)) ≡ b → index_of all one key ≡ r
          → cond b (Some s.version) (version_among seen i r) ≡ version_among seen (i + 1) r
      by true r both e =
          sym (
          ap (version_among seen (i + 1)) (sym e ∙ found_too all s.process s.nil one key i both (are.found i low))
          ∙ ap (λ b. cond b (Some s.version) None) (lt-ltb i (i + 1) (omega arith))
          )
      by false None other e = refl
      by false (Some j) other e =
          let of = (index_found seen newest one key j are e).1 in
          let differ : j ≢ i = λ same. (
          let also : is_of one key s ≡ true = subst (λ k. is_of one key (get_or seen k nothing) ≡ true) same of in
          absurd (cc)
          ) in
          ap (λ b. cond b (Some (get_or seen j nothing).version) None) (same_test j differ (ltb j i) refl)

  pub among_all : (one key : ℕ) → version_among seen (length seen) (index_of all one key) ≡ last_seen all one key
  among_all one key = by (index_of all one key) refl
    where
      by : (r : Option ℕ) → index_of all one key ≡ r → version_among seen (length seen) r ≡ version_at seen r
      by None e = refl
      by (Some j) e =
          ap (λ b. cond b (Some (get_or seen j nothing).version) None) (lt-ltb j (length seen) (index_found seen newest one key j are e).0)

-- the place that the code reads
pub place_read :
    (seen : List Seen) (newest : List ℕ) (process nil hash n next : ℕ) → AreLinked seen newest → n ≡ length newest
    → hash ≡ hash_of process nil n → next ≡ get_or newest hash next → next ≡ place_of (linked_by seen newest) process nil
place_read seen newest process nil hash n next are count is read =
    let at : hash ≡ hash_of process nil (length newest) = is ∙ ap (hash_of process nil) count in
    read ∙ ap (λ h. get_or newest h next) at
    ∙ get_or_default newest (hash_of process nil (length newest)) next 0 (hash_within process nil (length newest) are.some)

-- what was added is what is seen with it
pub linked_now :
    {seen now : List Seen} {newest : List ℕ} {hash n next place : ℕ} (process nil version : ℕ) (are : AreLinked seen newest) → n ≡ length newest
    → hash ≡ hash_of process nil n → next ≡ get_or newest hash next → place ≡ length seen + 1
    → now ≡ seen ++ record { process = process; nil = nil; version = version; next = next } ∷ []
    → linked_by now (set newest hash place) ≡ grown seen newest process nil version are
linked_now {seen = seen} {newest = newest} {hash = hash} {n = n} {next = next} {place = place} process nil version are count is read here pushed =
    let with : ℕ → List Seen = λ k. seen ++ record { process = process; nil = nil; version = version; next = k } ∷ [] in
    ap (λ xs. linked_by xs (set newest hash place)) pushed
    ∙ ap (λ k. linked_by (with k) (set newest hash place)) (place_read seen newest process nil hash n next are count is read)
    ∙ ap (λ p. linked_by (with (place_of (linked_by seen newest) process nil)) (set newest hash p)) here
    ∙ ap (λ h. linked_by (with (place_of (linked_by seen newest) process nil)) (set newest h (length seen + 1))) (is ∙ ap (hash_of process nil) count)
