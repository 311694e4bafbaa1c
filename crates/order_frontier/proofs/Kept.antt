-- What is kept of ok transactions, with one more of them.
use Rattle.std.proofs.Common.{◌≡◌, ◌⊎◌, inl, inr, ℕ, suc, ◌<◌, ◌≤◌, nat_lt, Bool, true, false, not, ◌||◌, ◌==◌, cond, if◌then◌else◌, Option, Some, None, List, [], ◌∷◌, ◌++◌, drop, map, filter, refl, ap, sym, subst, ◌∙◌, arith}
use Rattle.std.specs.List.{AllByRecursion}
use Rattle.std.specs.Bool.{⊤}
use Rattle.std.specs.Option.{option_or}
use Rattle.std.proofs.lemmas.Bool.{ltb-true, ltb-false, le-ltb, eqb-true, eqb-false, or_from}
use Rattle.std.proofs.lemmas.List.Folds.{list_any-append}
use Rattle.hist_types.proofs.Members.{In}
use Rattle.order_frontier.specs.declared.types.Predecessor.{Predecessor}
use Rattle.order_frontier.specs.declared.types.Completed.{Completed}
use Rattle.order_frontier.specs.Completions.{predecessor_of, is_passed, frontier_of, count_passed, frontier_after, last_of, AreKept, AreRising}
use Rattle.order_frontier.proofs.Lists.{none_from}

-- ---- the frontier

-- whether the frontier keeps a predecessor where a transaction completes
abbrev pub stays_at : Completed → Predecessor → Bool
stays_at d p = not (nat_lt p.completion d.invocation)

-- those of the second list that none of the first has passed
abbrev kept_by : List Completed → List Completed → List Predecessor
kept_by done xs = map predecessor_of (filter (λ e. not (is_passed done e)) xs)

kept_step : (d x : Completed) (before later : Bool) (all : Bool) (ys zs : List Completed)
    → nat_lt x.completion d.invocation ≡ later
    → all ≡ (before || (later || false))
    → map predecessor_of ys ≡ filter (stays_at d) (map predecessor_of zs)
    → map predecessor_of (cond (not all) (x ∷ ys) ys) ≡ filter (stays_at d) (map predecessor_of (cond (not before) (x ∷ zs) zs))
kept_step d x true later all ys zs is both rest =
    ap (λ b. map predecessor_of (cond (not b) (x ∷ ys) ys)) both ∙ rest
kept_step d x false true all ys zs is both rest =
    ap (λ b. map predecessor_of (cond (not b) (x ∷ ys) ys)) both ∙ rest
    ∙ ap (λ b. cond (not b) (predecessor_of x ∷ filter (stays_at d) (map predecessor_of zs)) (filter (stays_at d) (map predecessor_of zs))) (sym is)
kept_step d x false false all ys zs is both rest =
    ap (λ b. map predecessor_of (cond (not b) (x ∷ ys) ys)) both ∙ ap (λ ps. predecessor_of x ∷ ps) rest
    ∙ ap (λ b. cond (not b) (predecessor_of x ∷ filter (stays_at d) (map predecessor_of zs)) (filter (stays_at d) (map predecessor_of zs))) (sym is)

kept_more : (done : List Completed) (d : Completed) (xs : List Completed) → kept_by (done ++ d ∷ []) xs ≡ filter (stays_at d) (kept_by done xs)
kept_more done d [] = refl
kept_more done d (x ∷ xs) =
    kept_step d x (is_passed done x) (nat_lt x.completion d.invocation) (is_passed (done ++ d ∷ []) x) (filter (λ e. not (is_passed (done ++ d ∷ []) e)) xs) (filter (λ e. not (is_passed done e)) xs) refl
    (list_any-append (λ (v : Completed). nat_lt x.completion v.invocation) done (d ∷ []))
    (kept_more done d xs)

kept_front : (x : Completed) (b : Bool) (all xs : List Completed) (ps : List Predecessor) → map predecessor_of all ≡ map predecessor_of xs ++ ps
    → map predecessor_of (cond b (x ∷ all) all) ≡ map predecessor_of (cond b (x ∷ xs) xs) ++ ps
kept_front x true all xs ps rest = ap (λ qs. predecessor_of x ∷ qs) rest
kept_front x false all xs ps rest = rest

kept_append : (done xs ys : List Completed) → kept_by done (xs ++ ys) ≡ kept_by done xs ++ kept_by done ys
kept_append done [] ys = refl
kept_append done (x ∷ xs) ys = kept_front x (not (is_passed done x)) (filter (λ e. not (is_passed done e)) (xs ++ ys)) (filter (λ e. not (is_passed done e)) xs) (kept_by done ys) (kept_append done xs ys)

-- no transaction was invoked behind the completion of the last one
last_stays : (done : List Completed) (d : Completed) → ((v : Completed) → In v done → v.invocation ≤ d.completion) → d.invocation ≤ d.completion → is_passed (done ++ d ∷ []) d ≡ false
last_stays done d earlier own =
    list_any-append (λ (v : Completed). nat_lt d.completion v.invocation) done (d ∷ [])
    ∙ or_from (is_passed done d) (nat_lt d.completion d.invocation || false)
    (none_from (λ (v : Completed). nat_lt d.completion v.invocation) done (λ v i later. omega (arith, earlier v i, ltb-true d.completion v.invocation later)))
    (or_from (nat_lt d.completion d.invocation) false (le-ltb d.completion d.invocation own) refl)

pub frontier-more : (done : List Completed) (d : Completed) → ((v : Completed) → In v done → v.invocation ≤ d.completion) → d.invocation ≤ d.completion
    → frontier_of (done ++ d ∷ []) ≡ filter (stays_at d) (frontier_of done) ++ predecessor_of d ∷ []
frontier-more done d earlier own =
    kept_append (done ++ d ∷ []) done (d ∷ [])
    ∙ ap (λ ps. ps ++ kept_by (done ++ d ∷ []) (d ∷ [])) (kept_more done d done)
    ∙ ap (λ b. filter (stays_at d) (frontier_of done) ++ map predecessor_of (cond (not b) (d ∷ []) [])) (last_stays done d earlier own)

-- ---- those that one more passes are the first ones

all_cond : (P : Completed → Type 0) (x : Completed) (passes : Bool) (xs : List Completed) → P x → AllByRecursion P xs → AllByRecursion P (cond passes (x ∷ xs) xs)
all_cond P x true xs one all = (one, all)
all_cond P x false xs one all = all

all_filter : (P : Completed → Type 0) (test : Completed → Bool) (xs : List Completed) → AllByRecursion P xs → AllByRecursion P (filter test xs)
all_filter P test [] all = tt
all_filter P test (x ∷ xs) all = all_cond P x (test x) (filter test xs) all.0 (all_filter P test xs all.1)

rising_cond : (d : Completed) (passes : Bool) (done : List Completed) → AllByRecursion (λ (v : Completed). d.completion ≤ v.completion) done → AreRising done → AreRising (cond passes (d ∷ done) done)
rising_cond d true done up rising = (up, rising)
rising_cond d false done up rising = rising

rising_filter : (test : Completed → Bool) (done : List Completed) → AreRising done → AreRising (filter test done)
rising_filter test [] rising = tt
rising_filter test (d ∷ done) rising =
    rising_cond d (test d) (filter test done) (all_filter (λ (v : Completed). d.completion ≤ v.completion) test done rising.0) (rising_filter test done rising.1)

-- from the first one that stays on, all stay
stays_cond : (d x : Completed) (later : Bool) (kept ps : List Predecessor) → nat_lt x.completion d.invocation ≡ later → d.invocation ≤ x.completion → kept ≡ ps
    → cond (not later) (predecessor_of x ∷ kept) kept ≡ predecessor_of x ∷ ps
stays_cond d x true kept ps is up same = (let below = ltb-true x.completion d.invocation is in absurd (omega (arith, below, up)))
stays_cond d x false kept ps is up same = ap (λ qs. predecessor_of x ∷ qs) same

stay_all : (d : Completed) (xs : List Completed) → AllByRecursion (λ (v : Completed). d.invocation ≤ v.completion) xs → filter (stays_at d) (map predecessor_of xs) ≡ map predecessor_of xs
stay_all d [] up = refl
stay_all d (x ∷ xs) up = stays_cond d x (nat_lt x.completion d.invocation) (filter (stays_at d) (map predecessor_of xs)) (map predecessor_of xs) refl up.0 (stay_all d xs up.1)

up_from : (d x : Completed) (xs : List Completed) → d.invocation ≤ x.completion → AllByRecursion (λ (v : Completed). x.completion ≤ v.completion) xs → AllByRecursion (λ (v : Completed). d.invocation ≤ v.completion) xs
up_from d x [] up all = tt
up_from d x (v ∷ xs) up all = (let next = all.0 in omega (arith, up, next), up_from d x xs up all.1)

drop_cond : (p : Predecessor) (later : Bool) (n : ℕ) (ps kept : List Predecessor) → drop n ps ≡ kept → (later ≡ false → kept ≡ ps)
    → drop (if later then suc n else 0) (p ∷ ps) ≡ cond (not later) (p ∷ kept) kept
drop_cond p true n ps kept same all = same
drop_cond p false n ps kept same all = ap (λ qs. p ∷ qs) (sym (all refl))

drop_passed : (d : Completed) (xs : List Completed) → AreRising xs → drop (count_passed d.invocation (map predecessor_of xs)) (map predecessor_of xs) ≡ filter (stays_at d) (map predecessor_of xs)
drop_passed d [] rising = refl
drop_passed d (x ∷ xs) rising =
    drop_cond (predecessor_of x) (nat_lt x.completion d.invocation) (count_passed d.invocation (map predecessor_of xs)) (map predecessor_of xs) (filter (stays_at d) (map predecessor_of xs)) (drop_passed d xs rising.1)
    (λ first. stay_all d xs (up_from d x xs (ltb-false x.completion d.invocation first) rising.0))

-- ---- the last one of a process

last_step : (own : Bool) (process : ℕ) (last rest : Option Predecessor) (here : Option Predecessor) (p : Predecessor) → last ≡ (if own then Some p else rest)
    → option_or last here ≡ (if own then Some p else option_or rest here)
last_step true process last rest here p is = ap (λ o. option_or o here) is
last_step false process last rest here p is = ap (λ o. option_or o here) is

pub last-more : (process : ℕ) (done : List Completed) (d : Completed) → last_of process (done ++ d ∷ []) ≡ (if d.process == process then Some (predecessor_of d) else last_of process done)
last-more process [] d = refl
last-more process (x ∷ done) d =
    last_step (d.process == process) process (last_of process (done ++ d ∷ [])) (last_of process done) (if x.process == process then Some (predecessor_of x) else None) (predecessor_of d)
    (last-more process done d)

pub record IsLast (process : ℕ) (done : List Completed) (d : Completed) : Type 0 where
  pub member : In d done
  pub own : d.process ≡ process
  pub last : last_of process done ≡ Some (predecessor_of d)
  pub latest : (v : Completed) → In v done → v.process ≡ process → v.completion ≤ d.completion

abbrev pub HasNone : ℕ → List Completed → Type 0
HasNone process done = (last_of process done ≡ None) × ((v : Completed) → In v done → v.process ≡ process → ⊥)

pub all_in : {X : Type 0} (P : X → Type 0) (x : X) (xs : List X) → AllByRecursion P xs → In x xs → P x
all_in P x [] all i = elim i [ ]
all_in P x (y ∷ xs) all (inl e) = subst P e all.0
all_in P x (y ∷ xs) all (inr i) = all_in P x xs all.1 i

last_first : (process : ℕ) (d : Completed) (done : List Completed) (own : Bool) → (d.process == process) ≡ own → HasNone process done
    → HasNone process (d ∷ done) ⊎ ((l : Completed) × IsLast process (d ∷ done) l)
last_first process d done true own none =
    inr (
      d,
      record {
        member = inl refl;
        own = eqb-true d.process process own;
        last =
            ap (λ o. option_or o (if d.process == process then Some (predecessor_of d) else None)) none.0
            ∙ ap (λ b. cond b (Some (predecessor_of d)) None) own;
        latest = λ v i same. elim i [
          | inl e ↦ (let e' : d.completion ≡ v.completion = ap (λ (x : Completed). x.completion) e in omega (arith, e'))
          | inr j ↦ absurd (none.1 v j same)
        ];
      },
    )
last_first process d done false own none =
    inl (
      ap (λ o. option_or o (if d.process == process then Some (predecessor_of d) else None)) none.0 ∙ ap (λ b. cond b (Some (predecessor_of d)) None) own,
      λ v i same. elim i [ inl e ↦ eqb-false d.process process own (ap (λ (x : Completed). x.process) e ∙ same) | inr j ↦ none.1 v j same ],
    )

pub last-is : (process : ℕ) (done : List Completed) → AreRising done → HasNone process done ⊎ ((l : Completed) × IsLast process done l)
last-is process [] rising = inl (refl, λ v i same. elim i [ ])
last-is process (d ∷ done) rising = elim (last-is process done rising.1) [
  | inl none ↦ last_first process d done (d.process == process) refl none
  | inr found ↦
      let l : Completed = found.0 in
      inr (
        l,
        record {
          member = inr found.1.member;
          own = found.1.own;
          last = ap (λ o. option_or o (if d.process == process then Some (predecessor_of d) else None)) found.1.last;
          latest = λ v i same. elim i [
            | inl e ↦ (let up : d.completion ≤ l.completion = all_in (λ (x : Completed). d.completion ≤ x.completion) l done rising.0 found.1.member in
                let e' : d.completion ≡ v.completion = ap (λ (x : Completed). x.completion) e in omega (arith, up, e'))
            | inr j ↦ found.1.latest v j same
          ];
        },
      )
]

-- ---- one more ok transaction

pub kept-none : (last : ℕ → Option Predecessor) → ((process : ℕ) → last process ≡ None) → AreKept [] [] last
kept-none last none = record { frontier = refl; lasts = none }

pub kept-more : (done : List Completed) (d : Completed) (recent recent' : List Predecessor) (last last' : ℕ → Option Predecessor)
    → ((v : Completed) → In v done → v.invocation ≤ d.completion) → d.invocation ≤ d.completion
    → AreRising done
    → AreKept done recent last
    → recent' ≡ frontier_after recent d
    → ((process : ℕ) → last' process ≡ (if d.process == process then Some (predecessor_of d) else last process))
    → AreKept (done ++ d ∷ []) recent' last'
kept-more done d recent recent' last last' earlier own rising kept is lasts = record {
  frontier =
      is ∙ ap (λ ps. frontier_after ps d) kept.frontier
      ∙ ap (λ ps. ps ++ predecessor_of d ∷ []) (drop_passed d (filter (λ e. not (is_passed done e)) done) (rising_filter (λ e. not (is_passed done e)) done rising))
      ∙ sym (frontier-more done d earlier own);
  lasts = λ process.
      lasts process ∙ ap (λ o. if d.process == process then Some (predecessor_of d) else o) (kept.lasts process)
      ∙ sym (last-more process done d);
}

-- ---- completions one after the other

abbrev pub AreStrict : List Completed → Type 0
AreStrict [] = ⊤
AreStrict (d ∷ done) = AllByRecursion (λ (v : Completed). d.completion < v.completion) done × AreStrict done

up_all : (d : Completed) (done : List Completed) → AllByRecursion (λ (v : Completed). d.completion < v.completion) done → AllByRecursion (λ (v : Completed). d.completion ≤ v.completion) done
up_all d [] all = tt
up_all d (v ∷ done) all = (let up = all.0 in omega (arith, up), up_all d done all.1)

pub rising_strict : (done : List Completed) → AreStrict done → AreRising done
rising_strict [] strict = tt
rising_strict (d ∷ done) strict = (up_all d done strict.0, rising_strict done strict.1)
