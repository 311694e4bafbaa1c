-- What a closed walk comes down to is a witness of what it shows.
use Rattle.std.proofs.Common.{◌≡◌, ℕ, zero, suc, ◌-◌, ◌<◌, ◌≤◌, List, [], ◌∷◌, ◌++◌, length, get_or, slice_index, take, drop, fold, Bool, true, refl, sym, ◌∙◌, ap, subst, arith}
use Rattle.std.specs.List.{AllByRecursion}
use Rattle.std.proofs.lemmas.List.{length-map}
use Rattle.std.proofs.lemmas.List.Sums.{fold-append}
use Rattle.hist_types.specs.Operations.{Operation}
use Rattle.hist_types.specs.Transactions.{Transaction, transactions_of}
use Rattle.hist_types.specs.Edges.{Edge, edges_at}
use Rattle.hist_types.specs.Phenomena.{Leads, Shows, makes}
use Rattle.history_laws.specs.WaysBack.{may_lead_back}
use Rattle.hist_types.specs.Witness.{stations, IsWitness}
use Rattle.hist_types.specs.declared.types.Level.{Level}
use Rattle.hist_types.specs.declared.types.Phenomenon.{Phenomenon}
use Rattle.hist_types.specs.declared.types.KeyOrder.{KeyOrder}
use Rattle.hist_types.proofs.Members.{In, Contains_from_in}
use Rattle.history_laws.proofs.ThinningPaths.{leads_on, all_of_both}
use Rattle.history_laws.proofs.ThinningWalks.{within_in}
use Rattle.history_laws.proofs.ThinningCycles.{closed_is_led, leads_apart, all_apart, rest_leads_back}
use Rattle.history_laws.proofs.ThinningWitnesses.{IsRound, IsSimple, needed_dependency, passes_list, round_of_simple, turned_round, turned_witness}
use Rattle.cycle_show.specs.Paths.{path_to, followed, place_behind, short_round}
use Rattle.cycle_show.proofs.Places.{station_at}
use Rattle.cycle_show.proofs.Shortening.{IsShort, Passes, short_all, short_none, simple_before, closed_by}
use Rattle.cycle_show.proofs.Joining.{edges_joined}
use Rattle.cycle_show.proofs.Needed.{about_needed}

-- ---- the round

both_hold :
    (es : List Edge) (p : Edge → Bool) (walk : List Edge)
    → AllByRecursion (λ e. In e es) walk
    → AllByRecursion (λ e. p e ≡ true) walk
    → AllByRecursion (Passes es p) walk
both_hold es p [] within passes = tt
both_hold es p (e ∷ walk) within passes = ((within.0, passes.0), both_hold es p walk within.1 passes.1)

-- a round walk that is told from behind its first edge
told_behind :
    (phenomenon : Phenomenon) (es rest : List Edge) (e : Edge)
    → IsRound phenomenon es (e ∷ rest)
    → IsRound phenomenon es (rest ++ e ∷ [])
told_behind phenomenon es [] e r = r
told_behind phenomenon es (d ∷ rest) e r = turned_round phenomenon es (e ∷ []) d rest r

pub round_from_walk :
    (keys : KeyOrder) (phenomenon : Phenomenon) (level : Level) (events : List Operation) (walk : List Edge)
    → Shows phenomenon (edges_at keys level (transactions_of events)) walk
    → IsRound phenomenon (edges_at keys level (transactions_of events)) (short_round walk)
round_from_walk keys phenomenon level events walk shows =
    let es : List Edge = edges_at keys level (transactions_of events) in
    let p : Edge → Bool = may_lead_back phenomenon in
    let (front, e, back, split) = about_needed phenomenon walk shows.kinds in
    let (from, round) = closed_is_led walk shows.closed in
    let led = leads_apart from from front e back (subst (λ w. Leads from w from) split.is round) in
    let within = all_apart (λ (d : Edge). In d es) front (e ∷ back) (subst (AllByRecursion (λ (d : Edge). In d es)) split.is (within_in es walk shows.within)) in
    let made : makes phenomenon (front ++ e ∷ back) ≡ true = subst (λ w. makes phenomenon w ≡ true) split.is shows.kinds in
    let leads : Leads e.to (back ++ front) e.from = leads_on e.to from e.from back front led.1 led.0 in
    let passes = both_hold es p (back ++ front) (all_of_both (λ (d : Edge). In d es) back front within.1.1 within.0) (passes_list p (back ++ front) (rest_leads_back phenomenon front e back made split.passes)) in
    let path : List Edge = fold followed [] (back ++ front) in
    let short : IsShort es p e.to e.from path = short_all es p e.to e.to e.from [] (back ++ front) (edges_joined keys phenomenon level events) leads passes (short_none es p e.to) in
    let simple : IsSimple es p e.to e.from (path_to e.from path) = simple_before es p e.to e.from path short in
    let told = told_behind phenomenon es (path_to e.from path) e (round_of_simple phenomenon es e (path_to e.from path) within.1.0 split.passes simple) in
    let closed : followed path e ≡ path_to e.from path ++ e ∷ [] = closed_by path e (needed_dependency phenomenon e split.passes) in
    let whole : short_round walk ≡ followed path e =
    ap (λ w. fold followed (fold followed [] w) (take (place_behind walk) walk)) split.dropped
    ∙ ap (fold followed (fold followed [] back)) split.taken
    ∙ fold-append followed (fold followed [] back) front (e ∷ [])
    ∙ ap (λ es. followed es e) (sym (fold-append followed [] back front)) in
    subst (IsRound phenomenon es) (sym (whole ∙ closed)) told

-- ---- turned to its least transaction

split_at : {X : Type 0} (xs : List X) (k : ℕ) (d : X) → k < length xs → (xs ≡ take k xs ++ get_or xs k d ∷ drop (suc k) xs) × (drop k xs ≡ get_or xs k d ∷ drop (suc k) xs)
split_at [] k d below = absurd (omega (arith, below))
split_at (x ∷ xs) zero d below = (refl, refl)
split_at (x ∷ xs) (suc k) d below =
    let rest = split_at xs k d (omega (arith, below)) in
    (ap (λ ys. x ∷ ys) rest.0, rest.1)

least_of_all :
    (path : List Edge) (least : ℕ) (d : Edge)
    → least < length path
    → ((k : ℕ) → k < length (stations path) → slice_index (stations path) least ≤ slice_index (stations path) k)
    → (c : Edge)
    → In c path
    → (get_or path least d).from ≤ c.from
least_of_all path least d below each c i =
    let at = Contains_from_in c path i in
    let size : length (stations path) ≡ length path = length-map path (λ (e : Edge). e.from) in
    let no_later = each at.0 (let inside = at.1 in omega (arith, inside, size)) in
    let here = station_at path least d below in
    let there : slice_index (stations path) at.0 ≡ c.from = station_at path at.0 c at.1 ∙ ap (λ (e : Edge). e.from) at.2 in
    omega (arith, no_later, here, there)

pub tightened :
    (keys : KeyOrder) (phenomenon : Phenomenon) (level : Level) (events : List Operation) (walk path : List Edge) (least : ℕ)
    → path ≡ short_round walk
    → least ≤ length path - 1
    → ((k : ℕ) → k < length (stations path) → slice_index (stations path) least ≤ slice_index (stations path) k)
    → Shows phenomenon (edges_at keys level (transactions_of events)) walk
    → IsWitness keys phenomenon level (transactions_of events) (drop least path ++ take least path)
tightened keys phenomenon level events walk [] least is within each shows =
    elim (subst (IsRound phenomenon (edges_at keys level (transactions_of events))) (sym is) (round_from_walk keys phenomenon level events walk shows)).closed [ ]
tightened keys phenomenon level events walk (d ∷ rest) least is within each shows =
    let ts : List Transaction = transactions_of events in
    let path : List Edge = d ∷ rest in
    let round : IsRound phenomenon (edges_at keys level ts) path = subst (IsRound phenomenon (edges_at keys level ts)) (sym is) (round_from_walk keys phenomenon level events walk shows) in
    let below : least < length path = omega (arith, within) in
    let (whole, behind) = split_at path least d below in
    let e : Edge = get_or path least d in
    let back : List Edge = drop (suc least) path in
    let witness = turned_witness keys phenomenon level ts (take least path) e back (subst (IsRound phenomenon (edges_at keys level ts)) whole round) (λ c i. least_of_all path least d below each c (subst (In c) (sym whole) i)) in
    subst (λ xs. IsWitness keys phenomenon level ts (xs ++ take least path)) (sym behind) witness
