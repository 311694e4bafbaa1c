-- The events of blocks, as one block comes after the other and one event after the other.
use Rattle.std.proofs.Common.{◌≡◌, ℕ, ◌+◌, ◌<◌, List, [], ◌∷◌, ◌++◌, length, map, take, drop, get_or, Option, Some, None, refl, ap, sym, ◌∙◌, subst, arith, append-nil}
use Rattle.std.specs.Borrow.{Bor}
use Rattle.std.specs.Option.{IfSome}
use Rattle.std.specs.Prelude.{slice_get}
use Rattle.std.proofs.lemmas.Grind.{flat_map-append}
use Rattle.std.proofs.lemmas.Option.{slice_get_read}
use Rattle.std.proofs.lemmas.List.{length-append, map-append, take-append-drop}
use Rattle.hist_types.specs.Journal.{KeepsRules, KeepsRulesAfter}
use Rattle.hist_types.specs.Operations.{Operation}
use Rattle.hist_types.specs.Phenomena.{stray}
use Rattle.hist_types.specs.Transactions.{Transaction, transactions_of}
use Rattle.hist_types.specs.declared.types.KeyOrder.TheVariants.{Basic}
use Rattle.hist_types.specs.declared.limits.TheConstants.{MAX_EVENTS}
use Rattle.history_laws.proofs.Blocks.{kept_by_both}
use Rattle.journal_core.proofs.Counting.{left_at}
use Rattle.journal_core.proofs.Journals.{rules_fit}
use Rattle.journal_core.specs.Blocks.{operations_in}
use Rattle.op_block.specs.Contents.{Contents, operations_of, operation_meant}
use Rattle.txn_pairs.specs.Growth.{TakesEvent, IsChange}
use Rattle.clean_order.specs.CleanReads.{ReadsAreClean}
use Rattle.clean_order.specs.Points.{ArePoints}
use Rattle.serial_points.specs.ByPlace.{AreListed}
use Rattle.serial_points.specs.KeptPoints.{KeptPoints, HasPoints}
use Rattle.serial_points.specs.KeptSteps.{HasSteps}
use Rattle.verdict.specs.Analysed.{AreTablesSoFar, AreBehind, ChangesOne, events_of_blocks}
use Rattle.hist_types.specs.declared.types.KeyOrder.{KeyOrder}
use Rattle.key_versions.specs.Kept.{KeptVersions, AreKept}
use Rattle.key_versions.specs.Tables.{IsTableOf}
use Rattle.order_frontier.specs.Predecessors.{IsThinnedOrder}
use Rattle.order_frontier.specs.Thinnings.{IsThinningOf}
use Rattle.order_frontier.proofs.Thinnings.{thinning_idle}
use Rattle.verdict.specs.Tables.{AreTablesOf}
use Rattle.verdict.specs.declared.analysis.TablesSoFar.{TablesSoFar}
use Rattle.verdict.specs.declared.tables.Tables.{Tables}

-- ---- blocks

events_push : (blocks : List (Bor Contents)) (b : Bor Contents) → events_of_blocks (blocks ++ b ∷ []) ≡ events_of_blocks blocks ++ operations_of b.now
events_push blocks b =
    ap operations_in (map-append (λ (c : Bor Contents). c.now) blocks (b ∷ []))
    ∙ (flat_map-append operations_of (map (λ (c : Bor Contents). c.now) blocks) (b.now ∷ [])
    ∙ ap (λ (es : List Operation). events_of_blocks blocks ++ es) (append-nil (operations_of b.now)))

-- the tables of one block more
pub so_far_of_block :
    {S H : Type 0} (blocks now grown : List (Bor Contents)) (block : Bor Contents) (tables : TablesSoFar S H)
    → now ≡ blocks
    → grown ≡ now ++ block ∷ []
    → AreTablesSoFar (events_of_blocks blocks ++ operations_of block.now) tables
    → AreTablesSoFar (events_of_blocks grown) tables
so_far_of_block blocks now grown block tables same is =
    subst (λ (es : List Operation). AreTablesSoFar es tables)
    (sym (ap events_of_blocks (is ∙ ap (λ (bs : List (Bor Contents)). bs ++ block ∷ []) same) ∙ events_push blocks block))

-- ---- events

-- one more event that keeps the rules
kept_more : (events : List Operation) (o : Operation) → KeepsRules events → KeepsRulesAfter events (o ∷ []) → KeepsRules (events ++ o ∷ [])
kept_more events o kept next = (kept_by_both [] events (o ∷ [])).1 (kept, next)

-- there is an index for it
pub fits_more : (events : List Operation) (o : Operation) → KeepsRules events → KeepsRulesAfter events (o ∷ []) → length events < MAX_EVENTS
fits_more events o kept next =
    let all = rules_fit (events ++ o ∷ []) (kept_more events o kept next) in
    let one = length-append events (o ∷ []) in
    omega (arith, all, one)

-- each of a block's operations that keep the rules keeps them after those before it
pub kept_at :
    (events : List Operation) (block : Contents) (i : ℕ) (o : Operation)
    → KeepsRulesAfter events (operations_of block)
    → i < length block.operations
    → IfSome (slice_get block.operations i) (λ p. o ≡ operation_meant p)
    → KeepsRulesAfter (events ++ take i (operations_of block)) (o ∷ [])
kept_at events block i o kept within is =
    let os = operations_of block in
    let split : KeepsRulesAfter events (take i os ++ drop i os) = subst (KeepsRulesAfter events) (sym (take-append-drop i os)) kept in
    let left : KeepsRulesAfter (events ++ take i os) (drop i os) = ((kept_by_both events (take i os) (drop i os)).0 split).1 in
    let first : KeepsRulesAfter (events ++ take i os) (o ∷ drop (i + 1) os) = subst (KeepsRulesAfter (events ++ take i os)) (left_at block i o within is) left in
    ((kept_by_both (events ++ take i os) (o ∷ []) (drop (i + 1) os)).0 first).0

-- once the event has changed the transaction at the place that was found, the other tables are behind
pub behind :
    {S H : Type 0} (events : List Operation) (o : Operation) (old new : TablesSoFar S H) (place : ℕ) (found : Option ℕ)
    → AreTablesSoFar events old
    → KeepsRulesAfter events (o ∷ [])
    → found ≡ Some place
    → TakesEvent old.events o old.pairing new.pairing
    → IsChange old.events o found old.pairing new.pairing
    → IfSome found (λ p. p < length new.pairing)
    → new.events ≡ old.events + 1
    → new.versions ≡ old.versions
    → new.order ≡ old.order
    → new.points ≡ old.points
    → AreBehind events o place new
behind events o old new place found so_far kept is takes change within count versions order points =
    let one = length-append events (o ∷ []) in
    record {
      number = omega (arith, count, so_far.number, one);
      within = subst (λ (found : Option ℕ). IfSome found (λ p. p < length new.pairing)) is within;
      changes = λ t there. record {
        rules = kept_more events o so_far.rules kept;
        txns = takes events (sym so_far.number) so_far.txns;
        change =
            subst (λ (ts : List Transaction). IsChange (length events) o (Some place) ts new.pairing) so_far.txns
            (subst (λ (i : ℕ). IsChange i o (Some place) old.pairing new.pairing) so_far.number
            (subst (λ (p : Option ℕ). IsChange old.events o p old.pairing new.pairing) is change));
        there = there;
      };
      versions = subst (AreKept (transactions_of events)) (sym versions) (subst (λ (ts : List Transaction). AreKept ts old.versions) so_far.txns so_far.versions);
      order = subst (IsThinningOf events) (sym order) so_far.order;
      points =
          subst (λ (ps : Option KeptPoints). IfSome ps (HasPoints events new.versions)) (sym points)
          (subst (λ (kept : KeptVersions). IfSome old.points (HasPoints events kept)) (sym versions) so_far.points);
    }

-- the event changed what is now at the place
pub changed_at :
    {S H : Type 0} (events : List Operation) (o : Operation) (place : ℕ) (tables : TablesSoFar S H) (now : List Transaction) (t : Transaction)
    → AreBehind events o place tables
    → now ≡ tables.pairing
    → t ≡ get_or now place t
    → ChangesOne events o now place t
changed_at events o place tables now t is same at =
    let within : place < length now = subst (λ (ts : List Transaction). place < length ts) (sym same) is.within in
    let there : slice_get now place ≡ Some t = slice_get_read now (length now) place t refl within at in
    subst (λ (ts : List Transaction). ChangesOne events o ts place t) (sym same) (is.changes t (subst (λ (ts : List Transaction). slice_get ts place ≡ Some t) same there))

-- an event that changes no transaction leaves the points
pub points_idle :
    (events : List Operation) (o : Operation) (kept : KeptVersions) (points : Option KeptPoints)
    → KeepsRules events
    → KeepsRulesAfter events (o ∷ [])
    → transactions_of (events ++ o ∷ []) ≡ transactions_of events
    → IfSome points (HasPoints events kept)
    → IfSome points (HasPoints (events ++ o ∷ []) kept)
points_idle events o kept None rules next same are = tt
points_idle events o kept (Some p) rules next same are =
    record {
      basic = record {
        rules = kept_more events o rules next;
        versions = subst (λ (ts : List Transaction). AreKept ts kept) (sym same) are.basic.versions;
        users = are.basic.users;
        bounds = are.basic.bounds;
        floors = are.basic.floors;
        strays = ap stray same ∙ are.basic.strays;
        clean = subst ReadsAreClean (sym same) are.basic.clean;
        count = are.basic.count ∙ ap length (sym same);
        are_points = subst (λ (ts : List Transaction). (point : ℕ → ℕ) × AreListed ts p.basic.points point × ArePoints Basic ts point) (sym same) are.basic.are_points;
      };
      steps = λ sequential. subst (λ (ts : List Transaction). HasSteps ts kept p.basic.points p.basic.users p.steps) (sym same) (are.steps sequential);
    }

-- where an event changes no transaction, the tables stay
pub so_far_idle :
    {S H : Type 0} (events : List Operation) (o : Operation) (old new : TablesSoFar S H)
    → AreTablesSoFar events old
    → KeepsRulesAfter events (o ∷ [])
    → TakesEvent old.events o old.pairing new.pairing
    → new.pairing ≡ old.pairing
    → new.events ≡ old.events + 1
    → new.versions ≡ old.versions
    → new.order ≡ old.order
    → new.points ≡ old.points
    → AreTablesSoFar (events ++ o ∷ []) new
so_far_idle events o old new so_far kept takes same count versions order points =
    let one = length-append events (o ∷ []) in
    let now = takes events (sym so_far.number) so_far.txns in
    let still : transactions_of (events ++ o ∷ []) ≡ transactions_of events = sym now ∙ same ∙ so_far.txns in
    record {
      rules = kept_more events o so_far.rules kept;
      number = omega (arith, count, so_far.number, one);
      txns = now;
      versions = subst (AreKept new.pairing) (sym versions) (subst (λ (ts : List Transaction). AreKept ts old.versions) (sym same) so_far.versions);
      order = subst (IsThinningOf (events ++ o ∷ [])) (sym order) (thinning_idle events o old.order so_far.order still);
      points =
          subst (λ (ps : Option KeptPoints). IfSome ps (HasPoints (events ++ o ∷ []) new.versions)) (sym points)
          (subst (λ (kept : KeptVersions). IfSome old.points (HasPoints (events ++ o ∷ []) kept)) (sym versions)
          (points_idle events o old.versions old.points so_far.rules kept still so_far.points));
    }

-- ---- a verdict

-- what is kept of the events is what a verdict of them is made from, once the table of the versions
-- is put together
pub tables_of_kept :
    {S H : Type 0} (events : List Operation) (kept : TablesSoFar S H) (tables : Tables)
    → AreTablesSoFar events kept
    → tables.events ≡ kept.events
    → tables.txns.now ≡ kept.pairing
    → IsTableOf kept.versions.keys tables.txns.now tables.versions.now
    → tables.versions.now.keys ≡ kept.versions.keys
    → IfSome tables.thinned (λ order. IsThinnedOrder (transactions_of events) order.now)
    → AreTablesOf events tables
tables_of_kept events kept tables so_far count txns versions keys thinned =
    let same : tables.txns.now ≡ transactions_of events = txns ∙ so_far.txns in
    record {
      rules = so_far.rules;
      count = count ∙ so_far.number;
      txns = same;
      versions = subst (λ (keys : KeyOrder). IsTableOf keys tables.txns.now tables.versions.now) (sym keys) versions;
      thinned = subst (λ (ts : List Transaction). IfSome tables.thinned (λ order. IsThinnedOrder ts order.now)) (sym same) thinned;
    }
