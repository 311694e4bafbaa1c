-- Steps of seats at one row, and the worlds that they lead to.
use Rattle.std.proofs.Common.{◌≡◌, inl, inr, ℕ, List, [], ◌∷◌, Ok, refl, ap, subst}
use Rattle.std.specs.Bool.{⊤}
use Rattle.hist_types.specs.Refusals.{without_place}
use Rattle.hist_types.specs.Interleavings.{Answered, World, at_first, Step, look, fill, reply, looked, after_fill, replied, Happens, IsOutcomeOf, IsJudged, by_point, IsRun, IsOneHistory}
use Rattle.hist_types.specs.LegalAnswers.{View, Request, write, snapshot, Answer, accepted, counted, refused, counting_blocks, JournalAnswers}
use Rattle.hist_types.specs.Operations.{Operation}
use Rattle.hist_types.specs.declared.types.Refusal.TheVariants.{Idle, Full}
use Rattle.hist_types.specs.declared.types.KeyOrder.TheVariants.{Basic}
use Rattle.hist_types.proofs.Rows.History.{invoke}
use Rattle.hist_types.proofs.Rows.LegalAnswers.{begin_x, end_x, begin_y, block, view, at_event}

-- the world that steps lead to, where each reply is given
abbrev walk : (cells : ℕ) → World → List Step → World
walk cells w [] = w
walk cells w (look seat ∷ steps) = walk cells (looked seat w) steps
walk cells w (fill seat os ∷ steps) = walk cells (after_fill cells seat os w) steps
walk cells w (reply seat request given ∷ steps) = walk cells (replied seat request given w) steps

-- each reply is the sequential journal's after what its seat has seen
abbrev AreGiven : (cells : ℕ) → World → List Step → Type 0
AreGiven cells w [] = ⊤
AreGiven cells w (look seat ∷ steps) = AreGiven cells (looked seat w) steps
AreGiven cells w (fill seat os ∷ steps) = AreGiven cells (after_fill cells seat os w) steps
AreGiven cells w (reply seat request given ∷ steps) =
    JournalAnswers Basic cells (w.views seat).seen request given × AreGiven cells (replied seat request given w) steps

walked : (cells : ℕ) (w : World) (steps : List Step) → AreGiven cells w steps → IsOutcomeOf Basic cells w steps (walk cells w steps)
walked cells w [] g = refl
walked cells w (look seat ∷ steps) g = (looked seat w, refl, walked cells (looked seat w) steps g)
walked cells w (fill seat os ∷ steps) g = (after_fill cells seat os w, refl, walked cells (after_fill cells seat os w) steps g)
walked cells w (reply seat request given ∷ steps) g =
    (replied seat request given w, inl (g.0, refl), walked cells (replied seat request given w) steps g.1)

abbrev answered : (seat seen : ℕ) → Request → Answer → Answered
answered seat seen request given = record { seat = seat; seen = seen; request = request; answer = given }

-- ---- two seats at a row of two cells

abbrev begin_2 : List Operation
begin_2 = invoke 2 [] ∷ []

-- Both look and find nothing. One fills the first cell; the other finds the block there, and fills the second cell. The first one
-- finds that, and has then no empty cell.
abbrev two_fills : List Step
two_fills =
    look 0
    ∷ look 1
    ∷ fill 0 begin_x
    ∷ fill 1 begin_y
    ∷ fill 1 begin_y
    ∷ fill 0 begin_2
    ∷ fill 0 begin_2
    ∷ reply 0 (write (Ok begin_2)) (refused (without_place Full))
    ∷ []

-- what they lead to
abbrev two_blocks : World
two_blocks = walk 2 at_first two_fills

two_fills-outcome : IsOutcomeOf Basic 2 at_first two_fills two_blocks
two_fills-outcome = walked 2 at_first two_fills (inr (inr (refl, refl, refl)), tt)

-- Both seats have seen the same two blocks, each of which is one seat's own.
two_fills-agreed :
    (two_blocks.row ≡ block 0 0 begin_x ∷ block 1 0 begin_y ∷ [])
    × (two_blocks.views 0 ≡ view two_blocks.row (0 ∷ []))
    × (two_blocks.views 1 ≡ view two_blocks.row (1 ∷ []))
two_fills-agreed = (refl, refl, refl)

-- Each fill was answered by the index of its block, and a fill that only looked not at all.
two_fills-answers :
    two_blocks.answers
    ≡ answered 0 1 (write (Ok begin_x)) (accepted 0)
    ∷ answered 1 2 (write (Ok begin_y)) (accepted 1)
    ∷ answered 0 2 (write (Ok begin_2)) (refused (without_place Full))
    ∷ []
two_fills-answers = refl

-- The answers are a run of one sequential journal.
two_fills-run : IsRun Basic 2 [] (by_point two_blocks.answers) two_blocks.row
two_fills-run = (
  view (block 0 0 begin_x ∷ []) (0 ∷ []),
  (refl, refl, refl),
  (
    view (block 0 0 begin_x ∷ block 1 0 begin_y ∷ []) (1 ∷ []),
    (refl, refl, refl),
    (
      view (block 0 0 begin_x ∷ block 1 0 begin_y ∷ []) (0 ∷ []),
      (inr (inr (refl, refl, refl)), refl),
      refl,
    ),
  ),
)

-- ---- two seats race for one cell

-- Both look and find nothing, and both begin a transaction. Whoever fills the cell first has it; the other one finds the block there,
-- and then no empty cell.
abbrev begins : ℕ → List Operation
begins process = invoke process [] ∷ []

abbrev race : (first second : ℕ) → List Step
race first second =
    look 0
    ∷ look 1
    ∷ fill first (begins first)
    ∷ fill second (begins second)
    ∷ fill second (begins second)
    ∷ reply second (write (Ok (begins second))) (refused (without_place Full))
    ∷ []

abbrev race_won : (first second : ℕ) → World
race_won first second = walk 1 at_first (race first second)

-- It may go either way.
race-outcomes : IsOutcomeOf Basic 1 at_first (race 0 1) (race_won 0 1) × IsOutcomeOf Basic 1 at_first (race 1 0) (race_won 1 0)
race-outcomes = (
  walked 1 at_first (race 0 1) (inr (inr (refl, refl, refl)), tt),
  walked 1 at_first (race 1 0) (inr (inr (refl, refl, refl)), tt),
)

-- The cell has one block, which both have seen, and which is the first one's own.
race-rows :
    (((race_won 0 1).row ≡ block 0 0 (begins 0) ∷ [])
    × ((race_won 0 1).views 0 ≡ view (race_won 0 1).row (0 ∷ []))
    × ((race_won 0 1).views 1 ≡ view (race_won 0 1).row []))
    × (((race_won 1 0).row ≡ block 1 0 (begins 1) ∷ [])
    × ((race_won 1 0).views 0 ≡ view (race_won 1 0).row [])
    × ((race_won 1 0).views 1 ≡ view (race_won 1 0).row (0 ∷ [])))
race-rows = ((refl, refl, refl), (refl, refl, refl))

-- Only the first one's write is accepted.
race-answers :
    ((race_won 0 1).answers
    ≡ answered 0 1 (write (Ok (begins 0))) (accepted 0)
    ∷ answered 1 1 (write (Ok (begins 1))) (refused (without_place Full))
    ∷ [])
    × ((race_won 1 0).answers
    ≡ answered 1 1 (write (Ok (begins 1))) (accepted 0)
    ∷ answered 0 1 (write (Ok (begins 0))) (refused (without_place Full))
    ∷ [])
race-answers = (refl, refl)

-- ---- two seats complete one process

-- One seat begins it. Both complete it; the second one to do so finds the other's block, and its own completion breaks a rule after it.
abbrev two_completions : List Step
two_completions =
    fill 0 begin_x
    ∷ look 1
    ∷ fill 0 end_x
    ∷ fill 1 end_x
    ∷ reply 1 (write (Ok end_x)) (refused (at_event Idle 2))
    ∷ []

abbrev one_completion : World
one_completion = walk 9 at_first two_completions

two_completions-outcome : IsOutcomeOf Basic 9 at_first two_completions one_completion
two_completions-outcome = walked 9 at_first two_completions (inr (inl refl), tt)

-- The process is completed once.
two_completions-once :
    (one_completion.row ≡ block 0 0 begin_x ∷ block 0 1 end_x ∷ [])
    × (one_completion.answers
    ≡ answered 0 1 (write (Ok begin_x)) (accepted 0)
    ∷ answered 0 2 (write (Ok end_x)) (accepted 1)
    ∷ answered 1 2 (write (Ok end_x)) (refused (at_event Idle 2))
    ∷ [])
two_completions-once = (refl, refl)

-- ---- answers in the order of what was seen

-- A seat that hasn't looked takes a snapshot after another has written, then looks, and takes another one.
abbrev late_look : List Step
late_look =
    fill 0 begin_x
    ∷ reply 1 snapshot (counted [])
    ∷ look 1
    ∷ reply 1 snapshot (counted (block 0 0 begin_x ∷ []))
    ∷ []

abbrev looked_late : World
looked_late = walk 9 at_first late_look

late_look-outcome : IsOutcomeOf Basic 9 at_first late_look looked_late
late_look-outcome = walked 9 at_first late_look (refl, (refl, tt))

-- Its first snapshot comes before the write.
late_look-order :
    by_point looked_late.answers
    ≡ answered 1 0 snapshot (counted [])
    ∷ answered 0 1 (write (Ok begin_x)) (accepted 0)
    ∷ answered 1 1 snapshot (counted (block 0 0 begin_x ∷ []))
    ∷ []
late_look-order = refl

-- In this order the answers are a run of one sequential journal.
late_look-run : IsRun Basic 9 [] (by_point looked_late.answers) looked_late.row
late_look-run = (
  view [] [],
  (refl, refl),
  (
    view (block 0 0 begin_x ∷ []) (0 ∷ []),
    (refl, refl, refl),
    (view (block 0 0 begin_x ∷ []) [], (refl, refl), refl),
  ),
)

-- In the order in which they were given they are not.
not-late_look-run : ¬ IsRun Basic 9 [] looked_late.answers looked_late.row
not-late_look-run r =
    let one : r.0.seen ≡ block 0 0 begin_x ∷ [] = ap (λ (v : View). v.seen) r.1.2 in
    let none : [] ≡ counting_blocks r.0.seen = r.2.1.0 in
    let same : [] ≡ counting_blocks (block 0 0 begin_x ∷ []) = subst (λ blocks. [] ≡ counting_blocks blocks) one none in
    absurd (cc same)

-- ---- answers that are not given

-- After what the seat has seen the journal answers otherwise, so nothing changes.
not_given : Happens Basic 9 looked_late (reply 1 snapshot (counted [])) looked_late
not_given = inr ((λ a. absurd (cc a)), refl)

-- A write is not accepted without its block.
not_accepted : Happens Basic 9 at_first (reply 0 (write (Ok begin_x)) (accepted 0)) at_first
not_accepted = inr ((λ a. a), refl)

-- ---- blocks that were not judged

-- A completion that nothing was invoked before fills a cell, though it doesn't count. The row is then no history.
not_judged : ¬ IsJudged 9 at_first (fill 0 end_x)
not_judged j = absurd (cc (j refl))

not_judged-history : ¬ IsOneHistory Basic 9 (walk 9 at_first (fill 0 end_x ∷ []))
not_judged-history h = absurd (cc h.count.0)

-- Where it would only look, it need not be judged.
judged_by_looking : IsJudged 9 one_completion (fill 2 end_x)
judged_by_looking fills = absurd (cc fills)
