-- Blocks judged one by one.
use Rattle.std.proofs.Common.{◌≡◌, ◌⊎◌, ℕ, List, [], ◌∷◌, ◌++◌, length, Option, Some, None, IfOk, IfErr, sym, ◌∙◌, ap, inl, inr, append_assoc, option_map, subst}
use Rattle.std.specs.Option.{option_or}
use Rattle.std.specs.Prelude.{Result, Ok, Err}
use Rattle.hist_types.specs.Journal.{broken, first_broken, KeepsRules}
use Rattle.hist_types.specs.Operations.{Operation}
use Rattle.hist_types.specs.Refusals.{event_fault, memory_fault}
use Rattle.hist_types.specs.declared.types.Fault.{Fault}
use Rattle.hist_types.specs.declared.types.Refusal.{Refusal}
use Rattle.command_run.proofs.Lists.{append-nil-right, option_or-assoc}
use Rattle.command_run.specs.Answers.{journal_fault}
use Rattle.command_run.specs.Judged.{HasJudged}
use Rattle.command_run.specs.declared.judged.Judged.{Judged}

-- the first rule that a block breaks, or else one of those after it
pub broken-append : (events block rest : List Operation)
    → first_broken events (block ++ rest) ≡ option_or (first_broken events block) (first_broken (events ++ block) rest)
broken-append events [] rest = ap (λ (es : List Operation). first_broken es rest) (sym (append-nil-right events))
broken-append events (o ∷ os) rest =
    let here : Option (Refusal × ℕ) = option_map (λ refusal. (refusal, length events)) (broken events o) in
    ap (option_or here) (broken-append (events ++ o ∷ []) os rest)
    ∙ (sym (option_or-assoc here (first_broken (events ++ o ∷ []) os) (first_broken ((events ++ o ∷ []) ++ os) rest))
    ∙ ap (λ (es : List Operation). option_or (option_or here (first_broken (events ++ o ∷ []) os)) (first_broken es rest)) (append_assoc events (o ∷ []) os))

-- after a block that keeps the rules
pub kept-append : (events block rest : List Operation) → first_broken events block ≡ None → first_broken events (block ++ rest) ≡ first_broken (events ++ block) rest
kept-append events block rest kept = broken-append events block rest ∙ ap (λ o. option_or o (first_broken (events ++ block) rest)) kept

-- the refusal of a block is that of all operations
pub block_refused : (events block rest all : List Operation) (fault : Fault)
    → (fault ≡ memory_fault) ⊎ (option_map event_fault (first_broken events block) ≡ Some fault)
    → first_broken events (block ++ rest) ≡ first_broken [] all → (fault ≡ memory_fault) ⊎ (journal_fault all ≡ Some fault)
block_refused events block rest all fault refused first = by_rule (first_broken events block) refused (sym (broken-append events block rest) ∙ first)
  where
    by_rule : (rule : Option (Refusal × ℕ)) → (fault ≡ memory_fault) ⊎ (option_map event_fault rule ≡ Some fault)
        → option_or rule (first_broken (events ++ block) rest) ≡ first_broken [] all → (fault ≡ memory_fault) ⊎ (journal_fault all ≡ Some fault)
    by_rule rule (inl is) first = inl is
    by_rule None (inr is) first = absurd cc
    by_rule (Some found) (inr is) first = inr (ap (option_map event_fault) (sym first) ∙ is)

-- The events are the first of all operations, and the rest comes after them. They keep the rules.
pub record HasTaken (events rest all : List Operation) : Type 0 where
  pub split : events ++ rest ≡ all
  pub broken : first_broken events rest ≡ first_broken [] all
  pub kept : KeepsRules events

-- one more block, which keeps the rules
pub block_taken : (events block rest all new : List Operation) → HasTaken events (block ++ rest) all → first_broken events block ≡ None → new ≡ events ++ block
    → HasTaken new rest all
block_taken events block rest all new taken kept behind =
    subst (λ (es : List Operation). HasTaken es rest all) (sym behind)
    (record {
      split = append_assoc events block rest ∙ taken.split;
      broken = sym (kept-append events block rest kept) ∙ taken.broken;
      kept = broken-append [] events block ∙ (ap (λ o. option_or o (first_broken events block)) taken.kept ∙ kept);
    })

-- what was judged before, and more after it
pub judged_after : (result : Result Judged Fault) (events before os : List Operation) → events ≡ before
    → IfOk result (λ (judged : Judged). judged.core.events ≡ events ++ os)
    → IfErr result (λ (fault : Fault). (fault ≡ memory_fault) ⊎ (journal_fault (events ++ os) ≡ Some fault))
    → HasJudged result (before ++ os)
judged_after (Ok judged) events before os same ok err = ok ∙ ap (λ (es : List Operation). es ++ os) same
judged_after (Err fault) events before os same ok err =
    subst (λ (es : List Operation). (fault ≡ memory_fault) ⊎ (journal_fault (es ++ os) ≡ Some fault)) same err
