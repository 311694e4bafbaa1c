use Rattle.std.proofs.Common.{inl, inr, [], ◌∷◌, ◌++◌, Contains, refl, sym, subst}
use Rattle.hist_types.proofs.Members.{in_from_Contains, Contains_from_in, in_front, in_back}
use Rattle.serial_points.specs.Users.{IsListed}
use Rattle.serial_points.proofs.steps.StepLists.add.Goals as goal

pub returns : goal.returns
returns c =
    let before = c.args.self.now.fresh.items in
    let fresh = c.push.new.self.items in
    let step = c.args.step in
    let grown = c.in_ok-push.ensures.items in
    let now : Contains fresh step = subst (λ steps. Contains steps step) (sym grown) (Contains_from_in step (before ++ step ∷ []) (in_back step before (step ∷ []) (inl refl))) in
    record {
      stay_earlier = c.in_ok-add.ensures.stay;
      stay_later = c.in_ok-add-2.ensures.stay;
      stay_fresh = λ s had. subst (λ steps. Contains steps s) (sym grown) (Contains_from_in s (before ++ step ∷ []) (in_front s before (step ∷ []) (in_from_Contains s before had)));
      there = c.in_ok-add.ensures.added;
      only = λ s has. elim (c.in_ok-add.ensures.only s.0 s.1 has) [
        | inl there ↦ inl there
        | inr (later, earlier) ↦ inr (
          subst (λ n. Contains fresh (n, s.1)) (sym later) (subst (λ m. Contains fresh (step.0, m)) (sym earlier) now),
          subst (λ m. IsListed c.add-2.new.self m s.0) (sym earlier) (subst (λ n. IsListed c.add-2.new.self step.1 n) (sym later) c.in_ok-add-2.ensures.added),
        )
      ];
    }
