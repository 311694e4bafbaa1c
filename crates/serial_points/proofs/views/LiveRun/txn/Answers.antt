use Rattle.std.proofs.Common.{◌≡◌, ℕ, List, Option, Some, None, length, refl, subst}
use Rattle.std.specs.Prelude.{slice_get, IfSome}
use Rattle.std.specs.Borrow.{Bor}
use Rattle.std.specs.Slice.{IsItemAt}
use Rattle.std.proofs.lemmas.Option.{IfSome_then, slice_get_read}
use Rattle.clean_order.proofs.Accesses.{has_accesses}
use Rattle.serial_points.specs.Views.{LiveRun, HasAccesses}
use Rattle.serial_points.proofs.views.LiveRun.txn.Goals as goal

item_there : {X : Type 0} (xs : List X) (i : ℕ) (r : Option (Bor X)) → IsItemAt xs i r → IfSome r (λ (x : Bor X). slice_get xs i ≡ Some x.now)
item_there xs i None is = tt
item_there xs i (Some x) is = slice_get_read xs (length xs) i x.now refl is.3.0 is.1

pub returns : goal.returns
returns g c =
    let ts = c.self.inside.txns.now in
    let place = c.args.place in
    let there = item_there ts place c.get.result c.get.ensures.lookup in
    record {
      there = subst (λ (run : LiveRun). IfSome c.get.result (λ t. slice_get run.txns place ≡ Some t.now)) c.self.view_is there;
      accesses =
          subst (λ (run : LiveRun). IfSome c.get.result (λ _. HasAccesses run place)) c.self.view_is
          (IfSome_then c.get.result there (λ t at. has_accesses ts c.self.inside.versions.now place t.now c.self.invariant at));
    }
