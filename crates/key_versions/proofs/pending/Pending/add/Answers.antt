use Rattle.std.proofs.Common.{◌∙◌, ◌++◌, ◌∷◌, [], List, All, length, ap, subst}
use Rattle.flat_groups.specs.Groups.{IsNumbered}
use Rattle.key_versions.specs.Pending.{known_from}
use Rattle.key_versions.specs.Rows.{Known, unknown}
use Rattle.key_versions.proofs.Gathered.{known_added, from_zero}
use Rattle.key_versions.proofs.pending.Pending.add.Goals as goal

pub returns : goal.returns
returns c =
    let ws = c.self.inside.writers.items in
    let rs = c.self.inside.readers.items in
    let fs = c.self.inside.followers.items in
    ap (λ xs. known_from 0 xs rs fs) c.in_ok-push.ensures.items
    ∙ known_added 0 ws rs fs (subst (λ n. All (IsNumbered n) rs) (from_zero (length ws)) c.self.invariant.0) (subst (λ n. All (IsNumbered n) fs) (from_zero (length ws)) c.self.invariant.1)
    ∙ ap (λ (ks : List Known). ks ++ unknown ∷ []) c.self.view_is
