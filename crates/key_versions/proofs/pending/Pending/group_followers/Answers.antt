use Rattle.std.proofs.Common.{◌∙◌, map, ap}
use Rattle.std.proofs.lemmas.Result.{IfOk-weaker}
use Rattle.key_versions.specs.Rows.{Known}
use Rattle.key_versions.proofs.Gathered.{followers_known, groups_same}
use Rattle.key_versions.proofs.pending.Pending.group_followers.Goals as goal

pub returns : goal.returns
returns c =
    IfOk-weaker c.of.result _ _
    (λ groups made. made ∙ groups_same (c.len.ensures ∙ c.self.inside.writers.ok.0) c.as_slice.ensures.value
    ∙ followers_known 0 c.self.inside.writers.items c.self.inside.readers.items c.self.inside.followers.items ∙ ap (map (λ (k : Known). k.followers)) c.self.view_is)
    c.of.ensures
