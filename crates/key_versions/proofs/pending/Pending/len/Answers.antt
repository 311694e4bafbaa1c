use Rattle.std.proofs.Common.{◌∙◌, length, sym, ap}
use Rattle.key_versions.proofs.Gathered.{length-known}
use Rattle.key_versions.proofs.pending.Pending.len.Goals as goal

pub returns : goal.returns
returns c =
    let ws = c.self.inside.writers.items in
    let rs = c.self.inside.readers.items in
    let fs = c.self.inside.followers.items in
    c.len.ensures ∙ c.self.inside.writers.ok.0 ∙ sym (length-known 0 ws rs fs) ∙ ap length c.self.view_is
