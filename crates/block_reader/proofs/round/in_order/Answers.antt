use Rattle.std.proofs.lemmas.List.Elements.{All-append}
use Rattle.std.proofs.lemmas.List.Sorted.{All-permutation}
use Rattle.block_reader.specs.Parts.{IsPartOf}
use Rattle.block_reader.proofs.round.in_order.Goals as goal

pub returns : goal.returns
returns c = λ text starts parts others.
    All-permutation (IsPartOf text starts) c.append.new.self.items c.sort_unstable_by_key.new.self.items c.sort_unstable_by_key.ensures.permutation
    (rw c.in_ok-append.ensures.items (All-append (IsPartOf text starts) c.args.parts.items c.args.others.items parts others))
