use Rattle.std.proofs.Common.{rules, ◌≡◌, ◌∙◌, ap, sym, cond, nat_lt, nat_eq, get_or, None}
use Rattle.std.specs.HashMap.{get}
use Rattle.process_map.specs.declared.map.TheConstants.{SMALL}
use Rattle.process_map.specs.Values.{value_of}
use Rattle.process_map.proofs.Entries.{value_in}
use Rattle.process_map.proofs.map.ProcessMap.get.Goals as goal

pub returns-then-process-lt-SMALL : goal.returns-then-process-lt-SMALL
returns-then-process-lt-SMALL g c =
    let small = c.self.inside.small.items in
    let large = c.self.inside.large in
    let is : c.flatten.result ≡ cond (nat_lt c.args.process SMALL) (get_or small c.args.process None) (get nat_eq large c.args.process) = search rules in
    is ∙ sym (value_in small large c.args.process) ∙ ap (λ entries. value_of entries c.args.process) c.self.view_is

pub returns-else-process-lt-SMALL : goal.returns-else-process-lt-SMALL
returns-else-process-lt-SMALL g c =
    let small = c.self.inside.small.items in
    let large = c.self.inside.large in
    let is : c.value_of_large.result ≡ cond (nat_lt c.args.process SMALL) (get_or small c.args.process None) (get nat_eq large c.args.process) = search rules in
    is ∙ sym (value_in small large c.args.process) ∙ ap (λ entries. value_of entries c.args.process) c.self.view_is
