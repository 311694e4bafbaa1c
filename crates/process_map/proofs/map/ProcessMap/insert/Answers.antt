use Rattle.std.proofs.Common.{rules, ◌==◌, ◌∙◌, ap, sym, cond, nat_eq, Some}
use Rattle.std.specs.HashMap.{get}
use Rattle.process_map.specs.Values.{value_of}
use Rattle.process_map.proofs.Entries.{value_in, value_in_set}
use Rattle.process_map.proofs.map.ProcessMap.insert.Goals as goal

pub returns-then-place-len-clause-ok : goal.returns-then-place-len-clause-ok
returns-then-place-len-clause-ok g c p =
    let small = c.self.inside.small.items in
    let large = c.self.inside.large in
    let put = value_in_set small c.args.process p (Some c.args.value) (get nat_eq large p) (search rules) (search rules) in
    value_in _ large p ∙ put
    ∙ ap (cond (c.args.process == p) (Some c.args.value)) (sym (value_in small large p) ∙ ap (λ entries. value_of entries p) c.self.view_is)
