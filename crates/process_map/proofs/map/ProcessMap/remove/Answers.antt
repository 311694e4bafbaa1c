use Rattle.std.proofs.Common.{rules, ◌≡◌, ◌==◌, ◌∙◌, ap, sym, cond, nat_lt, nat_eq, get_or, Some, None, ◌<◌}
use Rattle.std.specs.HashMap.{get}
use Rattle.process_map.specs.declared.map.TheConstants.{SMALL}
use Rattle.process_map.specs.Values.{value_of}
use Rattle.process_map.proofs.Entries.{value_in, value_in_set, has_place}
use Rattle.process_map.proofs.map.ProcessMap.remove.Goals as goal
use Rattle.process_map.proofs.map.ProcessMap.remove.Goals.{then-process-lt-SMALL, else-process-lt-SMALL}

pub index_mut-requires : goal.index_mut-requires
index_mut-requires g c =
    let is : c.get.result ≡ Some c.in_ok-value.value = search rules in
    let there = ap (λ entries. value_of entries c.args.process) c.self.view_is ∙ sym c.get.ensures ∙ is in
    let below = has_place c.self.inside.small.items c.self.inside.large c.args.process c.in_ok-value.value (search rules) there in
    search rules

pub returns-clause-others : goal.returns-clause-others
returns-clause-others g c p =
    let small = c.self.inside.small.items in
    let large = c.self.inside.large in
    let before = ap (cond (c.args.process == p) None) (sym (value_in small large p) ∙ ap (λ entries. value_of entries p) c.self.view_is) in
    elim c.if-process-lt-SMALL.branch [
      | then-process-lt-SMALL w ↦ (
          let found : c.get.result ≡ Some c.in_ok-value.value = search rules in
          let there = ap (λ entries. value_of entries c.args.process) c.self.view_is ∙ sym c.get.ensures ∙ found in
          let low : c.args.process < SMALL = search rules in
          let is = value_in_set small c.args.process p None (get nat_eq large p) low (has_place small large c.args.process c.in_ok-value.value low there) in
          ap (λ entries. value_of entries p) w.self-is ∙ value_in _ large p ∙ is ∙ before)
      | else-process-lt-SMALL w ↦ (
          let is : cond (nat_lt p SMALL) (get_or small p None) (get nat_eq w.remove_large.new.large p)
          ≡ cond (c.args.process == p) None (cond (nat_lt p SMALL) (get_or small p None) (get nat_eq large p)) = search rules in
          ap (λ entries. value_of entries p) w.self-is ∙ value_in small w.remove_large.new.large p ∙ is ∙ before)
    ]
