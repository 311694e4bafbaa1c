use Rattle.std.proofs.Common.{rules, length, ◌≤◌, ◌+◌, ◌≡◌, ◌==◌, ◌∙◌, ap, sym, cond, nat_lt, nat_eq, get_or, Some, None}
use Rattle.std.specs.HashMap.{get}
use Rattle.process_map.specs.declared.map.TheConstants.{SMALL}
use Rattle.process_map.specs.Values.{value_of}
use Rattle.process_map.proofs.Entries.{value_in, value_in_set, value_in_resized}
use Rattle.process_map.proofs.map.ProcessMap.grow_and_insert.Goals as goal
use Rattle.process_map.proofs.map.ProcessMap.grow_and_insert.Goals.{then-place-len+in_ok-resize, else-place-len}

pub returns-after-place-len-clause-ok : goal.returns-after-place-len-clause-ok
returns-after-place-len-clause-ok g c p =
    let small = c.self.inside.small.items in
    let large = c.self.inside.large in
    let now = c.if-place-len.self-inside in
    let small' = now.small.items in
    let put = value_in_set small' c.args.process p (Some c.args.value) (get nat_eq now.large p) (search rules) (search rules) in
    let same : (get_or small' p None ≡ get_or small p None) × (get nat_eq now.large p ≡ get nat_eq large p) = elim c.if-place-len.branch [
      | then-place-len+in_ok-resize w ↦ (
        let long : length small ≤ c.args.process + 1 = search rules in
            ap (λ inside. get_or inside.small.items p None) w.self-inside-is ∙ value_in_resized small _ _ _ p long w.in_ok-resize.ensures.items,
        ap (λ inside. get nat_eq inside.large p) w.self-inside-is,
      )
      | else-place-len w ↦ (search rules, search rules)
    ] in
    let is : cond (nat_lt p SMALL) (get_or small' p None) (get nat_eq now.large p) ≡ cond (nat_lt p SMALL) (get_or small p None) (get nat_eq large p) =
    ap (λ o. cond (nat_lt p SMALL) o (get nat_eq now.large p)) same.0 ∙ ap (cond (nat_lt p SMALL) (get_or small p None)) same.1 in
    value_in _ now.large p ∙ put ∙ ap (cond (c.args.process == p) (Some c.args.value)) is
    ∙ ap (cond (c.args.process == p) (Some c.args.value)) (sym (value_in small large p) ∙ ap (λ entries. value_of entries p) c.self.view_is)

pub returns-in_ok-insert-clause-ok : goal.returns-in_ok-insert-clause-ok
returns-in_ok-insert-clause-ok g c p =
    let small = c.self.inside.small.items in
    let large = c.self.inside.large in
    let is : cond (nat_lt p SMALL) (get_or small p None) (get nat_eq c.insert.new.self p)
    ≡ cond (c.args.process == p) (Some c.args.value) (cond (nat_lt p SMALL) (get_or small p None) (get nat_eq large p)) = search rules in
    value_in small c.insert.new.self p ∙ is
    ∙ ap (cond (c.args.process == p) (Some c.args.value)) (sym (value_in small large p) ∙ ap (λ entries. value_of entries p) c.self.view_is)
